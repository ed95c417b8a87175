use Rattle.std.proofs.Common.{ℕ, ◌+◌, List, take, get_or, sym, subst, arith}
use Rattle.std.specs.List.{AllZip}
use Rattle.std.proofs.lemmas.List.{get_or_default}
use Rattle.js_base.specs.declared.ids.HostId.{HostId}
use Rattle.placement.specs.Starting.{StartsOn}
use Rattle.placement.proofs.Starts.{starts_more, starts_all}
use Rattle.placement.proofs.starting_plan.starting_hosts.Goals as goal

pub loop-word-preserved : goal.loop-word-preserved
loop-word-preserved c =
    let words : List ℕ = c.args.words.now in
    let Q : List HostId → Type 0 =
    λ hosts. AllZip (StartsOn c.args.preferred.0) (take (c.loop-word.word-index + 1) words) hosts in
    subst Q (sym {A = List HostId} (c.in_ok-push.ensures).items)
    (starts_more c.args.preferred.0 words c.loop-word.word-index (get_or words c.loop-word.word-index 0)
    c.loop-word.hosts.items c.starting_host.result (omega arith)
    (get_or_default words c.loop-word.word-index 0 (get_or words c.loop-word.word-index 0) (omega arith))
    c.loop-word.invariant c.starting_host.ensures)

pub returns : goal.returns
returns c =
    starts_all c.args.preferred.0 c.args.words.now c.loop-word.word-index c.loop-word.hosts.items (omega arith)
    c.loop-word.invariant
