use Rattle.std.proofs.Common.{ℕ, ◌+◌, ◌∙◌, take, sym, subst}
use Rattle.std.proofs.lemmas.Bool.{false≢true}
use Rattle.label_lattice.specs.declared.label.Label.{Label}
use Rattle.label_lattice.specs.Label.{ConfFlows, IsTrustedBy}
use Rattle.host_decl.specs.Hosts.{HostShape}
use Rattle.place_rules.specs.PlaceRules.{IsWordOf, MayHoldStatement}
use Rattle.place_rules.proofs.Words.{word_none, holders_more, holders_kept, holders_all}
use Rattle.place_rules.proofs.holders.holders_of_statement.Goals as goal
use Rattle.place_rules.proofs.holders.holders_of_statement.Goals.{then-may_hold_statement, else-may_hold_statement}

pub loop-place-init : goal.loop-place-init
loop-place-init c = word_none (λ host. MayHoldStatement (c.args.used.now, c.args.need) host)

pub loop-place-preserved : goal.loop-place-preserved
loop-place-preserved c =
    let may : HostShape → Type 0 = (λ host. MayHoldStatement (c.args.used.now, c.args.need) host) in
    let Holds : Label → Type 0 = λ label. ConfFlows c.args.used.now label × IsTrustedBy label c.args.need in
    let Stands : ℕ → Type 0 = λ word. IsWordOf may (take (c.loop-place.place + 1) c.args.hosts.now) word in
    let host : HostShape = c.index-hosts-place.result in
    elim c.if-may_hold_statement.branch [
      | then-may_hold_statement w ↦ subst Stands (sym w.word-is)
          (holders_more may c.args.hosts.now c.loop-place.place host c.loop-place.word w.with_host-word.result
          c.loop-place-test.true c.index-hosts-place.is c.loop-place.invariant w.with_host-word.type_inv
          w.with_host-word.ensures.set w.with_host-word.ensures.others
          (subst Holds c.label.ensures (c.may_hold_statement.ensures.0 w.if-may_hold_statement.true)))
      | else-may_hold_statement w ↦ subst Stands (sym w.word-is)
          (holders_kept may c.args.hosts.now c.loop-place.place host c.loop-place.word c.loop-place-test.true
          c.index-hosts-place.is c.loop-place.invariant
          (λ holds. false≢true (sym w.if-may_hold_statement.false
          ∙ c.may_hold_statement.ensures.1 (subst Holds (sym c.label.ensures) holds))))
    ]

pub returns : goal.returns
returns c =
    holders_all (λ host. MayHoldStatement (c.args.used.now, c.args.need) host) c.args.hosts.now c.loop-place.place
    c.loop-place.word
    c.loop-place-test.false c.loop-place.invariant
