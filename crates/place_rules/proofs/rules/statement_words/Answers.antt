use Rattle.std.proofs.Common.{ℕ, ◌+◌, List, length, take, sym, subst}
use Rattle.std.specs.List.{AllZip, zip}
use Rattle.std.proofs.lemmas.List.{length-append}
use Rattle.std.proofs.lemmas.Slice.Zip.{zip_turn, zip_end}
use Rattle.label_lattice.specs.declared.label.Label.{Label}
use Rattle.place_rules.specs.PlaceRules.{IsWordOf, MayHoldStatement}
use Rattle.place_rules.proofs.Zips.{pairs_more, pairs_all}
use Rattle.place_rules.proofs.rules.statement_words.Goals as goal

pub loop-label-preserved : goal.loop-label-preserved
loop-label-preserved c =
    let turn = zip_turn c.args.used.now c.args.need.now c.loop-label.yielded c.into_iter-label-iterator.result
    c.loop-label.label-iterator c.next.new.self c.next.result (cc) (cc) c.loop-label.yielded_by
    (c.in-Some.label, c.in-Some.trusting) c.in-Some.is c.next.ensures.steps in
    let R : Label × ℕ → ℕ → Type 0 = λ one word. IsWordOf (MayHoldStatement one) c.args.hosts.now word in
    let pairs : List (Label × ℕ) = zip c.args.used.now c.args.need.now in
    let More : List ℕ → Type 0 = λ words. AllZip R (take (length c.loop-label.yielded + 1) pairs) words in
    let next = pairs_more R c.args.used.now c.args.need.now (length c.loop-label.yielded) c.in-Some.label.now
    c.in-Some.trusting.now c.loop-label.words.items c.holders_of_statement.result turn.0 turn.1
    (turn.2 c.in-Some.label.now) (turn.3 c.in-Some.trusting.now) c.loop-label.invariant
    c.holders_of_statement.ensures in
    rw length-append (subst More (sym (c.in_ok-push.ensures).items) next)

pub returns : goal.returns
returns c =
    let R : Label × ℕ → ℕ → Type 0 = λ one word. IsWordOf (MayHoldStatement one) c.args.hosts.now word in
    let count = zip_end c.args.used.now c.args.need.now c.loop-label.yielded c.into_iter-label-iterator.result
    c.loop-label.label-iterator c.next.new.self c.next.result (cc) (cc) c.loop-label.yielded_by c.in-None.is
    c.next.ensures.steps in
    pairs_all R c.args.used.now c.args.need.now (length c.loop-label.yielded) c.loop-label.words.items count
    c.loop-label.invariant
