use Rattle.std.proofs.Common.{ℕ, ◌+◌, ◌∙◌, List, length, map, take, ap, sym, subst}
use Rattle.std.specs.List.{AllZip, zip}
use Rattle.std.proofs.lemmas.List.{get_or-map, length-map, length-append}
use Rattle.std.proofs.lemmas.Slice.Zip.{zip_turn, zip_end}
use Rattle.label_lattice.specs.declared.label.Label.{Label}
use Rattle.jif_tree.specs.Trees.{FieldTree, field_tree}
use Rattle.place_rules.specs.PlaceRules.{IsWordOf, MayHoldField}
use Rattle.place_rules.proofs.Zips.{pairs_more, pairs_all}
use Rattle.place_rules.proofs.rules.field_words.Goals as goal

pub loop-field-preserved : goal.loop-field-preserved
loop-field-preserved c =
    let turn = zip_turn c.args.fields.now c.args.told.now c.loop-field.yielded c.into_iter-field-iterator.result
    c.loop-field.field-iterator c.next.new.self c.next.result (cc) (cc) c.loop-field.yielded_by
    (c.in-Some.field, c.in-Some.label) c.in-Some.is c.next.ensures.steps in
    let R : FieldTree × Label → ℕ → Type 0 = λ one word. IsWordOf (MayHoldField one) c.args.hosts.now word in
    let pairs : List (FieldTree × Label) = zip (map field_tree c.args.fields.now) c.args.told.now in
    let More : List ℕ → Type 0 = λ words. AllZip R (take (length c.loop-field.yielded + 1) pairs) words in
    let next = pairs_more R (map field_tree c.args.fields.now) c.args.told.now (length c.loop-field.yielded)
    (field_tree c.in-Some.field.now) c.in-Some.label.now c.loop-field.words.items c.holders_of_field.result
    (rw length-map turn.0) turn.1
    (ap field_tree (turn.2 c.in-Some.field.now)
    ∙ sym (get_or-map field_tree c.args.fields.now (length c.loop-field.yielded) c.in-Some.field.now
    (field_tree c.in-Some.field.now) turn.0))
    (turn.3 c.in-Some.label.now) c.loop-field.invariant c.holders_of_field.ensures in
    rw length-append (subst More (sym (c.in_ok-push.ensures).items) next)

pub returns : goal.returns
returns c =
    let R : FieldTree × Label → ℕ → Type 0 = λ one word. IsWordOf (MayHoldField one) c.args.hosts.now word in
    let count = zip_end c.args.fields.now c.args.told.now c.loop-field.yielded c.into_iter-field-iterator.result
    c.loop-field.field-iterator c.next.new.self c.next.result (cc) (cc) c.loop-field.yielded_by c.in-None.is
    c.next.ensures.steps in
    pairs_all R (map field_tree c.args.fields.now) c.args.told.now
    (length c.loop-field.yielded) c.loop-field.words.items
    (rw length-map count) c.loop-field.invariant
