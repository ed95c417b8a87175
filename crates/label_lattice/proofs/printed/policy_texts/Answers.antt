use Rattle.std.proofs.Common.{◌∙◌, ◌<◌, length, ap, map, arith, ◌∷◌, [], sym}
use Rattle.std.specs.Prelude.{string_bytes}
use Rattle.std.proofs.lemmas.List.{map-append}
use Rattle.label_lattice.specs.Printed.{forbids_some, printed_part, printed_policy}
use Rattle.label_lattice.proofs.PrintedLemmas.{each_with, each_without, made_more, some_name}
use Rattle.label_lattice.proofs.printed.policy_texts.Goals as goal
use Rattle.label_lattice.proofs.printed.policy_texts.Goals.{then-forbids_some+in_ok-policy_text+in_ok-push}
use Rattle.label_lattice.proofs.printed.policy_texts.Goals.{else-forbids_some}

pub loop-place-preserved : goal.loop-place-preserved
loop-place-preserved c =
    let label = c.args.label.now in
    let names = c.args.principals.now.names in
    let place = c.loop-place.place in
    let make = printed_policy c.args.principals.now label in
    let within : place < length names = omega (arith, c.loop-place-test.true, c.count-place-end.ensures.count) in
    let some = some_name names place within in
    elim c.if-forbids_some.branch [
      | then-forbids_some+in_ok-policy_text+in_ok-push w ↦
          let added = each_with (forbids_some label) make names place some.0 some.1
          (sym c.forbids_some.ensures ∙ w.if-forbids_some.true) in
          rw w.texts-is
          (made_more string_bytes _ _ w.in_ok-push.ensures.items c.loop-place.invariant
          (w.in_ok-policy_text.ensures some.0 some.1)
          ∙ sym (ap (map printed_part) added ∙ map-append printed_part _ (make place some.0 ∷ [])))
      | else-forbids_some w ↦
          rw w.texts-is
          (c.loop-place.invariant ∙ ap (map printed_part)
          (sym (each_without (forbids_some label) make names place within
          (sym c.forbids_some.ensures ∙ w.if-forbids_some.false))))
    ]
