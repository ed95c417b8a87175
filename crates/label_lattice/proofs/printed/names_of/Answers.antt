use Rattle.std.proofs.Common.{◌∙◌, ◌==◌, ap, map, arith, sym}
use Rattle.std.specs.Prelude.{string_bytes}
use Rattle.std.specs.Int.{bit_at}
use Rattle.label_lattice.proofs.PrintedLemmas.{bit_test, each_with, each_without, each_all, made_more}
use Rattle.label_lattice.proofs.printed.names_of.Goals as goal
use Rattle.label_lattice.proofs.printed.names_of.Goals.{then-has_bit+in_ok-owned_text+in_ok-push, else-has_bit}

pub loop-place-init : goal.loop-place-init
loop-place-init c = ap (map string_bytes) c.new-names.ensures.items

pub loop-place-preserved : goal.loop-place-preserved
loop-place-preserved c =
    let test = bit_test (bit_at c.args.word c.loop-place.place) c.has_bit.result c.has_bit.ensures in
    elim c.if-has_bit.branch [
      | then-has_bit+in_ok-owned_text+in_ok-push w ↦
          let added = each_with (λ principal. bit_at c.args.word principal == 1) (λ principal name. name)
          c.args.principals.now.names c.loop-place.place w.name.result.now w.name.ensures (test ∙ w.if-has_bit.true) in
          rw w.names-is (made_more string_bytes _ _ w.in_ok-push.ensures.items c.loop-place.invariant
          w.in_ok-owned_text.ensures ∙ sym added)
      | else-has_bit w ↦
          rw w.names-is
          (c.loop-place.invariant ∙ sym (each_without (λ principal. bit_at c.args.word principal == 1)
          (λ principal name. name) c.args.principals.now.names c.loop-place.place
          (omega (arith, c.loop-place-test.true, c.count-place-end.ensures.count))
          (test ∙ w.if-has_bit.false)))
    ]

pub returns : goal.returns
returns c = c.loop-place.invariant ∙ each_all (λ principal. bit_at c.args.word principal == 1) (λ principal name. name)
    c.args.principals.now.names c.loop-place.place
    (omega (arith, c.loop-place-test.false, c.count-place-end.ensures.count))
