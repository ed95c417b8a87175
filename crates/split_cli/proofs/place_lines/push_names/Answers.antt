use Rattle.std.proofs.Common.{◌∙◌, ap, sym}
use Rattle.std.proofs.lemmas.Bool.{false≢true}
use Rattle.std.specs.String.{string_bytes}
use Rattle.split_cli.proofs.PlanLines.{names_with, names_without}
use Rattle.split_cli.proofs.ReportLines.{from_ok}
use Rattle.split_cli.proofs.place_lines.push_names.Goals as goal
use Rattle.split_cli.proofs.place_lines.push_names.Goals.{then-has_bit+in_ok-map_err, else-has_bit}

pub loop-number-preserved : goal.loop-number-preserved
loop-number-preserved c =
    elim c.if-has_bit.branch [
      | then-has_bit+in_ok-map_err w ↦
          ap (λ text. string_bytes text) w.text-is
          ∙ names_with c.args.word c.args.hosts.now c.loop-number.number c.index-hosts-number.result
          (string_bytes c.args.text.now) (string_bytes c.loop-number.text) _ c.loop-number-test.true
          c.index-hosts-number.is (c.has_bit.ensures.0 w.if-has_bit.true) c.loop-number.invariant
          (rw w.name-name.ensures at (from_ok w.write.result w.in_ok-map_err.ensures.variant w.write.ensures.bytes))
      | else-has_bit w ↦
          ap (λ text. string_bytes text) w.text-is
          ∙ names_without c.args.word c.args.hosts.now c.loop-number.number c.index-hosts-number.result
          (string_bytes c.args.text.now) (string_bytes c.loop-number.text) c.loop-number-test.true
          c.index-hosts-number.is (λ set. false≢true (sym w.if-has_bit.false ∙ c.has_bit.ensures.1 set))
          c.loop-number.invariant
    ]
