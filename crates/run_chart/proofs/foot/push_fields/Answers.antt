use Rattle.std.proofs.Common.{ℕ, ◌+◌, ◌*◌, refl}
use Rattle.run_chart.specs.Foot.{field_text, fields_text}
use Rattle.run_chart.specs.Sheets.{ChartFieldShape, chart_field_shape}
use Rattle.run_chart.proofs.Walks.{shape_written}
use Rattle.run_chart.proofs.foot.push_fields.Goals as goal

pub loop-number-preserved : goal.loop-number-preserved
loop-number-preserved c = record {
  text =
      shape_written chart_field_shape (fields_text c.args.x c.args.y c.args.width)
      (λ (n : ℕ) (field : ChartFieldShape). field_text c.args.x (c.args.y + 36 * n) c.args.width field)
      (λ n y ys. refl) c.args.fields.now c.loop-number.number _ c.index-fields-number.result _ _ _
      c.loop-number-test.true
      c.index-fields-number.is c.loop-number.invariant.text c.in_ok-push_field.ensures;
  few = c.loop-number.invariant.few;
}
