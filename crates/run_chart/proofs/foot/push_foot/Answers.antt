use Rattle.std.proofs.Common.{ℕ, refl}
use Rattle.run_chart.specs.Foot.{fields_text, foot_text}
use Rattle.run_chart.specs.Columns.{column_at}
use Rattle.run_chart.specs.Sheets.{ChartHostShape, chart_host_shape}
use Rattle.run_chart.proofs.Walks.{shape_written}
use Rattle.run_chart.proofs.foot.push_foot.Goals as goal

pub loop-number-preserved : goal.loop-number-preserved
loop-number-preserved c =
    shape_written chart_host_shape (foot_text c.args.y c.args.columns.now)
    (λ (n : ℕ) (host : ChartHostShape).
    fields_text (column_at c.args.columns.now n).left c.args.y (column_at c.args.columns.now n).width 0 host.fields)
    (λ n y ys. refl) c.args.hosts.now c.loop-number.number _ c.index-hosts-number.result _ _ _ c.loop-number-test.true
    c.index-hosts-number.is c.loop-number.invariant
    (rw (c.column_at-column.ensures, c.deref.ensures.value) at c.in_ok-push_fields.ensures)
