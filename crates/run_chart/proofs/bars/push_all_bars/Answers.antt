use Rattle.std.proofs.Common.{ℕ, ◌∙◌, ap, List, length, map, refl}
use Rattle.run_chart.specs.Bars.{all_bars, host_bars, moments_at, moments_from, moments_of}
use Rattle.run_chart.specs.Columns.{column_at}
use Rattle.run_chart.specs.Sheets.{ChartHostShape, chart_host_shape, chart_row_shape}
use Rattle.run_chart.specs.declared.bars.ChartMoment.{ChartMoment}
use Rattle.run_chart.proofs.Moments.{sorted_at}
use Rattle.run_chart.proofs.Walks.{shape_written}
use Rattle.run_chart.proofs.bars.push_all_bars.Goals as goal

pub loop-number-preserved : goal.loop-number-preserved
loop-number-preserved c =
    let columns = c.args.columns.now in
    let moments = moments_from c.args.places.now 0 (map chart_row_shape c.args.rows.now) in
    let n = c.loop-number.number in
    let own = c.moments_at-moments.ensures
    ∙ ap (λ (all : List (List ChartMoment)). moments_at all n) (c.deref.ensures.value ∙ c.in_ok-found.ensures)
    ∙ sorted_at (length c.args.hosts.now) moments n c.loop-number-test.true in
    shape_written chart_host_shape (all_bars c.args.from c.args.end columns moments)
    (λ (n : ℕ) (host : ChartHostShape).
    host_bars c.args.from c.args.end (column_at columns n).middle (moments_of n moments) host.misbehaves host.runs)
    (λ n y ys. refl) c.args.hosts.now n _ c.index-hosts-number.result _ _ _ c.loop-number-test.true
    c.index-hosts-number.is
    c.loop-number.invariant
    (rw (c.column_at-x.ensures, own) at c.in_ok-push_host_bars.ensures)
