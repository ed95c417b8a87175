use Rattle.run_chart.specs.Sheets.{chart_host_shape}
use Rattle.run_sheet.specs.ChartColumns.{chart_column}
use Rattle.run_sheet.specs.RunSources.{run_source_shape}
use Rattle.run_sheet.proofs.HostLists.{shape_added}
use Rattle.run_sheet.proofs.columns.chart_columns.Goals as goal

pub loop-number-preserved : goal.loop-number-preserved
loop-number-preserved c =
    shape_added chart_host_shape (chart_column (run_source_shape c.args.source.now) c.args.bad.now)
    c.loop-number.hosts.items c.push.new.self.items c.in_ok-chart_column.field-0 c.loop-number.number
    c.loop-number.invariant c.in_ok-push.ensures.items c.in_ok-chart_column.ensures
