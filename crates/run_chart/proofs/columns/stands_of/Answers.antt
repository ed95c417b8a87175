use Rattle.std.proofs.Common.{arith}
use Rattle.run_chart.specs.Sheets.{chart_sheet_shape}
use Rattle.run_chart.proofs.Stands.{stand_more}
use Rattle.run_chart.proofs.columns.stands_of.Goals as goal

pub loop-number-preserved : goal.loop-number-preserved
loop-number-preserved c = record {
  found =
      stand_more (chart_sheet_shape c.args.sheet.now) c.args.hosts.now c.loop-number.number
      c.loop-number.left _ _ c.index-hosts-number.result c.is_wide-wide.result c.in_ok-stand.stand _
      c.loop-number.found.items _
      c.loop-number-test.true c.index-hosts-number.is c.is_wide-wide.ensures
      (rw c.as_str.ensures.value at c.in_ok-stand.ensures.value)
      c.in_ok-push.ensures.items (omega arith) c.loop-number.invariant.found;
  small = omega (arith, c.in_ok-stand.ensures.within);
  few = c.loop-number.invariant.few;
}
