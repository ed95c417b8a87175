use Rattle.std.proofs.Common.{◌≡◌, ◌+◌, ◌*◌, ◌≤◌, ◌++◌, drop, length, map}
use Rattle.run_chart.specs.Columns.{stands_from}
use Rattle.run_chart.specs.Sheets.{chart_host_shape, chart_sheet_shape}
use Rattle.run_chart.proofs.columns.stands_of.Given as goal

-- the heads so far, and those of the hosts that are left, are all of them
abbrev pub invariant-loop-number : goal.invariant-loop-number
invariant-loop-number l =
    record {
      found : l.found.items
          ++ stands_from (chart_sheet_shape l.sheet) l.number l.left
          (map chart_host_shape (drop l.number l.hosts))
          ≡ stands_from (chart_sheet_shape l.sheet) 0 l.from (map chart_host_shape l.hosts);
      small : l.left ≤ 1000 + 432 * l.number;
      few : length l.hosts ≤ 256;
    }
