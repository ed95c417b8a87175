use Rattle.std.proofs.Common.{◌≡◌, ◌≤◌, ◌++◌, drop}
use Rattle.std.specs.Prelude.{All}
use Rattle.run_sheet.specs.SendLanes.{lanes_from, send_lanes}
use Rattle.run_sheet.proofs.lanes.lanes_of.Given as goal

-- the lanes so far, and those of the rows that are left, are all; and no host sent more than there were events
abbrev pub invariant-loop-row : goal.invariant-loop-row
invariant-loop-row l = record {
  lanes : l.lanes.items ++ lanes_from l.counts (drop l.row-index l.rows) ≡ send_lanes l.rows;
  few : All (λ count. count ≤ l.row-index) l.counts;
}
