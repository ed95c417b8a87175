-- Lines from one row to another. A line goes along the row that it begins in, up or down between two columns, and then
-- into the row that it ends in.
use Rattle.std.specs.Prelude.{◌+◌, ◌==◌, nat_lt, Bool, true, false, not, ◌&&◌, if◌then◌else◌}
use Rattle.plan_layout.specs.declared.lines.Hub.{Hub}
use Rattle.plan_layout.specs.declared.lines.Lane.{Lane}
use Rattle.plan_layout.specs.declared.lines.Line.{Line}

-- beside the column that it leads to, on the side that it comes from; within one column to its right
abbrev pub lane_of : Line → Lane
lane_of line =
    if nat_lt line.from.0 line.to.0 then record { strip = line.to.0; rightward = true }
    else record { strip = line.to.0 + 1; rightward = false }

abbrev pub same_truth : Bool → Bool → Bool
same_truth true other = other
same_truth false other = not other

abbrev pub same_lane : Lane → Lane → Bool
same_lane lane other = lane.strip == other.strip && same_truth lane.rightward other.rightward

abbrev pub is_in : Lane → Line → Bool
is_in lane line = same_lane (lane_of line) lane

-- lines of one hub run together
abbrev pub same_hub : Hub → Hub → Bool
same_hub hub other = hub.row == other.row && hub.kind == other.kind
