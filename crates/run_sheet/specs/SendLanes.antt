-- In which lane the arrow of a message goes down: how many other messages of its sender were in flight when it was
-- sent, where two and more are one lane.
use Rattle.std.specs.Prelude.{ℕ, ◌+◌, ◌-◌, min, List, [], ◌∷◌, replicate, slice_index, slice_set, Option, Some, None}
use Rattle.js_base.specs.declared.ids.HostId.{HostId}
use Rattle.js_base.specs.declared.limits.TheConstants.{HOSTS}
use Rattle.run_chart.specs.declared.sheet.Start.{Start}
use Rattle.run_rows.specs.declared.row.Row.{Row}
use Rattle.run_rows.specs.declared.row.What.{What}
use Rattle.run_rows.specs.declared.row.What.TheVariants as what
use Rattle.run_sheet.specs.RunEvents.{host_moved}

-- for each host how many of its messages are in flight
abbrev pub none_flying : List ℕ
none_flying = replicate HOSTS 0

abbrev pub one_less_flying : List ℕ → HostId → List ℕ
one_less_flying counts host = slice_set counts host.0 (slice_index counts host.0 - 1)

abbrev pub one_more_flying : List ℕ → HostId → List ℕ
one_more_flying counts host = slice_set counts host.0 (slice_index counts host.0 + 1)

-- what is taken is no longer in flight
abbrev pub counts_left : List ℕ → What → List ℕ
counts_left counts (what.Take from to taken) = one_less_flying counts from
counts_left counts other = counts

abbrev pub counts_with : List ℕ → HostId → Option HostId → List ℕ
counts_with counts from None = counts
counts_with counts from (Some to) = one_more_flying counts from

-- what is sent in an event goes down in this lane
abbrev pub lane_in : List ℕ → Row → ℕ
lane_in counts row = min (slice_index (counts_left counts row.what) (host_moved row.what).0) 2

abbrev pub counts_behind : List ℕ → Row → List ℕ
counts_behind counts row = counts_with (counts_left counts row.what) (host_moved row.what) row.posts

-- the lane of what is sent in each event, where so much is in flight before the first
abbrev pub lanes_from : List ℕ → List Row → List ℕ
lanes_from counts [] = []
lanes_from counts (row ∷ rows) = lane_in counts row ∷ lanes_from (counts_behind counts row) rows

abbrev pub send_lanes : List Row → List ℕ
send_lanes rows = lanes_from none_flying rows

-- where the arrow of a message begins that was sent in the event of a number
abbrev pub sent_start : List ℕ → Option ℕ → Start
sent_start lanes None = record { row = 0; lane = 0 }
sent_start lanes (Some number) = record { row = number; lane = slice_index lanes number }
