use Rattle.std.proofs.Common.{◌≡◌, ◌≤◌, ◌-◌, take}
use Rattle.text_places.specs.Places.{column_behind, line_behind}
use Rattle.text_places.proofs.places.Place.moved.Given as goal

-- the line and the column are those of the place come to, which is not past the one to come to
abbrev pub invariant-loop-here : goal.invariant-loop-here
invariant-loop-here l =
    (l.here.at ≤ l.to) × (l.here.line ≡ line_behind (take l.here.at l.text))
    × (l.here.column ≡ column_behind (take l.here.at l.text))

abbrev pub decreases-loop-here : goal.decreases-loop-here
decreases-loop-here l = l.to - l.here.at
