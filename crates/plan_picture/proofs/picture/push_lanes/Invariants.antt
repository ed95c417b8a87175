use Rattle.std.proofs.Common.{◌≡◌, ◌++◌}
use Rattle.std.specs.String.{string_bytes}
use Rattle.plan_picture.specs.Picture.{lanes_text}
use Rattle.plan_picture.proofs.picture.push_lanes.Given as goal

-- the bands of the hosts so far were written
abbrev pub invariant-loop-number : goal.invariant-loop-number
invariant-loop-number l =
    string_bytes l.text ≡ string_bytes l.initial.text ++ lanes_text l.columns l.top l.bottom l.number
