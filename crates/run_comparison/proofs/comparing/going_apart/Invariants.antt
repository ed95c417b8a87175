use Rattle.std.proofs.Common.{◌≡◌, take}
use Rattle.run_comparison.proofs.AlikeLists.{events_of}
use Rattle.run_comparison.proofs.comparing.going_apart.Given as goal

-- the events so far are the same
abbrev pub invariant-loop-place : goal.invariant-loop-place
invariant-loop-place l = take l.place (events_of l.one) ≡ take l.place (events_of l.other)
