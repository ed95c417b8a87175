use Rattle.std.proofs.Common.{◌≡◌, ◌≤◌, length, map, take}
use Rattle.std.specs.Prelude.{string_bytes}
use Rattle.std.specs.Vec.{vec_capacity}
use Rattle.launch.specs.Launching.{AllStarted}
use Rattle.launch.specs.Starts.{spawner_state}
use Rattle.launch.proofs.launching.start_all.Given as goal

-- the lists so far were started, and there is room for the answers to the others
abbrev pub invariant-loop-one : goal.invariant-loop-one
invariant-loop-one g l =
    (length l.answers.items ≡ l.one-index) × (length l.words ≤ vec_capacity l.answers)
    × AllStarted l.program (map (λ one. map string_bytes one.items) (take l.one-index l.words)) l.answers.items
    (spawner_state g.P.Spawner l.fn.spawner) (spawner_state g.P.Spawner l.spawner)
