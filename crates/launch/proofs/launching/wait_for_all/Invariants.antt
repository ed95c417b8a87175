use Rattle.std.proofs.Common.{◌≡◌, ◌≤◌, ℕ, List, length, drop, take}
use Rattle.std.specs.List.{sum_by}
use Rattle.std.specs.Vec.{vec_capacity}
use Rattle.launch.specs.Launching.{AreLive, children}
use Rattle.launch.specs.Starts.{RoseBy, failed_start, spawner_state}
use Rattle.launch.proofs.Starting.{EndedSoFar}
use Rattle.launch.proofs.launching.wait_for_all.Given as goal

-- the children of the answers so far were waited for, and there is room for the ends of the others
abbrev pub invariant-loop-answer : goal.invariant-loop-answer
invariant-loop-answer g l =
    (length l.ends.items ≡ l.answer-index) × (length l.answers ≤ vec_capacity l.ends)
    × ((others : List ℕ) → AreLive others (g.P.Spawner.live l.fn.spawner) (children l.answers) →
    AreLive others (g.P.Spawner.live l.spawner) (children (drop l.answer-index l.answers)))
    × ((before : ℕ) → RoseBy (sum_by failed_start l.answers) before (g.P.Spawner.faults l.fn.spawner) →
    EndedSoFar (take l.answer-index l.answers) (drop l.answer-index l.answers) l.ends.items before
    (spawner_state g.P.Spawner l.fn.spawner) (spawner_state g.P.Spawner l.spawner))
