use Rattle.std.proofs.Common.{◌≡◌, ℕ, suc, ◌≤◌, drop, length, get_or}
use Rattle.msg_cost.specs.Views.{ids_of}
use Rattle.control_split.specs.declared.needs.Ahead.{Ahead}
use Rattle.control_split.specs.Ahead.{ahead_of}
use Rattle.control_split.specs.Views.{planned_in}
use Rattle.control_split.proofs.needs.block_needs.Given as goal

-- what is ahead is known from the next place on
abbrev pub invariant-loop-next : goal.invariant-loop-next
invariant-loop-next l =
    (l.next ≤ length l.block) × (length l.needs.items ≡ suc (length l.block))
    × ((place : ℕ) (other : Ahead) → l.next ≤ place → place ≤ length l.block →
    get_or l.needs.items place other ≡ ahead_of (planned_in l.split) (drop place (ids_of l.block)))

abbrev pub decreases-loop-next : goal.decreases-loop-next
decreases-loop-next l = l.next
