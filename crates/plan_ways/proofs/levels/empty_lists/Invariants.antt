use Rattle.std.proofs.Common.{◌≡◌, [], map, replicate, vec_items}
use Rattle.plan_ways.proofs.levels.empty_lists.Given as goal

-- the lists so far are empty
abbrev pub invariant-loop-made : goal.invariant-loop-made
invariant-loop-made l = map vec_items l.lists.items ≡ replicate l._made []
