use Rattle.std.proofs.Common.{◌≡◌, ◌++◌, drop, length}
use Rattle.jif_tree.specs.Trees.{block_tree}
use Rattle.plan_ways.specs.Lasts.{block_lasts}
use Rattle.plan_ways.proofs.lasts.+lasts.Given as goal

-- what was added, and that of the statements that are left, is the whole
abbrev pub invariant-push_block-loop-statement : goal.invariant-push_block-loop-statement
invariant-push_block-loop-statement l =
    l.lasts.items ++ block_lasts (length l.lasts.items) (block_tree (drop l.statement-index l.block))
    ≡ l.initial.lasts.items ++ block_lasts (length l.initial.lasts.items) (block_tree l.block)
