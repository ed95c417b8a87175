use Rattle.std.proofs.Common.{◌≡◌, ◌++◌, take}
use Rattle.std.specs.List.{flat_map}
use Rattle.front_end.proofs.BlockParts.{part_of}
use Rattle.front_end.proofs.statements.+lines.Given as goal

-- the lines of the statements so far were added
abbrev pub invariant-push_block-loop-statement : goal.invariant-push_block-loop-statement
invariant-push_block-loop-statement l =
    l.lines.items ≡ l.initial.lines.items ++ flat_map part_of (take l.statement-index l.block)
