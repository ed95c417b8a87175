use Rattle.std.proofs.Common.{◌≡◌, ◌++◌, take}
use Rattle.std.specs.List.{flat_map}
use Rattle.releasing_statements.proofs.MarkParts.{marks_of}
use Rattle.releasing_statements.proofs.marks.+marks.Given as goal

-- those of the statements so far were added
abbrev pub invariant-push_block-loop-statement : goal.invariant-push_block-loop-statement
invariant-push_block-loop-statement l =
    l.marks.items ≡ l.initial.marks.items ++ flat_map marks_of (take l.statement-index l.block)
