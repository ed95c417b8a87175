use Rattle.std.proofs.Common.{◌≡◌, ◌++◌, take}
use Rattle.std.specs.List.{flat_map}
use Rattle.run_comparison.proofs.ReleaseParts.{releases_of}
use Rattle.run_comparison.proofs.releasing.+found.Given as goal

-- those of the statements so far were added
abbrev pub invariant-push_block-loop-statement : goal.invariant-push_block-loop-statement
invariant-push_block-loop-statement l =
    l.found.items ≡ l.initial.found.items ++ flat_map releases_of (take l.statement-index l.block)
