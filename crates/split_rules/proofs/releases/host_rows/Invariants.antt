use Rattle.std.proofs.Common.{◌≡◌, ◌++◌, [], drop, map, reverse}
use Rattle.split_rules.specs.ReleaseRows.{rows_told, shown}
use Rattle.split_rules.proofs.releases.host_rows.Given as goal

-- the rows so far with those of the instructions that are left
abbrev pub invariant-loop-instruction : goal.invariant-loop-instruction
invariant-loop-instruction l =
    l.rows.items ++ rows_told (map shown l.statements) (reverse l.left.items) (drop l.instruction-index l.part)
    ≡ rows_told (map shown l.statements) [] l.part
