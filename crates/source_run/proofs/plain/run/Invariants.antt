use Rattle.std.proofs.Common.{ℕ, ◌<◌}
use Rattle.jif_tree.specs.SourceRun.{prefix, IsAtEnd}
use Rattle.source_run.specs.Shapes.{shape_of}
use Rattle.source_run.proofs.Steps.{Agrees}
use Rattle.source_run.proofs.plain.run.Given as goal

-- the machine agrees with the prefix of the steps so far, and no shorter one is at its end
abbrev pub invariant-loop-taken : goal.invariant-loop-taken
invariant-loop-taken l = record {
  agrees : Agrees l.program (shape_of l.machine l.store) (prefix l.program l.fn.store l.taken);
  before : (n : ℕ) → n < l.taken → ¬ IsAtEnd (prefix l.program l.fn.store n);
}
