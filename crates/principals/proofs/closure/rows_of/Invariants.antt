use Rattle.std.proofs.Common.{take}
use Rattle.principals.specs.Closure.{AreRowsOf}
use Rattle.principals.specs.Pairs.{pairs_of}
use Rattle.principals.proofs.closure.rows_of.Given as goal

abbrev pub invariant-loop-pair : goal.invariant-loop-pair
invariant-loop-pair l = AreRowsOf (pairs_of (take l.pair-index l.pairs)) l.rows
