use Rattle.label_lattice.specs.Written.{symbol}
use Rattle.label_lattice.proofs.TokenCuts.{NoneBefore}
use Rattle.label_lattice.proofs.tokens.pieces.cut_at.Given as goal

abbrev pub invariant-loop-place : goal.invariant-loop-place
invariant-loop-place l = NoneBefore l.tokens (symbol l.separator) l.place
