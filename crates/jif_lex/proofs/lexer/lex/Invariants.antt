use Rattle.std.proofs.Common.{length}
use Rattle.jif_lex.proofs.Reading.{IsRead}
use Rattle.jif_lex.proofs.lexer.lex.Given as goal

abbrev pub invariant-loop-rest : goal.invariant-loop-rest
invariant-loop-rest l = IsRead l.bytes l.rest l.found.items l.at l.line

abbrev pub decreases-loop-rest : goal.decreases-loop-rest
decreases-loop-rest l = length l.rest
