use Rattle.jif_grammar.specs.Verdicts.{of_count}
use Rattle.std.proofs.Common.{arith, refl}
use Rattle.jif_parse.proofs.cursor.Cursor.take.Goals as goal

pub returns-in-Err-clause-over : goal.returns-in-Err-clause-over
returns-in-Err-clause-over c = (
  of_count c.in-Err.what,
  refl,
  λ t h. c.in-Err.ensures.past t c.args.nesting h (omega (arith, c.if-nesting-gt-NESTING.false)),
)
