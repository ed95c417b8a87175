use Rattle.std.proofs.Common.{◌-◌, arith}
use Rattle.jif_lex.proofs.Skips.{ends_first, no_end}
use Rattle.jif_lex.proofs.skipped.len_with_end.Goals as goal

pub returns-then-text-place-eq47-clause-some : goal.returns-then-text-place-eq47-clause-some
returns-then-text-place-eq47-clause-some c = (
  omega arith,
  ends_first c.args.text.now (c.loop-place.place - 1) c.loop-place.place (omega arith) (omega arith)
      c.if-text-place-eq42.true c.if-text-place-eq47.true c.loop-place.invariant,
)

pub returns-clause-none : goal.returns-clause-none
returns-clause-none c = no_end c.args.text.now (λ k within. c.loop-place.invariant k (omega arith))
