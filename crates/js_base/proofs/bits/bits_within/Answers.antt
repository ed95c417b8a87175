use Rattle.std.proofs.lemmas.Bool.Decides.{Decides-eqb}
use Rattle.js_base.proofs.BitLemmas.{within_from_and, and_from_within}
use Rattle.js_base.proofs.bits.bits_within.Goals as goal

pub returns : goal.returns
returns c = (
  λ same. within_from_and c.args.inner c.args.outer ((Decides-eqb _ _).0 same),
  λ within. (Decides-eqb _ _).1
      (and_from_within c.args.inner c.args.outer c.ranges.inner.fits within),
)
