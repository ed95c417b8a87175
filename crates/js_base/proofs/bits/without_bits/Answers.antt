use Rattle.js_base.proofs.BitLemmas.{bit_at_without}
use Rattle.js_base.proofs.bits.without_bits.Goals as goal

pub returns : goal.returns
returns c = bit_at_without _ _ c.ranges.removed.fits
