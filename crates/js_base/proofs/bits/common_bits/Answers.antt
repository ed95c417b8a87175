use Rattle.std.proofs.lemmas.Nat.Bits.{bit_at_and}
use Rattle.js_base.proofs.bits.common_bits.Goals as goal

pub returns : goal.returns
returns c = bit_at_and c.args.first c.args.second
