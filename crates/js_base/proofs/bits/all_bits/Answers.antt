use Rattle.std.proofs.lemmas.Nat.Bits.{bit_at_or}
use Rattle.js_base.proofs.bits.all_bits.Goals as goal

pub returns : goal.returns
returns c = bit_at_or c.args.first c.args.second
