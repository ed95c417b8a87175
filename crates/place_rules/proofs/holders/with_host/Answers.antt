use Rattle.std.proofs.Common.{w16}
use Rattle.std.proofs.lemmas.Nat.Bits.{bit_at_set_same, bit_at_set_other}
use Rattle.place_rules.proofs.holders.with_host.Goals as goal

pub returns-clause-set : goal.returns-clause-set
returns-clause-set c = bit_at_set_same w16 c.args.word c.args.host c.requires

pub returns-clause-others : goal.returns-clause-others
returns-clause-others c = bit_at_set_other w16 c.args.word c.args.host c.requires
