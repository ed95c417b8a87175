use Rattle.std.proofs.Common.{arith}
use Rattle.principals.proofs.Pairing.{paired_more}
use Rattle.principals.proofs.declaring.pair_ids.Goals as goal

pub loop-pair-preserved : goal.loop-pair-preserved
loop-pair-preserved c =
    rw c.in_ok-push.ensures.items
    (paired_more c.args.names.now c.args.pairs.now c.loop-pair.pair-index c.loop-pair.ids.items _
    c.in_ok-known_pair.field-0 (omega arith) c.pair-item.is c.in_ok-known_pair.ensures.known c.loop-pair.invariant)
