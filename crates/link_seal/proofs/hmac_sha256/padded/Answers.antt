use Rattle.std.proofs.Common.{arith}
use Rattle.link_seal.proofs.Blocks.{filled_more, filled_whole}
use Rattle.link_seal.proofs.hmac_sha256.padded.Goals as goal

pub loop-place-preserved : goal.loop-place-preserved
loop-place-preserved c =
    filled_more c.args.pad c.args.key.now c.loop-place.block c.loop-place.place c.loop-place-test.true c.told-key
    c.loop-place.invariant

pub returns : goal.returns
returns c =
    filled_whole c.args.pad c.args.key.now c.loop-place.block c.loop-place.place
    (omega (arith, c.loop-place-test.false, c.loop-place.auto.place-end)) c.told-key c.loop-place.invariant
