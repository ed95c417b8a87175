use Rattle.link_seal.proofs.Blocks.{IsFilled}
use Rattle.link_seal.proofs.hmac_sha256.padded.Given as goal

abbrev pub invariant-loop-place : goal.invariant-loop-place
invariant-loop-place l = IsFilled l.pad l.key l.block l.place
