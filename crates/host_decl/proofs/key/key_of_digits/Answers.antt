use Rattle.std.proofs.Common.{◌≡◌, length, arith}
use Rattle.std.proofs.lemmas.List.{length-set}
use Rattle.host_decl.proofs.Keys.{key_length, byte_more}
use Rattle.host_decl.proofs.key.key_of_digits.Goals as goal

pub loop-place-preserved : goal.loop-place-preserved
loop-place-preserved c =
    let long : length c.args.digits.now ≡ 64 = key_length c.args.digits.now c.requires in (
      simp length-set c.loop-place.invariant.0,
      byte_more c.args.digits.now c.loop-place.key c.loop-place.place c.byte_of.result (omega arith)
          (omega arith) c.byte_of.ensures c.loop-place.invariant.1,
    )
