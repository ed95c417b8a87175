use Rattle.std.proofs.Common.{◌+◌, length, ap, ◌∙◌, arith}
use Rattle.std.proofs.lemmas.List.{length_push}
use Rattle.byte_format.proofs.Items.{items_more}
use Rattle.wire_msg.specs.Reading.{rider_at}
use Rattle.wire_msg.proofs.riding.riders_of.Goals as goal

pub loop-number-preserved : goal.loop-number-preserved
loop-number-preserved c = record {
  read = rw c.push.ensures (items_more (λ _. rider_at) c.loop-number.riders c.args.count c.loop-number.number _
      c.loop-number.rest.now _ _ (omega (arith, c.loop-number-test.true)) c.in_ok-rider.ensures
      c.loop-number.invariant.read);
  count = ap length c.push.ensures ∙ length_push c.loop-number.riders c.in_ok-rider.rider
      ∙ ap (λ n. n + 1) c.loop-number.invariant.count;
}
