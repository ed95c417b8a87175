use Rattle.std.proofs.Common.{refl}
use Rattle.place_texts.proofs.PartsOf.{fields_more}
use Rattle.place_texts.proofs.part.push_fields.Goals as goal

pub loop-number-preserved : goal.loop-number-preserved
loop-number-preserved t =
    fields_more _ t.loop-number.all.items t.push.new.self.items t.loop-number.number _ t.loop-number.invariant
    t.in_ok-push.ensures.items refl
