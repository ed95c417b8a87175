use Rattle.std.proofs.Common.{arith}
use Rattle.std.proofs.lemmas.List.FromFn.{map-range_with_len_more}
use Rattle.plan_layout.specs.Strips.{strip_of, strip_shape, strips_of}
use Rattle.plan_layout.proofs.Walks.{mapped_more}
use Rattle.plan_layout.proofs.strips.strips_of.Goals as goal

pub loop-number-preserved : goal.loop-number-preserved
loop-number-preserved c =
    let n = c.loop-number.number in
    let lines = c.args.lines.now in
    mapped_more strip_shape c.loop-number.found.items _ c.in_ok-strip_of.field-0 (strip_of lines n) (strips_of lines n)
    _
    c.loop-number.invariant c.in_ok-strip_of.ensures
    c.in_ok-push.ensures.items
    (map-range_with_len_more (strip_of lines) 0 n n (omega arith))
