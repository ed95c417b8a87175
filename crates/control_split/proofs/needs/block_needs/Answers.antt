use Rattle.std.proofs.Common.{◌∙◌, ◌≡◌, ◌+◌, ◌-◌, ap, arith}
use Rattle.std.proofs.lemmas.List.{length-set}
use Rattle.control_split.specs.Ahead.{ahead_of}
use Rattle.control_split.specs.Views.{planned_in}
use Rattle.control_split.proofs.AheadOf.{ids_behind, one_more_noted, with_first}
use Rattle.control_split.proofs.needs.block_needs.Goals as goal

pub ahead_from-requires : goal.ahead_from-requires
ahead_from-requires c =
    c.index-behind.ensures
    ∙ c.loop-next.invariant.2 c.loop-next.next _ (omega arith) c.loop-next.invariant.0
    ∙ ap (ahead_of (planned_in c.args.split.now)) (ids_behind c.args.block.now c.loop-next.next)

pub loop-next-preserved : goal.loop-next-preserved
loop-next-preserved c =
    let planned = planned_in c.args.split.now in
    let next = c.loop-next.next in
    let within = c.loop-next.invariant.0 in
    let some = c.loop-next-test.true in
    let at_next : next ≡ next - 1 + 1 = omega (arith, some) in (
      omega (arith, within),
      length-set c.loop-next.needs.items (next - 1) c.ahead_from.result
          ∙ c.loop-next.invariant.1,
      one_more_noted planned c.args.block.now c.loop-next.needs.items (next - 1) next
          c.ahead_from.result c.index-block-place.result at_next within c.loop-next.invariant.1
          (c.ahead_from.ensures ∙ with_first planned c.index-block-place.result _ _ c.index-block-place.is)
          c.loop-next.invariant.2,
    )
