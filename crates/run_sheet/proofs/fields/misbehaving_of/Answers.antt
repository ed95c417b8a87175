use Rattle.std.proofs.Common.{ap, ◌∙◌}
use Rattle.net_world.specs.Fits.{world_of}
use Rattle.net_world.specs.World.{misbehaves}
use Rattle.run_sheet.proofs.HostLists.{none_added, one_added}
use Rattle.run_sheet.proofs.fields.misbehaving_of.Goals as goal
use Rattle.run_sheet.proofs.fields.misbehaving_of.Goals.{then-misbehaves+in_ok-push, else-misbehaves}

pub loop-number-preserved : goal.loop-number-preserved
loop-number-preserved c =
    let test = misbehaves (world_of c.args.world.now) in
    elim c.if-misbehaves.branch [
      | then-misbehaves+in_ok-push w ↦ one_added test c.loop-number.bad.items c.if-misbehaves.bad.items
          c.loop-number.number c.misbehaves.result c.loop-number.invariant c.misbehaves.ensures w.if-misbehaves.true
          (ap (λ kept. kept.items) w.bad-is ∙ w.in_ok-push.ensures.items)
      | else-misbehaves w ↦ ap (λ kept. kept.items) w.bad-is
          ∙ none_added test c.loop-number.bad.items c.loop-number.number c.misbehaves.result c.loop-number.invariant
          c.misbehaves.ensures w.if-misbehaves.false
    ]
