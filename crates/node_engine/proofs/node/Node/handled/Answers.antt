use Rattle.std.proofs.Common.{refl}
use Rattle.node_engine.proofs.Breaking.{handed}
use Rattle.node_engine.proofs.UnitParts.{heard_does, heard_ended, heard_stops}
use Rattle.node_engine.proofs.node.Node.handled.Goals as goal

pub returns-in_err-heard-in-Done-clause-err : goal.returns-in_err-heard-in-Done-clause-err
returns-in_err-heard-in-Done-clause-err g c =
    rw c.in-Done.is
    (handed _ c.in_err-heard-in-Done.field-0.0 c.from_residual-in_err-heard-in-Done.result
    c.from_residual-in_err-heard-in-Done.ensures
    (_, refl, heard_stops _ _ _ _ _ c.in_err-heard-in-Done.ensures.err))

pub returns-in_ok-heard-in-Done-clause-ok : goal.returns-in_ok-heard-in-Done-clause-ok
returns-in_ok-heard-in-Done-clause-ok g c =
    rw c.in-Done.is (
      _,
      refl,
      heard_does _ _ _ _ c.in_ok-heard-in-Done.ensures.ok,
      λ world not_yet. rw (c.root.ensures.root, c.in_ok-heard-in-Done.ensures.same.same.node.code)
          (heard_ended _ _ world not_yet),
    )
