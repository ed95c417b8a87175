use Rattle.std.proofs.Common.{inl, refl}
use Rattle.node_engine.specs.declared.node_error.NodeError.TheVariants as node_error
use Rattle.node_engine.proofs.Breaking.{handed}
use Rattle.node_engine.proofs.running.begin.Goals as goal

pub returns-in_err-paths-clause-err : goal.returns-in_err-paths-clause-err
returns-in_err-paths-clause-err g c =
    handed _ node_error.OutOfMemory c.from_residual.result c.from_residual.ensures
    (inl (refl, record { outside = refl; names = refl }))
