use Rattle.std.proofs.Common.{inl, inr, refl}
use Rattle.node_engine.specs.NodeWorlds.{do_all}
use Rattle.node_engine.specs.Serving.{closing_parts}
use Rattle.node_engine.proofs.node.Node.closed.Goals as goal

pub returns-in-Ok-clause-closes : goal.returns-in-Ok-clause-closes
returns-in-Ok-clause-closes g c = λ world told. (
  do_all (closing_parts c.args.self.now.code.now c.args.self.now.me world.seals) world,
  rw told.seals_is at (c.in-Ok.ensures.ok.after world told),
  inl (refl, refl),
)

pub returns-in-Err-clause-closes : goal.returns-in-Err-clause-closes
returns-in-Err-clause-closes g c = λ world told.
    let end = c.in-Err.ensures.err.after world told in
    (end.0, end.1, inr (c.in-Err.error, c.status.ensures, rw told.seals_is at end.2))
