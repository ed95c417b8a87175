use Rattle.js_base.specs.declared.status.Status.TheVariants as status
use Rattle.node_engine.specs.Told.{IsNodeReady, IsSameNode, Leaves, seen}
use Rattle.node_engine.proofs.Served.{ServesOn}
use Rattle.node_engine.proofs.node.Node.serves.Given as goal

-- the units so far were done
abbrev pub invariant-loop : goal.invariant-loop
invariant-loop g l = record {
  same : IsSameNode l.fn.self l.self;
  ready : IsNodeReady l.self;
  leaves : Leaves status.Done (seen g.L.Links g.R.Sink l.fn.self).outside (seen g.L.Links g.R.Sink l.self).outside;
  serves : ServesOn l.fn.self.code.now l.fn.self.me l.units l.counter (seen g.L.Links g.R.Sink l.fn.self)
      (seen g.L.Links g.R.Sink l.self);
}
