use Rattle.node_engine.specs.Told.{HasSameHost, seen}
use Rattle.node_engine.proofs.Closing.{Completes}
use Rattle.node_engine.proofs.node.Node.close.Given as goal

-- the hosts so far were told
abbrev pub invariant-loop-number : goal.invariant-loop-number
invariant-loop-number g l = record {
  same : HasSameHost l.fn.self l.self;
  completes : Completes l.fn.self.me l.count l.number l.fn.self.seals.now l.self.seals.now (seen g.L.Links g.R.Sink l.fn.self)
      (seen g.L.Links g.R.Sink l.self);
}
