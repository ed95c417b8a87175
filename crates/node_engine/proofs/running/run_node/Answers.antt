use Rattle.std.proofs.Common.{ap, refl}
use Rattle.node_engine.specs.ReadyNodes.{ready_node}
use Rattle.node_engine.proofs.Breaking.{faults_later}
use Rattle.node_engine.proofs.Ends.{broke_early, served_begun}
use Rattle.node_starts.proofs.Rows.{row_at}
use Rattle.node_engine.proofs.running.run_node.Goals as goal

pub returns-in-Ok-begin-clause-runs : goal.returns-in-Ok-begin-clause-runs
returns-in-Ok-begin-clause-runs g c =
    served_begun c.args.turns (ready_node c.args.node) c.index-rows-start.result c.serve.result _ _ _ _ _ _
    (rw (← c.hosts-rows.ensures.hosts)
    (row_at c.hosts-rows.result.now c.args.node.start.me.0 c.index-rows-start.result
    (rw (← c.hosts-rows.ensures.hosts) at c.requires.0) c.index-rows-start.is))
    (rw (c.hosts-rows.ensures.hosts, c.name.ensures) at c.in-Ok-begin.ensures.ok) (c.begin.new.journal, refl)
    (ap (λ h. record { host = h; seals = c.args.node.seals }) (rw c.key.ensures at c.in-Ok.ensures.state))
    c.serve.ensures.answers c.serve.ensures.serves c.serve.ensures.leaves

pub returns-in-Ok-begin-clause-faults : goal.returns-in-Ok-begin-clause-faults
returns-in-Ok-begin-clause-faults g c =
    faults_later c.serve.result _ _ _ c.in-Ok-begin.ensures.faults c.serve.ensures.leaves.faults

pub returns-clause-runs : goal.returns-clause-runs
returns-clause-runs g c =
    broke_early c.args.turns (ready_node c.args.node) c.index-rows-start.result c.status.result _ _
    (rw (← c.hosts-rows.ensures.hosts)
    (row_at c.hosts-rows.result.now c.args.node.start.me.0 c.index-rows-start.result
    (rw (← c.hosts-rows.ensures.hosts) at c.requires.0) c.index-rows-start.is))
    (rw c.status.ensures (rw (c.hosts-rows.ensures.hosts, c.name.ensures) at c.in-Err.ensures.err))
