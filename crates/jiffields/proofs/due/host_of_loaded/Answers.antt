use Rattle.front_end.proofs.Stages.{handed_on, then_ends, then_stops}
use Rattle.node_starts.specs.NodeSources.{NodeSources, OfHost, node_source, node_start}
use Rattle.node_starts.specs.SourceNames.{name_of, source_name}
use Rattle.jiffields.specs.Due.{FieldsHostFound}
use Rattle.jiffields.specs.Words.{asked_shape}
use Rattle.jiffields.proofs.due.host_of_loaded.Goals as goal

pub returns-in_err-source-clause-due : goal.returns-in_err-source-clause-due
returns-in_err-source-clause-due c = λ k h s loaded_k loaded_h loaded_s.
    let asked = c.args.asked.now in
    handed_on node_start (FieldsHostFound (asked_shape asked) k h s) c.in_err-source.field-0.0 c.from_residual.result
    c.from_residual.ensures
    (then_stops (NodeSources (source_name asked.source) k h asked.start.now s)
    (OfHost asked.host.now (name_of (source_name asked.source)) asked.hosts.now)
    c.in_err-source.field-0.0 (c.in_err-source.ensures k h s loaded_k loaded_h loaded_s))

pub returns-clause-due : goal.returns-clause-due
returns-clause-due c = λ k h s loaded_k loaded_h loaded_s.
    let asked = c.args.asked.now in
    then_ends node_source node_start (NodeSources (source_name asked.source) k h asked.start.now s)
    (OfHost asked.host.now (name_of (source_name asked.source)) asked.hosts.now) c.in_ok-source.source
    c.of_host.result (c.in_ok-source.ensures k h s loaded_k loaded_h loaded_s)
    (rw c.name_of-code.ensures at c.of_host.ensures.due)
