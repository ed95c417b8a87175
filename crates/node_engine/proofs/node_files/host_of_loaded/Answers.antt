use Rattle.front_end.proofs.Stages.{handed_on, then_ends, then_stops}
use Rattle.node_engine.specs.ReadyNodes.{HostFound}
use Rattle.node_starts.specs.NodeSources.{NodeSources, OfHost, node_source, node_start}
use Rattle.node_engine.specs.Options.{asked_shape}
use Rattle.node_starts.specs.SourceNames.{name_of, source_name}
use Rattle.node_engine.proofs.node_files.host_of_loaded.Goals as goal

pub returns-in_err-source-clause-due : goal.returns-in_err-source-clause-due
returns-in_err-source-clause-due c = λ k h s loaded_k loaded_h loaded_s.
    let options = c.args.options.now in
    handed_on node_start (HostFound (asked_shape options) k h s) c.in_err-source.field-0.0 c.from_residual.result
    c.from_residual.ensures
    (then_stops (NodeSources (source_name options.source) k h options.start.now s)
    (OfHost options.host.now (name_of (source_name options.source)) options.hosts.now)
    c.in_err-source.field-0.0 (c.in_err-source.ensures k h s loaded_k loaded_h loaded_s))

pub returns-clause-due : goal.returns-clause-due
returns-clause-due c = λ k h s loaded_k loaded_h loaded_s.
    let options = c.args.options.now in
    then_ends node_source node_start (NodeSources (source_name options.source) k h options.start.now s)
    (OfHost options.host.now (name_of (source_name options.source)) options.hosts.now) c.in_ok-source.source
    c.of_host.result (c.in_ok-source.ensures k h s loaded_k loaded_h loaded_s)
    (rw c.source_name-code.ensures at c.of_host.ensures.due)
