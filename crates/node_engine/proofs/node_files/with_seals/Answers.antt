use Rattle.std.proofs.Common.{◌∙◌}
use Rattle.node_starts.specs.NodeSources.{node_start}
use Rattle.node_engine.proofs.LoadedNodes.{seals_stop}
use Rattle.node_engine.proofs.node_files.with_seals.Goals as goal

pub returns-in-Err-clause-due : goal.returns-in-Err-clause-due
returns-in-Err-clause-due c = λ keys loaded.
    seals_stop c.args.name.now (node_start c.args.start) c.deref.result.now keys c.in-Err.why c.no_seals.result
    c.in-Err.ensures.refused (c.deref.ensures.value ∙ (rw c.in-Bytes.is at loaded).0) c.no_seals.ensures
