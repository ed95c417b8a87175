use Rattle.node_engine.specs.Nodes.{end_shape}
use Rattle.node_engine.proofs.Complete.{complete}
use Rattle.node_engine.proofs.top.run_jifhost.Goals as goal

pub returns-clause-complete : goal.returns-clause-complete
returns-clause-complete g c =
    complete c.node_laws.ensures.one_loaded c.option_laws.ensures.one_asked _ _ (end_shape c.answered.result) _ _
    c.answered.ensures.answer c.answered.ensures.faults
