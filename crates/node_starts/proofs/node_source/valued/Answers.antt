use Rattle.std.proofs.Common.{inl, refl}
use Rattle.front_end.proofs.Stages.{handed_on}
use Rattle.node_starts.specs.NodeSources.{Valued, node_source}
use Rattle.node_starts.proofs.NodeStages.{values_stop}
use Rattle.node_starts.proofs.node_source.valued.Goals as goal

pub returns-in_err-store : goal.returns-in_err-store
returns-in_err-store c = λ s loaded.
    handed_on node_source (Valued c.args.name.now s c.args.code c.args.hosts) c.in_err-store.field-0.0
    c.from_residual.result c.from_residual.ensures
    (values_stop c.args.name.now s c.args.code c.args.hosts c.in_err-store.field-0.0
    (rw c.fields.ensures.fields at c.in_err-store.ensures s loaded))

pub returns : goal.returns
returns c = λ s loaded.
    inl (c.in_ok-store.store, rw c.fields.ensures.fields at c.in_ok-store.ensures s loaded, refl)
