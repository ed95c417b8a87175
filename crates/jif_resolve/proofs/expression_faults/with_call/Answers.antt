use Rattle.std.proofs.Common.{refl, length}
use Rattle.jif_grammar.specs.DraftShapes.{name_shape}
use Rattle.jif_resolve.specs.Contexts.{setting_in}
use Rattle.jif_resolve.proofs.Walks.{call_joined}
use Rattle.jif_resolve.proofs.expression_faults.with_call.Goals as goal

pub returns : goal.returns
returns c =
    call_joined (setting_in c.args.context.now) c.args.scope.now (name_shape c.args.method.now) c.args.args.now
    c.args.into.now c.args.first c.with_called_name-called.result c.with_into-kept.result c.with_args.result
    c.is_some-keeps.result (length c.args.args.now) c.is_some-keeps.ensures refl c.with_called_name-called.ensures
    c.with_into-kept.ensures c.with_args.ensures
