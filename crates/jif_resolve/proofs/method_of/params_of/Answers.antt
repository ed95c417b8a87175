use Rattle.jif_grammar.specs.DraftShapes.{param_shape}
use Rattle.jif_resolve.proofs.Methods.{param_id_counted, has_room}
use Rattle.jif_resolve.proofs.method_of.params_of.Goals as goal

pub next_variable-id-requires : goal.next_variable-id-requires
next_variable-id-requires c =
    has_room c.loop-param.scope (param_shape c.param-item.result).name
    (param_id_counted c.param-item.result c.requires c.loop-param.invariant c.loop-param-test.true c.param-item.is)
