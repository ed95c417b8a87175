use Rattle.jif_resolve.proofs.MethodWalks.{param_counted}
use Rattle.jif_resolve.proofs.method_faults.with_params.Goals as goal

pub with_param-requires : goal.with_param-requires
with_param-requires c =
    param_counted c.param-item.result c.requires c.loop-param.invariant c.loop-param-test.true c.param-item.is
