use Rattle.std.proofs.Common.{◌∙◌}
use Rattle.jif_resolve.proofs.MethodWalks.{method_counted, next_fits, methods_go_on, gives_is}
use Rattle.jif_resolve.proofs.method_faults.with_methods.Goals as goal

pub with_method-requires : goal.with_method-requires
with_method-requires c =
    method_counted c.args.draft.now c.deref-method-items.result.now c.method-item.result c.requires
    c.deref-method-items.ensures.value c.loop-method.invariant c.loop-method-test.true c.method-item.is

pub next_method-requires : goal.next_method-requires
next_method-requires c =
    next_fits c.args.draft.now c.deref-method-items.result.now c.method-item.result c.with_method.new.scope c.requires
    c.deref-method-items.ensures.value c.loop-method.invariant c.loop-method-test.true c.method-item.is
    c.in_ok-sooner_one.ensures.place

pub loop-method-preserved : goal.loop-method-preserved
loop-method-preserved c =
    methods_go_on c.method-item.result c.is_some-gives.result c.with_method.new.scope c.next_method.new.self
    c.in_ok-sooner_one.sooner_one c.loop-method.invariant c.loop-method-test.true c.method-item.is
    (c.is_some-gives.ensures ∙ gives_is c.method-item.result.result) c.in_ok-sooner_one.ensures.place
    c.next_method.ensures c.in_ok-sooner_one.ensures.faults
