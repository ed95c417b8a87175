use Rattle.jif_resolve.proofs.GlobalLists.{few_params, method_pushed}
use Rattle.jif_resolve.proofs.globals.push_methods.Goals as goal

pub method_name-requires : goal.method_name-requires
method_name-requires c =
    few_params c.args.methods.now c.requires.each c.loop-number.number c.index-methods-number.result
    c.loop-number-test.true c.index-methods-number.is

pub loop-number-preserved : goal.loop-number-preserved
loop-number-preserved c =
    rw c.in_ok-push.ensures.items
    (method_pushed c.loop-number.declared.items c.args.declared.now.items c.in_ok-method_name.field-0
    c.args.methods.now c.loop-number.number c.index-methods-number.result c.loop-number-test.true
    c.loop-number.invariant c.index-methods-number.is c.in_ok-method_name.ensures)
