use Rattle.std.proofs.Common.{add-one}
use Rattle.split_rules.proofs.ReadRows.{arguments_more}
use Rattle.split_rules.proofs.statements.add_arguments.Goals as goal

pub loop-arg-preserved : goal.loop-arg-preserved
loop-arg-preserved c =
    rw add-one (arguments_more _ _ _ c.args.args.now c.loop-arg.arg-index c.arg-item.result c.loop-arg-test.true
    c.arg-item.is c.in_ok-add_value.ensures c.loop-arg.invariant)
