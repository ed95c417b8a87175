use Rattle.control_split.specs.Views.{planned_in}
use Rattle.control_split.proofs.MethodTraces.{entries_more}
use Rattle.control_split.proofs.methods.method_entries.Goals as goal

pub loop-method-preserved : goal.loop-method-preserved
loop-method-preserved c =
    entries_more (planned_in c.args.split.now) c.deref-method-items.result.now c.loop-method.method-index _
    c.args.trace.now c.loop-method.trace c.method_entry.new.trace c.loop-method-test.true c.method-item.is
    c.loop-method.invariant c.in_ok-method_entry.ensures
