use Rattle.jif_tree.specs.Trees.{program_tree}
use Rattle.control_split.proofs.TableRows.{variables_further}
use Rattle.control_split.proofs.tables.code_vars.Goals as goal

pub loop-number-preserved : goal.loop-number-preserved
loop-number-preserved c =
    let checked = c.args.split.now.checked.now in
    variables_further (program_tree checked.program) checked.program.vars.items checked.var_labels.items
    c.loop-number.number c.var-item.result _ c.args.trace.now c.loop-number.trace c.code_var.new.trace
    c.loop-number.rows.items c.push.new.self.items c.in_ok-code_var.field-0
    (rw c.deref-var-items.ensures.value at c.loop-number-test.true) c.requires
    (rw c.deref-var-items.ensures.value at c.var-item.is) c.loop-number.invariant.0 c.loop-number.invariant.1
    (rw c.as_slice-labels.ensures.value at c.in_ok-code_var.ensures.trace)
    (rw c.as_slice-labels.ensures.value at c.in_ok-code_var.ensures.row) c.in_ok-push.ensures.items
