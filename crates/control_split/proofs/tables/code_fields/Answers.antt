use Rattle.std.proofs.Common.{◌∙◌, ap}
use Rattle.js_base.specs.declared.ids.HostId.{HostId}
use Rattle.jif_tree.specs.Trees.{field_tree}
use Rattle.split_rules.proofs.CodeItems.{code_field}
use Rattle.control_split.proofs.TableRows.{fields_further}
use Rattle.control_split.proofs.tables.code_fields.Goals as goal

pub loop-number-preserved : goal.loop-number-preserved
loop-number-preserved c =
    let plan = c.args.split.now.plan.now in
    let row = code_field c.code_field.new.trace.labels plan c.loop-number.number (field_tree c.field-item.result) in
    fields_further plan c.args.split.now.checked.now.program.fields.items
    c.loop-number.number c.field-item.result c.args.trace.now c.loop-number.trace c.code_field.new.trace
    c.loop-number.rows.items c.push.new.self.items c.in_ok-code_field.field-0
    (rw c.deref-field-items.ensures.value at c.loop-number-test.true)
    (rw c.deref-field-items.ensures.value at c.field-item.is)
    c.loop-number.invariant.0 c.loop-number.invariant.1 c.in_ok-code_field.ensures.trace
    (c.in_ok-code_field.ensures.row
    ∙ ap (λ (host : HostId). record row { host = host }) c.host_of_field-host.ensures)
    c.in_ok-push.ensures.items
