use Rattle.jif_resolve.proofs.GlobalLists.{field_pushed}
use Rattle.jif_resolve.proofs.globals.push_fields.Goals as goal

pub loop-number-preserved : goal.loop-number-preserved
loop-number-preserved c =
    rw c.in_ok-push.ensures.items
    (field_pushed c.loop-number.declared.items c.args.declared.now.items c.in_ok-field_name.field-0 c.args.fields.now
    c.loop-number.number c.index-fields-number.result c.loop-number-test.true c.loop-number.invariant
    c.index-fields-number.is c.in_ok-field_name.ensures)
