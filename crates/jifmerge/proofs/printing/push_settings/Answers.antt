use Rattle.std.proofs.Common.{length, sym}
use Rattle.std.proofs.lemmas.Bool.{ltb-true}
use Rattle.jifmerge.proofs.Printed.{row_more}
use Rattle.jifmerge.proofs.printing.push_settings.Goals as goal

pub loop-place-preserved : goal.loop-place-preserved
loop-place-preserved c =
    let lookup = c.in-Some.ensures.lookup in
    row_more c.args.fields.now c.args.rows.now c.loop-place.place c.index-fields-place.result c.in-Some.row.now _ _ _
    c.loop-place-test.true c.index-fields-place.is
    (ltb-true c.loop-place.place (length c.args.rows.now) (sym lookup.0)) lookup.1 c.loop-place.invariant
    (rw c.elements.ensures at c.in_ok-push_row.ensures)
