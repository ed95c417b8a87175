use Rattle.std.proofs.Common.{SFits, get_or, pos, refl, rules, to_z-of_z, w64}
use Rattle.event_text.specs.Settings.{form_of}
use Rattle.jifmerge.proofs.Printed.{element_more}
use Rattle.jifmerge.proofs.printing.push_row.Goals as goal

pub loop-index-preserved : goal.loop-index-preserved
loop-index-preserved c =
    let value = get_or c.args.elements.now c.loop-index.index (pos 0) in
    let fits : SFits w64 value = search rules in
    element_more (form_of c.args.field.now) c.args.elements.now c.loop-index.index (pos 0) value _ _ _
    c.loop-index-test.true refl c.loop-index.invariant (rw (to_z-of_z fits) at c.in_ok-push_element.ensures)
