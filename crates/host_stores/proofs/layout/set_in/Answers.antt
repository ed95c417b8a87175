use Rattle.std.proofs.Common.{rules, ◌∙◌, ◌+◌, ap, to_z-of_z, SFits, w64}
use Rattle.std.specs.Prelude.{slice_set}
use Rattle.host_stores.specs.Layout.{rows_at}
use Rattle.host_stores.proofs.RowPlaces.{set_there, set_past, set_nowhere}
use Rattle.host_stores.proofs.layout.set_in.Goals as goal

pub returns-in_default-clause-rows : goal.returns-in_default-clause-rows
returns-in_default-clause-rows c =
    set_nowhere c.args.elements.now c.args.offsets.now c.args.field.0 c.args.index c.args.value
    c.in_default.ensures.none

pub returns-then-index-end-clause-rows : goal.returns-then-index-end-clause-rows
returns-then-index-end-clause-rows c =
    let fits : SFits w64 c.args.value = search rules in
    ap (λ value. rows_at (slice_set c.args.elements.now (c.in-Some.start + c.args.index) value) c.args.offsets.now)
    (to_z-of_z fits)
    ∙ set_there c.args.elements.now c.args.offsets.now c.args.field.0 c.in-Some.start c.in-Some.end c.args.index
    c.args.value c.requires c.in-Some.ensures.there c.if-index-end.true

pub returns-else-index-end-clause-rows : goal.returns-else-index-end-clause-rows
returns-else-index-end-clause-rows c =
    set_past c.args.elements.now c.args.offsets.now c.args.field.0 c.in-Some.start c.in-Some.end c.args.index
    c.args.value c.in-Some.ensures.there c.if-index-end.false
