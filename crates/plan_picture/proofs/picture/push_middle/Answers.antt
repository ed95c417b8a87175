use Rattle.std.proofs.Common.{◌∙◌, ap, sym}
use Rattle.std.specs.String.{string_bytes}
use Rattle.plan_picture.specs.Loops.{loops_of}
use Rattle.plan_picture.specs.Paths.{Grid}
use Rattle.plan_picture.specs.Sheets.{sheet_shape}
use Rattle.plan_picture.specs.declared.rows.Row.{Row}
use Rattle.std.proofs.Common.{List}
use Rattle.plan_picture.proofs.Pictures.{middle_written}
use Rattle.plan_picture.proofs.picture.push_middle.Goals as goal

pub returns : goal.returns
returns c =
    let sheet = sheet_shape c.args.sheet.now in
    let places = ap (λ (g : Grid). g.places) c.grid.view_is in
    let past = c.right.ensures.value ∙ ap (λ (g : Grid). g.columns.places.past) c.grid.view_is in
    let loops = c.as_slice.ensures.value ∙ c.in_ok-loops.ensures
    ∙ ap (λ (rows : List Row). loops_of sheet 1 rows) c.requires in
    let same_loops = c.as_slice-2.ensures.value ∙ c.in_ok-loops.ensures
    ∙ ap (λ (rows : List Row). loops_of sheet 1 rows) c.requires in
    middle_written sheet c.args.grid.now _ _ _ _ (string_bytes c.args.text.now) _ _ _ places past loops
    c.deref.ensures.value c.in_ok-push_bands.ensures
    (rw (same_loops ∙ sym loops) at c.in_ok-push_brackets.ensures) c.in_ok-push_ways.ensures
