use Rattle.std.proofs.Common.{◌≡◌, ◌<◌, inl, inr, ap, arith, length, refl, ◌∙◌}
use Rattle.std.specs.Prelude.{Some, option_map, slice_get}
use Rattle.std.proofs.lemmas.Option.{slice_get-map}
use Rattle.plan_picture.specs.Columns.{widths_of}
use Rattle.plan_picture.specs.Legend.{all_signs, occurs}
use Rattle.plan_picture.specs.Lines.{line_of, lines_of, row_numbers}
use Rattle.plan_picture.specs.Loops.{deepest, margin_of}
use Rattle.plan_picture.specs.Rows.{rows_of, spans_of}
use Rattle.plan_picture.proofs.LegendLaws.{kept_passes, sign_there, stays_kept}
use Rattle.plan_picture.proofs.Noted.{shown_there}
use Rattle.plan_picture.proofs.RowLaws.{all_free, as_many_widths, way_fits}
use Rattle.plan_picture.proofs.RowsThere.{own_field, own_relay, own_statement}
use Rattle.plan_picture.proofs.laws.plan_laws.Goals as goal

pub returns-clause-rows_apart : goal.returns-clause-rows_apart
returns-clause-rows_apart c = λ sheet top i j one other differ here there.
    c.layout_laws.ensures.rows_apart top i j (spans_of (rows_of sheet)) one other (all_free (rows_of sheet)) differ here
    there

pub returns-clause-columns_apart : goal.returns-clause-columns_apart
returns-clause-columns_apart c = λ sheet i j lt within.
    c.layout_laws.ensures.columns_apart (margin_of (deepest 0 sheet.texts)) (widths_of sheet (rows_of sheet))
    (lines_of sheet) i j lt (omega (arith, within, as_many_widths sheet (rows_of sheet)))

pub returns-clause-stands : goal.returns-clause-stands
returns-clause-stands c = λ sheet end above.
    elim (shown_there sheet end) [
      | inl shows ↦ (shows.place, shows.row, shows.there, shows.shown, shows.counted)
      | inr none ↦ absurd (omega (arith, above, none))
    ]

pub returns-clause-clear : goal.returns-clause-clear
returns-clause-clear c = λ sheet top i column row way one here to inside there begin end.
    let from = margin_of (deepest 0 sheet.texts) in
    let widths = widths_of sheet (rows_of sheet) in
    let lines = lines_of sheet in
    let rows = spans_of (rows_of sheet) in
    let line = line_of (row_numbers sheet) way in
    let fits = way_fits sheet way to in
    let within : column < length widths = omega (arith, inside, as_many_widths sheet (rows_of sheet)) in
    let is : slice_get lines i ≡ Some line =
    slice_get-map (line_of (row_numbers sheet)) sheet.ways i
    ∙ ap (option_map (line_of (row_numbers sheet))) here in (
      c.layout_laws.ensures.across from top widths lines rows line column row one (all_free (rows_of sheet)) fits there
          begin,
      c.layout_laws.ensures.along from top widths lines rows i line column row one.length is fits.column within,
      c.layout_laws.ensures.into from top widths lines rows i line column row one (all_free (rows_of sheet)) is fits
          there within end,
    )

pub returns-clause-legend : goal.returns-clause-legend
returns-clause-legend c = λ sheet place one there. kept_passes (occurs sheet) all_signs place one there

pub returns-clause-in_legend : goal.returns-clause-in_legend
returns-clause-in_legend c = λ sheet one is.
    let found = sign_there one in stays_kept (occurs sheet) all_signs found.0 one found.1 is

pub returns-clause-worked_stroke : goal.returns-clause-worked_stroke
returns-clause-worked_stroke c = refl

pub returns-clause-worked_back : goal.returns-clause-worked_back
returns-clause-worked_back c = refl

pub returns-clause-worked_factor : goal.returns-clause-worked_factor
returns-clause-worked_factor c = refl

pub returns-clause-fields : goal.returns-clause-fields
returns-clause-fields c = own_field

pub returns-clause-statements : goal.returns-clause-statements
returns-clause-statements c = own_statement

pub returns-clause-relays : goal.returns-clause-relays
returns-clause-relays c = own_relay

pub returns-clause-worked_loop : goal.returns-clause-worked_loop
returns-clause-worked_loop c = refl

pub returns-clause-worked_legend : goal.returns-clause-worked_legend
returns-clause-worked_legend c = refl
