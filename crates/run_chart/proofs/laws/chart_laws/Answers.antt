use Rattle.std.proofs.Common.{◌≡◌, ◌≢◌, ℕ, true, false, List, [], Some, None, refl, ap, arith, get_or, ◌+◌}
use Rattle.std.specs.Prelude.{Option}
use Rattle.std.specs.Str.{chars}
use Rattle.drawing_text.specs.Letters.{escaped}
use Rattle.run_chart.specs.Events.{ChartGridShape, cross_of}
use Rattle.run_chart.specs.Foot.{check_text, mark_text}
use Rattle.run_chart.specs.Legend.{all_signs, draws_stroke, occurs}
use Rattle.run_chart.specs.Rows.{is_turn}
use Rattle.run_chart.specs.declared.legend.ChartSign.TheVariants as sign
use Rattle.run_chart.specs.declared.sheet.ChartEvent.{ChartEvent}
use Rattle.run_chart.specs.declared.sheet.ChartEvent.TheVariants as event
use Rattle.run_chart.specs.declared.sheet.Mark.{Mark}
use Rattle.run_chart.specs.declared.sheet.Mark.TheVariants as mark
use Rattle.run_chart.proofs.BarLaws.{bars_tell, in_order}
use Rattle.run_chart.proofs.ColumnLaws.{columns_follow}
use Rattle.run_chart.proofs.LegendLaws.{kept_passes, sign_there, some_passes, stays_kept}
use Rattle.run_chart.proofs.ListedRows.{as_many, row_listed, rows_joined}
use Rattle.run_chart.proofs.PlaceLaws.{all_inside, rows_follow}
use Rattle.run_chart.proofs.laws.chart_laws.Goals as goal

pub returns-clause-rows_apart : goal.returns-clause-rows_apart
returns-clause-rows_apart c = rows_follow

pub returns-clause-lines_within : goal.returns-clause-lines_within
returns-clause-lines_within c = λ start i rows one here.
    let inside = all_inside start i rows one here in
    (inside.above, inside.below, inside.begins, inside.ends)

pub returns-clause-columns_apart : goal.returns-clause-columns_apart
returns-clause-columns_apart c = columns_follow

pub returns-clause-as_many : goal.returns-clause-as_many
returns-clause-as_many c = λ sheet grid. as_many sheet grid 0 sheet.rows

pub returns-clause-rows : goal.returns-clause-rows
returns-clause-rows c = row_listed

pub returns-clause-rows_joined : goal.returns-clause-rows_joined
returns-clause-rows_joined c = λ sheet grid. rows_joined sheet grid 0 sheet.rows

is_crossed : (grid : ChartGridShape) (one : ChartEvent) (line : ℕ) (why : List ℕ) → is_turn one ≡ false →
    cross_of grid one line (Some why) ≢ []
is_crossed grid (event.Turn host) line why other = absurd (let is = other in cc)
is_crossed grid (event.Take from to stroke start) line why other = λ empty. cc
is_crossed grid (event.Act from to) line why other = λ empty. cc

pub returns-clause-crossed : goal.returns-clause-crossed
returns-clause-crossed c = is_crossed

pub returns-clause-not_crossed : goal.returns-clause-not_crossed
returns-clause-not_crossed c = λ grid one line. refl

turn_is_not : (grid : ChartGridShape) (one : ChartEvent) (line : ℕ) (ignored : Option (List ℕ)) → is_turn one ≡ true →
    cross_of grid one line ignored ≡ []
turn_is_not grid one line None is = refl
turn_is_not grid (event.Turn host) line (Some why) is = refl
turn_is_not grid (event.Take from to stroke start) line (Some why) is = absurd (let other = is in cc)
turn_is_not grid (event.Act from to) line (Some why) is = absurd (let other = is in cc)

pub returns-clause-turn_not_crossed : goal.returns-clause-turn_not_crossed
returns-clause-turn_not_crossed c = turn_is_not

pub returns-clause-take_tipped : goal.returns-clause-take_tipped
returns-clause-take_tipped c = λ columns places from to start ignored line. refl

pub returns-clause-act_tipped : goal.returns-clause-act_tipped
returns-clause-act_tipped c = λ columns from to ignored line. refl

pub returns-clause-tipped : goal.returns-clause-tipped
returns-clause-tipped c = λ right x y. λ empty. cc

pub returns-clause-not_tipped : goal.returns-clause-not_tipped
returns-clause-not_tipped c = λ right x y. refl

kept_has : (one : Mark) (who : List ℕ) (width : ℕ) → one ≡ mark.Kept → mark_text one who width ≡ check_text width
kept_has one who width is = ap (λ (m : Mark). mark_text m who width) is

pub returns-clause-kept : goal.returns-clause-kept
returns-clause-kept c = kept_has

only_kept : (one : Mark) (who : List ℕ) (width : ℕ) → mark_text one who width ≡ check_text width → one ≡ mark.Kept
only_kept mark.Plain who width is =
    let letter : 0 ≡ 112 = ap (λ (text : List ℕ). get_or text 1 0) is in absurd (omega (arith, letter))
only_kept mark.Kept who width is = refl
only_kept mark.Open who width is =
    let letter : 116 ≡ 112 = ap (λ (text : List ℕ). get_or text 1 0) is in absurd (omega (arith, letter))

pub returns-clause-not_kept : goal.returns-clause-not_kept
returns-clause-not_kept c = only_kept

pub returns-clause-legend : goal.returns-clause-legend
returns-clause-legend c = λ sheet place one there. kept_passes (occurs sheet) all_signs place one there

pub returns-clause-in_legend : goal.returns-clause-in_legend
returns-clause-in_legend c = λ sheet one is.
    let found = sign_there one in stays_kept (occurs sheet) all_signs found.0 one found.1 is

pub returns-clause-drawn : goal.returns-clause-drawn
returns-clause-drawn c = λ sheet stroke i row here is.
    let found = sign_there (sign.OfStroke stroke) in
    let some = some_passes (draws_stroke stroke) sheet.rows i row here is in
    stays_kept (occurs sheet) all_signs found.0 (sign.OfStroke stroke) found.1 (rw some refl)

pub returns-clause-bars : goal.returns-clause-bars
returns-clause-bars c = λ rows top end number y runs low high.
    bars_tell (top + 52) end y _ _ (in_order number (top + 52) (top + 70) rows (omega arith)) low high

pub returns-clause-escapes : goal.returns-clause-escapes
returns-clause-escapes c = λ text. (
  escaped (chars text),
  refl,
  c.drawing_laws.ensures.no_marks (chars text),
  c.drawing_laws.ensures.reads_back (chars text),
)

pub returns-clause-worked_arrow : goal.returns-clause-worked_arrow
returns-clause-worked_arrow c = refl

pub returns-clause-worked_legend : goal.returns-clause-worked_legend
returns-clause-worked_legend c = refl
