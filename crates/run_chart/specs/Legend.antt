-- The legend of a chart: what its strokes and marks stand for, as far as they occur in it.
use Rattle.std.specs.Prelude.{ℕ, ◌+◌, ◌-◌, ◌*◌, ◌/◌, ◌%◌, ◌==◌, Bool, true, false, ◌||◌}
use Rattle.std.specs.Prelude.{List, [], ◌∷◌, ◌++◌, codes, filter, max, Option, Some, None}
use Rattle.std.specs.Fmt.{decimal}
use Rattle.std.specs.List.{list_any}
use Rattle.run_chart.specs.Arrows.{class_of_stroke, class_text}
use Rattle.run_chart.specs.Events.{is_some}
use Rattle.run_chart.specs.Sheets.{ChartFlightShape, ChartRowShape, ChartSheetShape, ChartToldShape}
use Rattle.run_chart.specs.declared.legend.ChartSign.{ChartSign}
use Rattle.run_chart.specs.declared.legend.ChartSign.TheVariants as sign
use Rattle.run_chart.specs.declared.sheet.ChartEvent.{ChartEvent}
use Rattle.run_chart.specs.declared.sheet.ChartEvent.TheVariants as event
use Rattle.run_chart.specs.declared.sheet.Stroke.{Stroke}
use Rattle.run_chart.specs.declared.sheet.Stroke.TheVariants as stroke

-- ---- what occurs

abbrev pub number_of_stroke : Stroke → ℕ
number_of_stroke stroke.Go = 0
number_of_stroke stroke.Back = 1
number_of_stroke stroke.Get = 2
number_of_stroke stroke.Set = 3
number_of_stroke stroke.Forward = 4
number_of_stroke stroke.Sync = 5
number_of_stroke stroke.Ack = 6

abbrev pub is_stroke : (one other : Stroke) → Bool
is_stroke one other = number_of_stroke other == number_of_stroke one

abbrev pub has_stroke : Stroke → ChartEvent → Bool
has_stroke one (event.Turn host) = false
has_stroke one (event.Take from to other start) = is_stroke one other
has_stroke one (event.Act from to) = false

abbrev pub tells_stroke : Stroke → Option ChartToldShape → Bool
tells_stroke one None = false
tells_stroke one (Some told) = is_stroke one told.stroke

abbrev pub draws_stroke : Stroke → ChartRowShape → Bool
draws_stroke one row = has_stroke one row.event || tells_stroke one row.told

abbrev pub flies_as : Stroke → ChartFlightShape → Bool
flies_as one flight = is_stroke one flight.stroke

abbrev pub is_act : ChartEvent → Bool
is_act (event.Turn host) = false
is_act (event.Take from to other start) = false
is_act (event.Act from to) = true

abbrev pub draws_act : ChartRowShape → Bool
draws_act row = is_act row.event

abbrev pub is_ignored : ChartRowShape → Bool
is_ignored row = is_some row.ignored

abbrev pub tells : ChartRowShape → Bool
tells row = is_some row.told

abbrev pub moves_stack : ChartRowShape → Bool
moves_stack row = is_some row.stack

abbrev pub occurs_stroke : ChartSheetShape → Stroke → Bool
occurs_stroke sheet one = list_any (draws_stroke one) sheet.rows || list_any (flies_as one) sheet.flights

-- bars occur in each chart
abbrev pub occurs : ChartSheetShape → ChartSign → Bool
occurs sheet (sign.OfStroke one) = occurs_stroke sheet one
occurs sheet sign.OfAct = list_any draws_act sheet.rows
occurs sheet sign.Cross = list_any is_ignored sheet.rows
occurs sheet sign.Seen = list_any tells sheet.rows
occurs sheet sign.Stack = list_any moves_stack sheet.rows
occurs sheet sign.Bars = true

abbrev pub all_signs : List ChartSign
all_signs =
    sign.OfStroke stroke.Go ∷ sign.OfStroke stroke.Back ∷ sign.OfStroke stroke.Get ∷ sign.OfStroke stroke.Set
    ∷ sign.OfStroke stroke.Forward ∷ sign.OfStroke stroke.Sync ∷ sign.OfStroke stroke.Ack ∷ sign.OfAct ∷ sign.Cross
    ∷ sign.Seen ∷ sign.Stack ∷ sign.Bars ∷ []

abbrev pub legend_of : ChartSheetShape → List ChartSign
legend_of sheet = filter (occurs sheet) all_signs

-- ---- where it stands

-- how many cells of the legend have room beside each other in a chart of a width
abbrev pub cells : ℕ → ℕ
cells width = max ((width - 40) / 340) 1

-- how many lines the legend has
abbrev pub legend_lines : (width signs : ℕ) → ℕ
legend_lines width signs = (signs + cells width - 1) / cells width

-- ---- its text

abbrev pub class_of_sign : ChartSign → List ℕ
class_of_sign (sign.OfStroke one) = class_of_stroke one
class_of_sign sign.OfAct = codes "act"
class_of_sign sign.Cross = codes "x"
class_of_sign sign.Seen = codes "seen"
class_of_sign sign.Stack = codes "push"
class_of_sign sign.Bars = codes "bar"

abbrev pub meaning_of_stroke : Stroke → List ℕ
meaning_of_stroke stroke.Go = codes "control goes on"
meaning_of_stroke stroke.Back = codes "control comes back: a token is used up"
meaning_of_stroke stroke.Get = codes "a field is asked for, or its value comes"
meaning_of_stroke stroke.Set = codes "a field is set"
meaning_of_stroke stroke.Forward = codes "a variable is sent"
meaning_of_stroke stroke.Sync = codes "an entry is pushed elsewhere"
meaning_of_stroke stroke.Ack = codes "a request is confirmed"

abbrev pub meaning_of : ChartSign → List ℕ
meaning_of (sign.OfStroke one) = meaning_of_stroke one
meaning_of sign.OfAct = codes "an act of a misbehaving host"
meaning_of sign.Cross = codes "ignored"
meaning_of sign.Seen = codes "what it was sent, by number"
meaning_of sign.Stack = codes "pushed on the control stack, taken off"
meaning_of sign.Bars = codes "a thread runs; waits for an answer"

-- a stroke with its tip
abbrev pub stroke_sample : (x y : ℕ) → List ℕ
stroke_sample x y =
    codes "<path d='M" ++ (decimal x ++ (codes " " ++ (decimal y ++ (codes "H" ++ (decimal (x + 26)
    ++ (codes "'/><path class='tip' d='M" ++ (decimal (x + 34) ++ (codes " " ++ (decimal y
    ++ codes "l-8-3.5v7z'/>")))))))))

abbrev pub cross_sample : (x y : ℕ) → List ℕ
cross_sample x y =
    codes "<path d='M" ++ (decimal (x + 12) ++ (codes " " ++ (decimal (y - 5) ++ codes "l9 9m0-9l-9 9'/>")))

abbrev pub seen_sample : (x y : ℕ) → List ℕ
seen_sample x y =
    codes "<circle cx='" ++ (decimal (x + 16) ++ (codes "' cy='" ++ (decimal y
    ++ (codes "' r='7'/><text class='s' x='" ++ (decimal (x + 16) ++ (codes "' y='" ++ (decimal (y + 4)
    ++ codes "' text-anchor='middle'>0</text>")))))))

abbrev pub stack_sample : (x y : ℕ) → List ℕ
stack_sample x y =
    codes "<text class='s push' x='" ++ (decimal x ++ (codes "' y='" ++ (decimal (y + 4) ++ codes "'>+e -e</text>")))

abbrev pub two_bars : (left top right high : ℕ) → List ℕ
two_bars left top right high =
    codes "<rect class='run' x='" ++ (decimal left ++ (codes "' y='" ++ (decimal top
    ++ (codes "' width='6' height='14'/><rect class='wait' x='" ++ (decimal right ++ (codes "' y='"
    ++ (decimal high ++ codes "' width='5' height='13'/>")))))))

abbrev pub bars_sample : (x y : ℕ) → List ℕ
bars_sample x y = two_bars (x + 6) (y - 7) (x + 20) (y - 6)

abbrev pub sample_of : ChartSign → (x y : ℕ) → List ℕ
sample_of (sign.OfStroke one) x y = stroke_sample x y
sample_of sign.OfAct x y = stroke_sample x y
sample_of sign.Cross x y = cross_sample x y
sample_of sign.Seen x y = seen_sample x y
sample_of sign.Stack x y = stack_sample x y
sample_of sign.Bars x y = bars_sample x y

abbrev pub meaning_text : (x y : ℕ) → List ℕ → List ℕ
meaning_text x y meaning =
    codes "</g><text class='d p' x='" ++ (decimal x ++ (codes "' y='" ++ (decimal y ++ (codes "'>" ++ (meaning
    ++ codes "</text>\n")))))

-- a sign at a place, with what it stands for
abbrev pub cell_text : ChartSign → (x y : ℕ) → List ℕ
cell_text one x y =
    class_text (class_of_sign one) ++ (sample_of one x y ++ meaning_text (x + 44) (y + 4) (meaning_of one))

-- the cell of a number in a chart of a width
abbrev pub numbered_cell : (width number : ℕ) → ChartSign → List ℕ
numbered_cell width number one =
    cell_text one (20 + 340 * (number % cells width)) (66 + 20 * (number / cells width))

-- the cells of these signs, of which the first has this number
abbrev pub cells_text : (width number : ℕ) → List ChartSign → List ℕ
cells_text width number [] = []
cells_text width number (one ∷ signs) = numbered_cell width number one ++ cells_text width (number + 1) signs
