-- The foot of a chart: the messages that are in flight at the end, and the fields.
use Rattle.std.specs.Prelude.{ℕ, ◌+◌, ◌-◌, ◌*◌, List, [], ◌∷◌, ◌++◌, codes, min}
use Rattle.std.specs.Fmt.{decimal}
use Rattle.drawing_text.specs.Widths.{small_width, wide_room}
use Rattle.run_chart.specs.Arrows.{ahead, arrow_text, class_of_stroke, flight_arrow}
use Rattle.run_chart.specs.Columns.{column_at, name_of}
use Rattle.run_chart.specs.Events.{ChartGridShape}
use Rattle.run_chart.specs.Sheets.{ChartFieldShape, ChartFlightShape, ChartHostShape, ChartSheetShape}
use Rattle.run_chart.specs.Texts.{cut_text, letters_in, whole_text}
use Rattle.run_chart.specs.declared.arrows.ChartArrow.{ChartArrow}
use Rattle.run_chart.specs.declared.columns.ChartColumn.{ChartColumn}
use Rattle.run_chart.specs.declared.sheet.Mark.{Mark}
use Rattle.run_chart.specs.declared.sheet.Mark.TheVariants as mark

-- ---- messages in flight

-- a ring behind the end of the arrow, and a note
abbrev pub ring_text : (x y notes : ℕ) → List ℕ
ring_text x y notes =
    codes "<circle class='ring' cx='" ++ (decimal x ++ (codes "' cy='" ++ (decimal y
    ++ (codes "' r='3'/><text class='s d' x='" ++ (decimal notes ++ (codes "' y='" ++ (decimal (y + 4)
    ++ codes "'>in flight</text>\n")))))))

abbrev pub ring_of : ChartArrow → (notes : ℕ) → List ℕ
ring_of arrow notes = ring_text (ahead arrow.right arrow.end 3) arrow.line notes

abbrev pub drawn_flight : (from to : List ℕ) → ChartFlightShape → (notes : ℕ) → ChartArrow → List ℕ
drawn_flight from to flight notes arrow =
    arrow_text (class_of_stroke flight.stroke) (codes "in flight, ") from to flight.text arrow
    ++ (codes "\n" ++ ring_of arrow notes)

abbrev pub flight_text : ChartSheetShape → ChartGridShape → (line : ℕ) → ChartFlightShape → List ℕ
flight_text sheet grid line flight =
    drawn_flight (name_of sheet flight.from) (name_of sheet flight.to) flight grid.notes
    (flight_arrow grid.columns grid.places flight.from flight.to flight.start line)

-- these messages, of which the first has this number; the lines are 22 apart
abbrev pub flights_text : ChartSheetShape → ChartGridShape → (line number : ℕ) → List ChartFlightShape → List ℕ
flights_text sheet grid line number [] = []
flights_text sheet grid line number (flight ∷ flights) =
    flight_text sheet grid (line + 22 * number) flight ++ flights_text sheet grid line (number + 1) flights

-- ---- fields

abbrev pub class_of_mark : Mark → List ℕ
class_of_mark mark.Plain = codes "kept"
class_of_mark mark.Kept = codes "kept"
class_of_mark mark.Open = codes "open"

abbrev pub field_open : (class : List ℕ) → (x y width : ℕ) → List ℕ
field_open class x y width =
    codes "<svg class='" ++ (class ++ (codes "' x='" ++ (decimal x ++ (codes "' y='" ++ (decimal y
    ++ (codes "' width='" ++ (decimal width ++ codes "' height='30'><title>")))))))

-- what is known of the field
abbrev pub kept_text : List ℕ
kept_text = codes ": misbehaving hosts may not affect it"

abbrev pub open_text : (who : List ℕ) → List ℕ
open_text who = codes ": " ++ whole_text who

abbrev pub about_text : Mark → (who : List ℕ) → List ℕ
about_text mark.Plain who = []
about_text mark.Kept who = kept_text
about_text mark.Open who = open_text who

abbrev pub field_frame : (width : ℕ) → List ℕ
field_frame width =
    codes "</title><rect x='1' y='1' width='" ++ (decimal (width - 2) ++ codes "' height='28' rx='4'/>")

-- how much of the box is left to the check, or to who may affect the field, of whom 1,000 letters count
abbrev pub who_width : (who : List ℕ) → ℕ
who_width who = 16 + small_width (min (letters_in who) 1000)

abbrev pub side_width : Mark → (who : List ℕ) → ℕ
side_width mark.Plain who = 36
side_width mark.Kept who = 36
side_width mark.Open who = who_width who

abbrev pub value_text : (text : List ℕ) → (room : ℕ) → List ℕ
value_text text room = codes "<text class='b' x='8' y='19'>" ++ (cut_text text room ++ codes "</text>")

abbrev pub who_open : (x : ℕ) → List ℕ
who_open x = codes "<text class='s no p' x='" ++ (decimal x ++ codes "' y='19' text-anchor='end'>")

abbrev pub who_text : (who : List ℕ) → (width : ℕ) → List ℕ
who_text who width = who_open (width - 8) ++ (whole_text who ++ codes "</text>")

abbrev pub check_text : (width : ℕ) → List ℕ
check_text width = codes "<path class='mk' d='M" ++ (decimal (width - 22) ++ codes " 15l4 5 8-10'/>")

-- a check where no misbehaving host may affect the field, and otherwise who may
abbrev pub mark_text : Mark → (who : List ℕ) → (width : ℕ) → List ℕ
mark_text mark.Plain who width = []
mark_text mark.Kept who width = check_text width
mark_text mark.Open who width = who_text who width

abbrev pub field_title : ChartFieldShape → List ℕ
field_title field = whole_text field.text ++ about_text field.mark field.who

abbrev pub field_inside : ChartFieldShape → (width : ℕ) → List ℕ
field_inside field width =
    value_text field.text (wide_room (width - side_width field.mark field.who))
    ++ (mark_text field.mark field.who width ++ codes "</svg>\n")

abbrev pub field_text : (x y width : ℕ) → ChartFieldShape → List ℕ
field_text x y width field =
    field_open (class_of_mark field.mark) x y width ++ (field_title field ++ (field_frame width
    ++ field_inside field width))

-- these fields, below each other, of which the first has this number
abbrev pub fields_text : (x y width number : ℕ) → List ChartFieldShape → List ℕ
fields_text x y width number [] = []
fields_text x y width number (field ∷ fields) =
    field_text x (y + 36 * number) width field ++ fields_text x y width (number + 1) fields

-- the fields of these hosts below their columns; the first host has this number
abbrev pub foot_text : (y : ℕ) → List ChartColumn → (number : ℕ) → List ChartHostShape → List ℕ
foot_text y columns number [] = []
foot_text y columns number (host ∷ hosts) =
    fields_text (column_at columns number).left y (column_at columns number).width 0 host.fields
    ++ foot_text y columns (number + 1) hosts
