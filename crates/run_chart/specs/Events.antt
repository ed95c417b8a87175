-- What stands in a row of a chart.
use Rattle.std.specs.Prelude.{ℕ, ◌+◌, ◌-◌, Bool, true, false, not, List, [], ◌∷◌, ◌++◌, codes}
use Rattle.std.specs.Prelude.{Option, Some, None, max}
use Rattle.std.specs.Fmt.{decimal}
use Rattle.js_base.specs.declared.ids.HostId.{HostId}
use Rattle.run_chart.specs.Arrows.{act_arrow, act_text, ahead, arrow_text, class_of_stroke, is_right}
use Rattle.run_chart.specs.Arrows.{label_open, label_text, take_arrow, told_arrow}
use Rattle.run_chart.specs.Columns.{column_at, name_of}
use Rattle.run_chart.specs.Rows.{own_host, place_at}
use Rattle.run_chart.specs.Sheets.{ChartNoteShape, ChartRowShape, ChartSheetShape, ChartToldShape}
use Rattle.run_chart.specs.Texts.{letters_in, whole_text}
use Rattle.run_chart.specs.declared.arrows.ChartArrow.{ChartArrow}
use Rattle.run_chart.specs.declared.columns.ChartColumn.{ChartColumn}
use Rattle.run_chart.specs.declared.rows.ChartPlace.{ChartPlace}
use Rattle.run_chart.specs.declared.sheet.ChartEvent.{ChartEvent}
use Rattle.run_chart.specs.declared.sheet.ChartEvent.TheVariants as event

-- where all things are: the columns, the rows, where the numbers of lines end, and where the notes begin
pub record ChartGridShape : Type 0 where
  pub columns : List ChartColumn
  pub places : List ChartPlace
  pub lines : ℕ
  pub notes : ℕ

-- where the lifeline of a host is
abbrev pub middle_of : ChartGridShape → HostId → ℕ
middle_of grid host = (column_at grid.columns host.0).middle

-- ---- the line

abbrev pub line_text : (x y line : ℕ) → List ℕ
line_text x y line =
    codes "<text class='s d' x='" ++ (decimal x ++ (codes "' y='" ++ (decimal y ++ (codes "' text-anchor='end'>"
    ++ (decimal line ++ codes "</text>")))))

-- ---- the event

abbrev pub is_some : {X : Type 0} → Option X → Bool
is_some None = false
is_some (Some x) = true

-- an instruction stands 24 beside its lifeline
abbrev pub turn_text : (x y : ℕ) → (text : List ℕ) → List ℕ
turn_text x y text = label_text (codes "s") (x + 24) (y + 4) true text 28

-- an event on a line
abbrev pub event_text :
    ChartSheetShape → ChartGridShape → ChartEvent → (text : List ℕ) → (ignored : Bool) → (line : ℕ) → List ℕ
event_text sheet grid (event.Turn host) text ignored line = turn_text (middle_of grid host) line text
event_text sheet grid (event.Take from to stroke start) text ignored line =
    arrow_text (class_of_stroke stroke) [] (name_of sheet from) (name_of sheet to) text
    (take_arrow grid.columns grid.places from to start ignored line)
event_text sheet grid (event.Act from to) text ignored line =
    act_text (middle_of grid from) (name_of sheet from) (name_of sheet to) text
    (act_arrow grid.columns from to ignored line)

-- ---- the cross of a message that is ignored

abbrev pub cross_stroke : (x y : ℕ) → List ℕ
cross_stroke x y =
    codes "</title><path d='M" ++ (decimal x ++ (codes " " ++ (decimal y ++ codes "l9 9m0-9l-9 9'/></g>")))

abbrev pub cross_text : (x y : ℕ) → (why : List ℕ) → List ℕ
cross_text x y why = codes "<g class='x'><title>" ++ (whole_text why ++ cross_stroke x y)

-- 27 before the lifeline of the host that ignores it
abbrev pub cross_before : (from to : HostId) → (x line : ℕ) → (why : List ℕ) → List ℕ
cross_before from to x line why = cross_text (ahead (not (is_right from to)) x 27 - 4) (line - 4) why

abbrev pub cross_why : ChartGridShape → ChartEvent → (line : ℕ) → (why : List ℕ) → List ℕ
cross_why grid (event.Turn host) line why = []
cross_why grid (event.Take from to stroke start) line why = cross_before from to (middle_of grid to) line why
cross_why grid (event.Act from to) line why = cross_before from to (middle_of grid to) line why

abbrev pub cross_of : ChartGridShape → ChartEvent → (line : ℕ) → Option (List ℕ) → List ℕ
cross_of grid one line None = []
cross_of grid one line (Some why) = cross_why grid one line why

-- ---- what a misbehaving host is sent

abbrev pub circle_text : (x y : ℕ) → List ℕ
circle_text x y =
    codes "<g class='seen'><circle cx='" ++ (decimal x ++ (codes "' cy='" ++ (decimal y ++ codes "' r='8'/>")))

abbrev pub number_text : (x y number : ℕ) → List ℕ
number_text x y number =
    codes "<text class='s' x='" ++ (decimal x ++ (codes "' y='" ++ (decimal y
    ++ (codes "' text-anchor='middle'>" ++ (decimal number ++ codes "</text></g>")))))

abbrev pub seen_text : (x y number : ℕ) → List ℕ
seen_text x y number = circle_text x y ++ number_text x (y + 4) number

abbrev pub sent_text : (number : ℕ) → List ℕ
sent_text number = codes "sent " ++ (decimal number ++ codes ", ")

abbrev pub drawn_told : (from to : List ℕ) → ChartToldShape → ChartArrow → List ℕ
drawn_told from to told arrow =
    arrow_text (class_of_stroke told.stroke) (sent_text told.number) from to told.text arrow

-- the arrow and a circle with the number, on the second line of the row
abbrev pub told_text : ChartSheetShape → ChartGridShape → (own : HostId) → ChartPlace → ChartToldShape → List ℕ
told_text sheet grid own place told =
    drawn_told (name_of sheet own) (name_of sheet told.to) told (told_arrow grid.columns own told.to place)
    ++ seen_text (middle_of grid told.to) (place.line + 24) told.number

abbrev pub told_of : ChartSheetShape → ChartGridShape → (own : HostId) → ChartPlace → Option ChartToldShape → List ℕ
told_of sheet grid own place None = []
told_of sheet grid own place (Some told) = told_text sheet grid own place told

-- ---- the control stack

-- whether what is pushed or taken off stands to the right of the lifeline: where the arrow comes from the left
abbrev pub is_from_left : ChartEvent → Bool
is_from_left (event.Turn host) = false
is_from_left (event.Take from to stroke start) = is_right from to
is_from_left (event.Act from to) = is_right from to

abbrev pub tip_title : (tip : List ℕ) → List ℕ
tip_title tip = codes "<g><title>" ++ (whole_text tip ++ codes "</title>")

abbrev pub stack_text : (x y : ℕ) → (right : Bool) → ChartNoteShape → List ℕ
stack_text x y right stack =
    tip_title stack.tip ++ (label_open (codes "s push") (ahead right x 24) (y + 4) right
    ++ (whole_text stack.text ++ codes "</text></g>"))

abbrev pub stack_of : (x line : ℕ) → (right : Bool) → Option ChartNoteShape → List ℕ
stack_of x line right None = []
stack_of x line right (Some stack) = stack_text x line right stack

-- ---- the end

-- a double bar where the program halts
abbrev pub halt_bars : (x y next : ℕ) → List ℕ
halt_bars x y next =
    codes " has halted</title><path d='M" ++ (decimal x ++ (codes " " ++ (decimal y ++ (codes "h24M" ++ (decimal x
    ++ (codes " " ++ (decimal next ++ codes "h24'/></g>")))))))

abbrev pub halt_text : (name : List ℕ) → (x y : ℕ) → List ℕ
halt_text name x y =
    codes "<g class='halt'><title>" ++ (whole_text name ++ halt_bars x (y + 7) (y + 12))

abbrev pub halt_of : (name : List ℕ) → (x line : ℕ) → (halts : Bool) → List ℕ
halt_of name x line false = []
halt_of name x line true = halt_text name (x - 12) line

-- ---- the note

-- why a message is ignored goes before what the instruction is of
abbrev pub why_text : List ℕ → List ℕ
why_text why = codes "ignored: " ++ why

abbrev pub own_letters : Option ChartNoteShape → ℕ
own_letters None = 0
own_letters (Some note) = letters_in note.text

abbrev pub note_letters : (ignored : Option (List ℕ)) → Option ChartNoteShape → ℕ
note_letters (Some why) own = letters_in (why_text why)
note_letters None own = own_letters own

-- the most letters that a note has, or more
abbrev pub longest_note : (least : ℕ) → List ChartRowShape → ℕ
longest_note least [] = least
longest_note least (row ∷ rows) = longest_note (max least (note_letters row.ignored row.note)) rows

abbrev pub note_text : (class : List ℕ) → (x y : ℕ) → (text tip : List ℕ) → List ℕ
note_text class x y text tip =
    tip_title tip ++ (label_text class x (y + 4) true text 54 ++ codes "</g>")

abbrev pub own_note : (x line : ℕ) → Option ChartNoteShape → List ℕ
own_note x line None = []
own_note x line (Some note) = note_text (codes "s d") x line note.text note.tip

abbrev pub note_of : (x line : ℕ) → (ignored : Option (List ℕ)) → Option ChartNoteShape → List ℕ
note_of x line (Some why) own = note_text (codes "s no") x line (why_text why) (why_text why)
note_of x line None own = own_note x line own

-- ---- the row

unfoldable pub row_front : ChartSheetShape → ChartGridShape → ChartPlace → ChartRowShape → List ℕ
row_front sheet grid place row =
    line_text grid.lines (place.line + 4) row.line
    ++ (event_text sheet grid row.event row.text (is_some row.ignored) place.line
    ++ cross_of grid row.event place.line row.ignored)

unfoldable pub row_middle : ChartSheetShape → ChartGridShape → ChartPlace → ChartRowShape → List ℕ
row_middle sheet grid place row =
    told_of sheet grid (own_host row.event) place row.told
    ++ stack_of (middle_of grid (own_host row.event)) place.line (is_from_left row.event) row.stack

unfoldable pub row_back : ChartSheetShape → ChartGridShape → ChartPlace → ChartRowShape → List ℕ
row_back sheet grid place row =
    halt_of (name_of sheet (own_host row.event)) (middle_of grid (own_host row.event)) place.line row.halts
    ++ note_of grid.notes place.line row.ignored row.note

abbrev pub row_text : ChartSheetShape → ChartGridShape → ChartPlace → ChartRowShape → List ℕ
row_text sheet grid place row =
    row_front sheet grid place row ++ (row_middle sheet grid place row ++ (row_back sheet grid place row
    ++ codes "\n"))

-- these rows, of which the first has this number
abbrev pub rows_text : ChartSheetShape → ChartGridShape → (number : ℕ) → List ChartRowShape → List ℕ
rows_text sheet grid number [] = []
rows_text sheet grid number (row ∷ rows) =
    row_text sheet grid (place_at grid.places number) row ++ rows_text sheet grid (number + 1) rows
