-- The columns of a chart: one for each host, from left to right, with its lifeline in the middle. All lengths are in
-- pixels.
use Rattle.std.specs.Prelude.{ℕ, ◌+◌, ◌-◌, ◌*◌, ◌/◌, ◌==◌, nat_lt, Bool, true, false, ◌||◌, if◌then◌else◌}
use Rattle.std.specs.Prelude.{List, [], ◌∷◌, Option, Some, None, drop, length, max, min, slice_get, take, unwrap_or}
use Rattle.std.specs.Fmt.{decimal}
use Rattle.std.specs.List.{list_any}
use Rattle.drawing_text.specs.Widths.{small_width}
use Rattle.js_base.specs.declared.ids.HostId.{HostId}
use Rattle.run_chart.specs.Sheets.{ChartFlightShape, ChartHostShape, ChartRowShape, ChartSheetShape, ChartToldShape}
use Rattle.run_chart.specs.Texts.{letters_in}
use Rattle.run_chart.specs.declared.columns.ChartColumn.{ChartColumn}
use Rattle.run_chart.specs.declared.columns.ChartStand.{ChartStand}
use Rattle.run_chart.specs.declared.sheet.ChartEvent.{ChartEvent}
use Rattle.run_chart.specs.declared.sheet.ChartEvent.TheVariants as event

-- ---- who takes part

-- whether a host does something in an event
abbrev pub acts_in : ℕ → ChartEvent → Bool
acts_in number (event.Turn host) = host.0 == number
acts_in number (event.Take from to stroke start) = from.0 == number || to.0 == number
acts_in number (event.Act from to) = from.0 == number || to.0 == number

abbrev pub is_told : ℕ → Option ChartToldShape → Bool
is_told number None = false
is_told number (Some told) = told.to.0 == number

abbrev pub is_in_row : ℕ → ChartRowShape → Bool
is_in_row number row = acts_in number row.event || is_told number row.told

abbrev pub is_in_flight : ℕ → ChartFlightShape → Bool
is_in_flight number flight = flight.from.0 == number || flight.to.0 == number

-- A host is wide where it misbehaves, has a field, or takes part in an event or in a message in flight.
abbrev pub is_wide : ChartSheetShape → ℕ → ChartHostShape → Bool
is_wide sheet number host =
    host.misbehaves || nat_lt 0 (length host.fields) || list_any (is_in_row number) sheet.rows
    || list_any (is_in_flight number) sheet.flights

-- ---- where the columns are

-- a wide head has room for the label of its host
abbrev pub head_width : (label : List ℕ) → (wide : Bool) → ℕ
head_width label true = max 204 (16 + small_width (min (letters_in label) 46))
head_width label false = 52

abbrev pub stand_of : (left : ℕ) → (label : List ℕ) → (wide : Bool) → ChartStand
stand_of left label wide = record {
  left = left;
  middle = left + head_width label wide / 2;
  width = head_width label wide;
  wide = wide;
}

-- where the heads of these hosts stand, of which the first has this number and begins here, with 32 between them
abbrev pub stands_from : ChartSheetShape → (number left : ℕ) → List ChartHostShape → List ChartStand
stands_from sheet number left [] = []
stands_from sheet number left (host ∷ hosts) =
    stand_of left host.label (is_wide sheet number host)
    ∷ stands_from sheet (number + 1) (left + head_width host.label (is_wide sheet number host) + 32) hosts

-- what is 32 behind the last of these, and in any case not before this
abbrev pub end_of : ℕ → List ChartStand → ℕ
end_of least [] = least
end_of least (stand ∷ stands) = end_of (stand.left + stand.width + 32) stands

-- how many digits the number of the last line has, three at least
abbrev pub greatest_line : ℕ → List ChartRowShape → ℕ
greatest_line least [] = least
greatest_line least (row ∷ rows) = greatest_line (max least row.line) rows

abbrev pub digits_of : List ChartRowShape → ℕ
digits_of rows = max 3 (min (length (decimal (greatest_line 0 rows))) 20)

-- where the numbers of lines end, and where the first head begins
abbrev pub lines_of : ChartSheetShape → ℕ
lines_of sheet = 20 + 7 * digits_of sheet.rows

abbrev pub stands_of : ChartSheetShape → List ChartStand
stands_of sheet = stands_from sheet 0 (lines_of sheet + 14) sheet.hosts

-- ---- the way to the next lifeline

abbrev pub gap : ℕ → ℕ → ℕ
gap x other = if nat_lt x other then other - x else x - other

-- the way from here to the last wide lifeline of those to the left
abbrev pub way_before : (x way : ℕ) → List ChartStand → ℕ
way_before x way [] = way
way_before x way (stand ∷ stands) = way_before x (if stand.wide then gap x stand.middle else way) stands

-- the way from here to the first wide lifeline of those to the right
abbrev pub way_behind : (x : ℕ) → List ChartStand → ℕ
way_behind x [] = 200
way_behind x (stand ∷ stands) = if stand.wide then gap x stand.middle else way_behind x stands

-- where there is none, it is 200
abbrev pub column_of : List ChartStand → ℕ → ChartStand → ChartColumn
column_of stands number stand = record {
  left = stand.left;
  middle = stand.middle;
  width = stand.width;
  wide = stand.wide;
  before = way_before stand.middle 200 (take number stands);
  behind = way_behind stand.middle (drop (number + 1) stands);
}

abbrev pub columns_from : List ChartStand → ℕ → List ChartStand → List ChartColumn
columns_from all number [] = []
columns_from all number (stand ∷ stands) = column_of all number stand ∷ columns_from all (number + 1) stands

abbrev pub columns_of : ChartSheetShape → List ChartColumn
columns_of sheet = columns_from (stands_of sheet) 0 (stands_of sheet)

abbrev pub no_column : ChartColumn
no_column = record { left = 0; middle = 0; width = 0; wide = false; before = 0; behind = 0 }

-- that of the host of a number
abbrev pub column_at : List ChartColumn → ℕ → ChartColumn
column_at columns number = unwrap_or (slice_get columns number) no_column

-- the way to the next lifeline on a side
abbrev pub way_from : ChartColumn → (right : Bool) → ℕ
way_from column true = column.behind
way_from column false = column.before

-- ---- the notes, and the right end

-- the number of the last wide host, and the first one's where none is
abbrev pub last_wide : (found number : ℕ) → List ChartStand → ℕ
last_wide found number [] = found
last_wide found number (stand ∷ stands) = last_wide (if stand.wide then number else found) (number + 1) stands

abbrev pub is_turn_of : ℕ → ChartEvent → Bool
is_turn_of number (event.Turn host) = host.0 == number
is_turn_of number (event.Take from to stroke start) = false
is_turn_of number (event.Act from to) = false

-- the most letters of the instructions that a host ran, or more; each has 28 at most
abbrev pub longest_turn : (number least : ℕ) → List ChartRowShape → ℕ
longest_turn number least [] = least
longest_turn number least (row ∷ rows) =
    longest_turn number
    (if is_turn_of number row.event then max least (min (letters_in row.text) 28) else least) rows

abbrev pub middle_there : Option ChartStand → ℕ
middle_there None = 0
middle_there (Some stand) = stand.middle

abbrev pub middle_at : List ChartStand → ℕ → ℕ
middle_at stands number = middle_there (slice_get stands number)

-- The notes begin 58 behind the last head, and 14 behind the longest instruction of the last wide host.
abbrev pub notes_from : ChartSheetShape → (last : ℕ) → List ChartStand → ℕ
notes_from sheet last stands =
    max (end_of (lines_of sheet + 14) stands + 26)
    (middle_at stands last + 38 + small_width (longest_turn last 0 sheet.rows))

abbrev pub notes_of : ChartSheetShape → ℕ
notes_of sheet = notes_from sheet (last_wide 0 0 (stands_of sheet)) (stands_of sheet)

-- ---- who has a name

abbrev pub name_there : Option ChartHostShape → List ℕ
name_there None = []
name_there (Some host) = host.name

abbrev pub name_of : ChartSheetShape → HostId → List ℕ
name_of sheet host = name_there (slice_get sheet.hosts host.0)
