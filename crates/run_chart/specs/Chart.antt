-- The chart of a run, as an SVG text.
use Rattle.std.specs.Prelude.{ℕ, ◌+◌, ◌-◌, ◌*◌, ◌%◌, ◌==◌, Bool, true, false, if◌then◌else◌}
use Rattle.std.specs.Prelude.{List, [], ◌∷◌, ◌++◌, codes, length, max, min, Option, Some, None, slice_get}
use Rattle.std.specs.Fmt.{decimal}
use Rattle.drawing_text.specs.Widths.{small_width}
use Rattle.run_chart.specs.Bars.{all_bars, moments_from}
use Rattle.run_chart.specs.Columns.{column_at, columns_of, lines_of, notes_of}
use Rattle.run_chart.specs.Events.{ChartGridShape, longest_note, rows_text}
use Rattle.run_chart.specs.Foot.{flights_text, foot_text}
use Rattle.run_chart.specs.Heads.{heads_text, lives_text}
use Rattle.run_chart.specs.Legend.{cells_text, legend_lines, legend_of}
use Rattle.run_chart.specs.Rows.{past_of, places_from}
use Rattle.run_chart.specs.Sheets.{ChartHostShape, ChartSheetShape}
use Rattle.run_chart.specs.Texts.{whole_text}
use Rattle.run_chart.specs.declared.style.TheConstants.{CHART_STYLE}
use Rattle.run_chart.specs.declared.chart.ChartFrame.{ChartFrame}
use Rattle.run_chart.specs.declared.legend.ChartSign.{ChartSign}
use Rattle.run_chart.specs.declared.rows.ChartPlace.{ChartPlace}

-- ---- where all things are

-- 20 behind the longest note, of which 54 letters count
abbrev pub chart_width : (notes longest : ℕ) → ℕ
chart_width notes longest = max (notes + small_width (min longest 54) + 20) 480

abbrev pub width_of : ChartSheetShape → ℕ
width_of sheet = chart_width (notes_of sheet) (longest_note 0 sheet.rows)

-- the heads begin below the legend
abbrev pub top_of : (width signs : ℕ) → ℕ
top_of width signs = 72 + 20 * legend_lines width signs

-- the most fields of a host, one at least
abbrev pub most_fields : (least : ℕ) → List ChartHostShape → ℕ
most_fields least [] = least
most_fields least (host ∷ hosts) = most_fields (max least (length host.fields)) hosts

-- The bars end 6 behind the last row and the messages in flight, of which each has 22, and the foot begins 16 further.
-- The chart ends 26 behind the most fields, of which each has 36.
abbrev pub frame_from : (width top past flights most : ℕ) → ChartFrame
frame_from width top past flights most = record {
  width = width;
  top = top;
  past = past;
  end = past + 6 + 22 * flights;
  foot = past + 22 + 22 * flights;
  height = past + 48 + 22 * flights + 36 * most;
}

abbrev pub frame_on : ChartSheetShape → (width top : ℕ) → ChartFrame
frame_on sheet width top =
    frame_from width top (past_of (top + 70) sheet.rows) (length sheet.flights) (most_fields 1 sheet.hosts)

abbrev pub frame_of : ChartSheetShape → ChartFrame
frame_of sheet = frame_on sheet (width_of sheet) (top_of (width_of sheet) (length (legend_of sheet)))

-- the rows begin 26 below the heads, which are 44 high
abbrev pub grid_of : ChartSheetShape → (top : ℕ) → ChartGridShape
grid_of sheet top = record {
  columns = columns_of sheet;
  places = places_from (top + 70) sheet.rows;
  lines = lines_of sheet;
  notes = notes_of sheet;
}

-- ---- the title

abbrev pub first_text : (width height : ℕ) → List ℕ
first_text width height =
    codes "<svg xmlns='http://www.w3.org/2000/svg' width='" ++ (decimal width ++ (codes "' height='" ++ (decimal height
    ++ (codes "' viewBox='0 0 " ++ (decimal width ++ (codes " " ++ (decimal height ++ codes "'>\n")))))))

-- the colours and strokes
abbrev pub style_text : List ℕ
style_text = codes "<title>A run of the hosts</title>\n" ++ CHART_STYLE.now

abbrev pub ground_text : (width height : ℕ) → List ℕ
ground_text width height =
    codes "<rect class='ground' width='" ++ (decimal width ++ (codes "' height='" ++ (decimal height
    ++ codes "'/>\n")))

-- the names of the hosts that misbehave, with commas between them
abbrev pub comma_text : (first : Bool) → List ℕ
comma_text true = []
comma_text false = codes ", "

abbrev pub name_text : (first : Bool) → (name : List ℕ) → List ℕ
name_text first name = comma_text first ++ whole_text name

abbrev pub names_text : (first : Bool) → List ChartHostShape → List ℕ
names_text first [] = []
names_text first (host ∷ hosts) =
    if host.misbehaves then name_text first host.name ++ names_text false hosts
    else names_text first hosts

abbrev pub how_many : (before : ℕ) → List ChartHostShape → ℕ
how_many before [] = before
how_many before (host ∷ hosts) = how_many (if host.misbehaves then before + 1 else before) hosts

abbrev pub verb_text : (hosts : ℕ) → List ℕ
verb_text hosts =
    if hosts == 0 then [] else (if hosts == 1 then codes " misbehaves; " else codes " misbehave; ")

abbrev pub halted_text : (halted : Bool) → List ℕ
halted_text true = codes " events, the program has halted</text>\n"
halted_text false = codes " events, the program has not halted</text>\n"

abbrev pub events_text : (events : ℕ) → (halted : Bool) → List ℕ
events_text events halted = decimal events ++ halted_text halted

abbrev pub told_title : List ℕ
told_title =
    codes "<text class='t p' x='20' y='28'>A run of the hosts</text><text class='d p' x='20' y='46'>"

unfoldable pub head_line : ChartSheetShape → List ℕ
head_line sheet =
    told_title ++ (names_text true sheet.hosts ++ (verb_text (how_many 0 sheet.hosts)
    ++ events_text (length sheet.rows) sheet.halted))

-- ---- behind the rows

abbrev pub rule_text : (y right : ℕ) → List ℕ
rule_text y right =
    codes "<path class='rule' d='M20 " ++ (decimal y ++ (codes "H" ++ (decimal right ++ codes "'/>\n")))

-- a rule behind each fifth row
abbrev pub rule_where : (fifth : Bool) → (y right : ℕ) → List ℕ
rule_where false y right = []
rule_where true y right = rule_text y right

abbrev pub rules_text : (right number : ℕ) → List ChartPlace → List ℕ
rules_text right number [] = []
rules_text right number (place ∷ places) =
    rule_where (number % 5 == 4) place.end right ++ rules_text right (number + 1) places

-- the entry with which the root begins, unless it misbehaves
abbrev pub entry_text : (x y : ℕ) → List ℕ
entry_text x y =
    codes "<text class='s push' x='" ++ (decimal x ++ (codes "' y='" ++ (decimal y
    ++ codes "' text-anchor='end'>+e0</text>\n")))

abbrev pub misbehaves_there : Option ChartHostShape → Bool
misbehaves_there None = false
misbehaves_there (Some host) = host.misbehaves

abbrev pub entry_where : (misbehaves : Bool) → (x y : ℕ) → List ℕ
entry_where true x y = []
entry_where false x y = entry_text (x - 24) y

abbrev pub start_text : ChartSheetShape → ChartGridShape → (y : ℕ) → List ℕ
start_text sheet grid y =
    entry_where (misbehaves_there (slice_get sheet.hosts sheet.root.0)) (column_at grid.columns sheet.root.0).middle y

-- ---- the whole

unfoldable pub front_text : ChartSheetShape → ChartFrame → List ChartSign → List ℕ
front_text sheet frame signs =
    first_text frame.width frame.height ++ (style_text ++ (ground_text frame.width frame.height
    ++ (head_line sheet ++ cells_text frame.width 0 signs)))

-- lifelines, rules and bars, which pass behind the rows
unfoldable pub behind_text : ChartSheetShape → ChartGridShape → ChartFrame → List ℕ
behind_text sheet grid frame =
    lives_text (frame.top + 44) frame.foot grid.columns 0 sheet.hosts
    ++ (rules_text (frame.width - 20) 0 grid.places
    ++ (all_bars (frame.top + 52) frame.end grid.columns (moments_from grid.places 0 sheet.rows) 0 sheet.hosts
    ++ start_text sheet grid (frame.top + 62)))

unfoldable pub foot_part : ChartSheetShape → ChartGridShape → ChartFrame → List ℕ
foot_part sheet grid frame =
    flights_text sheet grid (frame.past + 20) 0 sheet.flights
    ++ (heads_text frame.top grid.columns 0 sheet.hosts ++ (foot_text frame.foot grid.columns 0 sheet.hosts
    ++ codes "</svg>\n"))

unfoldable pub chart_on : ChartSheetShape → ChartGridShape → ChartFrame → List ChartSign → List ℕ
chart_on sheet grid frame signs =
    front_text sheet frame signs ++ (behind_text sheet grid frame ++ (rows_text sheet grid 0 sheet.rows
    ++ foot_part sheet grid frame))

abbrev pub chart_text : ChartSheetShape → List ℕ
chart_text sheet =
    chart_on sheet (grid_of sheet (frame_of sheet).top) (frame_of sheet) (legend_of sheet)
