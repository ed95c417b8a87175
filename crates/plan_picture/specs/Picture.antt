-- The picture of a plan, as an SVG text.
use Rattle.std.specs.Prelude.{ℕ, ◌+◌, ◌-◌, ◌*◌, List, ◌++◌, codes, flat_map, length, max}
use Rattle.std.specs.Fmt.{decimal}
use Rattle.std.specs.List.{range_with_len}
use Rattle.drawing_text.specs.declared.style.TheConstants.{STYLE}
use Rattle.plan_layout.specs.Columns as layout
use Rattle.plan_layout.specs.Places.{places_of}
use Rattle.plan_picture.specs.Boxes.{boxes_text, heads_text}
use Rattle.plan_picture.specs.Columns.{widths_of}
use Rattle.plan_picture.specs.Legend.{cells_text, legend_lines, legend_of}
use Rattle.plan_picture.specs.Lines.{lines_of, row_numbers}
use Rattle.plan_picture.specs.Loops.{bands_text, brackets_text, deepest, loops_of, margin_of}
use Rattle.plan_picture.specs.Paths.{Grid, ways_text}
use Rattle.plan_picture.specs.Rows.{rows_of, spans_of}
use Rattle.plan_picture.specs.Sheets.{SheetShape}
use Rattle.plan_picture.specs.Texts.{line_room}
use Rattle.plan_picture.specs.declared.legend.Sign.{Sign}

-- ---- where all things are

abbrev pub columns_of : SheetShape → layout.ColumnsShape
columns_of sheet =
    layout.columns_of (margin_of (deepest 0 sheet.texts)) (widths_of sheet (rows_of sheet)) (lines_of sheet)

abbrev pub width_of : layout.ColumnsShape → ℕ
width_of columns = max (columns.places.past + 20) 480

-- the heads of the hosts begin below the legend
abbrev pub top_of : (width signs : ℕ) → ℕ
top_of width signs = 72 + 20 * legend_lines width signs

abbrev pub grid_of : SheetShape → Grid
grid_of sheet = record {
  numbers = row_numbers sheet;
  columns = columns_of sheet;
  places =
      places_of (top_of (width_of (columns_of sheet)) (length (legend_of sheet))) (spans_of (rows_of sheet));
}

-- ---- the parts of the text

abbrev pub first_text : (width height : ℕ) → List ℕ
first_text width height =
    codes "<svg xmlns='http://www.w3.org/2000/svg' width='" ++ (decimal width ++ (codes "' height='" ++ (decimal height
    ++ (codes "' viewBox='0 0 " ++ (decimal width ++ (codes " " ++ (decimal height ++ codes "'>\n")))))))

-- the title, and the colours and strokes
abbrev pub style_text : List ℕ
style_text = codes "<title>Where the parts of a program stand</title>\n" ++ STYLE.now

abbrev pub ground_text : (width height : ℕ) → List ℕ
ground_text width height =
    codes "<rect class='ground' width='" ++ (decimal width ++ (codes "' height='" ++ (decimal height
    ++ codes "'/>\n")))

abbrev pub messages_text : (cost : ℕ) → List ℕ
messages_text cost =
    codes "<text class='d p' x='20' y='46'>the messages of this plan cost " ++ (decimal cost ++ codes "</text>\n")

abbrev pub cost_text : (cost : ℕ) → List ℕ
cost_text cost = codes "<text class='t p' x='20' y='28'>Where the parts stand</text>" ++ messages_text cost

-- a light band behind the boxes of a host
abbrev pub lane_text : (x width top bottom : ℕ) → List ℕ
lane_text x width top bottom =
    codes "<rect class='lane' x='" ++ (decimal x ++ (codes "' y='" ++ (decimal top ++ (codes "' width='"
    ++ (decimal width ++ (codes "' height='" ++ (decimal (bottom - top) ++ codes "'/>\n")))))))

abbrev pub lane_of : layout.ColumnsShape → (top bottom number : ℕ) → List ℕ
lane_of columns top bottom number =
    lane_text (layout.left_of columns (record { 0 = number })) (layout.width_of columns (record { 0 = number })) top
    bottom

unfoldable pub lanes_text : layout.ColumnsShape → (top bottom count : ℕ) → List ℕ
lanes_text columns top bottom count = flat_map (lane_of columns top bottom) (range_with_len 0 count)

-- ---- the whole

-- the lines before the lanes
unfoldable pub front_text : (cost width height : ℕ) → List Sign → List ℕ
front_text cost width height signs =
    first_text width height ++ (style_text ++ (ground_text width height ++ (cost_text cost
    ++ cells_text width 0 signs)))

-- bands and brackets of loops, and the ways, which pass behind the boxes
unfoldable pub middle_text : SheetShape → Grid → List ℕ
middle_text sheet grid =
    bands_text grid.places grid.columns.places.past (loops_of sheet 1 (rows_of sheet))
    ++ (brackets_text grid.places (loops_of sheet 1 (rows_of sheet)) ++ ways_text sheet grid sheet.ways)

unfoldable pub boxes_of : SheetShape → Grid → List ℕ
boxes_of sheet grid =
    heads_text sheet grid (rows_of sheet)
    ++ (boxes_text sheet grid (line_room sheet.lines) 1 (rows_of sheet) ++ codes "</svg>\n")

-- 14 pixels are free behind the last row
unfoldable pub parts_text : SheetShape → Grid → List Sign → (width top : ℕ) → List ℕ
parts_text sheet grid signs width top =
    front_text sheet.cost width (grid.places.past + 14) signs
    ++ (lanes_text grid.columns top (grid.places.past + 4) (length sheet.code.hosts)
    ++ (middle_text sheet grid ++ boxes_of sheet grid))

abbrev pub picture_on : SheetShape → Grid → List Sign → List ℕ
picture_on sheet grid signs =
    parts_text sheet grid signs (width_of grid.columns) (top_of (width_of grid.columns) (length signs))

abbrev pub plan_text : SheetShape → List ℕ
plan_text sheet = picture_on sheet (grid_of sheet) (legend_of sheet)
