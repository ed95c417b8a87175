-- The parts of a picture, one behind the other.
use Rattle.std.proofs.Common.{◌≡◌, ℕ, ◌+◌, List, ◌++◌, ap, ◌∙◌, length, codes, map}
use Rattle.drawing_text.specs.declared.spans.Span.{Span}
use Rattle.plan_layout.specs.Columns as layout
use Rattle.plan_layout.specs.Columns.{ColumnsShape}
use Rattle.plan_layout.specs.Places.{PlacesShape, places_of}
use Rattle.plan_layout.specs.declared.lines.Line.{Line}
use Rattle.plan_ways.specs.declared.ends.Way.{Way}
use Rattle.plan_picture.specs.Boxes.{boxes_text, heads_text}
use Rattle.plan_picture.specs.Columns.{widths_of}
use Rattle.plan_picture.specs.Legend.{legend_of}
use Rattle.plan_picture.specs.Lines.{RowNumbers, line_of, lines_of, row_numbers}
use Rattle.plan_picture.specs.Loops.{bands_text, brackets_text, deepest, loops_of, margin_of}
use Rattle.plan_picture.specs.Paths.{Grid, ways_text}
use Rattle.plan_picture.specs.Picture.{boxes_of, front_text, lanes_text, middle_text, parts_text, picture_on, top_of}
use Rattle.plan_picture.specs.Picture.{columns_of, grid_of, width_of}
use Rattle.plan_picture.specs.Rows.{rows_of, spans_of}
use Rattle.plan_picture.specs.Sheets.{SheetShape}
use Rattle.plan_picture.specs.Texts.{line_room}
use Rattle.plan_picture.specs.declared.legend.Sign.{Sign}
use Rattle.plan_picture.specs.declared.loops.Loop.{Loop}
use Rattle.plan_picture.specs.declared.rows.Row.{Row}
use Rattle.plan_picture.proofs.Walks.{four_pieces, three_pieces}

pub middle_written : (sheet : SheetShape) (grid : Grid) (places : PlacesShape) (right : ℕ) (loops : List Loop)
    (ways : List Way) (start one two text : List ℕ) → places ≡ grid.places → right ≡ grid.columns.places.past →
    loops ≡ loops_of sheet 1 (rows_of sheet) → ways ≡ sheet.ways → one ≡ start ++ bands_text places right loops →
    two ≡ one ++ brackets_text places loops → text ≡ two ++ ways_text sheet grid ways →
    text ≡ start ++ middle_text sheet grid
unfolding middle_text
middle_written sheet grid places right loops ways start one two text places_are right_is loops_are ways_are first second
    third =
    three_pieces start (bands_text places right loops) (brackets_text places loops) (ways_text sheet grid ways) one two
    text first second third
    ∙ ap (λ (p : PlacesShape).
    start ++ (bands_text p right loops ++ (brackets_text p loops ++ ways_text sheet grid ways))) places_are
    ∙ ap (λ (r : ℕ).
    start ++ (bands_text grid.places r loops ++ (brackets_text grid.places loops ++ ways_text sheet grid ways)))
    right_is
    ∙ ap (λ (l : List Loop).
    start ++ (bands_text grid.places grid.columns.places.past l
    ++ (brackets_text grid.places l ++ ways_text sheet grid ways)))
    loops_are
    ∙ ap (λ (w : List Way).
    start ++ (bands_text grid.places grid.columns.places.past (loops_of sheet 1 (rows_of sheet))
    ++ (brackets_text grid.places (loops_of sheet 1 (rows_of sheet)) ++ ways_text sheet grid w)))
    ways_are

pub boxes_written : (sheet : SheetShape) (grid : Grid) (rows : List Row) (start one two text : List ℕ) →
    rows ≡ rows_of sheet → one ≡ start ++ heads_text sheet grid rows →
    two ≡ one ++ boxes_text sheet grid (line_room sheet.lines) 1 rows → text ≡ two ++ codes "</svg>\n" →
    text ≡ start ++ boxes_of sheet grid
unfolding boxes_of
boxes_written sheet grid rows start one two text rows_are first second third =
    three_pieces start (heads_text sheet grid rows) (boxes_text sheet grid (line_room sheet.lines) 1 rows)
    (codes "</svg>\n") one two text first second third
    ∙ ap (λ (r : List Row).
    start ++ (heads_text sheet grid r ++ (boxes_text sheet grid (line_room sheet.lines) 1 r ++ codes "</svg>\n")))
    rows_are

pub parts_written : (sheet : SheetShape) (grid : Grid) (columns : ColumnsShape) (past count : ℕ) (signs : List Sign)
    (width top : ℕ) (start one two three text : List ℕ) → columns ≡ grid.columns → past ≡ grid.places.past →
    count ≡ length sheet.code.hosts → one ≡ start ++ front_text sheet.cost width (past + 14) signs →
    two ≡ one ++ lanes_text columns top (past + 4) count → three ≡ two ++ middle_text sheet grid →
    text ≡ three ++ boxes_of sheet grid → text ≡ start ++ parts_text sheet grid signs width top
unfolding parts_text
parts_written sheet grid columns past count signs width top start one two three text columns_are past_is count_is first
    second third fourth =
    let behind = middle_text sheet grid ++ boxes_of sheet grid in
    four_pieces start (front_text sheet.cost width (past + 14) signs) (lanes_text columns top (past + 4) count)
    (middle_text sheet grid) (boxes_of sheet grid) one two three text first second third fourth
    ∙ ap (λ (c : ColumnsShape).
    start ++ (front_text sheet.cost width (past + 14) signs ++ (lanes_text c top (past + 4) count ++ behind)))
    columns_are
    ∙ ap (λ (p : ℕ).
    start ++ (front_text sheet.cost width (p + 14) signs ++ (lanes_text grid.columns top (p + 4) count ++ behind)))
    past_is
    ∙ ap (λ (n : ℕ).
    start ++ (front_text sheet.cost width (grid.places.past + 14) signs
    ++ (lanes_text grid.columns top (grid.places.past + 4) n ++ behind)))
    count_is

pub picture_written : (sheet : SheetShape) (grid : Grid) (columns : ColumnsShape) (signs : List Sign) (width top : ℕ)
    (start text : List ℕ) → columns ≡ grid.columns → width ≡ width_of columns → top ≡ top_of width (length signs) →
    text ≡ start ++ parts_text sheet grid signs width top → text ≡ start ++ picture_on sheet grid signs
picture_written sheet grid columns signs width top start text columns_are width_is top_is is =
    let whole_width = width_is ∙ ap (λ (c : ColumnsShape). width_of c) columns_are in
    is
    ∙ ap (λ (t : ℕ). start ++ parts_text sheet grid signs width t) top_is
    ∙ ap (λ (w : ℕ). start ++ parts_text sheet grid signs w (top_of w (length signs))) whole_width

pub plan_written : (sheet : SheetShape) (grid other : Grid) (signs legend : List Sign) (start text : List ℕ) →
    grid ≡ other → signs ≡ legend → text ≡ start ++ picture_on sheet grid signs →
    text ≡ start ++ picture_on sheet other legend
plan_written sheet grid other signs legend start text grids signs_are is =
    is ∙ ap (λ (g : Grid). start ++ picture_on sheet g signs) grids
    ∙ ap (λ (s : List Sign). start ++ picture_on sheet other s) signs_are

abbrev pub the_grid : RowNumbers → ColumnsShape → PlacesShape → Grid
the_grid numbers columns places = record { numbers = numbers; columns = columns; places = places }

-- columns and rows are where they are to be
pub grid_is : (sheet : SheetShape) (numbers : RowNumbers) (columns : ColumnsShape) (places : PlacesShape)
    (rows all : List Row) (signs : ℕ) (from : ℕ) (widths : List ℕ) (lines : List Line) (width top : ℕ)
    (spans : List Span) → rows ≡ rows_of sheet → all ≡ rows_of sheet → numbers ≡ row_numbers sheet →
    lines ≡ map (line_of numbers) sheet.ways → widths ≡ widths_of sheet rows →
    from ≡ margin_of (deepest 0 sheet.texts) → columns ≡ layout.columns_of from widths lines →
    width ≡ width_of columns → signs ≡ length (legend_of sheet) → top ≡ top_of width signs → spans ≡ spans_of all →
    places ≡ places_of top spans →
    the_grid numbers columns places ≡ grid_of sheet
grid_is sheet numbers columns places rows all signs from widths lines width top spans rows_are all_are numbers_are
    lines_are widths_are from_is columns_are width_is signs_are top_is spans_are places_are =
    let own_lines : lines ≡ lines_of sheet =
    lines_are ∙ ap (λ (n : RowNumbers). map (line_of n) sheet.ways) numbers_are in
    let own_widths : widths ≡ widths_of sheet (rows_of sheet) =
    widths_are ∙ ap (λ (r : List Row). widths_of sheet r) rows_are in
    let own_columns : columns ≡ columns_of sheet =
    columns_are
    ∙ ap (λ (f : ℕ). layout.columns_of f widths lines) from_is
    ∙ ap (λ (w : List ℕ). layout.columns_of (margin_of (deepest 0 sheet.texts)) w lines) own_widths
    ∙ ap (λ (l : List Line).
    layout.columns_of (margin_of (deepest 0 sheet.texts)) (widths_of sheet (rows_of sheet)) l) own_lines in
    let own_width : width ≡ width_of (columns_of sheet) =
    width_is ∙ ap (λ (c : ColumnsShape). width_of c) own_columns in
    let own_top : top ≡ top_of (width_of (columns_of sheet)) (length (legend_of sheet)) =
    top_is ∙ ap (λ (w : ℕ). top_of w signs) own_width
    ∙ ap (λ (s : ℕ). top_of (width_of (columns_of sheet)) s) signs_are in
    let own_spans : spans ≡ spans_of (rows_of sheet) = spans_are ∙ ap (λ (r : List Row). spans_of r) all_are in
    let own_places : places
    ≡ places_of (top_of (width_of (columns_of sheet)) (length (legend_of sheet))) (spans_of (rows_of sheet)) =
    places_are ∙ ap (λ (t : ℕ). places_of t spans) own_top
    ∙ ap (λ (s : List Span). places_of (top_of (width_of (columns_of sheet)) (length (legend_of sheet))) s) own_spans in
    ap (λ (n : RowNumbers). the_grid n columns places) numbers_are
    ∙ ap (λ (c : ColumnsShape). the_grid (row_numbers sheet) c places) own_columns
    ∙ ap (λ (p : PlacesShape). the_grid (row_numbers sheet) (columns_of sheet) p) own_places
