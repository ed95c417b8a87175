-- The bands and brackets of loops.
use Rattle.std.specs.Prelude.{ℕ, ◌+◌, ◌-◌, ◌*◌, ◌/◌, ◌^◌, ◌==◌, nat_le, Bool, true, false, if◌then◌else◌}
use Rattle.std.specs.Prelude.{List, [], ◌∷◌, ◌++◌, codes, Option, Some, None, max, min, slice_get, slice_index}
use Rattle.std.specs.Fmt.{decimal}
use Rattle.js_base.specs.declared.ids.StmtId.{StmtId}
use Rattle.plan_layout.specs.Places.{PlacesShape}
use Rattle.plan_ways.specs.declared.relays.RelayRole.TheVariants as role
use Rattle.statement_texts.specs.Texts.{StatementTextShape}
use Rattle.plan_picture.specs.Legend.{bracket_text, bracket_tip}
use Rattle.plan_picture.specs.Rows.{height_of}
use Rattle.plan_picture.specs.Sheets.{SheetShape}
use Rattle.plan_picture.specs.declared.loops.Ending.{Ending}
use Rattle.plan_picture.specs.declared.loops.Loop.{Loop}
use Rattle.plan_picture.specs.declared.rows.Row.{Row}
use Rattle.plan_picture.specs.declared.rows.Standing.{Standing}
use Rattle.plan_picture.specs.declared.rows.Standing.TheVariants as standing

-- ---- how deep loops are

-- in how many loops a loop is, of which 63 are told apart
abbrev pub depth_of : StatementTextShape → ℕ
depth_of text = min text.loops 63

-- how many loops are in each other
abbrev pub deepest : (least : ℕ) → List StatementTextShape → ℕ
deepest least [] = least
deepest least (text ∷ texts) = deepest (if text.begins_loop then max least (depth_of text + 1) else least) texts

-- what is left free to the left for the brackets of loops
abbrev pub margin_of : (deep : ℕ) → ℕ
margin_of deep = if deep == 0 then 20 else 28 + 18 * deep

-- ---- which rows are in a loop

-- whether a row is behind a loop that is in so many blocks
abbrev pub is_behind : (blocks : ℕ) → Standing → (own : ℕ) → Bool
is_behind blocks (standing.OfField field) own = true
is_behind blocks (standing.OfStatement statement) own = nat_le own blocks
is_behind blocks (standing.OfRelay relay) own = false

-- whether a row that is not behind it is in it: a statement is, and a relay where its entry is pushed from this
-- statement on
abbrev pub is_inside : (first : ℕ) → Standing → Bool
is_inside first (standing.OfField field) = false
is_inside first (standing.OfStatement statement) = true
is_inside first (standing.OfRelay relay) = nat_le first relay.pushed_by.0

-- The last row of a loop that is in so many blocks and begins at this statement: the last one so far, or one of these,
-- of which the first has this number.
abbrev pub last_in : (blocks first : ℕ) → Ending → (number : ℕ) → List Row → Ending
last_in blocks first last number [] = last
last_in blocks first last number (row ∷ rows) =
    if is_behind blocks row.standing row.blocks then last
    else last_in blocks first
    (if is_inside first row.standing then record { number = number; height = height_of row.standing } else last)
    (number + 1) rows

-- ---- their texts

-- from 4 above the row of a loop to 4 below its last row, and from its bracket to the right end
abbrev pub band_text : (x right top : ℕ) → (bottom : ℕ) → List ℕ
band_text x right top bottom =
    codes "<rect class='band' x='" ++ (decimal x ++ (codes "' y='" ++ (decimal (top - 4) ++ (codes "' width='"
    ++ (decimal (right - x) ++ (codes "' height='" ++ (decimal (bottom + 4 - (top - 4)) ++ codes "'/>\n")))))))

-- how many times a loop counts what is in it
abbrev pub factor_of : (depth : ℕ) → ℕ
factor_of depth = 8 ^ min (depth + 1) 6

abbrev pub loop_title : (statement : ℕ) → List ℕ
loop_title statement = codes "<g class='loop'><title>statement " ++ (decimal statement ++ codes ": a loop</title>")

abbrev pub factor_text : (x y depth : ℕ) → List ℕ
factor_text x y depth =
    codes "<text class='s' x='" ++ (decimal x ++ (codes "' y='" ++ (decimal y ++ (codes "'>x"
    ++ (decimal (factor_of depth) ++ codes "</text></g>\n")))))

-- from the middle of its last row back to its own
abbrev pub loop_text : (statement depth x top middle : ℕ) → List ℕ
loop_text statement depth x top middle =
    loop_title statement ++ (bracket_text (x + 12) middle (x + 4) (top + 17) (x + 8)
    ++ (bracket_tip (x + 15) (top + 17) ++ factor_text x (top + 9) depth))

-- ---- of all loops

abbrev pub loop_at : StmtId → (blocks number : ℕ) → StatementTextShape → List Row → Loop
loop_at statement blocks number text rows = record {
  statement = statement;
  depth = depth_of text;
  row = number;
  ending = last_in blocks statement.0 (record { number = number; height = 34 }) (number + 1) rows;
}

-- the loop that begins at a statement in the row of a number, before these rows
abbrev pub loop_of_text : StmtId → (blocks number : ℕ) → Option StatementTextShape → List Row → List Loop
loop_of_text statement blocks number None rows = []
loop_of_text statement blocks number (Some text) rows =
    if text.begins_loop then loop_at statement blocks number text rows ∷ [] else []

abbrev pub loop_of : SheetShape → ℕ → Standing → (blocks : ℕ) → List Row → List Loop
loop_of sheet number (standing.OfField field) blocks rows = []
loop_of sheet number (standing.OfStatement statement) blocks rows =
    loop_of_text statement blocks number (slice_get sheet.texts statement.0) rows
loop_of sheet number (standing.OfRelay relay) blocks rows = []

-- the loops that begin in these rows, of which the first has this number
abbrev pub loops_of : SheetShape → ℕ → List Row → List Loop
loops_of sheet number [] = []
loops_of sheet number (row ∷ rows) =
    loop_of sheet number row.standing row.blocks rows ++ loops_of sheet (number + 1) rows

abbrev pub loop_band : PlacesShape → (right : ℕ) → Loop → List ℕ
loop_band places right loop =
    band_text (20 + 18 * loop.depth) right (slice_index places.starts loop.row)
    (slice_index places.starts loop.ending.number + loop.ending.height)

abbrev pub loop_bracket : PlacesShape → Loop → List ℕ
loop_bracket places loop =
    loop_text loop.statement.0 loop.depth (24 + 18 * loop.depth) (slice_index places.starts loop.row)
    (slice_index places.starts loop.ending.number + loop.ending.height / 2)

abbrev pub bands_text : PlacesShape → (right : ℕ) → List Loop → List ℕ
bands_text places right [] = []
bands_text places right (loop ∷ loops) = loop_band places right loop ++ bands_text places right loops

abbrev pub brackets_text : PlacesShape → List Loop → List ℕ
brackets_text places [] = []
brackets_text places (loop ∷ loops) = loop_bracket places loop ++ brackets_text places loops

-- ---- a small case

abbrev pub sample_row : Standing → (blocks : ℕ) → Row
sample_row stands blocks = record {
  standing = stands;
  host = record { 0 = 0 };
  before = 0;
  width = 0;
  blocks = blocks;
}

abbrev pub sample_relay : (entry pushed_by : ℕ) → Standing
sample_relay entry pushed_by = standing.OfRelay (record {
  entry = record { 0 = entry };
  host = record { 0 = 0 };
  behind = 5;
  pushed_by = record { 0 = pushed_by };
  role = role.HandsOn;
})

-- a statement in a loop that begins at statement 4, two relays of which one is pushed before it, and one behind it
abbrev pub sample_rows : List Row
sample_rows =
    sample_row (standing.OfStatement (record { 0 = 5 })) 2 ∷ sample_row (sample_relay 9 4) 0
    ∷ sample_row (sample_relay 3 2) 0 ∷ sample_row (standing.OfStatement (record { 0 = 6 })) 1 ∷ []
