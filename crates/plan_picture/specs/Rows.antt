-- The rows of a picture. The first has the heads of the hosts. Behind it each field and each statement has a row, by
-- their numbers, and behind a statement each relay that stands there.
use Rattle.std.specs.Prelude.{ℕ, ◌+◌, ◌==◌, if◌then◌else◌, List, [], ◌∷◌, ◌++◌, filter, length, map, max}
use Rattle.drawing_text.specs.declared.spans.Span.{Span}
use Rattle.host_code.specs.Code.{CodeFieldShape}
use Rattle.need_labels.specs.Plan.{field_host, statement_host}
use Rattle.plan_ways.specs.declared.relays.Relay.{Relay}
use Rattle.statement_texts.specs.Texts.{StatementTextShape}
use Rattle.plan_picture.specs.Sheets.{SheetShape}
use Rattle.plan_picture.specs.Texts.{field_label, field_letters, indent, line_room, small_need, statement_letters}
use Rattle.plan_picture.specs.Texts.{wide_need}
use Rattle.plan_picture.specs.declared.rows.Row.{Row}
use Rattle.plan_picture.specs.declared.rows.Standing.{Standing}
use Rattle.plan_picture.specs.declared.rows.Standing.TheVariants as standing

abbrev pub field_row : SheetShape → ℕ → Row
field_row sheet number = record {
  standing = standing.OfField (record { 0 = number });
  host = field_host sheet.plan (record { 0 = number });
  before = 0;
  width =
      max (wide_need (length (field_letters sheet (record { 0 = number }))))
      (small_need (length (field_label sheet (record { 0 = number }))));
  blocks = 0;
}

-- the rows of the fields, of which the first has this number
abbrev pub field_rows : SheetShape → ℕ → List CodeFieldShape → List Row
field_rows sheet number [] = []
field_rows sheet number (field ∷ fields) = field_row sheet number ∷ field_rows sheet (number + 1) fields

-- the head of a method has more free before it
abbrev pub statement_row : SheetShape → ℕ → StatementTextShape → Row
statement_row sheet number text = record {
  standing = standing.OfStatement (record { 0 = number });
  host = statement_host sheet.plan (record { 0 = number });
  before = if text.blocks == 0 then 10 else 0;
  width = line_room sheet.lines + indent text + wide_need (length (statement_letters text));
  blocks = text.blocks;
}

abbrev pub relay_row : Relay → Row
relay_row relay = record {
  standing = standing.OfRelay relay;
  host = relay.host;
  before = 0;
  width = 0;
  blocks = 0;
}

-- the relays behind the statement of a number
abbrev pub relays_behind : ℕ → List Relay → List Relay
relays_behind number relays = filter (λ relay. relay.behind == number) relays

-- the rows of the statements, of which the first has this number, and of the relays behind them
abbrev pub statement_rows : SheetShape → ℕ → List StatementTextShape → List Row
statement_rows sheet number [] = []
statement_rows sheet number (text ∷ texts) =
    statement_row sheet number text ∷ (map relay_row (relays_behind number sheet.relays)
    ++ statement_rows sheet (number + 1) texts)

-- all rows behind the first
abbrev pub rows_of : SheetShape → List Row
rows_of sheet = field_rows sheet 0 sheet.code.fields ++ statement_rows sheet 0 sheet.texts

-- ---- heights

abbrev pub height_of : Standing → ℕ
height_of (standing.OfField field) = 40
height_of (standing.OfStatement statement) = 34
height_of (standing.OfRelay relay) = 22

abbrev pub span_of : Row → Span
span_of row = record { before = row.before; length = height_of row.standing; after = 8 }

abbrev pub heads : Span
heads = record { before = 0; length = 44; after = 12 }

abbrev pub spans_of : List Row → List Span
spans_of rows = heads ∷ map span_of rows
