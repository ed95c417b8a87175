-- Ways of control and values, as lines from row to row.
use Rattle.std.specs.Prelude.{ℕ, ◌+◌, Bool, true, false, List, [], ◌∷◌, length, map, replicate, slice_index, slice_set}
use Rattle.plan_layout.specs.declared.lines.Line.{Line}
use Rattle.plan_ways.specs.declared.ends.Way.{Way}
use Rattle.plan_ways.specs.declared.ends.WayEnd.{WayEnd}
use Rattle.plan_ways.specs.declared.ends.WayEnd.TheVariants as way_end
use Rattle.plan_ways.specs.declared.ends.WayKind.{WayKind}
use Rattle.plan_ways.specs.declared.ends.WayKind.TheVariants as kind
use Rattle.plan_picture.specs.Rows.{rows_of}
use Rattle.plan_picture.specs.Sheets.{SheetShape}
use Rattle.plan_picture.specs.declared.rows.Row.{Row}
use Rattle.plan_picture.specs.declared.rows.Standing.{Standing}
use Rattle.plan_picture.specs.declared.rows.Standing.TheVariants as standing

-- ---- in which row things stand

-- the rows of the fields, of the statements and of the relays, by their numbers
pub record RowNumbers : Type 0 where
  pub fields : List ℕ
  pub statements : List ℕ
  pub relays : List ℕ

abbrev pub noted : RowNumbers → ℕ → Standing → RowNumbers
noted numbers row (standing.OfField field) =
    record numbers { fields = slice_set numbers.fields field.0 row }
noted numbers row (standing.OfStatement statement) =
    record numbers { statements = slice_set numbers.statements statement.0 row }
noted numbers row (standing.OfRelay relay) =
    record numbers { relays = slice_set numbers.relays relay.entry.0 row }

-- with those of these rows, of which the first has this number
abbrev pub noted_all : RowNumbers → ℕ → List Row → RowNumbers
noted_all numbers row [] = numbers
noted_all numbers row (one ∷ rows) = noted_all (noted numbers row one.standing) (row + 1) rows

-- where the first row has the heads
abbrev pub row_numbers : SheetShape → RowNumbers
row_numbers sheet =
    noted_all
    (record {
      fields = replicate (length sheet.code.fields) 0;
      statements = replicate (length sheet.texts) 0;
      relays = replicate (length sheet.code.entries) 0;
    })
    1 (rows_of sheet)

-- the row of an end: that of the heads for a host, and where there is no other
abbrev pub row_of : RowNumbers → WayEnd → ℕ
row_of numbers (way_end.Host host) = 0
row_of numbers (way_end.Field field) = slice_index numbers.fields field.0
row_of numbers (way_end.Statement statement) = slice_index numbers.statements statement.0
row_of numbers (way_end.Relay entry) = slice_index numbers.relays entry.0

-- ---- where in a row

abbrev pub is_relay : WayEnd → Bool
is_relay (way_end.Host host) = false
is_relay (way_end.Field field) = false
is_relay (way_end.Statement statement) = false
is_relay (way_end.Relay entry) = true

-- How far below the top of a row a way leaves it and enters it, so that ways of two kinds have no stroke along a row in
-- common, but for those into a relay.
abbrev pub leaves : WayKind → (relay : Bool) → ℕ
leaves kind.Get relay = 14
leaves kind.Set relay = 19
leaves kind.Forward false = 23
leaves kind.Forward true = 17
leaves kind.Back false = 26
leaves kind.Back true = 17
leaves kind.Go false = 29
leaves kind.Go true = 14
leaves kind.Sync false = 32
leaves kind.Sync true = 20

abbrev pub enters : WayKind → (relay : Bool) → ℕ
enters kind.Get false = 21
enters kind.Get true = 8
enters kind.Set false = 26
enters kind.Set true = 8
enters kind.Forward false = 17
enters kind.Forward true = 8
enters kind.Back false = 13
enters kind.Back true = 8
enters kind.Go false = 9
enters kind.Go true = 8
enters kind.Sync relay = 4

-- ---- what runs together

abbrev pub number_of_kind : WayKind → ℕ
number_of_kind kind.Get = 0
number_of_kind kind.Set = 1
number_of_kind kind.Forward = 2
number_of_kind kind.Sync = 3
number_of_kind kind.Go = 4
number_of_kind kind.Back = 5

-- values that are read of one field, and tokens that are given back from one statement, run together from where they
-- begin, and other ways of one kind to where they end
abbrev pub parts : WayKind → Bool
parts kind.Get = true
parts kind.Set = false
parts kind.Forward = false
parts kind.Sync = false
parts kind.Go = false
parts kind.Back = true

abbrev pub hub_row : (parting : Bool) → (begin end : ℕ) → ℕ
hub_row true begin end = begin
hub_row false begin end = end

abbrev pub line_of : RowNumbers → Way → Line
line_of numbers way = record {
  from = way.from;
  begin = row_of numbers way.begin;
  leaves = leaves way.kind (is_relay way.begin);
  to = way.to;
  end = row_of numbers way.end;
  enters = enters way.kind (is_relay way.end);
  hub = record {
    row = hub_row (parts way.kind) (row_of numbers way.begin) (row_of numbers way.end);
    kind = number_of_kind way.kind;
  };
}

abbrev pub lines_of : SheetShape → List Line
lines_of sheet = map (line_of (row_numbers sheet)) sheet.ways
