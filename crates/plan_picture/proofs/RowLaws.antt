-- Rows are apart, and ways leave and enter within them.
use Rattle.std.proofs.Common.{◌≡◌, ◌<◌, ◌≤◌, ◌⊎◌, ℕ, suc, Bool, true, false, inl, inr}
use Rattle.std.proofs.Common.{List, [], ◌∷◌, Some, All, length, map, refl, ap, ◌∙◌, arith}
use Rattle.std.specs.Prelude.{option_map, slice_get}
use Rattle.std.proofs.lemmas.List.Elements.{All-cons, All-nil}
use Rattle.std.proofs.lemmas.List.FromFn.{length-map-range_with_len}
use Rattle.std.proofs.lemmas.Option.{slice_get-map}
use Rattle.drawing_text.specs.declared.spans.Span.{Span}
use Rattle.plan_layout.specs.Fits.{LineFits}
use Rattle.plan_ways.specs.declared.ends.Way.{Way}
use Rattle.plan_ways.specs.declared.ends.WayEnd.{WayEnd}
use Rattle.plan_ways.specs.declared.ends.WayEnd.TheVariants as way_end
use Rattle.plan_ways.specs.declared.ends.WayKind.{WayKind}
use Rattle.plan_ways.specs.declared.ends.WayKind.TheVariants as kind
use Rattle.plan_picture.specs.Columns.{width_of, widths_of}
use Rattle.plan_picture.specs.Lines.{enters, is_relay, leaves, line_of, row_numbers, row_of}
use Rattle.plan_picture.specs.Rows.{heads, height_of, rows_of, span_of, spans_of}
use Rattle.plan_picture.specs.Sheets.{SheetShape}
use Rattle.plan_picture.specs.Shown.{is_shown}
use Rattle.plan_picture.specs.declared.rows.Row.{Row}
use Rattle.plan_picture.specs.declared.rows.Standing.{Standing}
use Rattle.plan_picture.specs.declared.rows.Standing.TheVariants as standing
use Rattle.plan_picture.proofs.Noted.{shown_there}

abbrev IsFree : Span → Type 0
IsFree span = 8 ≤ span.after

rows_free : (rows : List Row) → All IsFree (map span_of rows)
rows_free [] = All-nil IsFree
rows_free (row ∷ rows) = All-cons IsFree (span_of row) (map span_of rows) (omega arith) (rows_free rows)

pub all_free : (rows : List Row) → All (λ span. 8 ≤ span.after) (spans_of rows)
all_free rows = All-cons IsFree heads (map span_of rows) (omega arith) (rows_free rows)

pub as_many_widths : (sheet : SheetShape) (rows : List Row) → length (widths_of sheet rows) ≡ length sheet.code.hosts
as_many_widths sheet rows =
    length-map-range_with_len (λ number. width_of sheet rows (record { 0 = number })) 0 (length sheet.code.hosts)

-- what leaves a row and enters it does so within its height
least_height : (end : WayEnd) (one : Standing) → is_shown end one ≡ true →
    ((is_relay end ≡ true) × (height_of one ≡ 22)) ⊎ ((is_relay end ≡ false) × (34 ≤ height_of one))
least_height (way_end.Field field) (standing.OfField other) shown = inr (refl, omega arith)
least_height (way_end.Statement statement) (standing.OfStatement other) shown = inr (refl, omega arith)
least_height (way_end.Relay entry) (standing.OfRelay relay) shown = inl (refl, refl)
least_height (way_end.Host host) one shown = absurd (let no : false ≡ true = shown in cc)
least_height (way_end.Field field) (standing.OfStatement other) shown = absurd (let no : false ≡ true = shown in cc)
least_height (way_end.Field field) (standing.OfRelay other) shown = absurd (let no : false ≡ true = shown in cc)
least_height (way_end.Statement field) (standing.OfField other) shown = absurd (let no : false ≡ true = shown in cc)
least_height (way_end.Statement field) (standing.OfRelay other) shown = absurd (let no : false ≡ true = shown in cc)
least_height (way_end.Relay field) (standing.OfField other) shown = absurd (let no : false ≡ true = shown in cc)
least_height (way_end.Relay field) (standing.OfStatement other) shown = absurd (let no : false ≡ true = shown in cc)

leaves_most : (one : WayKind) → (leaves one true ≤ 20) × (leaves one false ≤ 32)
leaves_most kind.Get = (omega arith, omega arith)
leaves_most kind.Set = (omega arith, omega arith)
leaves_most kind.Forward = (omega arith, omega arith)
leaves_most kind.Sync = (omega arith, omega arith)
leaves_most kind.Go = (omega arith, omega arith)
leaves_most kind.Back = (omega arith, omega arith)

enters_most : (one : WayKind) (relay : Bool) → (4 ≤ enters one relay) × (enters one true ≤ 8) × (enters one relay ≤ 26)
enters_most kind.Get true = (omega arith, omega arith, omega arith)
enters_most kind.Get false = (omega arith, omega arith, omega arith)
enters_most kind.Set true = (omega arith, omega arith, omega arith)
enters_most kind.Set false = (omega arith, omega arith, omega arith)
enters_most kind.Forward true = (omega arith, omega arith, omega arith)
enters_most kind.Forward false = (omega arith, omega arith, omega arith)
enters_most kind.Sync relay = (omega arith, omega arith, omega arith)
enters_most kind.Go true = (omega arith, omega arith, omega arith)
enters_most kind.Go false = (omega arith, omega arith, omega arith)
enters_most kind.Back true = (omega arith, omega arith, omega arith)
enters_most kind.Back false = (omega arith, omega arith, omega arith)

-- at most 22 pixels are 22, and 32 fit too where it is higher
fits_within : (f : Bool → ℕ) (end : WayEnd) (one : Standing) → is_shown end one ≡ true → f true ≤ 22 → f false ≤ 34 →
    f (is_relay end) ≤ height_of one
fits_within f end one shown low high = elim (least_height end one shown) [
  | inl relay ↦ rw relay.0 (omega (arith, relay.1, low))
  | inr other ↦ rw other.0 (omega (arith, other.1, high))
]

span_there : (rows : List Row) (place : ℕ) (row : Row) → slice_get rows place ≡ Some row →
    slice_get (spans_of rows) (suc place) ≡ Some (span_of row)
span_there rows place row there = slice_get-map span_of rows place ∙ ap (option_map span_of) there

-- the span of the row in which a way begins or ends
pub record RowSpan (sheet : SheetShape) (end : WayEnd) : Type 0 where
  pub span : Span
  pub there : slice_get (spans_of (rows_of sheet)) (row_of (row_numbers sheet) end) ≡ Some span
  pub high : (f : Bool → ℕ) → f true ≤ 22 → f false ≤ 34 → f (is_relay end) ≤ span.length

below : (f : Bool → ℕ) (relay : Bool) → f true ≤ 22 → f false ≤ 34 → f relay ≤ 44
below f true low high = omega (arith, low)
below f false low high = omega (arith, high)

pub span_of_end : (sheet : SheetShape) (end : WayEnd) →
    RowSpan sheet end
span_of_end sheet end = elim (shown_there sheet end) [
  | inl shows ↦
      let counted = shows.counted in
      let behind : row_of (row_numbers sheet) end ≡ suc shows.place = omega (arith, counted) in
      record {
        span = span_of shows.row;
        there =
            ap (slice_get (spans_of (rows_of sheet))) behind
            ∙ span_there (rows_of sheet) shows.place shows.row shows.there;
        high = λ f low high. fits_within f end shows.row.standing shows.shown low high;
      }
  | inr none ↦ record {
    span = heads;
    there = ap (slice_get (spans_of (rows_of sheet))) none;
    high = λ f low high. below f (is_relay end) low high;
  }
]

-- a way fits the columns and the rows of its picture
pub way_fits : (sheet : SheetShape) (way : Way) → way.to.0 < length sheet.code.hosts →
    LineFits (widths_of sheet (rows_of sheet)) (spans_of (rows_of sheet)) (line_of (row_numbers sheet) way)
way_fits sheet way within =
    let first = span_of_end sheet way.begin in
    let last = span_of_end sheet way.end in
    let out = leaves_most way.kind in
    let back = enters_most way.kind true in
    let forth = enters_most way.kind false in
    record {
      first = first.span;
      last = last.span;
      column = omega (arith, within, as_many_widths sheet (rows_of sheet));
      begins = first.there;
      leaves = first.high (leaves way.kind) (omega (arith, out.0)) (omega (arith, out.1));
      ends = last.there;
      enters = last.high (enters way.kind) (omega (arith, back.1)) (omega (arith, forth.2));
      tip = (enters_most way.kind (is_relay way.end)).0;
    }
