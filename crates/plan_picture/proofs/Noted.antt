-- The row of an end is a row that shows it, or that of the heads.
use Rattle.std.proofs.Common.{◌≡◌, ◌≢◌, ◌≤◌, ◌+◌, ◌⊎◌, ℕ, suc, zero, Bool, true, false, inl, inr}
use Rattle.std.proofs.Common.{List, [], ◌∷◌, Some, length, replicate, refl, sym, ◌∙◌, arith}
use Rattle.std.specs.Prelude.{◌==◌, slice_get, slice_index, slice_set}
use Rattle.std.proofs.lemmas.Bool.{cases_lt, eq-eqb, eqb-true}
use Rattle.std.proofs.lemmas.Grind.{get_or-set_at}
use Rattle.std.proofs.lemmas.List.{get_or-replicate, get_or-set_other, length-replicate, length-set}
use Rattle.plan_ways.specs.declared.ends.WayEnd.{WayEnd}
use Rattle.plan_ways.specs.declared.ends.WayEnd.TheVariants as way_end
use Rattle.plan_picture.specs.Lines.{RowNumbers, noted, noted_all, row_numbers, row_of}
use Rattle.plan_picture.specs.Rows.{rows_of}
use Rattle.plan_picture.specs.Sheets.{SheetShape}
use Rattle.plan_picture.specs.Shown.{is_shown}
use Rattle.plan_picture.specs.declared.rows.Row.{Row}
use Rattle.plan_picture.specs.declared.rows.Standing.{Standing}
use Rattle.plan_picture.specs.declared.rows.Standing.TheVariants as standing

true_or_false : (b : Bool) → (b ≡ true) ⊎ (b ≡ false)
true_or_false true = inl refl
true_or_false false = inr refl

past_default : (xs : List ℕ) (i : ℕ) → length xs ≤ i → slice_index xs i ≡ 0
past_default [] i past = refl
past_default (x ∷ xs) zero past = absurd (omega (arith, past))
past_default (x ∷ xs) (suc i) past = past_default xs i (omega (arith, past))

-- what is read at a place after one was set
read_set : (xs : List ℕ) (place value at : ℕ) →
    ((slice_index (slice_set xs place value) at ≡ value) × ((at == place) ≡ true))
    ⊎ (slice_index (slice_set xs place value) at ≡ slice_index xs at)
read_set xs place value at = elim (true_or_false (at == place)) [
  | inl same ↦
      let is : at ≡ place = eqb-true at place same in
      elim (cases_lt at (length xs)) [
        | inl within ↦ inl (get_or-set_at xs place at value 0 is (omega (arith, within, is)), same)
        | inr past ↦
            let longer : length (slice_set xs place value) ≤ at = omega (arith, past, length-set xs place value) in
            inr (past_default (slice_set xs place value) at longer ∙ sym (past_default xs at past))
      ]
  | inr differ ↦
      let apart : at ≢ place = λ is. let no = eq-eqb at place is in cc in
      inr (get_or-set_other xs place at value 0 apart)
]

-- one row was noted
noted_one : (numbers : RowNumbers) (row : ℕ) (one : Standing) (end : WayEnd) →
    ((row_of (noted numbers row one) end ≡ row) × (is_shown end one ≡ true))
    ⊎ (row_of (noted numbers row one) end ≡ row_of numbers end)
noted_one numbers row (standing.OfField field) (way_end.Host host) = inr refl
noted_one numbers row (standing.OfField field) (way_end.Field other) =
    read_set numbers.fields field.0 row other.0
noted_one numbers row (standing.OfField field) (way_end.Statement other) = inr refl
noted_one numbers row (standing.OfField field) (way_end.Relay other) = inr refl
noted_one numbers row (standing.OfStatement statement) (way_end.Host host) = inr refl
noted_one numbers row (standing.OfStatement statement) (way_end.Field other) = inr refl
noted_one numbers row (standing.OfStatement statement) (way_end.Statement other) =
    read_set numbers.statements statement.0 row other.0
noted_one numbers row (standing.OfStatement statement) (way_end.Relay other) = inr refl
noted_one numbers row (standing.OfRelay relay) (way_end.Host host) = inr refl
noted_one numbers row (standing.OfRelay relay) (way_end.Field other) = inr refl
noted_one numbers row (standing.OfRelay relay) (way_end.Statement other) = inr refl
noted_one numbers row (standing.OfRelay relay) (way_end.Relay other) =
    read_set numbers.relays relay.entry.0 row other.0

-- a row that shows an end, where the rows from a number on begin
pub record Shows (rows : List Row) (first : ℕ) (end : WayEnd) (number : ℕ) : Type 0 where
  pub place : ℕ
  pub row : Row
  pub there : slice_get rows place ≡ Some row
  pub shown : is_shown end row.standing ≡ true
  pub counted : number ≡ first + place

noted_shows : (numbers : RowNumbers) (first : ℕ) (rows : List Row) (end : WayEnd) →
    Shows rows first end (row_of (noted_all numbers first rows) end)
    ⊎ (row_of (noted_all numbers first rows) end ≡ row_of numbers end)
noted_shows numbers first [] end = inr refl
noted_shows numbers first (one ∷ rows) end =
    elim (noted_shows (noted numbers first one.standing) (first + 1) rows end) [
      | inl shows ↦ inl (record {
        place = suc shows.place;
        row = shows.row;
        there = shows.there;
        shown = shows.shown;
        counted = shows.counted ∙ omega arith;
      })
      | inr kept ↦
          elim (noted_one numbers first one.standing end) [
            | inl here ↦ inl (record {
              place = 0;
              row = one;
              there = refl;
              shown = here.1;
              counted = kept ∙ here.0 ∙ omega arith;
            })
            | inr same ↦ inr (kept ∙ same)
          ]
    ]

zero_there : (count at : ℕ) → slice_index (replicate count 0) at ≡ 0
zero_there count at = elim (cases_lt at count) [
  | inl within ↦ get_or-replicate count at 0 0 within
  | inr past ↦ past_default (replicate count 0) at (omega (arith, past, length-replicate {A = ℕ} count 0))
]

none_first : (sheet : SheetShape) (end : WayEnd) →
    row_of (record {
      fields = replicate (length sheet.code.fields) 0;
      statements = replicate (length sheet.texts) 0;
      relays = replicate (length sheet.code.entries) 0;
    }) end ≡ 0
none_first sheet (way_end.Host host) = refl
none_first sheet (way_end.Field field) = zero_there (length sheet.code.fields) field.0
none_first sheet (way_end.Statement statement) = zero_there (length sheet.texts) statement.0
none_first sheet (way_end.Relay entry) = zero_there (length sheet.code.entries) entry.0

pub shown_there : (sheet : SheetShape) (end : WayEnd) →
    Shows (rows_of sheet) 1 end (row_of (row_numbers sheet) end) ⊎ (row_of (row_numbers sheet) end ≡ 0)
shown_there sheet end =
    elim (noted_shows (record {
      fields = replicate (length sheet.code.fields) 0;
      statements = replicate (length sheet.texts) 0;
      relays = replicate (length sheet.code.entries) 0;
    }) 1 (rows_of sheet) end) [
      | inl shows ↦ inl shows
      | inr kept ↦ inr (kept ∙ none_first sheet end)
    ]
