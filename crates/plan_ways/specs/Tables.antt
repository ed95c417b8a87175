-- Tables by number.
use Rattle.std.specs.Prelude.{ℕ, List, Option, Some, None, slice_get, slice_set}

abbrev pub noted_at : {A : Type 0} → List (Option A) → ℕ → A → Option (Option A) → List (Option A)
noted_at table place value (Some None) = slice_set table place (Some value)
noted_at table place value (Some (Some earlier)) = table
noted_at table place value None = table

-- a value is noted at a place of the table that has none
abbrev pub noted : {A : Type 0} → List (Option A) → ℕ → A → List (Option A)
noted table place value = noted_at table place value (slice_get table place)
