-- The values that two runs released, as lines.
use Rattle.std.specs.Prelude.{ℕ, ℤ, Option, Some, None, List, ◌++◌, codes, length, max, slice_get}
use Rattle.std.specs.Fmt.{decimal, signed_decimal}
use Rattle.std.specs.List.{flat_map, range_with_len}
use Rattle.front_end.specs.Text.{line_text}

-- a value, and `-` where a run released no more
abbrev pub value_or_dash : Option ℤ → List ℕ
value_or_dash None = codes "-"
value_or_dash (Some value) = signed_decimal value

-- `release I V W`, the values of this number in both runs
abbrev pub release_line : ℕ → (one other : Option ℤ) → List ℕ
release_line number one other =
    line_text (codes "release " ++ decimal number ++ codes " " ++ value_or_dash one ++ codes " " ++ value_or_dash other)

-- so many of these lines, from 0 on
abbrev pub first_lines : (one other : List ℤ) → ℕ → List ℕ
first_lines one other count =
    flat_map (λ number. release_line number (slice_get one number) (slice_get other number)) (range_with_len 0 count)

-- one for each value of the run that released more
abbrev pub release_lines : (one other : List ℤ) → List ℕ
release_lines one other = first_lines one other (max (length one) (length other))
