-- Lines that fit columns and rows.
use Rattle.std.specs.Prelude.{◌≡◌, ℕ, ◌<◌, ◌≤◌, List, [], ◌∷◌, Some, length, slice_get}
use Rattle.drawing_text.specs.declared.spans.Span.{Span}
use Rattle.plan_layout.specs.declared.lines.Line.{Line}

-- the column that a line leads to is there, and it leaves and enters within the heights of its rows
pub record LineFits (widths : List ℕ) (rows : List Span) (line : Line) : Type 0 where
  pub first : Span
  pub last : Span
  pub column : line.to.0 < length widths
  pub begins : slice_get rows line.begin ≡ Some first
  pub leaves : line.leaves ≤ first.length
  pub ends : slice_get rows line.end ≡ Some last
  pub enters : line.enters ≤ last.length
  pub tip : 4 ≤ line.enters

-- a line between two columns
abbrev pub line_between : (from to begin end hub : ℕ) → Line
line_between from to begin end hub = record {
  from = record { 0 = from };
  begin = begin;
  leaves = 14;
  to = record { 0 = to };
  end = end;
  enters = 21;
  hub = record { row = hub; kind = 0 };
}

-- two lines to the right, and one to the left
abbrev pub sample_lines : List Line
sample_lines = line_between 0 1 1 3 1 ∷ line_between 1 0 3 4 3 ∷ line_between 0 1 2 3 2 ∷ []

abbrev pub sample_widths : List ℕ
sample_widths = 120 ∷ 200 ∷ []
