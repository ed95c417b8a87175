-- Things in a row, one behind the other: columns from left to right, or rows from top to bottom.
use Rattle.std.specs.Prelude.{ℕ, ◌+◌, List, [], ◌∷◌}
use Rattle.drawing_text.specs.declared.spans.Span.{Span}

-- what is behind a span that has room from here on
abbrev pub past : ℕ → Span → ℕ
past at span = at + span.before + span.length + span.after

-- where they begin, the first of which has room from here on
abbrev pub starts_from : ℕ → List Span → List ℕ
starts_from at [] = []
starts_from at (span ∷ spans) = (at + span.before) ∷ starts_from (past at span) spans

-- what is behind the last one
abbrev pub past_all : ℕ → List Span → ℕ
past_all at [] = at
past_all at (span ∷ spans) = past_all (past at span) spans
