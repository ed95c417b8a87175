-- The lines of a script that say something. A line is the list of its bytes, without what ends it.
use Rattle.std.specs.Prelude.{ℕ, ◌+◌, Bool, true, not, ◌==◌, ◌||◌, if◌then◌else◌}
use Rattle.std.specs.Prelude.{List, [], ◌∷◌, length, filter, nat_eq, codes}
use Rattle.std.specs.List.{slice_split, starts_with}
use Rattle.std.specs.Str.Lines.{lines}

-- a space or a tab
abbrev pub is_blank : ℕ → Bool
is_blank byte = byte == 32 || byte == 9

-- the words of a line: what spaces and tabs part
abbrev pub words : List ℕ → List (List ℕ)
words line = filter (λ word. not (length word == 0)) (slice_split is_blank line)

-- whether a line of these words is skipped: a blank line, or a comment
abbrev pub is_skipped : List (List ℕ) → Bool
is_skipped [] = true
is_skipped (word ∷ others) = starts_with nat_eq word (codes "//")

-- a line that is not skipped, by its number and its words
pub record LineShape : Type 0 where
  pub number : ℕ
  pub words : List (List ℕ)

abbrev pub line_of : ℕ → List ℕ → LineShape
line_of number line = record { number = number; words = words line }

-- the lines that are not skipped, where the first has this number
abbrev pub said_from : ℕ → List (List ℕ) → List LineShape
said_from number [] = []
said_from number (line ∷ others) =
    if is_skipped (words line)
    then said_from (number + 1) others
    else line_of number line ∷ said_from (number + 1) others

-- Lines end with a line feed. A carriage return before it is dropped, and the last line feed may be missing. All lines
-- are counted, from 1.
abbrev pub said_lines : List ℕ → List LineShape
said_lines bytes = said_from 1 (lines bytes)
