-- Texts of lines. A text is the list of its bytes.
use Rattle.std.specs.Prelude.{ℕ, List, [], ◌∷◌, ◌++◌}
use Rattle.std.specs.List.{flat_map}
use Rattle.js_base.specs.declared.text.TheConstants.{LINE_FEED}

-- a line and the line feed that ends it
abbrev pub line_text : List ℕ → List ℕ
line_text line = line ++ LINE_FEED ∷ []

-- lines, each ended by a line feed
abbrev pub lines_text : List (List ℕ) → List ℕ
lines_text lines = flat_map line_text lines
