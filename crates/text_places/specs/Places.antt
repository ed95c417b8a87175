-- Lines and columns of a text, which is the list of its bytes.
use Rattle.std.specs.Prelude.{ℕ, ◌+◌, ◌==◌, List, [], ◌∷◌, ◌++◌, take, codes, if◌then◌else◌}
use Rattle.std.specs.Fmt.{decimal}
use Rattle.js_base.specs.declared.text.TheConstants.{LINE_FEED}
use Rattle.jif_lex.specs.Tokens.{line_feeds}

-- the column behind a text that begins in this column
abbrev pub column_from : ℕ → List ℕ → ℕ
column_from column [] = column
column_from column (byte ∷ text) = column_from (if byte == LINE_FEED then 1 else column + 1) text

-- the line and the column behind a text, both from 1. A column is a byte.
abbrev pub line_behind : List ℕ → ℕ
line_behind front = line_feeds front + 1

abbrev pub column_behind : List ℕ → ℕ
column_behind front = column_from 1 front

-- `line L column C`, of the byte at this place, from 0
abbrev pub place_text : List ℕ → ℕ → List ℕ
place_text text at =
    codes "line " ++ (decimal (line_behind (take at text)) ++ (codes " column "
    ++ decimal (column_behind (take at text))))
