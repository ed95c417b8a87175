-- What a tool shows of a place in a text: `FILE:LINE:COLUMN: MESSAGE`, then the line, and a caret below the place.
--
-- A text may hold what a terminal obeys, so its control characters but the tab are shown as question marks. What is no
-- UTF-8 is shown with replacement characters, as the standard library does.
use Rattle.std.specs.Prelude.{ℕ, ◌-◌, Bool, false, not, ◌==◌, ◌&&◌, ◌||◌, nat_lt, if◌then◌else◌}
use Rattle.std.specs.Prelude.{List, [], ◌∷◌, ◌++◌, codes, drop, length, map, take, Option, Some, None, slice_get}
use Rattle.std.specs.Fmt.{decimal}
use Rattle.std.specs.List.{flat_map, position_or_len}
use Rattle.std.specs.Str.Lossy.{utf8_lossy}
use Rattle.js_base.specs.declared.text.TheConstants.{LINE_FEED}
use Rattle.text_places.specs.declared.excerpts.TheConstants.{EXCERPT_BYTES}
use Rattle.text_places.specs.Places.{line_behind, column_behind}

-- ---- the line

-- what stands behind the last line feed of a text, where this stands before it
abbrev pub front_from : List ℕ → List ℕ → List ℕ
front_from line [] = line
front_from line (byte ∷ text) = front_from (if byte == LINE_FEED then [] else line ++ byte ∷ []) text

-- the line of a place up to it, and from it on
abbrev pub line_before : List ℕ → ℕ → List ℕ
line_before text at = front_from [] (take at text)

abbrev pub line_after : List ℕ → ℕ → List ℕ
line_after text at = take (position_or_len (λ byte. byte == LINE_FEED) (drop at text)) (drop at text)

-- without a carriage return at the end
abbrev pub is_return : Option ℕ → Bool
is_return None = false
is_return (Some byte) = byte == 13

abbrev pub without_return : List ℕ → List ℕ
without_return line =
    if is_return (slice_get line (length line - 1)) then take (length line - 1) line else line

abbrev pub line_at : List ℕ → ℕ → List ℕ
line_at text at = without_return (line_before text at ++ line_after text at)

-- ---- what is shown

-- `?` for a control character but the tab
abbrev pub shown_byte : ℕ → ℕ
shown_byte byte = if (nat_lt byte 32 && not (byte == 9)) || (byte == 127) then 63 else byte

-- characters alone
abbrev pub shown : List ℕ → List ℕ
shown bytes = utf8_lossy (map shown_byte bytes)

-- What stands below a byte of a line before the caret: a tab below a tab, nothing below a byte that goes on with a
-- character, and else a blank. So the caret stands below its place where a character is as wide as a blank.
abbrev pub below_byte : ℕ → List ℕ
below_byte byte =
    if byte == 9 then 9 ∷ [] else (if not (nat_lt byte 128) && nat_lt byte 192 then [] else 32 ∷ [])

abbrev pub caret_text : List ℕ → List ℕ
caret_text front = flat_map below_byte (shown front) ++ codes "^"

-- the line of a place, and the caret; neither of a line that is too long to be read
abbrev pub excerpt : List ℕ → ℕ → List ℕ
excerpt text at =
    if nat_lt EXCERPT_BYTES (length (line_at text at))
    then []
    else shown (line_at text at) ++ (LINE_FEED ∷ (caret_text (line_before text at) ++ LINE_FEED ∷ []))

-- `FILE:LINE:COLUMN: MESSAGE` and a line feed, both from 1; a column is a byte
abbrev pub head_text : (file text : List ℕ) → ℕ → (message : List ℕ) → List ℕ
head_text file text at message =
    file ++ (codes ":" ++ (decimal (line_behind (take at text)) ++ (codes ":"
    ++ (decimal (column_behind (take at text)) ++ (codes ": " ++ (message ++ LINE_FEED ∷ []))))))
