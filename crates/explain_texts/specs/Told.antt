-- What is told of a refusal: `FILE:LINE:COLUMN: MESSAGE`, the line and a caret below the place, and further lines.
-- Without a place it is `FILE: MESSAGE` and the further lines. No line feed ends the last line.
use Rattle.std.specs.Prelude.{ℕ, ◌-◌, Bool, false, ◌==◌, nat_lt, if◌then◌else◌, List, [], ◌∷◌, ◌++◌, codes}
use Rattle.std.specs.Prelude.{length, take, Option, Some, None, slice_get, string_bytes}
use Rattle.js_base.specs.declared.text.TheConstants.{LINE_FEED}
use Rattle.text_places.specs.Excerpts.{excerpt, head_text}
use Rattle.explain_texts.specs.declared.told.Told.{Told}

-- the place of a byte of the text, a message, and lines that stand behind it, each ended by a line feed
pub record ToldShape : Type 0 where
  pub at : Option ℕ
  pub message : List ℕ
  pub lines : List ℕ

-- no place is behind the end of the text
abbrev pub within : List ℕ → ℕ → ℕ
within text at = if nat_lt (length text) at then length text else at

abbrev pub front_text : (file text : List ℕ) → Option ℕ → (message : List ℕ) → List ℕ
front_text file text None message = file ++ (codes ": " ++ (message ++ LINE_FEED ∷ []))
front_text file text (Some at) message =
    head_text file text (within text at) message ++ excerpt text (within text at)

abbrev pub is_line_feed : Option ℕ → Bool
is_line_feed None = false
is_line_feed (Some byte) = byte == LINE_FEED

-- without the line feed that ends it
abbrev pub without_end : List ℕ → List ℕ
without_end text = if is_line_feed (slice_get text (length text - 1)) then take (length text - 1) text else text

-- the whole, of a file of this name that has this text
abbrev pub told_text : (file text : List ℕ) → ToldShape → List ℕ
told_text file text told = without_end (front_text file text told.at told.message ++ told.lines)

abbrev pub told_shape : Told → ToldShape
told_shape told = record { at = told.at; message = string_bytes told.message; lines = string_bytes told.lines }
