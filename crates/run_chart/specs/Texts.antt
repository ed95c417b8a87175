-- Texts in a chart. They are bytes in a sheet; what is drawn of them is cut to the letters that have room, and then
-- escaped.
use Rattle.std.specs.Prelude.{ℕ, ◌-◌, List, length, max}
use Rattle.std.specs.Str.{chars, encode_utf8_all}
use Rattle.drawing_text.specs.Letters.{cut, escaped}
use Rattle.drawing_text.specs.Widths.{small_room}

-- how many letters a text has
abbrev pub letters_in : List ℕ → ℕ
letters_in text = length (chars text)

abbrev pub whole_text : List ℕ → List ℕ
whole_text text = encode_utf8_all (escaped (chars text))

-- so many letters have room, two at least
abbrev pub cut_text : List ℕ → (room : ℕ) → List ℕ
cut_text text room = encode_utf8_all (escaped (cut (max room 2) (chars text)))

-- how many letters of a message have room on a way, of which so much is taken
abbrev pub room_of : (way less : ℕ) → ℕ
room_of way less = small_room (way - less)
