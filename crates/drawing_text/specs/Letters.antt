-- Texts in a drawing. A text is a list of characters here: what is drawn of it is cut to the room that there is, and
-- then escaped.
use Rattle.std.specs.Prelude.{ℕ, ◌-◌, ◌==◌, nat_lt, if◌then◌else◌, List, [], ◌∷◌, ◌++◌, codes, flat_map, length, take}

-- the characters that mean something in SVG are written by their names
abbrev pub escaped_letter : ℕ → List ℕ
escaped_letter letter =
    if letter == 38 then codes "&amp;"
    else (if letter == 60 then codes "&lt;" else (if letter == 62 then codes "&gt;" else letter ∷ []))

abbrev pub escaped : List ℕ → List ℕ
escaped letters = flat_map escaped_letter letters

-- a text, or where it is longer than the room its front and two dots
abbrev pub cut : (room : ℕ) → List ℕ → List ℕ
cut room letters = if nat_lt room (length letters) then take (room - 2) letters ++ codes ".." else letters

-- ---- back again

-- where a reader of an escaped text is: outside of a name, behind the `&` that begins one, or behind its first letter
pub data LetterReading : Type 0 where
  outside : LetterReading
  at_name : LetterReading
  inside : LetterReading

-- the character that a name with this first letter stands for
abbrev pub named : ℕ → List ℕ
named letter =
    if letter == 97 then 38 ∷ []
    else (if letter == 108 then 60 ∷ [] else (if letter == 103 then 62 ∷ [] else []))

-- what is read of a letter
abbrev pub read_of : LetterReading → ℕ → List ℕ
read_of outside letter = if letter == 38 then [] else letter ∷ []
read_of at_name letter = named letter
read_of inside letter = []

-- where the reader is behind it
abbrev pub behind : LetterReading → ℕ → LetterReading
behind outside letter = if letter == 38 then at_name else outside
behind at_name letter = inside
behind inside letter = if letter == 59 then outside else inside

-- the text of which this is what was written
abbrev pub unescaped : LetterReading → List ℕ → List ℕ
unescaped reading [] = []
unescaped reading (letter ∷ letters) = read_of reading letter ++ unescaped (behind reading letter) letters
