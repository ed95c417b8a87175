-- A statement's text in short: without the labels of what it declares and without the brace that opens its block. The
-- labels in which `declassify` and `endorse` release a value stay. A text is a list of characters here.
use Rattle.std.specs.Prelude.{ℕ, ◌-◌, ◌==◌, nat_lt, Bool, true, false, not, ◌&&◌, ◌||◌, if◌then◌else◌}
use Rattle.std.specs.Prelude.{List, [], ◌∷◌, ◌++◌, codes, length, slice_index, take}
use Rattle.std.specs.Char.{is_ascii_alphanumeric}
use Rattle.statement_texts.specs.declared.short.Place.{Place}
use Rattle.statement_texts.specs.declared.short.Place.TheVariants.{Apart, InLabel, InWord}

-- a letter of a name or a number
abbrev pub is_word : ℕ → Bool
is_word letter = is_ascii_alphanumeric letter || letter == 95

-- whether a letter stays at a place
abbrev pub stays : Place → ℕ → Bool
stays Apart letter = true
stays InWord letter = not (letter == 123)
stays InLabel letter = false

-- what stays of it
abbrev pub kept_of : Place → ℕ → List ℕ
kept_of place letter = if stays place letter then letter ∷ [] else []

-- a place behind a letter that is kept
abbrev pub place_of : ℕ → Place
place_of letter = if is_word letter then InWord else Apart

-- the place behind a letter: a label begins right behind a word, and ends with its first closing brace
abbrev pub place_behind : Place → ℕ → Place
place_behind Apart letter = place_of letter
place_behind InWord letter = if letter == 123 then InLabel else place_of letter
place_behind InLabel letter = if letter == 125 then Apart else InLabel

-- a text without the labels behind words, from a place on
abbrev pub unlabelled : Place → List ℕ → List ℕ
unlabelled place [] = []
unlabelled place (letter ∷ letters) = kept_of place letter ++ unlabelled (place_behind place letter) letters

-- whether a text ends with a blank and a brace
abbrev pub opens_block : List ℕ → Bool
opens_block letters =
    nat_lt 1 (length letters) && slice_index letters (length letters - 2) == 32
    && slice_index letters (length letters - 1) == 123

abbrev pub without_brace : List ℕ → List ℕ
without_brace letters = if opens_block letters then take (length letters - 2) letters else letters

-- what stands before the first statement behind an `else`
abbrev pub else_front : Bool → List ℕ
else_front false = []
else_front true = codes "else: "

abbrev pub short : Bool → List ℕ → List ℕ
short otherwise letters = else_front otherwise ++ without_brace (unlabelled Apart letters)
