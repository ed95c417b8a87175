-- Names, as programs, host files and codes have them. A text is the list of its bytes.
use Rattle.std.specs.Prelude.{ℕ, Bool, false, not, ◌||◌, ◌&&◌, ◌==◌, List, [], ◌∷◌, IsTrue, codes}
use Rattle.std.specs.List.{list_all, list_any}
use Rattle.std.specs.Char.{is_ascii_alphabetic, is_ascii_digit}
use Rattle.std.specs.Str.{bytes_eq}
use Rattle.js_base.specs.declared.names.TheConstants.{UNDERSCORE}

-- the words that the language has for itself
abbrev pub keywords : List (List ℕ)
keywords =
    codes "int" ∷ codes "void" ∷ codes "if" ∷ codes "else" ∷ codes "while" ∷ codes "return" ∷ codes "where"
    ∷ codes "authority" ∷ codes "declassify" ∷ codes "endorse" ∷ []

-- an ASCII letter or `_`
abbrev pub starts_name : ℕ → Bool
starts_name byte = is_ascii_alphabetic byte || byte == UNDERSCORE

-- an ASCII letter, a digit or `_`
abbrev pub continues_name : ℕ → Bool
continues_name byte = starts_name byte || is_ascii_digit byte

-- a letter or `_`, then letters, digits and `_`, and no keyword
abbrev pub is_name : List ℕ → Bool
is_name [] = false
is_name (byte ∷ bytes) =
    starts_name byte && list_all continues_name bytes && not (list_any (bytes_eq (byte ∷ bytes)) keywords)

abbrev pub IsName : List ℕ → Type 0
IsName text = IsTrue (is_name text)
