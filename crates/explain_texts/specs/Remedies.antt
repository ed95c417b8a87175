-- What to try where a token is refused, by the tokens around it alone: a line, or nothing.
--
-- These are the forms that everybody tries first in this language. None says what a misspelt name meant.
use Rattle.std.specs.Prelude.{ℕ, Bool, ◌&&◌, if◌then◌else◌, List, [], ◌∷◌, ◌++◌, codes}
use Rattle.std.specs.List.{list_any}
use Rattle.std.specs.Str.{bytes_eq}
use Rattle.js_base.specs.Name.{is_name}

-- what stands before a call that is used as a value
abbrev pub leading : List (List ℕ)
leading =
    codes "=" ∷ codes "(" ∷ codes "," ∷ codes "[" ∷ codes "==" ∷ codes "!=" ∷ codes "<" ∷ codes "<="
    ∷ codes ">" ∷ codes ">=" ∷ codes "+" ∷ codes "-" ∷ codes "*" ∷ codes "/" ∷ codes "%" ∷ codes "!"
    ∷ codes "&&" ∷ codes "||" ∷ []

-- the `;` behind `int NAME`
abbrev pub ends_local : (first second third : List ℕ) → Bool
ends_local first second third =
    bytes_eq third (codes ";") && is_name second && bytes_eq first (codes "int")

-- the `(` behind a name that stands where a value does
abbrev pub opens_call : (first second third : List ℕ) → Bool
opens_call first second third =
    bytes_eq third (codes "(") && is_name second && list_any (bytes_eq first) leading

-- the `if` behind `else`
abbrev pub chains_if : (second third : List ℕ) → Bool
chains_if second third = bytes_eq third (codes "if") && bytes_eq second (codes "else")

-- what to try where the last of three tokens is unexpected, which are spelled so
abbrev pub unexpected_remedy : (first second third : List ℕ) → List ℕ
unexpected_remedy first second third =
    if ends_local first second third
    then codes "try: a local gets its value where it is declared: int " ++ (second ++ codes " = 0;\n")
    else (if opens_call first second third
    then codes "try: a call stands alone: int x = 0; x = " ++ (second ++ codes "(..);\n")
    else (if chains_if second third then codes "try: put braces: else { if (..) { .. } }\n" else []))

-- a name, and behind it `=`, a name and `(`
abbrev pub keeps_call : (second third fourth : List ℕ) → Bool
keeps_call second third fourth =
    bytes_eq second (codes "=") && is_name third && bytes_eq fourth (codes "(")

-- what to try where the first of four tokens is used as it can't be
abbrev pub wrong_type_remedy : (first second third fourth : List ℕ) → List ℕ
wrong_type_remedy first second third fourth =
    if keeps_call second third fourth
    then codes "try: a result is kept in a local: int x = 0; x = " ++ (third ++ (codes "(..); "
    ++ (first ++ codes " = x;\n")))
    else codes "try: give an index or a call, or drop it\n"
