-- The program and the host file that are made for a number of statements.
use Rattle.std.specs.Prelude.{ℕ, ◌%◌, ◌==◌, if◌then◌else◌, List, [], ◌∷◌, ◌++◌, codes, map}
use Rattle.std.specs.Fmt.{decimal}
use Rattle.std.specs.List.{flat_map, range_with_len}
use Rattle.js_base.specs.declared.text.TheConstants.{LINE_FEED}

-- each line is ended by a line feed
abbrev pub text_of : List (List ℕ) → List ℕ
text_of lines = flat_map (λ line. line ++ LINE_FEED ∷ []) lines

-- T is trusted by both, and each of the others sees what is its owner's, who alone trusts it
abbrev pub made_hosts : List ℕ
made_hosts = text_of (
    codes "principals = ['Alice', 'Bob']"
    ∷ codes "[[host]]" ∷ codes "name = 'T'" ∷ codes "label = '{?:Alice, Bob}'"
    ∷ codes "[[host]]" ∷ codes "name = 'A'" ∷ codes "label = '{Alice:; ?:Alice}'"
    ∷ codes "[[host]]" ∷ codes "name = 'B'" ∷ codes "label = '{Bob:; ?:Bob}'"
    ∷ [])

-- a field of each of the two, and the head of `main`
abbrev pub made_head : List (List ℕ)
made_head =
    codes "int{Alice:; ?:Alice} a;" ∷ codes "int{Bob:; ?:Bob} b;" ∷ codes "void main{?:Alice, Bob}() {" ∷ []

-- the field that the statement of this number sets: `a` by even numbers, and `b` by odd ones
abbrev pub made_field : ℕ → List ℕ
made_field number = if number % 2 == 0 then codes "a" else codes "b"

-- the statement of this number adds its number to its field
abbrev pub made_statement : ℕ → List ℕ
made_statement number =
    made_field number ++ codes " = " ++ made_field number ++ codes " + " ++ decimal number ++ codes ";"

-- so many of them, numbered from 0
abbrev pub made_statements : ℕ → List (List ℕ)
made_statements statements = map made_statement (range_with_len 0 statements)

abbrev pub made_program : ℕ → List ℕ
made_program statements = text_of (made_head ++ made_statements statements ++ codes "}" ∷ [])
