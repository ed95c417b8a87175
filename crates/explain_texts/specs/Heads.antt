-- What is told of a program that is refused for its text or its names.
use Rattle.std.specs.Prelude.{ℕ, ◌+◌, ◌-◌, Bool, false, ◌==◌, ◌&&◌, if◌then◌else◌, List, [], ◌++◌, codes, drop, length}
use Rattle.std.specs.Prelude.{Option, Some, None, slice_get}
use Rattle.std.specs.Char.{is_ascii_digit}
use Rattle.std.specs.List.{prefix_len}
use Rattle.js_base.specs.Name.{starts_name}
use Rattle.jif_lex.specs.declared.lexer.LexError.{LexError}
use Rattle.jif_lex.specs.declared.lexer.LexError.TheVariants as lex
use Rattle.jif_lex.specs.declared.token.Token.{Token}
use Rattle.jif_grammar.specs.declared.what.What.{What}
use Rattle.jif_grammar.specs.declared.what.What.TheVariants as what
use Rattle.jif_parse.specs.declared.parse_error.ParseError.{ParseError}
use Rattle.jif_parse.specs.declared.parse_error.ParseError.TheVariants as parse
use Rattle.jif_resolve.specs.declared.resolve_error.ResolveError.{ResolveError}
use Rattle.jif_resolve.specs.declared.resolve_error.ResolveError.TheVariants as resolve
use Rattle.explain_texts.specs.Remedies.{unexpected_remedy, wrong_type_remedy}
use Rattle.explain_texts.specs.Told.{ToldShape, within}
use Rattle.explain_texts.specs.TokenTexts.{token_text, token_place}

abbrev pub told : Option ℕ → (message lines : List ℕ) → ToldShape
told at message lines = record { at = at; message = message; lines = lines }

abbrev pub no_memory : ToldShape
no_memory = told None (codes "no memory") []

-- ---- a text without tokens

abbrev pub is_byte : ℕ → Option ℕ → Bool
is_byte byte None = false
is_byte byte (Some other) = other == byte

-- `/*` stands at the place
abbrev pub opens_comment : List ℕ → ℕ → Bool
opens_comment text at = is_byte 47 (slice_get text at) && is_byte 42 (slice_get text (at + 1))

abbrev pub byte_message : List ℕ → ℕ → List ℕ
byte_message text at =
    if opens_comment text at then codes "this comment is never closed" else codes "no token begins here"

abbrev pub is_letter : Option ℕ → Bool
is_letter None = false
is_letter (Some byte) = starts_name byte

-- a letter or `_` stands behind the digits that a text begins with
abbrev pub has_letter : List ℕ → Bool
has_letter text = is_letter (slice_get text (prefix_len is_ascii_digit text))

abbrev pub number_message : List ℕ → ℕ → List ℕ
number_message text at =
    if has_letter (drop (within text at) text)
    then codes "a letter follows this number at once"
    else codes "this number is above 9223372036854775807"

abbrev pub lexed_told : List ℕ → LexError → ToldShape
lexed_told text lex.OutOfMemory = no_memory
lexed_told text (lex.BadByte at) = told (Some at) (byte_message text at) []
lexed_told text (lex.BadNumber at) = told (Some at) (number_message text at) []
lexed_told text lex.TooLong = told None (codes "the program has more than 1048576 bytes") []

-- ---- tokens that are no program

-- what there is too much of
abbrev pub name_of : What → List ℕ
name_of what.Fields = codes "fields"
name_of what.Methods = codes "methods"
name_of what.Parameters = codes "parameters"
name_of what.Locals = codes "locals"
name_of what.Statements = codes "statements"
name_of what.Nodes = codes "expression nodes"
name_of what.Elements = codes "array elements"

abbrev pub unexpected_lines : List Token → ℕ → List ℕ
unexpected_lines tokens number =
    unexpected_remedy (token_text tokens (number - 2)) (token_text tokens (number - 1)) (token_text tokens number)

abbrev pub unexpected_at : List Token → ℕ → ℕ → ToldShape
unexpected_at tokens number at =
    told (Some at) (codes "unexpected '" ++ (token_text tokens number ++ codes "'")) (unexpected_lines tokens number)

-- at the place of a token, or at the end of a text of so many bytes
abbrev pub unexpected_told : ℕ → List Token → ℕ → Option ℕ → ToldShape
unexpected_told bytes tokens number None = told (Some bytes) (codes "the program ends too early") []
unexpected_told bytes tokens number (Some at) = unexpected_at tokens number at

abbrev pub parsed_told : List ℕ → List Token → ParseError → ToldShape
parsed_told text tokens parse.OutOfMemory = no_memory
parsed_told text tokens (parse.Unexpected number) =
    unexpected_told (length text) tokens number (token_place tokens number)
parsed_told text tokens (parse.TooDeep number) =
    told (token_place tokens number) (codes "more than 64 constructs are open here")
    (codes "try: move a part into a method or a local\n")
parsed_told text tokens (parse.TooMany counted number) =
    told (token_place tokens number) (codes "too many " ++ name_of counted)
    (codes "try: move a part into a method or a local\n")

-- ---- names

abbrev pub quoted : List ℕ → (behind : List ℕ) → List ℕ
quoted word behind = codes "'" ++ (word ++ (codes "'" ++ behind))

abbrev pub wrong_type_lines : List Token → ℕ → List ℕ
wrong_type_lines tokens number =
    wrong_type_remedy (token_text tokens number) (token_text tokens (number + 1)) (token_text tokens (number + 2))
    (token_text tokens (number + 3))

abbrev pub resolved_told : List Token → ResolveError → ToldShape
resolved_told tokens resolve.OutOfMemory = no_memory
resolved_told tokens (resolve.UnknownName number) =
    told (token_place tokens number) (quoted (token_text tokens number) (codes " is not known here"))
    (codes "try: declare it before it is used; principals stand in the host file\n")
resolved_told tokens (resolve.Twice number) =
    told (token_place tokens number) (codes "the name " ++ quoted (token_text tokens number) (codes " is taken"))
    (codes "try: rename one of the two\n")
resolved_told tokens (resolve.WrongType number) =
    told (token_place tokens number) (quoted (token_text tokens number) (codes " can't be used so"))
    (wrong_type_lines tokens number)
resolved_told tokens (resolve.WrongCount number) =
    told (token_place tokens number)
    (quoted (token_text tokens number) (codes " is called with another number of arguments than it has parameters"))
    (codes "try: give one for each\n")
resolved_told tokens resolve.NoMain =
    told None (codes "there is no void main without parameters") (codes "try: add void main{}() { .. }\n")
