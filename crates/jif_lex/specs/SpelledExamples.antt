-- A line that is put together from spellings, and what may not stand side by side.
use Rattle.std.specs.Prelude.{pos, List, [], ◌∷◌, codes}
use Rattle.jif_lex.specs.declared.token.TokenKind.TheVariants.{Name, Number, Word, Symbol}
use Rattle.jif_lex.specs.declared.token.Word.TheVariants.{Int}
use Rattle.jif_lex.specs.declared.token.Symbol.TheVariants.{Assign, Equal, Minus, Slash, Semicolon}
use Rattle.jif_lex.specs.Spelled.{Spelled, token_part, space_part, line_end_part}

-- a keyword and a name have a blank between them, and nothing else needs one
abbrev pub small_line : List Spelled
small_line =
    token_part (Word Int) ∷ space_part ∷ token_part (Name (codes "x")) ∷ token_part (Symbol Assign)
    ∷ token_part (Symbol Minus) ∷ token_part (Number (pos 7)) ∷ token_part (Symbol Semicolon)
    ∷ line_end_part ∷ []

abbrev pub number_and_name : List Spelled
number_and_name = token_part (Number (pos 7)) ∷ token_part (Name (codes "x")) ∷ []

abbrev pub two_slashes : List Spelled
two_slashes = token_part (Symbol Slash) ∷ token_part (Symbol Slash) ∷ []

abbrev pub three_equals : List Spelled
three_equals = token_part (Symbol Assign) ∷ token_part (Symbol Equal) ∷ []
