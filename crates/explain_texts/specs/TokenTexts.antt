-- How a token is spelled, and where it stands. A token is known by its number, from 0.
use Rattle.std.specs.Prelude.{ℕ, List, [], Option, Some, None, slice_get}
use Rattle.jif_lex.specs.declared.token.Token.{Token}
use Rattle.jif_lex.specs.Spelled.{kind_text}

-- empty where there is no such token
abbrev pub spelled : Option Token → List ℕ
spelled None = []
spelled (Some token) = kind_text token.kind

abbrev pub token_text : List Token → ℕ → List ℕ
token_text tokens number = spelled (slice_get tokens number)

-- the place of its first byte
abbrev pub place : Option Token → Option ℕ
place None = None
place (Some token) = Some token.at

abbrev pub token_place : List Token → ℕ → Option ℕ
token_place tokens number = place (slice_get tokens number)

-- the line of its first byte, 0 where there is no such token
abbrev pub line : Option Token → ℕ
line None = 0
line (Some token) = token.line

abbrev pub token_line : List Token → ℕ → ℕ
token_line tokens number = line (slice_get tokens number)
