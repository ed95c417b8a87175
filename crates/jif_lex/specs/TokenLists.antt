-- What holds of the tokens of every program's text that is not too long.
use Rattle.std.specs.Prelude.{pos, ◌≤◌, ◌≤ℤ◌, List, length, ⊤}
use Rattle.std.specs.List.{All}
use Rattle.js_base.specs.Name.{IsName}
use Rattle.js_base.specs.declared.limits.TheConstants.{PROGRAM_BYTES, LARGEST_NUMBER}
use Rattle.jif_lex.specs.declared.token.Token.{Token}
use Rattle.jif_lex.specs.declared.token.TokenKind.{TokenKind}
use Rattle.jif_lex.specs.declared.token.TokenKind.TheVariants.{Name, Number, Word, Symbol}

-- a name is one and is no longer than the text, and a number has no sign and fits 64 bits
abbrev pub FitsText : TokenKind → Type 0
FitsText (Name name) = IsName name × (length name ≤ PROGRAM_BYTES)
FitsText (Number value) = (pos 0 ≤ℤ value) × (value ≤ℤ LARGEST_NUMBER)
FitsText (Word word) = ⊤
FitsText (Symbol symbol) = ⊤

-- there are no more tokens than the text has bytes, and each is small
abbrev pub AreTokens : List Token → Type 0
AreTokens list = (length list ≤ PROGRAM_BYTES) × All (λ token. FitsText token.kind) list
