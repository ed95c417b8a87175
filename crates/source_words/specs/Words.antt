-- Texts without a word, by their tokens.
use Rattle.std.specs.Prelude.{◌≢◌, List, All}
use Rattle.jif_lex.specs.declared.token.Token.{Token}
use Rattle.jif_lex.specs.declared.token.TokenKind.TheVariants as kind
use Rattle.jif_lex.specs.declared.token.Word.{Word}

-- none of the tokens is this word
abbrev pub LacksWord : Word → List Token → Type 0
LacksWord word list = All (λ token. token.kind ≢ kind.Word word) list
