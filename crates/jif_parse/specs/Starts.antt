-- What operands begin with.
use Rattle.std.specs.Prelude.{◌≡◌, ℕ, pos, ◌≤ℤ◌, None}
use Rattle.js_base.specs.declared.limits.TheConstants.{LARGEST_NUMBER}
use Rattle.jif_lex.specs.declared.token.TokenKind.{TokenKind}
use Rattle.jif_lex.specs.declared.token.TokenKind.TheVariants as token
use Rattle.jif_lex.specs.declared.token.Symbol.TheVariants.{LeftParenthesis}
use Rattle.jif_grammar.specs.Due.{Closing, operand, due_after_token}
use Rattle.jif_grammar.specs.Phrases as phrases
use Rattle.jif_grammar.specs.Operators.{sign_symbol, change_word}
use Rattle.jif_parse.specs.declared.starts.Start.{Start}
use Rattle.jif_parse.specs.declared.starts.Start.TheVariants as start
use Rattle.jif_parse.specs.declared.starts.Sign.{Sign}
use Rattle.jif_parse.specs.declared.starts.Sign.TheVariants.{Complement, Minus}
use Rattle.jif_parse.specs.declared.starts.Change.{Change}
use Rattle.jif_parse.specs.declared.starts.Change.TheVariants.{Release, Acceptance}

abbrev pub sign_of : Sign → phrases.Sign
sign_of Complement = phrases.complement
sign_of Minus = phrases.minus

abbrev pub change_of : Change → phrases.Change
change_of Release = phrases.release
change_of Acceptance = phrases.acceptance

-- what an operand begins with, by its first token
abbrev pub Starts : TokenKind → Start → Type 0
Starts kind (start.Number n) = (kind ≡ token.Number n) × ((m : ℕ) × (n ≡ pos m)) × (n ≤ℤ LARGEST_NUMBER)
Starts kind (start.Name name) = kind ≡ token.Name name.now
Starts kind start.Parenthesis = kind ≡ token.Symbol LeftParenthesis
Starts kind (start.Sign sign) = kind ≡ token.Symbol (sign_symbol (sign_of sign))
Starts kind (start.Change change) = kind ≡ token.Word (change_word (change_of change))
Starts kind start.Other = (closing : Closing) → due_after_token (operand closing) kind ≡ None
