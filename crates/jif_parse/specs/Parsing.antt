-- The refusals that the parser tells.
--
-- Each names its token. Which refusal comes where tokens have several is said by the grammar: that of the first token,
-- and of two at one token the limit of nesting before that of a count.
use Rattle.std.specs.Prelude.{ℕ, List, ⊤}
use Rattle.jif_lex.specs.declared.token.Token.{Token}
use Rattle.jif_grammar.specs.Programs.{IsRefused, unexpected, too_deep, too_many}
use Rattle.jif_parse.specs.declared.parse_error.ParseError.{ParseError}
use Rattle.jif_parse.specs.declared.parse_error.ParseError.TheVariants.{OutOfMemory, Unexpected, TooDeep, TooMany}

-- the tokens are refused for this, unless memory ran out
abbrev pub IsRefusedBy : List Token → ParseError → Type 0
IsRefusedBy tokens OutOfMemory = ⊤
IsRefusedBy tokens (Unexpected n) = IsRefused tokens (unexpected n)
IsRefusedBy tokens (TooDeep n) = IsRefused tokens (too_deep n)
IsRefusedBy tokens (TooMany what n) = IsRefused tokens (too_many what n)
