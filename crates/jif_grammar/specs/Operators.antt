-- The table of the operators: how each is written, and how tightly it binds.
use Rattle.std.specs.Prelude.{ℕ, Option, Some, None}
use Rattle.js_base.specs.declared.binary_operator.BinOp.{BinOp}
use Rattle.js_base.specs.declared.binary_operator.BinOp.TheVariants as operator
use Rattle.jif_lex.specs.declared.token.Symbol.{Symbol}
use Rattle.jif_lex.specs.declared.token.Symbol.TheVariants as symbol
use Rattle.jif_lex.specs.declared.token.Word.{Word}
use Rattle.jif_lex.specs.declared.token.Word.TheVariants as word
use Rattle.jif_grammar.specs.Phrases.{Sign, complement, minus, Change, release, acceptance}

abbrev pub operator_symbol : BinOp → Symbol
operator_symbol operator.Or = symbol.Or
operator_symbol operator.And = symbol.And
operator_symbol operator.Equal = symbol.Equal
operator_symbol operator.NotEqual = symbol.NotEqual
operator_symbol operator.Less = symbol.Less
operator_symbol operator.LessEqual = symbol.LessOrEqual
operator_symbol operator.Greater = symbol.Greater
operator_symbol operator.GreaterEqual = symbol.GreaterOrEqual
operator_symbol operator.Add = symbol.Plus
operator_symbol operator.Subtract = symbol.Minus
operator_symbol operator.Multiply = symbol.Star
operator_symbol operator.Divide = symbol.Slash
operator_symbol operator.Remainder = symbol.Percent

-- the operator that a symbol writes between two operands
abbrev pub operator_of : Symbol → Option BinOp
operator_of symbol.Or = Some operator.Or
operator_of symbol.And = Some operator.And
operator_of symbol.Equal = Some operator.Equal
operator_of symbol.NotEqual = Some operator.NotEqual
operator_of symbol.Less = Some operator.Less
operator_of symbol.LessOrEqual = Some operator.LessEqual
operator_of symbol.Greater = Some operator.Greater
operator_of symbol.GreaterOrEqual = Some operator.GreaterEqual
operator_of symbol.Plus = Some operator.Add
operator_of symbol.Minus = Some operator.Subtract
operator_of symbol.Star = Some operator.Multiply
operator_of symbol.Slash = Some operator.Divide
operator_of symbol.Percent = Some operator.Remainder
operator_of _ = None

-- the tighter, the larger
abbrev pub operator_level : BinOp → ℕ
operator_level operator.Or = 0
operator_level operator.And = 1
operator_level operator.Equal = 2
operator_level operator.NotEqual = 2
operator_level operator.Less = 3
operator_level operator.LessEqual = 3
operator_level operator.Greater = 3
operator_level operator.GreaterEqual = 3
operator_level operator.Add = 4
operator_level operator.Subtract = 4
operator_level operator.Multiply = 5
operator_level operator.Divide = 5
operator_level operator.Remainder = 5

-- the level of `!` and `-` before an operand, and of all that no operator makes
abbrev pub tightest_level : ℕ
tightest_level = 6

abbrev pub sign_symbol : Sign → Symbol
sign_symbol complement = symbol.Not
sign_symbol minus = symbol.Minus

abbrev pub change_word : Change → Word
change_word release = word.Declassify
change_word acceptance = word.Endorse
