-- What is due behind an operand: operators, and what ends an expression.
use Rattle.std.proofs.Common.{◌≡◌, ℕ, ◌≤◌, ◌<◌, List, [], ◌∷◌, Some, None, refl, subst, arith}
use Rattle.js_base.specs.declared.binary_operator.BinOp.{BinOp}
use Rattle.js_base.specs.declared.binary_operator.BinOp.TheVariants as operators
use Rattle.js_base.specs.declared.limits.TheConstants.{NESTING}
use Rattle.jif_lex.specs.declared.token.TokenKind.{TokenKind}
use Rattle.jif_lex.specs.declared.token.TokenKind.TheVariants as token
use Rattle.jif_lex.specs.declared.token.Symbol.TheVariants as symbols
use Rattle.label_lattice.specs.Written.{kinds, symbol}
use Rattle.jif_grammar.specs.Operators.{operator_symbol, operator_level}
use Rattle.jif_grammar.specs.Due.{Closing, at_semicolon, at_comma, at_bracket, at_parenthesis, at_argument, operand}
use Rattle.jif_grammar.specs.Due.{links, after_operand_name, due_after_token}
use Rattle.jif_grammar.specs.Marks.{mark, node}
use Rattle.jif_grammar.specs.Nesting.{nested_at, marked_by}
use Rattle.jif_parse.specs.declared.cursor.Cursor.{Cursor}
use Rattle.jif_parse.specs.declared.endings.Ending.{Ending}
use Rattle.jif_parse.specs.declared.endings.Ending.TheVariants as ending
use Rattle.jif_parse.specs.declared.parse_error.ParseError.{ParseError}
use Rattle.jif_parse.specs.declared.parse_error.ParseError.TheVariants as fault
use Rattle.jif_parse.specs.Reading.{IsNextKind, IsNextSymbol, Counted, IsOver, Takes, Fails}
use Rattle.jif_parse.specs.Phrases.{PassesSymbol, operand_due, links_due, StopsAt, closing_of, closing_symbol}
use Rattle.jif_parse.proofs.Taking.{takes_same, SameStep, fails_at_limit}
use Rattle.jif_parse.proofs.Moving.{takes_passed, takes_counted, fails_other}
use Rattle.jif_parse.proofs.Fixed.{step_symbol}

-- ---- levels

pub below_tightest : (operator : BinOp) → operator_level operator < 6
below_tightest operators.Or = omega arith
below_tightest operators.And = omega arith
below_tightest operators.Equal = omega arith
below_tightest operators.NotEqual = omega arith
below_tightest operators.Less = omega arith
below_tightest operators.LessEqual = omega arith
below_tightest operators.Greater = omega arith
below_tightest operators.GreaterEqual = omega arith
below_tightest operators.Add = omega arith
below_tightest operators.Subtract = omega arith
below_tightest operators.Multiply = omega arith
below_tightest operators.Divide = omega arith
below_tightest operators.Remainder = omega arith

pub never_next : (cursor : Cursor) (operator : BinOp) → StopsAt 0 cursor →
    ¬ IsNextSymbol cursor (operator_symbol operator)
never_next cursor operator stops is = absurd (omega (arith, stops operator is))

-- ---- operators

operator_due : (closing : Closing) (operator : BinOp) →
    due_after_token (links closing) (symbol (operator_symbol operator)) ≡ Some (operand closing ∷ [])
operator_due at_semicolon operators.Or = refl
operator_due at_semicolon operators.And = refl
operator_due at_semicolon operators.Equal = refl
operator_due at_semicolon operators.NotEqual = refl
operator_due at_semicolon operators.Less = refl
operator_due at_semicolon operators.LessEqual = refl
operator_due at_semicolon operators.Greater = refl
operator_due at_semicolon operators.GreaterEqual = refl
operator_due at_semicolon operators.Add = refl
operator_due at_semicolon operators.Subtract = refl
operator_due at_semicolon operators.Multiply = refl
operator_due at_semicolon operators.Divide = refl
operator_due at_semicolon operators.Remainder = refl
operator_due at_comma operators.Or = refl
operator_due at_comma operators.And = refl
operator_due at_comma operators.Equal = refl
operator_due at_comma operators.NotEqual = refl
operator_due at_comma operators.Less = refl
operator_due at_comma operators.LessEqual = refl
operator_due at_comma operators.Greater = refl
operator_due at_comma operators.GreaterEqual = refl
operator_due at_comma operators.Add = refl
operator_due at_comma operators.Subtract = refl
operator_due at_comma operators.Multiply = refl
operator_due at_comma operators.Divide = refl
operator_due at_comma operators.Remainder = refl
operator_due at_bracket operators.Or = refl
operator_due at_bracket operators.And = refl
operator_due at_bracket operators.Equal = refl
operator_due at_bracket operators.NotEqual = refl
operator_due at_bracket operators.Less = refl
operator_due at_bracket operators.LessEqual = refl
operator_due at_bracket operators.Greater = refl
operator_due at_bracket operators.GreaterEqual = refl
operator_due at_bracket operators.Add = refl
operator_due at_bracket operators.Subtract = refl
operator_due at_bracket operators.Multiply = refl
operator_due at_bracket operators.Divide = refl
operator_due at_bracket operators.Remainder = refl
operator_due at_parenthesis operators.Or = refl
operator_due at_parenthesis operators.And = refl
operator_due at_parenthesis operators.Equal = refl
operator_due at_parenthesis operators.NotEqual = refl
operator_due at_parenthesis operators.Less = refl
operator_due at_parenthesis operators.LessEqual = refl
operator_due at_parenthesis operators.Greater = refl
operator_due at_parenthesis operators.GreaterEqual = refl
operator_due at_parenthesis operators.Add = refl
operator_due at_parenthesis operators.Subtract = refl
operator_due at_parenthesis operators.Multiply = refl
operator_due at_parenthesis operators.Divide = refl
operator_due at_parenthesis operators.Remainder = refl
operator_due at_argument operators.Or = refl
operator_due at_argument operators.And = refl
operator_due at_argument operators.Equal = refl
operator_due at_argument operators.NotEqual = refl
operator_due at_argument operators.Less = refl
operator_due at_argument operators.LessEqual = refl
operator_due at_argument operators.Greater = refl
operator_due at_argument operators.GreaterEqual = refl
operator_due at_argument operators.Add = refl
operator_due at_argument operators.Subtract = refl
operator_due at_argument operators.Multiply = refl
operator_due at_argument operators.Divide = refl
operator_due at_argument operators.Remainder = refl

operator_marked : (closing : Closing) (depth : ℕ) (operator : BinOp) →
    marked_by (nested_at depth (links closing)) (symbol (operator_symbol operator))
    ≡ mark node depth (symbol (operator_symbol operator))
operator_marked closing depth operators.Or = refl
operator_marked closing depth operators.And = refl
operator_marked closing depth operators.Equal = refl
operator_marked closing depth operators.NotEqual = refl
operator_marked closing depth operators.Less = refl
operator_marked closing depth operators.LessEqual = refl
operator_marked closing depth operators.Greater = refl
operator_marked closing depth operators.GreaterEqual = refl
operator_marked closing depth operators.Add = refl
operator_marked closing depth operators.Subtract = refl
operator_marked closing depth operators.Multiply = refl
operator_marked closing depth operators.Divide = refl
operator_marked closing depth operators.Remainder = refl

pub takes_operator : {old new : Cursor} (closing : Closing) (depth : ℕ) (operator : BinOp) →
    IsNextSymbol old (operator_symbol operator) → Counted old new depth node →
    Takes old new (links_due closing depth) (operand_due closing depth depth)
takes_operator closing depth operator is counted =
    takes_counted (nested_at depth (links closing)) (symbol (operator_symbol operator))
    (operand closing ∷ []) depth node is
    counted (operator_due closing operator) (operator_marked closing depth operator)

pub operator_over : {old : Cursor} {error : ParseError} (closing : Closing) (depth : ℕ) (operator : BinOp)
    (more : List TokenKind) → kinds old.rest.now ≡ symbol (operator_symbol operator) ∷ more →
    IsOver old depth node error → Fails old (links_due closing depth) error
operator_over closing depth operator more is over =
    fails_at_limit (nested_at depth (links closing)) (symbol (operator_symbol operator)) more
    (operand closing ∷ []) depth
    node is over (operator_due closing operator) (operator_marked closing depth operator)

-- ---- what ends an expression

pub takes_closing : {old new : Cursor} (closing : Closing) (depth : ℕ) → depth ≤ NESTING →
    PassesSymbol old new (closing_symbol closing) → Takes old new (links_due closing depth) []
takes_closing at_semicolon depth nested passes =
    takes_passed (nested_at depth (links at_semicolon)) (symbol symbols.Semicolon) [] depth (step_symbol passes)
    passes.passes.counts nested refl refl
takes_closing at_comma depth nested passes =
    takes_passed (nested_at depth (links at_comma)) (symbol symbols.Comma) [] depth (step_symbol passes)
    passes.passes.counts nested refl refl
takes_closing at_bracket depth nested passes =
    takes_passed (nested_at depth (links at_bracket)) (symbol symbols.RightBracket) [] depth (step_symbol passes)
    passes.passes.counts nested refl refl
takes_closing at_parenthesis depth nested passes =
    takes_passed (nested_at depth (links at_parenthesis)) (symbol symbols.RightParenthesis) [] depth
    (step_symbol passes)
    passes.passes.counts nested refl refl
takes_closing at_argument depth nested passes =
    takes_passed (nested_at depth (links at_argument)) (symbol symbols.RightParenthesis) [] depth (step_symbol passes)
    passes.passes.counts nested refl refl

-- arguments may go on
abbrev pub IsNoComma : Closing → Cursor → Type 0
IsNoComma at_argument cursor = ¬ IsNextSymbol cursor symbols.Comma
IsNoComma _ cursor = Unit {0}

closing_none : (old : Cursor) (closing : Closing) (kind : TokenKind) → StopsAt 0 old →
    ¬ IsNextSymbol old (closing_symbol closing) → IsNoComma closing old → IsNextKind old kind →
    due_after_token (links closing) kind ≡ None
closing_none old closing (token.Name name) stops other comma is = refl
closing_none old closing (token.Number number) stops other comma is = refl
closing_none old closing (token.Word word) stops other comma is = refl
closing_none old at_semicolon (token.Symbol symbols.Semicolon) stops other comma is = absurd (other is)
closing_none old at_semicolon (token.Symbol symbols.Or) stops other comma is =
    absurd (never_next old operators.Or stops is)
closing_none old at_semicolon (token.Symbol symbols.And) stops other comma is =
    absurd (never_next old operators.And stops is)
closing_none old at_semicolon (token.Symbol symbols.Equal) stops other comma is =
    absurd (never_next old operators.Equal stops is)
closing_none old at_semicolon (token.Symbol symbols.NotEqual) stops other comma is =
    absurd (never_next old operators.NotEqual stops is)
closing_none old at_semicolon (token.Symbol symbols.Less) stops other comma is =
    absurd (never_next old operators.Less stops is)
closing_none old at_semicolon (token.Symbol symbols.LessOrEqual) stops other comma is =
    absurd (never_next old operators.LessEqual stops is)
closing_none old at_semicolon (token.Symbol symbols.Greater) stops other comma is =
    absurd (never_next old operators.Greater stops is)
closing_none old at_semicolon (token.Symbol symbols.GreaterOrEqual) stops other comma is =
    absurd (never_next old operators.GreaterEqual stops is)
closing_none old at_semicolon (token.Symbol symbols.Plus) stops other comma is =
    absurd (never_next old operators.Add stops is)
closing_none old at_semicolon (token.Symbol symbols.Minus) stops other comma is =
    absurd (never_next old operators.Subtract stops is)
closing_none old at_semicolon (token.Symbol symbols.Star) stops other comma is =
    absurd (never_next old operators.Multiply stops is)
closing_none old at_semicolon (token.Symbol symbols.Slash) stops other comma is =
    absurd (never_next old operators.Divide stops is)
closing_none old at_semicolon (token.Symbol symbols.Percent) stops other comma is =
    absurd (never_next old operators.Remainder stops is)
closing_none old at_semicolon (token.Symbol _) stops other comma is = refl
closing_none old at_comma (token.Symbol symbols.Comma) stops other comma is = absurd (other is)
closing_none old at_comma (token.Symbol symbols.Or) stops other comma is =
    absurd (never_next old operators.Or stops is)
closing_none old at_comma (token.Symbol symbols.And) stops other comma is =
    absurd (never_next old operators.And stops is)
closing_none old at_comma (token.Symbol symbols.Equal) stops other comma is =
    absurd (never_next old operators.Equal stops is)
closing_none old at_comma (token.Symbol symbols.NotEqual) stops other comma is =
    absurd (never_next old operators.NotEqual stops is)
closing_none old at_comma (token.Symbol symbols.Less) stops other comma is =
    absurd (never_next old operators.Less stops is)
closing_none old at_comma (token.Symbol symbols.LessOrEqual) stops other comma is =
    absurd (never_next old operators.LessEqual stops is)
closing_none old at_comma (token.Symbol symbols.Greater) stops other comma is =
    absurd (never_next old operators.Greater stops is)
closing_none old at_comma (token.Symbol symbols.GreaterOrEqual) stops other comma is =
    absurd (never_next old operators.GreaterEqual stops is)
closing_none old at_comma (token.Symbol symbols.Plus) stops other comma is =
    absurd (never_next old operators.Add stops is)
closing_none old at_comma (token.Symbol symbols.Minus) stops other comma is =
    absurd (never_next old operators.Subtract stops is)
closing_none old at_comma (token.Symbol symbols.Star) stops other comma is =
    absurd (never_next old operators.Multiply stops is)
closing_none old at_comma (token.Symbol symbols.Slash) stops other comma is =
    absurd (never_next old operators.Divide stops is)
closing_none old at_comma (token.Symbol symbols.Percent) stops other comma is =
    absurd (never_next old operators.Remainder stops is)
closing_none old at_comma (token.Symbol _) stops other comma is = refl
closing_none old at_bracket (token.Symbol symbols.RightBracket) stops other comma is = absurd (other is)
closing_none old at_bracket (token.Symbol symbols.Or) stops other comma is =
    absurd (never_next old operators.Or stops is)
closing_none old at_bracket (token.Symbol symbols.And) stops other comma is =
    absurd (never_next old operators.And stops is)
closing_none old at_bracket (token.Symbol symbols.Equal) stops other comma is =
    absurd (never_next old operators.Equal stops is)
closing_none old at_bracket (token.Symbol symbols.NotEqual) stops other comma is =
    absurd (never_next old operators.NotEqual stops is)
closing_none old at_bracket (token.Symbol symbols.Less) stops other comma is =
    absurd (never_next old operators.Less stops is)
closing_none old at_bracket (token.Symbol symbols.LessOrEqual) stops other comma is =
    absurd (never_next old operators.LessEqual stops is)
closing_none old at_bracket (token.Symbol symbols.Greater) stops other comma is =
    absurd (never_next old operators.Greater stops is)
closing_none old at_bracket (token.Symbol symbols.GreaterOrEqual) stops other comma is =
    absurd (never_next old operators.GreaterEqual stops is)
closing_none old at_bracket (token.Symbol symbols.Plus) stops other comma is =
    absurd (never_next old operators.Add stops is)
closing_none old at_bracket (token.Symbol symbols.Minus) stops other comma is =
    absurd (never_next old operators.Subtract stops is)
closing_none old at_bracket (token.Symbol symbols.Star) stops other comma is =
    absurd (never_next old operators.Multiply stops is)
closing_none old at_bracket (token.Symbol symbols.Slash) stops other comma is =
    absurd (never_next old operators.Divide stops is)
closing_none old at_bracket (token.Symbol symbols.Percent) stops other comma is =
    absurd (never_next old operators.Remainder stops is)
closing_none old at_bracket (token.Symbol _) stops other comma is = refl
closing_none old at_parenthesis (token.Symbol symbols.RightParenthesis) stops other comma is = absurd (other is)
closing_none old at_parenthesis (token.Symbol symbols.Or) stops other comma is =
    absurd (never_next old operators.Or stops is)
closing_none old at_parenthesis (token.Symbol symbols.And) stops other comma is =
    absurd (never_next old operators.And stops is)
closing_none old at_parenthesis (token.Symbol symbols.Equal) stops other comma is =
    absurd (never_next old operators.Equal stops is)
closing_none old at_parenthesis (token.Symbol symbols.NotEqual) stops other comma is =
    absurd (never_next old operators.NotEqual stops is)
closing_none old at_parenthesis (token.Symbol symbols.Less) stops other comma is =
    absurd (never_next old operators.Less stops is)
closing_none old at_parenthesis (token.Symbol symbols.LessOrEqual) stops other comma is =
    absurd (never_next old operators.LessEqual stops is)
closing_none old at_parenthesis (token.Symbol symbols.Greater) stops other comma is =
    absurd (never_next old operators.Greater stops is)
closing_none old at_parenthesis (token.Symbol symbols.GreaterOrEqual) stops other comma is =
    absurd (never_next old operators.GreaterEqual stops is)
closing_none old at_parenthesis (token.Symbol symbols.Plus) stops other comma is =
    absurd (never_next old operators.Add stops is)
closing_none old at_parenthesis (token.Symbol symbols.Minus) stops other comma is =
    absurd (never_next old operators.Subtract stops is)
closing_none old at_parenthesis (token.Symbol symbols.Star) stops other comma is =
    absurd (never_next old operators.Multiply stops is)
closing_none old at_parenthesis (token.Symbol symbols.Slash) stops other comma is =
    absurd (never_next old operators.Divide stops is)
closing_none old at_parenthesis (token.Symbol symbols.Percent) stops other comma is =
    absurd (never_next old operators.Remainder stops is)
closing_none old at_parenthesis (token.Symbol _) stops other comma is = refl
closing_none old at_argument (token.Symbol symbols.RightParenthesis) stops other comma is = absurd (other is)
closing_none old at_argument (token.Symbol symbols.Comma) stops other comma is = absurd (comma is)
closing_none old at_argument (token.Symbol symbols.Or) stops other comma is =
    absurd (never_next old operators.Or stops is)
closing_none old at_argument (token.Symbol symbols.And) stops other comma is =
    absurd (never_next old operators.And stops is)
closing_none old at_argument (token.Symbol symbols.Equal) stops other comma is =
    absurd (never_next old operators.Equal stops is)
closing_none old at_argument (token.Symbol symbols.NotEqual) stops other comma is =
    absurd (never_next old operators.NotEqual stops is)
closing_none old at_argument (token.Symbol symbols.Less) stops other comma is =
    absurd (never_next old operators.Less stops is)
closing_none old at_argument (token.Symbol symbols.LessOrEqual) stops other comma is =
    absurd (never_next old operators.LessEqual stops is)
closing_none old at_argument (token.Symbol symbols.Greater) stops other comma is =
    absurd (never_next old operators.Greater stops is)
closing_none old at_argument (token.Symbol symbols.GreaterOrEqual) stops other comma is =
    absurd (never_next old operators.GreaterEqual stops is)
closing_none old at_argument (token.Symbol symbols.Plus) stops other comma is =
    absurd (never_next old operators.Add stops is)
closing_none old at_argument (token.Symbol symbols.Minus) stops other comma is =
    absurd (never_next old operators.Subtract stops is)
closing_none old at_argument (token.Symbol symbols.Star) stops other comma is =
    absurd (never_next old operators.Multiply stops is)
closing_none old at_argument (token.Symbol symbols.Slash) stops other comma is =
    absurd (never_next old operators.Divide stops is)
closing_none old at_argument (token.Symbol symbols.Percent) stops other comma is =
    absurd (never_next old operators.Remainder stops is)
closing_none old at_argument (token.Symbol _) stops other comma is = refl

pub closing_fails : (old : Cursor) (error : ParseError) (closing : Closing) (depth : ℕ) → StopsAt 0 old →
    IsNoComma closing old → (error ≡ fault.Unexpected old.at) × ¬ IsNextSymbol old (closing_symbol closing) →
    Fails old (links_due closing depth) error
closing_fails old error closing depth stops comma other =
    fails_other old error (nested_at depth (links closing)) other.0
    (λ kind is. closing_none old closing kind stops other.1 comma is)

-- ---- behind a name

same_behind_name : (closing : Closing) (depth inner : ℕ) (kind : TokenKind) → ¬ (kind ≡ symbol symbols.LeftBracket) →
    SameStep (record { due = after_operand_name closing; depth = depth; inner = inner })
    (nested_at depth (links closing))
    kind
same_behind_name closing depth inner (token.Name name) other later t n = refl
same_behind_name closing depth inner (token.Number number) other later t n = refl
same_behind_name closing depth inner (token.Word word) other later t n = refl
same_behind_name closing depth inner (token.Symbol symbols.LeftBracket) other later t n = absurd (other refl)
same_behind_name closing depth inner (token.Symbol _) other later t n = refl

-- where no bracket is next, a name is the whole operand
pub takes_as_links : (old : Cursor) (closing : Closing) (depth inner : ℕ) → ¬ IsNextSymbol old symbols.LeftBracket →
    Takes old old (record { due = after_operand_name closing; depth = depth; inner = inner } ∷ [])
    (links_due closing depth)
takes_as_links old closing depth inner other =
    takes_same old (record { due = after_operand_name closing; depth = depth; inner = inner })
    (nested_at depth (links closing))
    (λ kind is. same_behind_name closing depth inner kind (λ same. other (subst (IsNextKind old) same is)))

pub no_comma : (last : Ending) (cursor : Cursor) → IsNoComma (closing_of last) cursor
no_comma ending.Semicolon cursor = tt
no_comma ending.Comma cursor = tt
no_comma ending.Bracket cursor = tt
no_comma ending.Parenthesis cursor = tt
