-- What is due, with the constructs that are open around it, and the mark of each token by what it was due for.
use Rattle.std.specs.Prelude.{ℕ, suc, ℤ, pos, List, [], ◌∷◌, ◌++◌, Option, Some, None}
use Rattle.std.specs.Option.{option_map}
use Rattle.jif_lex.specs.declared.token.TokenKind.{TokenKind}
use Rattle.jif_lex.specs.declared.token.TokenKind.TheVariants as token
use Rattle.jif_lex.specs.declared.token.Symbol.{Symbol}
use Rattle.jif_lex.specs.declared.token.Symbol.TheVariants as symbols
use Rattle.jif_lex.specs.declared.token.Word.{Word}
use Rattle.jif_lex.specs.declared.token.Word.TheVariants as words
use Rattle.js_base.specs.declared.binary_operator.BinOp.{BinOp}
use Rattle.jif_grammar.specs.Operators.{operator_of}
use Rattle.jif_grammar.specs.Due.{Due, after_name, a_size, int_word, params, statements, otherwise, value}
use Rattle.jif_grammar.specs.Due.{after_value_name, args, operand, after_operand_name, links}
use Rattle.jif_grammar.specs.Due.{due_after_token, item_due}
use Rattle.jif_grammar.specs.Marks as marks
use Rattle.jif_grammar.specs.Marks.{Beginning, nothing, plain_field, array, elements, parameter, local, statement}
use Rattle.jif_grammar.specs.Marks.{node, Marked, mark}

-- `depth` counts the constructs that are open around what is due, and `inner` has those and the signs before an
-- operand.
pub record Nested : Type 0 where
  pub due : Due
  pub depth : ℕ
  pub inner : ℕ

-- no sign stands before it
abbrev pub nested_at : ℕ → Due → Nested
nested_at depth due = record { due = due; depth = depth; inner = depth }

-- ---- the constructs around what a token makes due

-- The depth and the inner depth of the first of what is due; what follows has the depth of what was due before.
abbrev pub nested_all : ℕ → List (ℕ × ℕ) → List Due → List Nested
nested_all depth depths [] = []
nested_all depth [] (due ∷ dues) = nested_at depth due ∷ nested_all depth [] dues
nested_all depth ((first, inner) ∷ depths) (due ∷ dues) =
    record { due = due; depth = first; inner = inner } ∷ nested_all depth depths dues

abbrev pub operand_depths : ℕ → ℕ → TokenKind → List (ℕ × ℕ)
operand_depths depth inner (token.Name name) = (depth, inner) ∷ []
operand_depths depth inner (token.Symbol symbols.LeftParenthesis) = (suc inner, suc inner) ∷ []
operand_depths depth inner (token.Symbol symbols.Not) = (depth, suc inner) ∷ []
operand_depths depth inner (token.Symbol symbols.Minus) = (depth, suc inner) ∷ []
operand_depths depth inner (token.Word word) =
    (suc inner, suc inner) ∷ (suc inner, suc inner) ∷ (suc inner, suc inner) ∷ (suc inner, suc inner) ∷ []
operand_depths depth inner kind = []

-- behind a name that may be an array
abbrev pub index_depths : ℕ → TokenKind → List (ℕ × ℕ)
index_depths inner (token.Symbol symbols.LeftBracket) = (suc inner, suc inner) ∷ []
index_depths inner kind = []

-- a guard with its parentheses, and a block with its braces
abbrev pub statement_depths : ℕ → TokenKind → List (ℕ × ℕ)
statement_depths depth (token.Word words.If) =
    (depth, depth) ∷ (depth, depth) ∷ (suc depth, suc depth) ∷ (suc depth, suc depth) ∷ []
statement_depths depth (token.Word words.While) =
    (depth, depth) ∷ (depth, depth) ∷ (suc depth, suc depth) ∷ (suc depth, suc depth) ∷ []
statement_depths depth (token.Word words.Else) = (suc depth, suc depth) ∷ (suc depth, suc depth) ∷ []
statement_depths depth kind = []

abbrev pub depths_after : Due → ℕ → ℕ → TokenKind → List (ℕ × ℕ)
depths_after (statements place) depth inner kind = statement_depths depth kind
depths_after (otherwise place) depth inner kind = statement_depths depth kind
depths_after value depth inner kind = operand_depths depth inner kind
depths_after args depth inner kind = operand_depths depth inner kind
depths_after (operand closing) depth inner kind = operand_depths depth inner kind
depths_after after_value_name depth inner kind = index_depths inner kind
depths_after (after_operand_name closing) depth inner kind = index_depths inner kind
depths_after due depth inner kind = []

-- ---- the mark of a token

-- a number and a name stand where the operand stands, and all else that begins an operand opens a construct
abbrev pub operand_nesting : ℕ → TokenKind → ℕ
operand_nesting inner (token.Name name) = inner
operand_nesting inner (token.Number n) = inner
operand_nesting inner (token.Symbol symbols.RightParenthesis) = inner
operand_nesting inner kind = suc inner

abbrev pub index_nesting : ℕ → ℕ → TokenKind → ℕ
index_nesting depth inner (token.Symbol symbols.LeftBracket) = suc inner
index_nesting depth inner kind = depth

abbrev pub nesting_at : Due → ℕ → ℕ → TokenKind → ℕ
nesting_at value depth inner kind = operand_nesting inner kind
nesting_at args depth inner kind = operand_nesting inner kind
nesting_at (operand closing) depth inner kind = operand_nesting inner kind
nesting_at after_value_name depth inner kind = index_nesting depth inner kind
nesting_at (after_operand_name closing) depth inner kind = index_nesting depth inner kind
nesting_at due depth inner kind = depth

abbrev pub begins_at_name : Due → Beginning
begins_at_name (statements place) = statement
begins_at_name (otherwise place) = statement
begins_at_name value = node
begins_at_name args = node
begins_at_name (operand closing) = node
begins_at_name due = nothing

abbrev pub begins_at_number : Due → ℤ → Beginning
begins_at_number a_size (pos size) = elements size
begins_at_number value n = node
begins_at_number args n = node
begins_at_number (operand closing) n = node
begins_at_number due n = nothing

abbrev pub begins_at_statement : Word → Beginning
begins_at_statement words.Int = local
begins_at_statement words.Else = nothing
begins_at_statement word = statement

abbrev pub begins_at_word : Due → Word → Beginning
begins_at_word int_word word = parameter
begins_at_word params word = parameter
begins_at_word (statements place) word = begins_at_statement word
begins_at_word (otherwise place) word = begins_at_statement word
begins_at_word value word = node
begins_at_word args word = node
begins_at_word (operand closing) word = node
begins_at_word due word = nothing

abbrev pub begins_at_operator : Option BinOp → Beginning
begins_at_operator None = nothing
begins_at_operator (Some operator) = node

-- a sign is a node
abbrev pub begins_at_operand : Symbol → Beginning
begins_at_operand symbols.Not = node
begins_at_operand symbols.Minus = node
begins_at_operand symbol = nothing

abbrev pub begins_after_name : Symbol → Beginning
begins_after_name symbols.LeftBracket = array
begins_after_name symbols.LeftBrace = marks.method
begins_after_name symbol = plain_field

abbrev pub begins_after_value_name : Symbol → Beginning
begins_after_value_name symbols.LeftParenthesis = marks.arguments
begins_after_value_name symbol = begins_at_operator (operator_of symbol)

abbrev pub begins_at_symbol : Due → Symbol → Beginning
begins_at_symbol after_name symbol = begins_after_name symbol
begins_at_symbol value symbol = begins_at_operand symbol
begins_at_symbol args symbol = begins_at_operand symbol
begins_at_symbol (operand closing) symbol = begins_at_operand symbol
begins_at_symbol after_value_name symbol = begins_after_value_name symbol
begins_at_symbol (after_operand_name closing) symbol = begins_at_operator (operator_of symbol)
begins_at_symbol (links closing) symbol = begins_at_operator (operator_of symbol)
begins_at_symbol due symbol = nothing

abbrev pub begins_at : Due → TokenKind → Beginning
begins_at due (token.Name name) = begins_at_name due
begins_at due (token.Number n) = begins_at_number due n
begins_at due (token.Word word) = begins_at_word due word
begins_at due (token.Symbol symbol) = begins_at_symbol due symbol

-- where a field or a method begins
abbrev pub begins_item : TokenKind → Beginning
begins_item (token.Word words.Void) = marks.method
begins_item kind = nothing

-- ---- what a token makes of what is due

abbrev pub marked_by : Nested → TokenKind → Marked
marked_by first kind = mark (begins_at first.due kind) (nesting_at first.due first.depth first.inner kind) kind

abbrev pub nested_after : Nested → TokenKind → List Due → List Nested
nested_after first kind dues =
    nested_all first.depth (depths_after first.due first.depth first.inner kind) dues

-- the marked token, and what is due behind it
abbrev pub nested_next : List Nested → TokenKind → Option (Marked × List Nested)
nested_next [] kind =
    option_map (λ dues. (mark (begins_item kind) 0 kind, nested_all 0 [] dues)) (item_due kind)
nested_next (first ∷ later) kind =
    option_map (λ sooner. (marked_by first kind, nested_after first kind sooner ++ later))
    (due_after_token first.due kind)
