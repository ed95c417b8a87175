-- How expressions are printed: as phrases of the grammar, with parentheses where the operators ask for them and nowhere
-- else.
use Rattle.std.specs.Prelude.{ℕ, suc, pos, negsuc, Bool, true, false, List, ◌++◌, codes}
use Rattle.std.specs.Bool.{nat_lt}
use Rattle.std.specs.Fmt.{signed_decimal}
use Rattle.std.specs.List.{join_by}
use Rattle.jif_lex.specs.Symbols.{symbol_text, word_text}
use Rattle.label_lattice.specs.Printed.{printed_part, printed_parts}
use Rattle.jif_tree.specs.Trees as tree
use Rattle.jif_tree.specs.Trees.{ExprTree}
use Rattle.jif_grammar.specs.Phrases.{LabelPhrase, ExprPhrase, number, variable, element, parenthesized, signed, binary}
use Rattle.jif_grammar.specs.Phrases.{relabelled, complement, minus, release, acceptance}
use Rattle.jif_grammar.specs.Operators.{operator_symbol, operator_level, tightest_level, sign_symbol, change_word}
use Rattle.jif_grammar.specs.Grouping.{level}
use Rattle.jif_parse.specs.PrintedNames.{Naming, field_name, variable_name}

-- ---- the phrase of an expression

abbrev pub parenthesized_where : Bool → ExprPhrase → ExprPhrase
parenthesized_where true inner = parenthesized inner
parenthesized_where false inner = inner

-- an operand that has to bind at least so tightly
unfoldable pub operand : ℕ → ExprPhrase → ExprPhrase
operand least inner = parenthesized_where (nat_lt (level inner) least) inner

-- Operators of one level group from the left, so the operand on the right has to bind more tightly than the operator. A
-- negative number is one with a sign before it.
abbrev pub expr_phrase : Naming → ExprTree → ExprPhrase
expr_phrase naming (tree.number (pos n)) = number n
expr_phrase naming (tree.number (negsuc n)) = signed minus (number (suc n))
expr_phrase naming (tree.local x) = variable (variable_name naming x)
expr_phrase naming (tree.scalar field) = variable (field_name naming field)
expr_phrase naming (tree.element field index) = element (field_name naming field) (expr_phrase naming index)
expr_phrase naming (tree.inverted inner) = signed complement (operand tightest_level (expr_phrase naming inner))
expr_phrase naming (tree.negated inner) = signed minus (operand tightest_level (expr_phrase naming inner))
expr_phrase naming (tree.binary operator left right) =
    binary operator (operand (operator_level operator) (expr_phrase naming left))
    (operand (suc (operator_level operator)) (expr_phrase naming right))
expr_phrase naming (tree.declassified inner label) =
    relabelled release (expr_phrase naming inner) (printed_parts naming.principals label)
expr_phrase naming (tree.endorsed inner label) =
    relabelled acceptance (expr_phrase naming inner) (printed_parts naming.principals label)

-- ---- its text

-- as a label is printed everywhere
abbrev pub label_phrase_text : LabelPhrase → List ℕ
label_phrase_text parts = codes "{" ++ join_by printed_part (codes "; ") parts ++ codes "}"

-- a blank stands on both sides of an operator between two operands, and none behind a sign
abbrev pub phrase_text : ExprPhrase → List ℕ
phrase_text (number n) = signed_decimal (pos n)
phrase_text (variable name) = name
phrase_text (element name index) = name ++ codes "[" ++ phrase_text index ++ codes "]"
phrase_text (parenthesized inner) = codes "(" ++ phrase_text inner ++ codes ")"
phrase_text (signed sign inner) = symbol_text (sign_symbol sign) ++ phrase_text inner
phrase_text (binary operator left right) =
    phrase_text left ++ codes " " ++ symbol_text (operator_symbol operator) ++ codes " " ++ phrase_text right
phrase_text (relabelled change inner label) =
    word_text (change_word change) ++ codes "(" ++ phrase_text inner ++ codes ", " ++ label_phrase_text label
    ++ codes ")"

abbrev pub expr_text : Naming → ExprTree → List ℕ
expr_text naming value = phrase_text (expr_phrase naming value)
