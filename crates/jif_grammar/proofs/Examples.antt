-- What the definitions say of small programs, computed.
use Rattle.std.proofs.Common.{◌≡◌, ℕ, pos, [], ◌∷◌, map, codes, refl, None, arith, inl, inr}
use Rattle.js_base.specs.declared.binary_operator.BinOp.TheVariants as operator
use Rattle.jif_lex.specs.declared.token.TokenKind.TheVariants.{Name, Number, Word}
use Rattle.jif_lex.specs.declared.token.Symbol.TheVariants as symbols
use Rattle.jif_lex.specs.declared.token.Word.TheVariants as words
use Rattle.label_lattice.specs.Written.{symbol}
use Rattle.jif_grammar.specs.Phrases.{ExprPhrase, number, variable, element, parenthesized, signed, binary, relabelled}
use Rattle.jif_grammar.specs.Phrases.{complement, minus, release, end, declaration, assignment, call_into, branch}
use Rattle.jif_grammar.specs.Phrases.{unset}
use Rattle.jif_grammar.specs.Phrases.{sized, field, method, ProgramPhrase}
use Rattle.jif_grammar.specs.Grouping.{IsGrouped, IsFieldEnd}
use Rattle.jif_grammar.specs.Marks.{tally, tally_at_start, HasTooMany}
use Rattle.jif_grammar.specs.Spelling.{expr_spelling, block_spelling, spelling}
use Rattle.jif_grammar.specs.DraftShapes.{end_shape, assignment_shape, number_shape}
use Rattle.jif_grammar.specs.Drafts.{draft_of, name_at}
use Rattle.jif_grammar.specs.Programs.{token_kinds, ComesBefore, unexpected, too_deep, too_many}
use Rattle.jif_grammar.specs.declared.what.What.TheVariants as what

abbrev a : ExprPhrase
a = variable (codes "a")

abbrev b : ExprPhrase
b = variable (codes "b")

abbrev c : ExprPhrase
c = variable (codes "c")

-- ---- grouping

-- `a - b - c` groups from the left, and not from the right
from_left : IsGrouped (binary operator.Subtract (binary operator.Subtract a b) c)
from_left = (omega arith, omega arith, (omega arith, omega arith, tt, tt), tt)

not_from_right : ¬ IsGrouped (binary operator.Subtract a (binary operator.Subtract b c))
not_from_right grouped = omega (arith, grouped.1)

-- `a || b && c` has `b && c` as its right operand, and `a && b || c` has `a && b` as its left one
and_is_tighter : IsGrouped (binary operator.Or a (binary operator.And b c))
and_is_tighter = (omega arith, omega arith, tt, (omega arith, omega arith, tt, tt))

or_is_looser : ¬ IsGrouped (binary operator.And (binary operator.Or a b) c)
or_is_looser grouped = omega (arith, grouped.0)

-- `a < b == c` compares first
comparison_is_tighter : IsGrouped (binary operator.Equal (binary operator.Less a b) c)
comparison_is_tighter = (omega arith, omega arith, (omega arith, omega arith, tt, tt), tt)

-- a sign stands before an operand, and not before a sum
no_sign_of_sum : ¬ IsGrouped (signed minus (binary operator.Add a b))
no_sign_of_sum grouped = omega (arith, grouped.0)

-- ---- nesting

-- `((a))`, `!-a`, `a[b]` and `declassify(a, {})`, token by token
parentheses : map (λ t. t.nesting) (expr_spelling 0 (parenthesized (parenthesized a)))
    ≡ 1 ∷ 2 ∷ 2 ∷ 2 ∷ 1 ∷ []
parentheses = refl

signs : map (λ t. t.nesting) (expr_spelling 0 (signed complement (signed minus a))) ≡ 1 ∷ 2 ∷ 2 ∷ []
signs = refl

index : map (λ t. t.nesting) (expr_spelling 0 (element (codes "a") b)) ≡ 0 ∷ 1 ∷ 1 ∷ 1 ∷ []
index = refl

relabelling : map (λ t. t.nesting) (expr_spelling 0 (relabelled release a [])) ≡ 1 ∷ 1 ∷ 1 ∷ 1 ∷ 1 ∷ 1 ∷ 1 ∷ []
relabelling = refl

-- `if (a) { b = c; }`: the parentheses belong to the statement, and the block counts
block : map (λ t. t.nesting) (block_spelling 0 (branch a (assignment (codes "b") c end) end))
    ≡ 0 ∷ 0 ∷ 0 ∷ 0 ∷ 1 ∷ 1 ∷ 1 ∷ 1 ∷ 1 ∷ 1 ∷ []
block = refl

-- ---- what begins

-- `a[b] + 1` has four nodes, and `a = m(b);` one
nodes : (tally (expr_spelling 0 (binary operator.Add (element (codes "a") b) (number 1)))).nodes ≡ 4
nodes = refl

nodes_of_call : (tally (block_spelling 0 (call_into (codes "a") (codes "m") (b ∷ []) end))).nodes ≡ 1
nodes_of_call = refl

-- `int{} x; int{} t[3]; void main{}() { int y = 1; }`
abbrev small : ProgramPhrase
small =
    field (record { label = []; name = codes "x"; ending = unset })
    ∷ field (record { label = []; name = codes "t"; ending = sized 3 })
    ∷ method (record {
      kind = None;
      name = codes "main";
      begin = [];
      params = [];
      authority = [];
      body = declaration None (codes "y") (number 1) end;
      result = None;
    }) ∷ []

all_that_began : tally (spelling small) ≡ record {
  nesting = 0;
  methods = 1;
  statements = 2;
  parameters = 0;
  variables = 1;
  nodes = 1;
  fields = 2;
  size = 3;
  elements = 4;
}
all_that_began = refl

-- ---- limits

-- an array has an element
no_array_of_nothing : ¬ IsFieldEnd (sized 0)
no_array_of_nothing within = omega (arith, within)

-- an expression has 256 nodes and no more
nodes_within : ¬ HasTooMany what.Nodes (record tally_at_start { nodes = 256 })
nodes_within past = omega (arith, past)

nodes_past : HasTooMany what.Nodes (record tally_at_start { nodes = 257 })
nodes_past = omega arith

-- at one token nesting comes first, then what is too many in the order of the limits, and what goes on no program last
nesting_first : ComesBefore (too_deep 5) (too_many what.Methods 5)
nesting_first = inr (refl, omega arith)

fields_before_elements : ComesBefore (too_many what.Fields 5) (too_many what.Elements 5)
fields_before_elements = inr (refl, omega arith)

unexpected_last : ComesBefore (too_many what.Elements 5) (unexpected 5)
unexpected_last = inr (refl, omega arith)

-- the earlier token comes first, whatever is there
earlier_first : ComesBefore (unexpected 4) (too_deep 5)
earlier_first = inl (omega arith)

-- ---- tokens

-- `int{} x; void main{}() { y = 1; }`, whose name `y` is token 12
abbrev unknown_name : ProgramPhrase
unknown_name =
    field (record { label = []; name = codes "x"; ending = unset })
    ∷ method (record {
      kind = None;
      name = codes "main";
      begin = [];
      params = [];
      authority = [];
      body = assignment (codes "y") (number 1) end;
      result = None;
    }) ∷ []

its_tokens : token_kinds (spelling unknown_name)
    ≡ Word words.Int ∷ symbol symbols.LeftBrace ∷ symbol symbols.RightBrace ∷ Name (codes "x")
    ∷ symbol symbols.Semicolon ∷ Word words.Void ∷ Name (codes "main") ∷ symbol symbols.LeftBrace
    ∷ symbol symbols.RightBrace ∷ symbol symbols.LeftParenthesis ∷ symbol symbols.RightParenthesis
    ∷ symbol symbols.LeftBrace ∷ Name (codes "y") ∷ symbol symbols.Assign ∷ Number (pos 1)
    ∷ symbol symbols.Semicolon ∷ symbol symbols.RightBrace ∷ []
its_tokens = refl

its_body : (lines : ℕ → ℕ) → map (λ method. method.body) (draft_of lines unknown_name).methods
    ≡ assignment_shape (record { at = 12; line = lines 12 }) (name_at 12 (codes "y")) (number_shape (pos 1)) end_shape
    ∷ []
its_body lines = refl
