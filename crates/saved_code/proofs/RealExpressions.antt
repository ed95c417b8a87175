-- What an expression becomes in instructions leaves one value, and its numbers fit.
use Rattle.std.proofs.Common.{◌≡◌, ◌∙◌, ℕ, suc, ◌+◌, ◌≤◌, List, [], ◌∷◌, ◌++◌, length, Some, refl, ap, sym}
use Rattle.std.proofs.Common.{arith, All, append_assoc, length-append}
use Rattle.std.specs.Prelude.{pos}
use Rattle.std.specs.List.{AllByRecursion}
use Rattle.std.proofs.lemmas.List.{append-nil}
use Rattle.std.proofs.lemmas.List.Elements.{All-nil, All-cons, All-append}
use Rattle.js_base.specs.declared.limits.TheConstants.{EXPRESSION_NODES}
use Rattle.jif_tree.specs.Trees.{ExprTree, number, local, scalar, element, inverted, negated, binary, declassified}
use Rattle.jif_tree.specs.Trees.{endorsed}
use Rattle.jif_tree.specs.Numbers.{ExprHasNumbers}
use Rattle.jif_tree.specs.Sizes.{expr_nodes}
use Rattle.host_code.specs.declared.code_expr.Node.{Node}
use Rattle.host_code.specs.declared.code_expr.Node.TheVariants as node
use Rattle.host_code.specs.CodeExpr.{depth_after}
use Rattle.split_file.specs.File.{HasWord, IsWordExpression}
use Rattle.split_rules.specs.Expressions.{reads_in, nodes_of, first_element, ElementReading, readings_of}

-- ---- one value

-- behind an expression there is one value more
one_more : (first : ℕ) (expr : ExprTree) (rest : List Node) (depth : ℕ) →
    depth_after (nodes_of first expr ++ rest) depth ≡ depth_after rest (suc depth)
one_more first (number value) rest depth = refl
one_more first (local x) rest depth = refl
one_more first (scalar field) rest depth = refl
one_more first (element field index) rest depth = refl
one_more first (inverted operand) rest depth =
    ap (λ (nodes : List Node). depth_after nodes depth) (append_assoc (nodes_of first operand) (node.Not ∷ []) rest)
    ∙ one_more first operand (node.Not ∷ rest) depth
one_more first (negated operand) rest depth =
    ap (λ (nodes : List Node). depth_after nodes depth) (append_assoc (nodes_of first operand) (node.Negate ∷ []) rest)
    ∙ one_more first operand (node.Negate ∷ rest) depth
one_more first (binary operator left right) rest depth =
    let one = nodes_of first left in
    let two = nodes_of (first + reads_in left) right in
    ap (λ (nodes : List Node). depth_after nodes depth)
    (append_assoc (one ++ two) (node.Binary operator ∷ []) rest ∙ append_assoc one two (node.Binary operator ∷ rest))
    ∙ one_more first left (two ++ node.Binary operator ∷ rest) depth
    ∙ one_more (first + reads_in left) right (node.Binary operator ∷ rest) (suc depth)
one_more first (declassified operand label) rest depth = one_more first operand rest depth
one_more first (endorsed operand label) rest depth = one_more first operand rest depth

leaves_one : (first : ℕ) (expr : ExprTree) → depth_after (nodes_of first expr) 0 ≡ Some 1
leaves_one first expr =
    ap (λ (nodes : List Node). depth_after nodes 0) (sym (append-nil (nodes_of first expr)))
    ∙ one_more first expr [] 0

-- ---- few nodes

few_nodes : (first : ℕ) (expr : ExprTree) → length (nodes_of first expr) ≤ expr_nodes expr
few_nodes first (number value) = omega arith
few_nodes first (local x) = omega arith
few_nodes first (scalar field) = omega arith
few_nodes first (element field index) = omega arith
few_nodes first (inverted operand) =
    omega (arith, few_nodes first operand, length-append (nodes_of first operand) (node.Not ∷ []))
few_nodes first (negated operand) =
    omega (arith, few_nodes first operand, length-append (nodes_of first operand) (node.Negate ∷ []))
few_nodes first (binary operator left right) =
    let one = nodes_of first left in
    let two = nodes_of (first + reads_in left) right in
    omega (
      arith,
      few_nodes first left,
      few_nodes (first + reads_in left) right,
      length-append one two,
      length-append (one ++ two) (node.Binary operator ∷ []),
    )
few_nodes first (declassified operand label) = omega (arith, few_nodes first operand)
few_nodes first (endorsed operand label) = omega (arith, few_nodes first operand)

-- ---- numbers

one_word : (one : Node) → HasWord one → All HasWord (one ∷ [])
one_word one has = All-cons HasWord one [] has (All-nil HasWord)

have_words : (first : ℕ) (expr : ExprTree) → ExprHasNumbers expr → All HasWord (nodes_of first expr)
have_words first (number value) real = one_word (node.Number value) real
have_words first (local x) real = one_word (node.Var x) tt
have_words first (scalar field) real = one_word (node.Temp first) tt
have_words first (element field index) real = one_word (node.Temp (first + reads_in index)) tt
have_words first (inverted operand) real =
    All-append HasWord (nodes_of first operand) (node.Not ∷ []) (have_words first operand real) (one_word node.Not tt)
have_words first (negated operand) real =
    All-append HasWord (nodes_of first operand) (node.Negate ∷ []) (have_words first operand real)
    (one_word node.Negate tt)
have_words first (binary operator left right) real =
    let one = nodes_of first left in
    let two = nodes_of (first + reads_in left) right in
    All-append HasWord (one ++ two) (node.Binary operator ∷ [])
    (All-append HasWord one two (have_words first left real.0) (have_words (first + reads_in left) right real.1))
    (one_word (node.Binary operator) tt)
have_words first (declassified operand label) real = have_words first operand real
have_words first (endorsed operand label) real = have_words first operand real

-- ---- expressions of instructions, and the indexes of reads

pub expression_real : (first : ℕ) (expr : ExprTree) → ExprHasNumbers expr → expr_nodes expr ≤ EXPRESSION_NODES →
    IsWordExpression (nodes_of first expr)
expression_real first expr real few = (
  record { few = omega (arith, few, few_nodes first expr); leaves_one = leaves_one first expr },
  have_words first expr real,
)

pub first_real : IsWordExpression first_element
first_real = expression_real 0 (number (pos 0)) (record { sfits = omega arith }) (omega arith)

-- each read has an index that is real
abbrev pub AreRealReadings : List ElementReading → Type 0
AreRealReadings readings = AllByRecursion (λ reading. IsWordExpression reading.index) readings

both_readings : (xs ys : List ElementReading) → AreRealReadings xs → AreRealReadings ys → AreRealReadings (xs ++ ys)
both_readings [] ys one two = two
both_readings (x ∷ xs) ys one two = (one.0, both_readings xs ys one.1 two)

pub readings_real : (first : ℕ) (expr : ExprTree) → ExprHasNumbers expr → expr_nodes expr ≤ EXPRESSION_NODES →
    AreRealReadings (readings_of first expr)
readings_real first (number value) real few = tt
readings_real first (local x) real few = tt
readings_real first (scalar field) real few = (first_real, tt)
readings_real first (element field index) real few =
    both_readings (readings_of first index) _ (readings_real first index real (omega (arith, few)))
    (expression_real first index real (omega (arith, few)), tt)
readings_real first (inverted operand) real few = readings_real first operand real (omega (arith, few))
readings_real first (negated operand) real few = readings_real first operand real (omega (arith, few))
readings_real first (binary operator left right) real few =
    both_readings (readings_of first left) (readings_of (first + reads_in left) right)
    (readings_real first left real.0 (omega (arith, few)))
    (readings_real (first + reads_in left) right real.1 (omega (arith, few)))
readings_real first (declassified operand label) real few = readings_real first operand real (omega (arith, few))
readings_real first (endorsed operand label) real few = readings_real first operand real (omega (arith, few))
