-- What the nodes of an expression give in a thread whose temporaries hold what it reads: what the expression may give.
use Rattle.std.proofs.Common.{◌≡◌, ◌∙◌, ℕ, suc, ◌+◌, List, [], ◌∷◌, ◌++◌, length, map, refl, ap, sym, subst, inl}
use Rattle.std.proofs.Common.{arith, append_assoc, append-nil}
use Rattle.std.specs.Prelude.{ℤ, ⊤}
use Rattle.std.specs.List.{AllByRecursion, AllZip}
use Rattle.js_base.specs.declared.ids.VarId.{VarId}
use Rattle.jif_tree.specs.declared.program.Expr.{Expr}
use Rattle.jif_tree.specs.declared.program.Expr as expr
use Rattle.jif_tree.specs.Altered.{Exposure, FieldIsAffected, VariableIsAffected, MayRead, MayGive}
use Rattle.jif_tree.specs.Operators.{binary_value, negation, inversion}
use Rattle.jif_tree.specs.SourceRun.{Configuration, variable, value_of}
use Rattle.jif_tree.specs.Store.{element_at, row_of}
use Rattle.jif_tree.specs.Trees.{ExprTree, number, local, scalar, element, inverted, negated, binary, declassified}
use Rattle.jif_tree.specs.Trees.{endorsed, expr_tree}
use Rattle.host_code.specs.declared.code_expr.Node.{Node}
use Rattle.host_code.specs.declared.code_expr.Node.TheVariants as node
use Rattle.need_labels.specs.Needs.{variables_in}
use Rattle.host_core.specs.Values.{temporary_at, values_after, first_of_values, value_of_nodes}
use Rattle.split_rules.specs.Expressions.{reads_in, nodes_of}
use Rattle.split_rules.specs.Positions.{FieldRead, field_reads}
use Rattle.split_rules.proofs.TypedValues.{reads_many}
use Rattle.typed_steps.specs.Values.{MayTree, MayHold}
use Rattle.typed_steps.proofs.Basics.{all_left, all_right}

-- ---- values of trees

pub tree_may : (exposure : Exposure) (c : Configuration) (call : ℕ) (e : Expr) (value : ℤ) →
    MayTree exposure c.store (variable c.calls call) (expr_tree e) value → MayGive exposure c call e value
tree_may exposure c call (expr.Number n) value may = may
tree_may exposure c call (expr.Local x) value may = may
tree_may exposure c call (expr.Scalar field) value may = may
tree_may exposure c call (expr.Element' field p index) value may =
    (may.0, tree_may exposure c call index may.0 may.1, may.2)
tree_may exposure c call (expr.Not' p operand) value may =
    (may.0, tree_may exposure c call operand may.0 may.1, may.2)
tree_may exposure c call (expr.Negate' p operand) value may =
    (may.0, tree_may exposure c call operand may.0 may.1, may.2)
tree_may exposure c call (expr.Binary' operator p left q right) value may = (
  may.0,
  may.1,
  tree_may exposure c call left may.0 may.2,
  tree_may exposure c call right may.1 may.3,
  may.4,
)
tree_may exposure c call (expr.Declassify' p inner label) value may = tree_may exposure c call inner value may
tree_may exposure c call (expr.Endorse' p inner label) value may = tree_may exposure c call inner value may

-- its plain value is one that an expression may give
pub plain_may : (exposure : Exposure) (c : Configuration) (call : ℕ) (e : Expr) →
    MayGive exposure c call e (value_of c call e)
plain_may exposure c call (expr.Number n) = refl
plain_may exposure c call (expr.Local x) = inl refl
plain_may exposure c call (expr.Scalar field) = inl refl
plain_may exposure c call (expr.Element' field p index) =
    (value_of c call index, plain_may exposure c call index, inl refl)
plain_may exposure c call (expr.Not' p operand) =
    (value_of c call operand, plain_may exposure c call operand, refl)
plain_may exposure c call (expr.Negate' p operand) =
    (value_of c call operand, plain_may exposure c call operand, refl)
plain_may exposure c call (expr.Binary' operator p left q right) = (
  value_of c call left,
  value_of c call right,
  plain_may exposure c call left,
  plain_may exposure c call right,
  refl,
)
plain_may exposure c call (expr.Declassify' p inner label) = plain_may exposure c call inner
plain_may exposure c call (expr.Endorse' p inner label) = plain_may exposure c call inner

pub plainly_may : (exposure : Exposure) (c : Configuration) (call : ℕ) (exprs : List Expr) →
    AllZip (MayGive exposure c call) exprs (map (value_of c call) exprs)
plainly_may exposure c call [] = tt
plainly_may exposure c call (e ∷ exprs) = (plain_may exposure c call e, plainly_may exposure c call exprs)

-- ---- temporaries

-- the temporaries from a number on are what these reads may give
abbrev Holds : (FieldRead → ℤ → Type 0) → List ℤ → ℕ → List FieldRead → Type 0
Holds P temporaries first [] = ⊤
Holds P temporaries first (read ∷ reads) =
    P read (temporary_at temporaries first) × Holds P temporaries (suc first) reads

holds_from : (P : FieldRead → ℤ → Type 0) (temporaries : List ℤ) (reads : List FieldRead) (first other : ℕ) →
    first ≡ other → Holds P temporaries first reads → Holds P temporaries other reads
holds_from P temporaries reads first other same holds = subst (λ n. Holds P temporaries n reads) same holds

record InParts (P : FieldRead → ℤ → Type 0) (temporaries : List ℤ) (first : ℕ) (one other : List FieldRead) : Type 0
  where
    front : Holds P temporaries first one
    back : Holds P temporaries (first + length one) other

holds_parts : (P : FieldRead → ℤ → Type 0) (temporaries : List ℤ) (first : ℕ) (one other : List FieldRead) →
    Holds P temporaries first (one ++ other) → InParts P temporaries first one other
holds_parts P temporaries first [] other holds = record {
  front = tt;
  back = holds_from P temporaries other first (first + 0) (omega arith) holds;
}
holds_parts P temporaries first (read ∷ one) other holds =
    let more = holds_parts P temporaries (suc first) one other holds.1 in
    record {
      front = (holds.0, more.front);
      back = holds_from P temporaries other (suc first + length one) (first + suc (length one)) (omega arith) more.back;
    }

at_seam : (before : List ℤ) (value : ℤ) (behind : List ℤ) →
    temporary_at (before ++ value ∷ behind) (length before) ≡ value
at_seam [] value behind = refl
at_seam (first ∷ before) value behind = at_seam before value behind

long_push : (before : List ℤ) (value : ℤ) → length (before ++ value ∷ []) ≡ suc (length before)
long_push [] value = refl
long_push (first ∷ before) value = ap suc (long_push before value)

holds_own : (P : FieldRead → ℤ → Type 0) (before : List ℤ) (reads : List FieldRead) (values : List ℤ) →
    AllZip P reads values → Holds P (before ++ values) (length before) reads
holds_own P before [] [] all = tt
holds_own P before [] (value ∷ values) all = absurd all
holds_own P before (read ∷ reads) [] all = absurd all
holds_own P before (read ∷ reads) (value ∷ values) all =
    let more = holds_own P (before ++ value ∷ []) reads values all.1 in
    let list = subst (λ t. Holds P t (length (before ++ value ∷ [])) reads) (append_assoc before (value ∷ []) values)
    more in (
      subst (P read) (sym (at_seam before value values)) all.0,
      holds_from P (before ++ value ∷ values) reads _ _ (long_push before value) list,
    )

-- ---- variables

-- the variables of an expression have what they may be read as
abbrev pub MayBeRead : Exposure → (ℕ → ℤ) → (VarId → ℤ) → ExprTree → Type 0
MayBeRead exposure values variables e =
    AllByRecursion (λ x. MayRead (VariableIsAffected exposure x) (values x.0) (variables x)) (variables_in e)

-- ---- nodes

-- the value of an expression by a host's own variables and its temporaries
abbrev pub host_value : (VarId → ℤ) → List ℤ → ℕ → ExprTree → ℤ
host_value variables temporaries first (number n) = n
host_value variables temporaries first (local x) = variables x
host_value variables temporaries first (scalar field) = temporary_at temporaries first
host_value variables temporaries first (element field index) = temporary_at temporaries (first + reads_in index)
host_value variables temporaries first (inverted operand) = inversion (host_value variables temporaries first operand)
host_value variables temporaries first (negated operand) = negation (host_value variables temporaries first operand)
host_value variables temporaries first (binary operator left right) =
    binary_value operator (host_value variables temporaries first left)
    (host_value variables temporaries (first + reads_in left) right)
host_value variables temporaries first (declassified operand label) = host_value variables temporaries first operand
host_value variables temporaries first (endorsed operand label) = host_value variables temporaries first operand

-- the nodes of an expression put its value in front of the values
after_nodes : (variables : VarId → ℤ) (temporaries : List ℤ) (first : ℕ) (e : ExprTree) (nodes : List Node)
    (stack : List ℤ) →
    values_after variables temporaries (nodes_of first e ++ nodes) stack
    ≡ values_after variables temporaries nodes (host_value variables temporaries first e ∷ stack)
after_nodes variables temporaries first (number n) nodes stack = refl
after_nodes variables temporaries first (local x) nodes stack = refl
after_nodes variables temporaries first (scalar field) nodes stack = refl
after_nodes variables temporaries first (element field index) nodes stack = refl
after_nodes variables temporaries first (inverted operand) nodes stack =
    ap (λ list. values_after variables temporaries list stack)
    (append_assoc (nodes_of first operand) (node.Not ∷ []) nodes)
    ∙ after_nodes variables temporaries first operand (node.Not ∷ nodes) stack
after_nodes variables temporaries first (negated operand) nodes stack =
    ap (λ list. values_after variables temporaries list stack)
    (append_assoc (nodes_of first operand) (node.Negate ∷ []) nodes)
    ∙ after_nodes variables temporaries first operand (node.Negate ∷ nodes) stack
after_nodes variables temporaries first (binary operator left right) nodes stack =
    let one = nodes_of first left in
    let other = nodes_of (first + reads_in left) right in
    ap (λ list. values_after variables temporaries list stack)
    (append_assoc (one ++ other) (node.Binary operator ∷ []) nodes
    ∙ append_assoc one other (node.Binary operator ∷ nodes))
    ∙ after_nodes variables temporaries first left (other ++ node.Binary operator ∷ nodes) stack
    ∙ after_nodes variables temporaries (first + reads_in left) right (node.Binary operator ∷ nodes)
    (host_value variables temporaries first left ∷ stack)
after_nodes variables temporaries first (declassified operand label) nodes stack =
    after_nodes variables temporaries first operand nodes stack
after_nodes variables temporaries first (endorsed operand label) nodes stack =
    after_nodes variables temporaries first operand nodes stack

pub nodes_value : (variables : VarId → ℤ) (temporaries : List ℤ) (first : ℕ) (e : ExprTree) →
    value_of_nodes variables temporaries (nodes_of first e) ≡ host_value variables temporaries first e
nodes_value variables temporaries first e =
    ap first_of_values
    (ap (λ list. values_after variables temporaries list []) (sym (append-nil (nodes_of first e)))
    ∙ after_nodes variables temporaries first e [] [])

-- ---- what the value is

module _ (exposure : Exposure) (store : List (List ℤ)) (values : ℕ → ℤ) (variables : VarId → ℤ)
    (temporaries : List ℤ) where
  may_value : (first : ℕ) (e : ExprTree) → MayBeRead exposure values variables e →
      Holds (MayHold exposure store values) temporaries first (field_reads e) →
      MayTree exposure store values e (host_value variables temporaries first e)
  may_value first (number n) read holds = refl
  may_value first (local x) read holds = read.0
  may_value first (scalar field) read holds =
      subst (λ p. MayRead (FieldIsAffected exposure field) (element_at (row_of store field.0) p)
      (temporary_at temporaries first)) holds.0.1 holds.0.2
  may_value first (element field index) read holds =
      let own : FieldRead = record { field = field; index = index } in
      let parts = holds_parts (MayHold exposure store values) temporaries first (field_reads index) (own ∷ []) holds in
      subst (λ n. MayHold exposure store values own (temporary_at temporaries (first + n))) (reads_many index)
      parts.back.0
  may_value first (inverted operand) read holds =
      (host_value variables temporaries first operand, may_value first operand read holds, refl)
  may_value first (negated operand) read holds =
      (host_value variables temporaries first operand, may_value first operand read holds, refl)
  may_value first (binary operator left right) read holds =
      let P : VarId → Type 0 = λ x. MayRead (VariableIsAffected exposure x) (values x.0) (variables x) in
      let parts = holds_parts (MayHold exposure store values) temporaries first (field_reads left) (field_reads right)
      holds in
      let behind = holds_from (MayHold exposure store values) temporaries (field_reads right) _ _
      (ap (λ n. first + n) (reads_many left)) parts.back in (
        host_value variables temporaries first left,
        host_value variables temporaries (first + reads_in left) right,
        may_value first left (all_left P (variables_in left) (variables_in right) read) parts.front,
        may_value (first + reads_in left) right (all_right P (variables_in left) (variables_in right) read) behind,
        refl,
      )
  may_value first (declassified operand label) read holds = may_value first operand read holds
  may_value first (endorsed operand label) read holds = may_value first operand read holds

  -- The temporaries hold some reads, and among them, behind some others, those of the expression.
  pub value_there : (reads before behind : List FieldRead) (e : ExprTree) (first : ℕ) →
      MayBeRead exposure values variables e → AllZip (MayHold exposure store values) reads temporaries →
      reads ≡ before ++ (field_reads e ++ behind) → first ≡ length before →
      MayTree exposure store values e (value_of_nodes variables temporaries (nodes_of first e))
  value_there reads before behind e first read holds are at =
      let P = MayHold exposure store values in
      let all = subst (Holds P temporaries 0) are (holds_own P [] reads temporaries holds) in
      let own = (holds_parts P temporaries 0 before (field_reads e ++ behind) all).back in
      let here = holds_from P temporaries (field_reads e ++ behind) (0 + length before) first (omega (arith, at)) own in
      subst (MayTree exposure store values e) (sym (nodes_value variables temporaries first e))
      (may_value first e read (holds_parts P temporaries first (field_reads e) behind here).front)
