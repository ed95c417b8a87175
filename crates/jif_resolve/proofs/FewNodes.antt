-- The statements of a program have as many nodes as those of its draft, and so not too many.
use Rattle.std.proofs.Common.{◌≡◌, ℕ, suc, ◌+◌, ◌≤◌, List, [], ◌∷◌, ◌++◌, map, Option, Some, None, refl, sym, ap}
use Rattle.std.proofs.Common.{◌∙◌, subst, arith}
use Rattle.std.specs.Prelude.{All, sum}
use Rattle.std.specs.List.{AllZip, flat_map}
use Rattle.std.proofs.lemmas.List.Elements.{All-nil, All-cons, All-append}
use Rattle.std.proofs.lemmas.List.Sums.{sum_by-cons}
use Rattle.js_base.specs.declared.limits.TheConstants.{EXPRESSION_NODES}
use Rattle.principals.specs.ActsFor.{Declared}
use Rattle.jif_tree.specs.Sizes.{expr_nodes, block_nodes}
use Rattle.jif_tree.specs.Trees.{ExprTree, local, scalar, Heading, BlockTree, set_local, set_field, MethodTree}
use Rattle.jif_grammar.specs.DraftShapes.{ExprShape, number_shape, variable_shape}
use Rattle.jif_grammar.specs.DraftShapes.{element_shape, complement_shape, negation_shape, binary_shape}
use Rattle.jif_grammar.specs.DraftShapes.{release_shape, endorsement_shape, BlockShape, end_shape}
use Rattle.jif_grammar.specs.DraftShapes.{declaration_shape, assignment_shape, element_assignment_shape}
use Rattle.jif_grammar.specs.DraftShapes.{branch_shape, loop_shape, call_shape, return_shape}
use Rattle.jif_grammar.specs.DraftShapes.{MethodShape}
use Rattle.jif_resolve.specs.declared.meaning.Meaning.{Meaning}
use Rattle.jif_resolve.specs.declared.meaning.Meaning.TheVariants as sense
use Rattle.jif_resolve.specs.Counts.{nodes_in, nodes_in_all}
use Rattle.jif_resolve.specs.Faults.{setting_of}
use Rattle.jif_resolve.specs.Meanings.{Global}
use Rattle.jif_resolve.specs.Places.{Setting, Place, after_statement, after_block, after_call, after_declaration}
use Rattle.jif_resolve.specs.Places.{meaning_at, body_place, head_after}
use Rattle.jif_resolve.specs.Resolved.{variable_tree, assignment_tree, heading_of, IsExprFor, IsBlockFor, AreMethodsFor}
use Rattle.jif_resolve.specs.Sizes.{HasFewNodes, MethodKeepsLimits}

-- ---- expressions

-- a name that is read is one node
one_node : (meaning : Option Meaning) (tree : ExprTree) → variable_tree meaning ≡ Some tree → expr_nodes tree ≡ 1
one_node None tree is = absurd (let no = is in cc)
one_node (Some (sense.Variable x)) tree is = let same : local x ≡ tree = cc in ap expr_nodes (sym same)
one_node (Some (sense.Plain field)) tree is = let same : scalar field ≡ tree = cc in ap expr_nodes (sym same)
one_node (Some (sense.Array field)) tree is = absurd (let no = is in cc)
one_node (Some (sense.Method method params gives)) tree is = absurd (let no = is in cc)

pub same_nodes : (setting : Setting) (place : Place) (shape : ExprShape) (tree : ExprTree) →
    IsExprFor setting place shape tree → expr_nodes tree ≡ nodes_in shape
same_nodes setting place (number_shape value) tree is = ap expr_nodes is
same_nodes setting place (variable_shape name) tree is = one_node (meaning_at setting place name.text) tree is
same_nodes setting place (element_shape name index) tree is =
    ap expr_nodes is.2 ∙ ap (λ (n : ℕ). 1 + n) (same_nodes setting place index is.1 is.4)
same_nodes setting place (complement_shape operand) tree is =
    ap expr_nodes is.1 ∙ ap (λ (n : ℕ). 1 + n) (same_nodes setting place operand is.0 is.2)
same_nodes setting place (negation_shape operand) tree is =
    ap expr_nodes is.1 ∙ ap (λ (n : ℕ). 1 + n) (same_nodes setting place operand is.0 is.2)
same_nodes setting place (binary_shape operator left right) tree is =
    omega (
      arith,
      ap expr_nodes is.2,
      same_nodes setting place left is.0 is.3,
      same_nodes setting place right is.1 is.4,
    )
same_nodes setting place (release_shape operand written) tree is =
    ap expr_nodes is.2 ∙ ap (λ (n : ℕ). 1 + n) (same_nodes setting place operand is.0 is.3)
same_nodes setting place (endorsement_shape operand written) tree is =
    ap expr_nodes is.2 ∙ ap (λ (n : ℕ). 1 + n) (same_nodes setting place operand is.0 is.3)

all_nodes : (setting : Setting) (place : Place) (shapes : List ExprShape) (trees : List ExprTree) →
    AllZip (IsExprFor setting place) shapes trees → sum (map expr_nodes trees) ≡ nodes_in_all shapes
all_nodes setting place [] [] are = refl
all_nodes setting place [] (t ∷ trees) are = absurd are
all_nodes setting place (s ∷ shapes) [] are = absurd are
all_nodes setting place (s ∷ shapes) (t ∷ trees) are =
    sum_by-cons (λ (n : ℕ). n) (expr_nodes t) (map expr_nodes trees)
    ∙ ap (λ (n : ℕ). n + sum (map expr_nodes trees)) (same_nodes setting place s t are.0)
    ∙ ap (λ (n : ℕ). nodes_in s + n) (all_nodes setting place shapes trees are.1)

-- ---- statements

abbrev pub IsFew : ℕ → Type 0
IsFew nodes = nodes ≤ EXPRESSION_NODES

few_more : (nodes counted : ℕ) (others : List ℕ) → nodes ≡ counted → IsFew counted → All IsFew others →
    All IsFew (nodes ∷ others)
few_more nodes counted others same few all = All-cons IsFew nodes others (omega arith) all

-- the assignment of a value to a name, before others
assigned : (heading : Heading) (meaning : Option Meaning) (value : ExprTree) (rest tree : BlockTree) →
    assignment_tree heading meaning value rest ≡ Some tree →
    block_nodes tree ≡ expr_nodes value ∷ block_nodes rest
assigned heading None value rest tree is = absurd (let no = is in cc)
assigned heading (Some (sense.Variable x)) value rest tree is =
    let same : set_local heading x value rest ≡ tree = cc in ap block_nodes (sym same)
assigned heading (Some (sense.Plain field)) value rest tree is =
    let same : set_field heading field value rest ≡ tree = cc in ap block_nodes (sym same)
assigned heading (Some (sense.Array field)) value rest tree is = absurd (let no = is in cc)
assigned heading (Some (sense.Method method params gives)) value rest tree is = absurd (let no = is in cc)

abbrev pub HasFew : BlockTree → Type 0
HasFew tree = All IsFew (block_nodes tree)

few_in_block : (setting : Setting) (place : Place) (block : BlockShape) (tree : BlockTree) →
    IsBlockFor setting place block tree → HasFewNodes block → HasFew tree
few_in_block setting place end_shape tree is few = subst HasFew (sym is) (All-nil IsFew)
few_in_block setting place (declaration_shape start label name value rest) tree is few =
    subst HasFew (sym is.2)
    (few_more _ _ _ (same_nodes setting place value is.0 is.3) few.0
    (few_in_block setting (after_declaration place name) rest is.1 is.4 few.1))
few_in_block setting place (assignment_shape start name value rest) tree is few =
    subst (All IsFew) (sym (assigned (heading_of place start) (meaning_at setting place name.text) is.0 is.1 tree is.2))
    (few_more _ _ _ (same_nodes setting place value is.0 is.3) few.0
    (few_in_block setting (after_statement place) rest is.1 is.4 few.1))
few_in_block setting place (element_assignment_shape start name index value rest) tree is few =
    let one = same_nodes setting place index is.1 is.6 in
    let two = same_nodes setting place value is.2 is.7 in
    subst HasFew (sym is.4)
    (few_more _ _ _ (ap (λ (n : ℕ). n + expr_nodes is.2) one ∙ ap (λ (n : ℕ). nodes_in index + n) two) few.0
    (few_in_block setting (after_statement place) rest is.3 is.8 few.1))
few_in_block setting place (branch_shape start guard first second rest) tree is few =
    let inside = after_statement place in
    let between = after_block inside first in
    subst HasFew (sym is.4)
    (few_more _ _ _ (same_nodes setting place guard is.0 is.5) few.0
    (All-append IsFew _ _
    (All-append IsFew (block_nodes is.1) (block_nodes is.2)
    (few_in_block setting inside first is.1 is.6 few.1)
    (few_in_block setting between second is.2 is.7 few.2))
    (few_in_block setting (after_block between second) rest is.3 is.8 few.3)))
few_in_block setting place (loop_shape start guard body rest) tree is few =
    let inside = after_statement place in
    subst HasFew (sym is.3)
    (few_more _ _ _ (same_nodes setting place guard is.0 is.4) few.0
    (All-append IsFew (block_nodes is.1) _
    (few_in_block setting inside body is.1 is.5 few.1)
    (few_in_block setting (after_block inside body) rest is.2 is.6 few.2)))
few_in_block setting place (call_shape start name args into rest) tree is few =
    subst HasFew (sym is.4)
    (few_more _ _ _ (all_nodes setting place args is.1 is.7) few.0
    (few_in_block setting (after_call place) rest is.3 is.8 few.1))
few_in_block setting place (return_shape start value rest) tree is few =
    subst HasFew (sym is.2)
    (few_more _ _ _ (same_nodes setting place value is.0 is.3) few.0
    (few_in_block setting (after_statement place) rest is.1 is.4 few.1))

-- ---- programs

pub few_nodes : (principals : Declared) (globals : List Global) (before methods : List MethodShape)
    (trees : List MethodTree) → AreMethodsFor principals globals before methods trees →
    All MethodKeepsLimits methods → All IsFew (flat_map (λ (method : MethodTree). block_nodes method.body) trees)
few_nodes principals globals before [] trees are kept =
    subst (λ (all : List MethodTree). All IsFew (flat_map (λ (method : MethodTree). block_nodes method.body) all))
    (sym are) (All-nil IsFew)
few_nodes principals globals before (method ∷ methods) trees are kept =
    let first = kept 0 method (omega arith) in
    subst (λ (all : List MethodTree). All IsFew (flat_map (λ (one : MethodTree). block_nodes one.body) all))
    (sym are.2)
    (All-append IsFew (block_nodes are.0.body) _
    (few_in_block (setting_of principals globals method) (body_place (head_after before) method) method.body are.0.body
    are.3.body first.nodes)
    (few_nodes principals globals (before ++ method ∷ []) methods are.1 are.4 (λ k d lt. kept (suc k) d (omega arith))))
