-- Where nothing in a draft is written with a word, nothing of the program is made by it.
use Rattle.std.proofs.Common.{◌≡◌, List, [], ◌∷◌, ◌++◌, Option, Some, None, refl, sym, subst}
use Rattle.std.specs.Prelude.{⊤}
use Rattle.std.specs.List.{AllZip, AllByRecursion}
use Rattle.std.proofs.lemmas.Bool.{or_from}
use Rattle.principals.specs.ActsFor.{Declared}
use Rattle.jif_lex.specs.declared.token.Word.{Word}
use Rattle.jif_lex.specs.declared.token.Word.TheVariants.{Declassify, Endorse}
use Rattle.jif_tree.specs.Trees.{ExprTree, local, scalar, Heading, BlockTree, done, set_local, set_field, set_element}
use Rattle.jif_tree.specs.Trees.{branch, loop, call, give_back, MethodTree}
use Rattle.need_labels.specs.Needs.{releases}
use Rattle.jif_grammar.specs.DraftShapes.{ExprShape, number_shape, variable_shape}
use Rattle.jif_grammar.specs.DraftShapes.{element_shape, complement_shape, negation_shape, binary_shape}
use Rattle.jif_grammar.specs.DraftShapes.{release_shape, endorsement_shape, BlockShape, end_shape}
use Rattle.jif_grammar.specs.DraftShapes.{declaration_shape, assignment_shape, element_assignment_shape}
use Rattle.jif_grammar.specs.DraftShapes.{branch_shape, loop_shape, call_shape, return_shape, MethodShape}
use Rattle.jif_resolve.specs.declared.meaning.Meaning.{Meaning}
use Rattle.jif_resolve.specs.declared.meaning.Meaning.TheVariants as sense
use Rattle.jif_resolve.specs.Faults.{setting_of}
use Rattle.jif_resolve.specs.Meanings.{Global}
use Rattle.jif_resolve.specs.Places.{Setting, Place, after_statement, after_block, after_call, after_declaration}
use Rattle.jif_resolve.specs.Places.{head_after, body_place, meaning_at}
use Rattle.jif_resolve.specs.Resolved.{variable_tree, assignment_tree, heading_of, IsExprFor, IsBlockFor}
use Rattle.jif_resolve.specs.Resolved.{AreMethodsFor}
use Rattle.split_shades.specs.Sites.{IsKeptBack, IsSilentBlock}
use Rattle.source_law.specs.Unendorsed.{IsUnendorsed, IsUnendorsedBlock}
use Rattle.source_words.proofs.LackingDrafts.{ShapeLacks, BlockLacks, MethodsLack}

-- ---- values

-- a name is no release, and none is in it
name_kept : (means : Option Meaning) (tree : ExprTree) → variable_tree means ≡ Some tree → IsKeptBack tree
name_kept None tree is = absurd cc
name_kept (Some (sense.Variable x)) tree is = let same : local x ≡ tree = cc in subst IsKeptBack same refl
name_kept (Some (sense.Plain field)) tree is = let same : scalar field ≡ tree = cc in subst IsKeptBack same refl
name_kept (Some (sense.Array field)) tree is = absurd cc
name_kept (Some (sense.Method method params gives)) tree is = absurd cc

expr_kept : (s : Setting) (p : Place) (e : ExprShape) (tree : ExprTree) → IsExprFor s p e tree →
    ShapeLacks Declassify e → IsKeptBack tree
expr_kept s p (number_shape value) tree is lacks = subst IsKeptBack (sym is) refl
expr_kept s p (variable_shape name) tree is lacks = name_kept (meaning_at s p name.text) tree is
expr_kept s p (element_shape name index) tree (field, inner, same, array, is) lacks =
    subst IsKeptBack (sym same) (expr_kept s p index inner is lacks)
expr_kept s p (complement_shape operand) tree (inner, same, is) lacks =
    subst IsKeptBack (sym same) (expr_kept s p operand inner is lacks)
expr_kept s p (negation_shape operand) tree (inner, same, is) lacks =
    subst IsKeptBack (sym same) (expr_kept s p operand inner is lacks)
expr_kept s p (binary_shape operator left right) tree (first, second, same, one, other) lacks =
    subst IsKeptBack (sym same)
    (or_from (releases first) (releases second) (expr_kept s p left first one lacks.0)
    (expr_kept s p right second other lacks.1))
expr_kept s p (release_shape operand written) tree (inner, label, same, is, labelled) lacks =
    absurd (lacks.0 refl)
expr_kept s p (endorsement_shape operand written) tree (inner, label, same, is, labelled) lacks =
    subst IsKeptBack (sym same) (expr_kept s p operand inner is lacks.1)

-- nor is it an `endorse`
name_unendorsed : (means : Option Meaning) (tree : ExprTree) → variable_tree means ≡ Some tree → IsUnendorsed tree
name_unendorsed None tree is = absurd cc
name_unendorsed (Some (sense.Variable x)) tree is = let same : local x ≡ tree = cc in subst IsUnendorsed same tt
name_unendorsed (Some (sense.Plain field)) tree is = let same : scalar field ≡ tree = cc in subst IsUnendorsed same tt
name_unendorsed (Some (sense.Array field)) tree is = absurd cc
name_unendorsed (Some (sense.Method method params gives)) tree is = absurd cc

expr_unendorsed : (s : Setting) (p : Place) (e : ExprShape) (tree : ExprTree) → IsExprFor s p e tree →
    ShapeLacks Endorse e → IsUnendorsed tree
expr_unendorsed s p (number_shape value) tree is lacks = subst IsUnendorsed (sym is) tt
expr_unendorsed s p (variable_shape name) tree is lacks = name_unendorsed (meaning_at s p name.text) tree is
expr_unendorsed s p (element_shape name index) tree (field, inner, same, array, is) lacks =
    subst IsUnendorsed (sym same) (expr_unendorsed s p index inner is lacks)
expr_unendorsed s p (complement_shape operand) tree (inner, same, is) lacks =
    subst IsUnendorsed (sym same) (expr_unendorsed s p operand inner is lacks)
expr_unendorsed s p (negation_shape operand) tree (inner, same, is) lacks =
    subst IsUnendorsed (sym same) (expr_unendorsed s p operand inner is lacks)
expr_unendorsed s p (binary_shape operator left right) tree (first, second, same, one, other) lacks =
    subst IsUnendorsed (sym same)
    (expr_unendorsed s p left first one lacks.0, expr_unendorsed s p right second other lacks.1)
expr_unendorsed s p (release_shape operand written) tree (inner, label, same, is, labelled) lacks =
    subst IsUnendorsed (sym same) (expr_unendorsed s p operand inner is lacks.1)
expr_unendorsed s p (endorsement_shape operand written) tree (inner, label, same, is, labelled) lacks =
    absurd (lacks.0 refl)

-- ---- blocks

-- this holds of each value of the statements of a block, and of the blocks in it
abbrev EachValue : (ExprTree → Type 0) → BlockTree → Type 0
EachValue P done = ⊤
EachValue P (set_local heading x value rest) = P value × EachValue P rest
EachValue P (set_field heading field value rest) = P value × EachValue P rest
EachValue P (set_element heading field index value rest) = P index × P value × EachValue P rest
EachValue P (branch heading guard first second rest) =
    P guard × EachValue P first × EachValue P second × EachValue P rest
EachValue P (loop heading guard inner rest) = P guard × EachValue P inner × EachValue P rest
EachValue P (call heading site method arguments into rest) = AllByRecursion P arguments × EachValue P rest
EachValue P (give_back heading value rest) = P value × EachValue P rest

-- it holds of what lacks the word
abbrev OfLacking : Word → (ExprTree → Type 0) → Type 0
OfLacking word P = (s : Setting) (p : Place) (e : ExprShape) (tree : ExprTree) → IsExprFor s p e tree →
    ShapeLacks word e → P tree

module _ (word : Word) (P : ExprTree → Type 0) (one_value : OfLacking word P) where
  all_values : (s : Setting) (p : Place) (shapes : List ExprShape) (trees : List ExprTree) →
      AllZip (IsExprFor s p) shapes trees → AllByRecursion (ShapeLacks word) shapes → AllByRecursion P trees
  all_values s p [] [] are lack = tt
  all_values s p [] (tree ∷ trees) are lack = absurd are
  all_values s p (e ∷ shapes) [] are lack = absurd are
  all_values s p (e ∷ shapes) (tree ∷ trees) are lack =
      (one_value s p e tree are.0 lack.0, all_values s p shapes trees are.1 lack.1)

  assigned_each : (heading : Heading) (means : Option Meaning) (value : ExprTree) (rest tree : BlockTree) →
      assignment_tree heading means value rest ≡ Some tree → P value → EachValue P rest → EachValue P tree
  assigned_each heading None value rest tree made own behind = absurd cc
  assigned_each heading (Some (sense.Variable x)) value rest tree made own behind =
      let same : set_local heading x value rest ≡ tree = cc in subst (EachValue P) same (own, behind)
  assigned_each heading (Some (sense.Plain field)) value rest tree made own behind =
      let same : set_field heading field value rest ≡ tree = cc in subst (EachValue P) same (own, behind)
  assigned_each heading (Some (sense.Array field)) value rest tree made own behind = absurd cc
  assigned_each heading (Some (sense.Method method params gives)) value rest tree made own behind = absurd cc

  block_each : (s : Setting) (p : Place) (b : BlockShape) (tree : BlockTree) → IsBlockFor s p b tree →
      BlockLacks word b → EachValue P tree
  block_each s p end_shape tree is lacks = subst (EachValue P) (sym is) tt
  block_each s p (declaration_shape start written name value rest) tree (x, r, same, own, behind) lacks =
      subst (EachValue P) (sym same)
      (one_value s p value x own lacks.0, block_each s (after_declaration p name) rest r behind lacks.1)
  block_each s p (assignment_shape start name value rest) tree (x, r, same, own, behind) lacks =
      assigned_each (heading_of p start) (meaning_at s p name.text) x r tree same (one_value s p value x own lacks.0)
      (block_each s (after_statement p) rest r behind lacks.1)
  block_each s p (element_assignment_shape start name index value rest) tree
      (f, i, x, r, same, array, at, own, behind) lacks =
      subst (EachValue P) (sym same) (
        one_value s p index i at lacks.0,
        one_value s p value x own lacks.1,
        block_each s (after_statement p) rest r behind lacks.2,
      )
  block_each s p (branch_shape start guard first second rest) tree
      (x, t, u, r, same, own, front, middle, behind) lacks =
      let inside = after_statement p in
      let between = after_block inside first in
      subst (EachValue P) (sym same) (
        one_value s p guard x own lacks.0,
        block_each s inside first t front lacks.1,
        block_each s between second u middle lacks.2,
        block_each s (after_block between second) rest r behind lacks.3,
      )
  block_each s p (loop_shape start guard body rest) tree (x, t, r, same, own, front, behind) lacks =
      let inside = after_statement p in
      subst (EachValue P) (sym same) (
        one_value s p guard x own lacks.0,
        block_each s inside body t front lacks.1,
        block_each s (after_block inside body) rest r behind lacks.2,
      )
  block_each s p (call_shape start name args into rest) tree (f, xs, k, r, same, called, kept, all, behind) lacks =
      subst (EachValue P) (sym same)
      (all_values s p args xs all lacks.0, block_each s (after_call p) rest r behind lacks.1)
  block_each s p (return_shape start value rest) tree (x, r, same, own, behind) lacks =
      subst (EachValue P) (sym same)
      (one_value s p value x own lacks.0, block_each s (after_statement p) rest r behind lacks.1)

  -- what holds of blocks all of whose values are so holds of the body of each method
  methods_each : (Q : BlockTree → Type 0) → ((b : BlockTree) → EachValue P b → Q b) → (principals : Declared)
      (globals : List Global) (before methods : List MethodShape) (trees : List MethodTree) →
      AreMethodsFor principals globals before methods trees → MethodsLack word methods →
      AllByRecursion (λ method. Q method.body) trees
  methods_each Q of_each principals globals before [] trees none lack =
      subst (AllByRecursion (λ (method : MethodTree). Q method.body)) (sym none) tt
  methods_each Q of_each principals globals before (method ∷ methods) trees (first, others, same, here, behind) lack =
      subst (AllByRecursion (λ (tree : MethodTree). Q tree.body)) (sym same) (
        of_each first.body (block_each (setting_of principals globals method)
            (body_place (head_after before) method) method.body first.body here.body lack.0),
        methods_each Q of_each principals globals (before ++ method ∷ []) methods others behind lack.1,
      )

silent : (b : BlockTree) → EachValue IsKeptBack b → IsSilentBlock b
silent done each = tt
silent (set_local heading x value rest) each = (each.0, silent rest each.1)
silent (set_field heading field value rest) each = (each.0, silent rest each.1)
silent (set_element heading field index value rest) each = (each.0, each.1, silent rest each.2)
silent (branch heading guard first second rest) each =
    (each.0, silent first each.1, silent second each.2, silent rest each.3)
silent (loop heading guard inner rest) each = (each.0, silent inner each.1, silent rest each.2)
silent (call heading site method arguments into rest) each = (each.0, silent rest each.1)
silent (give_back heading value rest) each = (each.0, silent rest each.1)

unendorsed : (b : BlockTree) → EachValue IsUnendorsed b → IsUnendorsedBlock b
unendorsed done each = tt
unendorsed (set_local heading x value rest) each = (each.0, unendorsed rest each.1)
unendorsed (set_field heading field value rest) each = (each.0, unendorsed rest each.1)
unendorsed (set_element heading field index value rest) each = (each.0, each.1, unendorsed rest each.2)
unendorsed (branch heading guard first second rest) each =
    (each.0, unendorsed first each.1, unendorsed second each.2, unendorsed rest each.3)
unendorsed (loop heading guard inner rest) each = (each.0, unendorsed inner each.1, unendorsed rest each.2)
unendorsed (call heading site method arguments into rest) each = (each.0, unendorsed rest each.1)
unendorsed (give_back heading value rest) each = (each.0, unendorsed rest each.1)

pub all_silent : (principals : Declared) (globals : List Global) (methods : List MethodShape)
    (trees : List MethodTree) → AreMethodsFor principals globals [] methods trees → MethodsLack Declassify methods →
    AllByRecursion (λ method. IsSilentBlock method.body) trees
all_silent principals globals methods trees are lack =
    methods_each Declassify IsKeptBack expr_kept IsSilentBlock silent principals globals [] methods trees are lack

pub all_unendorsed : (principals : Declared) (globals : List Global) (methods : List MethodShape)
    (trees : List MethodTree) → AreMethodsFor principals globals [] methods trees → MethodsLack Endorse methods →
    AllByRecursion (λ method. IsUnendorsedBlock method.body) trees
all_unendorsed principals globals methods trees are lack =
    methods_each Endorse IsUnendorsed expr_unendorsed IsUnendorsedBlock unendorsed principals globals [] methods trees
    are lack
