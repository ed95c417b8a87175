-- Each variable that an expression of a resolved program reads has a label where the expression stands: it is known
-- there, and so was declared before.
use Rattle.std.proofs.Common.{◌≡◌, List, [], ◌∷◌, Option, Some, None, sym}
use Rattle.std.proofs.Common.{subst}
use Rattle.std.specs.List.{AllByRecursion, AllZip}
use Rattle.jif_tree.specs.ValueLabels.{IsExprLabelled}
use Rattle.jif_tree.specs.LabelRules.{VariableLabels}
use Rattle.jif_tree.specs.LabelRules as rules
use Rattle.jif_tree.specs.Labelling.{IsLabelledIfAny}
use Rattle.jif_tree.specs.Trees.{ExprTree, local, scalar}
use Rattle.jif_grammar.specs.DraftShapes.{ExprShape, number_shape, variable_shape, element_shape, complement_shape}
use Rattle.jif_grammar.specs.DraftShapes.{negation_shape, binary_shape, release_shape, endorsement_shape}
use Rattle.jif_resolve.specs.Places.{Setting, Place}
use Rattle.jif_resolve.specs.Places.{meaning_at}
use Rattle.jif_resolve.specs.Resolved.{variable_tree, local_of, IsExprFor}
use Rattle.jif_resolve.specs.declared.meaning.Meaning.{Meaning}
use Rattle.jif_resolve.specs.declared.meaning.Meaning.TheVariants as sense
use Rattle.jif_resolve.proofs.KnownLabels.{IsNoLocal, AreKnownLabelled, meaning_labelled}

name_labelled : (labels : VariableLabels) (means : Option Meaning) (tree : ExprTree) →
    IsLabelledIfAny labels (local_of means) → variable_tree means ≡ Some tree → IsExprLabelled labels tree
name_labelled labels None tree known made = absurd cc
name_labelled labels (Some (sense.Variable x)) tree known made =
    let same : local x ≡ tree = cc in subst (IsExprLabelled labels) same known
name_labelled labels (Some (sense.Plain field)) tree known made =
    let same : scalar field ≡ tree = cc in subst (IsExprLabelled labels) same tt
name_labelled labels (Some (sense.Array field)) tree known made = absurd cc
name_labelled labels (Some (sense.Method method params gives)) tree known made = absurd cc

-- what is known at a place has labels, and an expression names nothing else
pub expr_labelled : (s : Setting) (p : Place) (labels : VariableLabels) → AllByRecursion IsNoLocal s.globals →
    AreKnownLabelled labels p.known → (e : ExprShape) (tree : ExprTree) → IsExprFor s p e tree →
    IsExprLabelled labels tree
expr_labelled s p labels globals known (number_shape value) tree same = subst (IsExprLabelled labels) (sym same) tt
expr_labelled s p labels globals known (variable_shape name) tree made =
    name_labelled labels (meaning_at s p name.text) tree (meaning_labelled labels s p globals known name.text) made
expr_labelled s p labels globals known (element_shape name index) tree (field, inner, same, array, at) =
    subst (IsExprLabelled labels) (sym same) (expr_labelled s p labels globals known index inner at)
expr_labelled s p labels globals known (complement_shape operand) tree (inner, same, one) =
    subst (IsExprLabelled labels) (sym same) (expr_labelled s p labels globals known operand inner one)
expr_labelled s p labels globals known (negation_shape operand) tree (inner, same, one) =
    subst (IsExprLabelled labels) (sym same) (expr_labelled s p labels globals known operand inner one)
expr_labelled s p labels globals known (binary_shape operator left right) tree (first, second, same, one, two) =
    subst (IsExprLabelled labels) (sym same) (
      expr_labelled s p labels globals known left first one,
      expr_labelled s p labels globals known right second two,
    )
expr_labelled s p labels globals known (release_shape operand written) tree (inner, label, same, one, of) =
    subst (IsExprLabelled labels) (sym same) (expr_labelled s p labels globals known operand inner one)
expr_labelled s p labels globals known (endorsement_shape operand written) tree (inner, label, same, one, of) =
    subst (IsExprLabelled labels) (sym same) (expr_labelled s p labels globals known operand inner one)

pub exprs_labelled : (s : Setting) (p : Place) (labels : VariableLabels) → AllByRecursion IsNoLocal s.globals →
    AreKnownLabelled labels p.known → (es : List ExprShape) (trees : List ExprTree) → AllZip (IsExprFor s p) es trees →
    AllByRecursion (IsExprLabelled labels) trees
exprs_labelled s p labels globals known [] [] all = tt
exprs_labelled s p labels globals known [] (tree ∷ trees) all = absurd all
exprs_labelled s p labels globals known (e ∷ es) [] all = absurd all
exprs_labelled s p labels globals known (e ∷ es) (tree ∷ trees) all = (
  expr_labelled s p labels globals known e tree all.0,
  exprs_labelled s p labels globals known es trees all.1,
)
