-- Each method of a resolved program is that of its draft at the same place.
use Rattle.std.proofs.Common.{◌≡◌, ℕ, zero, suc, List, [], ◌∷◌, ◌++◌, All, length, Some, slice_get, refl, ap, sym, ◌∙◌}
use Rattle.std.proofs.Common.{subst, arith}
use Rattle.std.proofs.lemmas.List.Elements.{All-nil, All-cons}
use Rattle.principals.specs.ActsFor.{Declared}
use Rattle.jif_tree.specs.Trees.{MethodTree}
use Rattle.jif_grammar.specs.DraftShapes.{MethodShape}
use Rattle.jif_resolve.specs.Faults.{setting_of}
use Rattle.jif_resolve.specs.Meanings.{Global}
use Rattle.jif_resolve.specs.Places.{Place, head_after}
use Rattle.jif_resolve.specs.Resolved.{IsMethodFor, AreMethodsFor}

-- what holds of each method of the draft gives what holds of each tree
pub each_method : (P : MethodShape → Type 0) (Q : MethodTree → Type 0) (principals : Declared) (globals : List Global) →
    ((head : Place) (method : MethodShape) (tree : MethodTree) →
    IsMethodFor (setting_of principals globals method) head method tree → P method → Q tree) →
    (before methods : List MethodShape) (trees : List MethodTree) →
    AreMethodsFor principals globals before methods trees → All P methods → All Q trees
each_method P Q principals globals one before [] trees none all = subst (All Q) (sym none) (All-nil Q)
each_method P Q principals globals one before (method ∷ methods) trees (first, others, same, here, behind) all =
    subst (All Q) (sym same)
    (All-cons Q first others (one (head_after before) method first here (all 0 method (omega arith)))
    (each_method P Q principals globals one (before ++ method ∷ []) methods others behind
    (λ k d less. all (suc k) d (omega (arith, less)))))

pub method_count : (principals : Declared) (globals : List Global) (before methods : List MethodShape)
    (trees : List MethodTree) → AreMethodsFor principals globals before methods trees →
    length trees ≡ length methods
method_count principals globals before [] trees is = ap length is
method_count principals globals before (method ∷ methods) trees (t, ts, same, one, behind) =
    ap length same ∙ ap suc (method_count principals globals (before ++ method ∷ []) methods ts behind)

-- the method of the draft at a place
pub record ShapeAt (principals : Declared) (globals : List Global) (methods : List MethodShape) (place : ℕ)
    (tree : MethodTree) : Type 0 where
  pub shape : MethodShape
  pub head : Place
  pub at : slice_get methods place ≡ Some shape
  pub is : IsMethodFor (setting_of principals globals shape) head shape tree

pub shape_at : (principals : Declared) (globals : List Global) (before methods : List MethodShape)
    (trees : List MethodTree) → AreMethodsFor principals globals before methods trees → (place : ℕ)
    (tree : MethodTree) → slice_get trees place ≡ Some tree → ShapeAt principals globals methods place tree
shape_at principals globals before [] trees none place tree at =
    let nothing : slice_get [] place ≡ Some tree = ap (λ ts. slice_get ts place) (sym none) ∙ at in absurd cc
shape_at principals globals before (method ∷ methods) trees (first, others, same, one, behind) zero tree at =
    let here : Some first ≡ Some tree = ap (λ ts. slice_get ts zero) (sym same) ∙ at in
    let is_it : first ≡ tree = cc in
    record {
      shape = method;
      head = head_after before;
      at = refl;
      is = subst (IsMethodFor (setting_of principals globals method) (head_after before) method) is_it one;
    }
shape_at principals globals before (method ∷ methods) trees (first, others, same, one, behind) (suc place) tree at =
    let found = shape_at principals globals (before ++ method ∷ []) methods others behind place tree
    (ap (λ ts. slice_get ts (suc place)) (sym same) ∙ at) in
    record { shape = found.shape; head = found.head; at = found.at; is = found.is }
