-- The labels of the variables that are declared, and what brings a trait into them, one after another.
use Rattle.std.proofs.Common.{◌≡◌, ℕ, ◌+◌, ◌<◌, zero, suc, List, [], ◌∷◌, ◌++◌, length, map, take, get_or, sym, ap, ◌∙◌, arith}
use Rattle.std.specs.Prelude.{Option, Some, None, unwrap_or, slice_get}
use Rattle.std.proofs.lemmas.List.{map-append, take_more}
use Rattle.label_lattice.specs.declared.label.Label.{Label}
use Rattle.jif_tree.specs.declared.program.Var.{Var}
use Rattle.jif_tree.specs.Trees.{VarTree, var_tree}
use Rattle.label_reasons.specs.declared.reason.Cause.{Cause}

-- The cause at each place is told by the item there. So it is with one more item at the end.
pub one_more : {X : Type 0} (told : ℕ → Option X → Option Cause) (xs : List X) (causes : List (Option Cause)) (x : X)
    (cause : Option Cause) → ((n : ℕ) → told n None ≡ None) → length causes ≡ length xs →
    ((n : ℕ) → unwrap_or (slice_get causes n) None ≡ told n (slice_get xs n)) → cause ≡ told (length xs) (Some x) →
    (n : ℕ) → unwrap_or (slice_get (causes ++ cause ∷ []) n) None ≡ told n (slice_get (xs ++ x ∷ []) n)
one_more told [] [] x cause none long same is zero = is
one_more told [] [] x cause none long same is (suc n) = sym (none (suc n))
one_more told [] (other ∷ causes) x cause none long same is n = absurd (omega (arith, long))
one_more told (y ∷ xs) [] x cause none long same is n = absurd (omega (arith, long))
one_more told (y ∷ xs) (other ∷ causes) x cause none long same is zero = same zero
one_more told (y ∷ xs) (other ∷ causes) x cause none long same is (suc n) =
    one_more (λ m. told (suc m)) xs causes x cause (λ m. none (suc m)) (omega (arith, long)) (λ m. same (suc m)) is n

pub labels_more : (vars : List Var) (place : ℕ) (var : Var) (labels : List (Option Label)) → place < length vars →
    var ≡ get_or vars place var → labels ≡ map (λ (tree : VarTree). tree.label) (map var_tree (take place vars)) →
    labels ++ var.label ∷ [] ≡ map (λ (tree : VarTree). tree.label) (map var_tree (take (place + 1) vars))
labels_more vars place var labels within is same =
    let label : VarTree → Option Label = λ tree. tree.label in
    ap (λ (list : List (Option Label)). list ++ var.label ∷ []) same
    ∙ sym (map-append label (map var_tree (take place vars)) (var_tree var ∷ []))
    ∙ ap (map label) (sym (map-append var_tree (take place vars) (var ∷ [])))
    ∙ ap (λ (list : List Var). map label (map var_tree list))
    (ap (λ (one : Var). take place vars ++ one ∷ []) is ∙ sym (take_more vars place var within))
