-- Principals that were declared under names of the language are declared soundly.
use Rattle.std.proofs.Common.{ℕ, ◌<◌, List, [], ◌∷◌, All, length, sym, subst}
use Rattle.std.proofs.lemmas.Option.{slice_get_within}
use Rattle.std.specs.List.{AllByRecursion, AllZip}
use Rattle.std.proofs.lemmas.List.Elements.{All-from_recursion}
use Rattle.js_base.specs.Name.{IsName}
use Rattle.principals.specs.ActsFor.{Declared, AreDeclarable, IsDeclared}
use Rattle.principals.specs.Declaring.{AreDeclaredAs, IsPairOf}

-- both are declared
abbrev IsWithin : ℕ → ℕ × ℕ → Type 0
IsWithin count pair = (pair.0 < count) × (pair.1 < count)

pairs_within : (names : List (List ℕ)) (pairs : List (List ℕ × List ℕ)) (ids : List (ℕ × ℕ))
    → AllZip (IsPairOf names) pairs ids
    → AllByRecursion (IsWithin (length names)) ids
pairs_within names [] [] all = tt
pairs_within names [] (id ∷ ids) all = absurd all
pairs_within names (pair ∷ pairs) [] all = absurd all
pairs_within names (pair ∷ pairs) (id ∷ ids) all = (
  (slice_get_within names id.0 pair.0 all.0.0, slice_get_within names id.1 pair.1 all.0.1),
  pairs_within names
      pairs ids all.1,
)

pub are_declared : (names : List (List ℕ)) (pairs : List (List ℕ × List ℕ)) (principals : Declared) → All IsName names
    → AreDeclaredAs names pairs principals → IsDeclared principals
are_declared names pairs principals spelled declared =
    let within = All-from_recursion (IsWithin (length names)) principals.pairs
    (pairs_within names pairs principals.pairs declared.pairs_are) in
    record {
      spelled = subst (All IsName) (sym declared.names_are) spelled;
      names = subst AreDeclarable (sym declared.names_are) declared.declarable;
      pairs = subst (λ held. All (IsWithin (length held)) principals.pairs) (sym declared.names_are) within;
    }
