-- Whether one acts for another can be decided.
use Rattle.std.proofs.Common.{ℕ, List, [], ◌∷◌, ◌++◌, subst, sym, inl, inr}
use Rattle.std.proofs.lemmas.Bool.{cases_eq}
use Rattle.std.proofs.lemmas.List.{append-nil, append_assoc}
use Rattle.js_base.proofs.Decisions.{Decided, both, either, as_well}
use Rattle.principals.specs.ActsFor.{Declared, LeadsFrom, ActsFor}
use Rattle.principals.proofs.Chains.{one_more_pair, without_pairs}

-- pairs one by one, behind those that were looked at
leads_from : (seen pairs : List (ℕ × ℕ)) → ((p q : ℕ) → Decided (LeadsFrom seen p q)) → (p q : ℕ) →
    Decided (LeadsFrom (seen ++ pairs) p q)
leads_from seen [] each p q = subst (λ (all : List (ℕ × ℕ)). Decided (LeadsFrom all p q)) (sym (append-nil seen)) (each p q)
leads_from seen (pair ∷ pairs) each p q =
    subst (λ (all : List (ℕ × ℕ)). Decided (LeadsFrom all p q)) (append_assoc seen (pair ∷ []) pairs)
    (leads_from (seen ++ pair ∷ []) pairs (λ p q.
    as_well _ _ (one_more_pair seen pair.0 pair.1 p q).1 (one_more_pair seen pair.0 pair.1 p q).0
    (either _ _ (each p q) (both _ _ (each p pair.0) (each pair.1 q)))) p q)

pub acts_for : (principals : Declared) (p q : ℕ) → Decided (ActsFor principals p q)
acts_for principals p q =
    leads_from [] principals.pairs (λ p q. elim (cases_eq p q) [
      | inl same ↦ inl ([], same)
      | inr other ↦ inr (λ leads. other (without_pairs p q leads))
    ]) p q
