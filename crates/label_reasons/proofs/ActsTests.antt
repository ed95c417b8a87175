-- The test of who acts for whom tells of chains.
use Rattle.std.proofs.Common.{◌↔◌, ◌⊎◌, inl, inr, IsTrue, ℕ, Bool, ◌&&◌, List, [], ◌∷◌, Contains, refl}
use Rattle.std.proofs.Common.{◌∙◌, zero, suc, subst, arith}
use Rattle.std.proofs.lemmas.Bool.{or_cases, or_left, or_right, and_parts, and_from, eqb-true, eq-eqb}
use Rattle.principals.specs.ActsFor.{Declared, ActsFor, IsPreorder}
use Rattle.label_reasons.specs.Listed.{leads, acts_for}

-- what is cited of who acts for whom
pub record ActsLaws (principals : Declared) : Type 0 where
  pub reflexive : (p : ℕ) → ActsFor principals p p
  pub transitive : (p q r : ℕ) → ActsFor principals p q → ActsFor principals q r → ActsFor principals p r
  pub declared : (p q : ℕ) → Contains principals.pairs (p, q) → ActsFor principals p q
  pub smallest : (relation : ℕ → ℕ → Bool) → IsPreorder relation →
      ((p q : ℕ) → Contains principals.pairs (p, q) → IsTrue (relation p q)) → (p q : ℕ) → ActsFor principals p q →
      IsTrue (relation p q)

-- what leads over the pairs is in each relation that leads on and has them
within : (R : ℕ → ℕ → Type 0) → ((p : ℕ) → R p p) → ((p q r : ℕ) → R p q → R q r → R p r) →
    (pairs : List (ℕ × ℕ)) → ((p q : ℕ) → Contains pairs (p, q) → R p q) → (p q : ℕ) → IsTrue (leads pairs p q) → R p q
within R itself on [] each p q is = let P : ℕ → Type 0 = λ n. R p n in subst P (eqb-true p q is) (itself p)
within R itself on (pair ∷ pairs) each p q is =
    let before : (p q : ℕ) → IsTrue (leads pairs p q) → R p q = within R itself on pairs
    (λ one other found. each one other (suc found.0, omega (arith, found.1), found.2)) in
    elim (or_cases (leads pairs p q) (leads pairs p pair.0 && leads pairs pair.1 q) is) [
      | inl old ↦ before p q old
      | inr over ↦
          let both = and_parts (leads pairs p pair.0) (leads pairs pair.1 q) over in
          on p pair.0 q (before p pair.0 both.0)
          (on pair.0 pair.1 q (each pair.0 pair.1 (0, omega arith, refl)) (before pair.1 q both.1))
    ]

-- a chain with one more pair is one without it, or one over it
old_or_over : (pair : ℕ × ℕ) (pairs : List (ℕ × ℕ)) (p q : ℕ) → IsTrue (leads (pair ∷ pairs) p q) →
    IsTrue (leads pairs p q) ⊎ (IsTrue (leads pairs p pair.0) × IsTrue (leads pairs pair.1 q))
old_or_over pair pairs p q is = elim (or_cases (leads pairs p q) (leads pairs p pair.0 && leads pairs pair.1 q) is) [
  | inl old ↦ inl old
  | inr over ↦ inr (and_parts (leads pairs p pair.0) (leads pairs pair.1 q) over)
]

over : (pair : ℕ × ℕ) (pairs : List (ℕ × ℕ)) (p q : ℕ) → IsTrue (leads pairs p pair.0) → IsTrue (leads pairs pair.1 q) →
    IsTrue (leads (pair ∷ pairs) p q)
over pair pairs p q to from = or_right (leads pairs p q) (leads pairs p pair.0 && leads pairs pair.1 q)
    (and_from (leads pairs p pair.0) (leads pairs pair.1 q) to from)

without : (pair : ℕ × ℕ) (pairs : List (ℕ × ℕ)) (p q : ℕ) → IsTrue (leads pairs p q) →
    IsTrue (leads (pair ∷ pairs) p q)
without pair pairs p q is = or_left (leads pairs p q) (leads pairs p pair.0 && leads pairs pair.1 q) is

leads_on : (pairs : List (ℕ × ℕ)) (p q r : ℕ) → IsTrue (leads pairs p q) → IsTrue (leads pairs q r) →
    IsTrue (leads pairs p r)
leads_on [] p q r first second = eq-eqb p r (eqb-true p q first ∙ eqb-true q r second)
leads_on (pair ∷ pairs) p q r first second = elim (old_or_over pair pairs p q first) [
  | inl old ↦ elim (old_or_over pair pairs q r second) [
    | inl also ↦ without pair pairs p r (leads_on pairs p q r old also)
    | inr new ↦ over pair pairs p r (leads_on pairs p q pair.0 old new.0) new.1
  ]
  | inr new ↦ elim (old_or_over pair pairs q r second) [
    | inl also ↦ over pair pairs p r new.0 (leads_on pairs pair.1 q r new.1 also)
    | inr again ↦ over pair pairs p r new.0 again.1
  ]
]

to_itself : (pairs : List (ℕ × ℕ)) (p : ℕ) → IsTrue (leads pairs p p)
to_itself [] p = eq-eqb p p refl
to_itself (pair ∷ pairs) p = without pair pairs p p (to_itself pairs p)

over_declared : (pairs : List (ℕ × ℕ)) (p q : ℕ) → Contains pairs (p, q) → IsTrue (leads pairs p q)
over_declared [] p q (k, lt, read) = absurd (omega (arith, lt))
over_declared (pair ∷ pairs) p q (zero, lt, read) =
    let P : ℕ × ℕ → Type 0 = λ one. IsTrue (leads (pair ∷ pairs) one.0 one.1) in
    subst P read (over pair pairs pair.0 pair.1 (to_itself pairs pair.0) (to_itself pairs pair.1))
over_declared (pair ∷ pairs) p q (suc k, lt, read) =
    without pair pairs p q (over_declared pairs p q (k, omega (arith, lt), read))

pub acts_tells : (principals : Declared) → ActsLaws principals → (p q : ℕ) →
    IsTrue (acts_for principals p q) ↔ ActsFor principals p q
acts_tells principals laws p q = (
  λ is. within (ActsFor principals) laws.reflexive laws.transitive principals.pairs laws.declared p q is,
  λ acts. laws.smallest (leads principals.pairs) (record {
    reflexive = to_itself principals.pairs;
    transitive = leads_on principals.pairs;
  }) (over_declared principals.pairs) p q acts,
)
