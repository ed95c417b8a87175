-- Facts that hold or not, by what they are made of.
use Rattle.std.proofs.Common.{◌≡◌, ◌⊎◌, ◌∙◌, ℕ, zero, suc, ◌<◌, List, [], ◌∷◌, All, subst, sym, arith, inl, inr, refl}
use Rattle.std.specs.Prelude.{Any}
use Rattle.std.specs.Str.{bytes_eq}
use Rattle.std.proofs.lemmas.Bool.{cases_Bool, cases_eq, cases_lt, false≢true}
use Rattle.std.proofs.lemmas.Slice.Eq.{bytes_eq-Decides}

abbrev pub Decided : Type 0 → Type 0
Decided fact = fact ⊎ ¬ fact

pub never : (P : Type 0) → Decided P → Decided (¬ P)
never P (inl is) = inr (λ not. not is)
never P (inr not) = inl not

pub implied : (P Q : Type 0) → Decided P → Decided Q → Decided (P → Q)
implied P Q one (inl is) = inl (λ _. is)
implied P Q (inl is) (inr not) = inr (λ follows. not (follows is))
implied P Q (inr never) (inr not) = inl (λ is. absurd (never is))

pub both : (P Q : Type 0) → Decided P → Decided Q → Decided (P × Q)
both P Q (inl is) (inl also) = inl (is, also)
both P Q (inl is) (inr not) = inr (λ pair. not pair.1)
both P Q (inr not) other = inr (λ pair. not pair.0)

pub either : (P Q : Type 0) → Decided P → Decided Q → Decided (P ⊎ Q)
either P Q (inl is) other = inl (inl is)
either P Q (inr not) (inl is) = inl (inr is)
either P Q (inr not) (inr also) = inr (λ some. elim some [ inl is ↦ not is | inr is ↦ also is ])

-- the same, told otherwise
pub as_well : (P Q : Type 0) → (P → Q) → (Q → P) → Decided P → Decided Q
as_well P Q to from (inl is) = inl (to is)
as_well P Q to from (inr not) = inr (λ is. not (from is))

pub all_below : (n : ℕ) (P : ℕ → Type 0) → ((k : ℕ) → Decided (P k)) → Decided ((k : ℕ) → k < n → P k)
all_below zero P each = inl (λ k lt. absurd (omega arith))
all_below (suc n) P each = elim (all_below n P each) [
  | inl below ↦ elim (each n) [
    | inl here ↦ inl (λ k lt. elim (cases_eq k n) [
      | inl same ↦ subst P (sym same) here
      | inr other ↦ below k (omega arith)
    ])
    | inr not ↦ inr (λ all. not (all n (omega arith)))
  ]
  | inr not ↦ inr (λ all. not (λ k lt. all k (omega arith)))
]

all_more : {X : Type 0} (P : X → Type 0) (x : X) (xs : List X) → P x → All P xs → All P (x ∷ xs)
all_more P x xs here behind zero d lt = here
all_more P x xs here behind (suc k) d lt = behind k d (omega arith)

pub all_of : {X : Type 0} (P : X → Type 0) → ((x : X) → Decided (P x)) → (xs : List X) → Decided (All P xs)
all_of P each [] = inl (λ k d lt. absurd (omega arith))
all_of P each (x ∷ xs) = elim (each x) [
  | inl here ↦ elim (all_of P each xs) [
    | inl behind ↦ inl (all_more P x xs here behind)
    | inr not ↦ inr (λ all. not (λ k d lt. all (suc k) d (omega arith)))
  ]
  | inr not ↦ inr (λ all. not (all 0 x (omega arith)))
]

pub any_of : {X : Type 0} (P : X → Type 0) → ((x : X) → Decided (P x)) → (xs : List X) → Decided (Any P xs)
any_of P each [] = inr (λ some. absurd (omega (arith, some.2)))
any_of P each (x ∷ xs) = elim (each x) [
  | inl here ↦ inl (0, x, omega arith, refl, here)
  | inr not ↦ elim (any_of P each xs) [
    | inl (k, y, lt, read, holds) ↦ inl (suc k, y, omega arith, read, holds)
    | inr none ↦ inr (λ some. neither P x xs not none some)
  ]
]
  where
    neither : {X : Type 0} (P : X → Type 0) (x : X) (xs : List X) → ¬ P x → ¬ Any P xs → Any P (x ∷ xs) → ⊥
    neither P x xs not none (zero, y, lt, read, holds) = not (subst P (sym read) holds)
    neither P x xs not none (suc k, y, lt, read, holds) = none (k, y, omega arith, read, holds)

pub less_than : (m n : ℕ) → Decided (m < n)
less_than m n = elim (cases_lt m n) [ inl lt ↦ inl lt | inr not ↦ inr (λ lt. omega (arith, lt, not)) ]

pub same_text : (first second : List ℕ) → Decided (first ≡ second)
same_text first second = elim (cases_Bool (bytes_eq first second)) [
  | inl same ↦ inl ((bytes_eq-Decides first second).0 same)
  | inr apart ↦ inr (λ is. false≢true (sym apart ∙ (bytes_eq-Decides first second).1 is))
]
