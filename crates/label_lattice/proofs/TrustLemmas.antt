-- Who trusts a label, as words of bits come to say it.
use Rattle.std.proofs.Common.{ℕ, ◌≡◌, ◌≢◌, ◌<◌, ◌≤◌, ◌+◌, ◌↔◌, ◌⊎◌, ◌∙◌, sym, refl, subst, inl, inr, max, List, [], ◌∷◌}
use Rattle.std.proofs.Common.{◌++◌, length, get_or, take, arith}
use Rattle.std.specs.Prelude.{Any}
use Rattle.std.specs.Int.{bit_at}
use Rattle.std.proofs.lemmas.Bool.{cases_lt}
use Rattle.js_base.specs.declared.ids.PrincipalId.{PrincipalId}
use Rattle.principals.specs.ActsFor.{Declared, ActsFor}
use Rattle.std.proofs.lemmas.List.{take_all, take_more}
use Rattle.std.proofs.lemmas.List.Quantifiers.{Any-push}
use Rattle.label_lattice.proofs.AnyLemmas.{any_old, any_cases}
use Rattle.label_lattice.proofs.LatticeLemmas.{either_bit}

-- ---- the bits below a place

-- the bits below a place are those where the condition holds, and no other is set
pub record BitsBelow (P : ℕ → Type 0) (word place : ℕ) : Type 0 where
  pub before : (k : ℕ) → k < place → ((bit_at word k ≡ 1) ↔ P k)
  pub after : (k : ℕ) → place ≤ k → bit_at word k ≡ 0

pub bits_more : (P : ℕ → Type 0) (word next place : ℕ) → ((bit_at next place ≡ 1) ↔ P place) →
    ((k : ℕ) → k ≢ place → bit_at next k ≡ bit_at word k) → BitsBelow P word place → BitsBelow P next (place + 1)
bits_more P word next place here others so_far = record {
  before = before;
  after = λ k above. others k (λ same. omega (arith, above, same)) ∙ so_far.after k (omega arith);
}
  where
    before : (k : ℕ) → k < place + 1 → ((bit_at next k ≡ 1) ↔ P k)
    before k below = elim (cases_lt k place) [
      | inl less ↦
          let same : bit_at next k ≡ bit_at word k = others k (λ is. omega (arith, less, is)) in
          (λ set. (so_far.before k less).0 (sym same ∙ set), λ holds. same ∙ (so_far.before k less).1 holds)
      | inr more ↦
          let is : place ≡ k = omega arith in
          let Q : ℕ → Type 0 = λ n. (bit_at next n ≡ 1) ↔ P n in
          subst Q is here
    ]

-- a place where the condition fails leaves the word as it is
pub bits_stay : (P : ℕ → Type 0) (word place : ℕ) → ¬ P place → BitsBelow P word place → BitsBelow P word (place + 1)
bits_stay P word place fails so_far =
    bits_more P word word place (
      λ set. absurd (omega (arith, set, so_far.after place (omega arith))),
      λ holds. absurd (fails holds),
    ) (λ k _. refl) so_far

-- the condition holds at no place from there on
pub bits_all : (P : ℕ → Type 0) (word place : ℕ) → ((k : ℕ) → place ≤ k → ¬ P k) → BitsBelow P word place → (k : ℕ) →
    (bit_at word k ≡ 1) ↔ P k
bits_all P word place fails below k = elim (cases_lt k place) [
  | inl less ↦ below.before k less
  | inr more ↦ (λ set. absurd (omega (arith, set, below.after k more)), λ holds. absurd (fails k more holds))
]

-- ---- trust by some of a list

-- the new word also has the bits of those whom one of these acts for
abbrev pub TrustGains : Declared → List PrincipalId → ℕ → ℕ → Type 0
TrustGains principals by old new = (p : ℕ) → p < 64 →
    ((bit_at new p ≡ 1) ↔ ((bit_at old p ≡ 1) ⊎ Any (λ member. ActsFor principals member.0 p) by))

pub no_gain : (principals : Declared) (word : ℕ) → TrustGains principals [] word word
no_gain principals word p within =
    (λ set. inl set, λ either. elim either [ inl set ↦ set | inr some ↦ absurd (omega (arith, some.2)) ])

gains_push : (principals : Declared) (before : List PrincipalId) (member : PrincipalId) (old word acted next : ℕ) →
    ((p : ℕ) → p < 64 → ((bit_at acted p ≡ 1) ↔ ActsFor principals member.0 p)) →
    ((k : ℕ) → bit_at next k ≡ max (bit_at word k) (bit_at acted k)) →
    TrustGains principals before old word → TrustGains principals (before ++ member ∷ []) old next
gains_push principals before member old word acted next acts bits so_far p p_in = (there, back)
  where
    P : PrincipalId → Type 0
    P m = ActsFor principals m.0 p

    either : (bit_at next p ≡ 1) ↔ ((bit_at word p ≡ 1) ⊎ (bit_at acted p ≡ 1))
    either = either_bit (bit_at word p) (bit_at acted p) (bit_at next p) (omega arith) (omega arith) (bits p)

    earlier : (bit_at old p ≡ 1) ⊎ Any P before → (bit_at old p ≡ 1) ⊎ Any P (before ++ member ∷ [])
    earlier (inl set) = inl set
    earlier (inr some) = inr (any_old P before member some)

    there : bit_at next p ≡ 1 → (bit_at old p ≡ 1) ⊎ Any P (before ++ member ∷ [])
    there set = elim (either.0 set) [
      | inl already ↦ earlier ((so_far p p_in).0 already)
      | inr new ↦ inr (Any-push P before member ((acts p p_in).0 new))
    ]

    back : (bit_at old p ≡ 1) ⊎ Any P (before ++ member ∷ []) → bit_at next p ≡ 1
    back (inl set) = either.1 (inl ((so_far p p_in).1 (inl set)))
    back (inr some) = elim (any_cases P before member some) [
      | inl already ↦ either.1 (inl ((so_far p p_in).1 (inr already)))
      | inr here ↦ either.1 (inr ((acts p p_in).1 here))
    ]

pub gains_more : (principals : Declared) (by : List PrincipalId) (place : ℕ) (e : PrincipalId)
    (old word acted next : ℕ) →
    place < length by → ((p : ℕ) → p < 64 → ((bit_at acted p ≡ 1) ↔ ActsFor principals (get_or by place e).0 p)) →
    ((k : ℕ) → bit_at next k ≡ max (bit_at word k) (bit_at acted k)) →
    TrustGains principals (take place by) old word → TrustGains principals (take (place + 1) by) old next
gains_more principals by place e old word acted next within acts bits so_far =
    let Q : List PrincipalId → Type 0 = λ members. TrustGains principals members old next in
    subst Q (sym (take_more by place e within))
    (gains_push principals (take place by) (get_or by place e) old word acted next acts bits so_far)

pub gains_all : (principals : Declared) (by : List PrincipalId) (place old word : ℕ) → length by ≤ place →
    TrustGains principals (take place by) old word → TrustGains principals by old word
gains_all principals by place old word all gains =
    let Q : List PrincipalId → Type 0 = λ members. TrustGains principals members old word in
    subst Q (take_all place by all) gains
