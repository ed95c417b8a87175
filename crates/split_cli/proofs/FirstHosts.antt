-- The first number, and the first host, of which something holds, where it is decided for each and holds of none past a
-- number.
use Rattle.std.proofs.Common.{◌⊎◌, ℕ, zero, suc, ◌<◌, inl, inr, ⊎_elim, subst, arith}
use Rattle.std.proofs.lemmas.Bool.{cases_eq}
use Rattle.js_base.proofs.Decisions.{Decided}
use Rattle.js_base.specs.declared.ids.HostId.{HostId}

-- ---- numbers

-- it holds of no earlier one
abbrev pub NoneBelow : (ℕ → Type 0) → ℕ → Type 0
NoneBelow P most = (number : ℕ) → number < most → ¬ P number

-- the first of which it holds
pub record IsFirstNumber (P : ℕ → Type 0) (number : ℕ) : Type 0 where
  pub holds : P number
  pub first : NoneBelow P number

-- one number more
with_next : (P : ℕ → Type 0) (most : ℕ) → Decided (P most) → NoneBelow P most →
    ((number : ℕ) × IsFirstNumber P number) ⊎ NoneBelow P (suc most)
with_next P most (inl is) none = inl (most, record { holds = is; first = none })
with_next P most (inr not) none =
    inr (λ number below here. elim (cases_eq number most) [
      | inl same ↦ not (subst P same here)
      | inr other ↦ none number (omega (arith, below, other)) here
    ])

first_below : (P : ℕ → Type 0) → ((number : ℕ) → Decided (P number)) → (most : ℕ) →
    ((number : ℕ) × IsFirstNumber P number) ⊎ NoneBelow P most
first_below P each zero = inr (λ number below. absurd (omega arith))
first_below P each (suc most) =
    ⊎_elim (λ found. inl found) (λ none. with_next P most (each most) none) (first_below P each most)

pub first_number_or_none : (P : ℕ → Type 0) → ((number : ℕ) → Decided (P number)) → (most : ℕ) →
    ((number : ℕ) → P number → number < most) →
    ((number : ℕ) × IsFirstNumber P number) ⊎ ((number : ℕ) → ¬ P number)
first_number_or_none P each most bound =
    ⊎_elim (λ found. inl found) (λ none. inr (λ number is. none number (bound number is) is)) (first_below P each most)

-- ---- hosts

pub record IsFirstOf (P : HostId → Type 0) (host : HostId) : Type 0 where
  pub holds : P host
  pub first : (earlier : HostId) → earlier.0 < host.0 → ¬ P earlier

pub first_or_none : (P : HostId → Type 0) → ((host : HostId) → Decided (P host)) → (most : ℕ) →
    ((host : HostId) → P host → host.0 < most) → ((host : HostId) × IsFirstOf P host) ⊎ ((host : HostId) → ¬ P host)
first_or_none P each most bound =
    ⊎_elim
    (λ found. inl (
      numbered found.0,
      record { holds = found.1.holds; first = λ earlier before. found.1.first earlier.0 before },
    ))
    (λ none. inr (λ host. none host.0))
    (first_number_or_none (λ number. P (numbered number)) (λ number. each (numbered number)) most
    (λ number. bound (numbered number)))
  where
    numbered : ℕ → HostId
    numbered number = record { 0 = number }
