-- Where instructions and entries stand in a list of emissions.
use Rattle.std.proofs.Common.{◌≡◌, ◌∙◌, ℕ, zero, suc, ◌≤◌, ◌⊎◌, inl, inr, List, [], ◌∷◌}
use Rattle.std.proofs.Common.{◌++◌, length, Some, slice_get, refl, ap, sym, arith}
use Rattle.std.proofs.lemmas.Bool.Decides.{eqb_tells}
use Rattle.js_base.specs.declared.ids.HostId.{HostId}
use Rattle.split_rules.specs.Emissions.{Emission, instruction, entry, stands, lands, Emitted, NamedEntry}
use Rattle.split_rules.specs.SplitCode.{emitted_on, entries_in}

host_of : ℕ → HostId
host_of number = record { 0 = number }

pub same_host : (one other : HostId) → one.0 ≡ other.0 → one ≡ other
unfolding host_of
same_host one other same = ap host_of same

-- ---- the first of some emissions

abbrev pub IsElsewhere : HostId → Emission → Type 0
IsElsewhere host emission =
    (others : List Emission) → emitted_on host (emission ∷ others) ≡ emitted_on host others

pub record IsOwn (host : HostId) (emission : Emission) : Type 0 where
  pub one : Emitted
  pub is : emission ≡ instruction one
  pub own : one.host ≡ host
  pub first : (others : List Emission) → emitted_on host (emission ∷ others) ≡ one ∷ emitted_on host others

pub shown : (host : HostId) (emission : Emission) → IsOwn host emission ⊎ IsElsewhere host emission
shown host (instruction one) = elim (eqb_tells one.host.0 host.0) [
  | inl same ↦ inl (record {
    one = one;
    is = refl;
    own = same_host one.host host same.1;
    first = λ others. rw same.0 refl;
  })
  | inr other ↦ inr (λ others. rw other.0 refl)
]
shown host (entry named) = inr (λ others. refl)
shown host (stands on number) = inr (λ others. refl)
shown host (lands on number) = inr (λ others. refl)

-- ---- appends

pub emitted_append : (host : HostId) (front more : List Emission) →
    emitted_on host (front ++ more) ≡ emitted_on host front ++ emitted_on host more
emitted_append host [] more = refl
emitted_append host (emission ∷ front) more = elim (shown host emission) [
  | inl own ↦ own.first (front ++ more) ∙ ap (◌∷◌ own.one) (emitted_append host front more)
      ∙ ap (λ list. list ++ emitted_on host more) (sym (own.first front))
  | inr other ↦ other (front ++ more) ∙ emitted_append host front more
      ∙ ap (λ list. list ++ emitted_on host more) (sym (other front))
]

pub entries_append : (front more : List Emission) → entries_in (front ++ more) ≡ entries_in front ++ entries_in more
entries_append [] more = refl
entries_append (instruction one ∷ front) more = entries_append front more
entries_append (entry named ∷ front) more = ap (◌∷◌ named) (entries_append front more)
entries_append (stands on number ∷ front) more = entries_append front more
entries_append (lands on number ∷ front) more = entries_append front more

pub emitted_few : (host : HostId) (emissions : List Emission) →
    length (emitted_on host emissions) ≤ length emissions
emitted_few host [] = omega arith
emitted_few host (emission ∷ others) =
    let so = emitted_few host others in
    elim (shown host emission) [
      | inl own ↦ omega (arith, ap length (own.first others))
      | inr other ↦ omega (arith, ap length (other others))
    ]

pub entries_few : (emissions : List Emission) → length (entries_in emissions) ≤ length emissions
entries_few [] = omega arith
entries_few (instruction one ∷ others) = omega (arith, entries_few others)
entries_few (entry named ∷ others) = omega (arith, entries_few others)
entries_few (stands on number ∷ others) = omega (arith, entries_few others)
entries_few (lands on number ∷ others) = omega (arith, entries_few others)

-- ---- what stands at a place

-- the instruction at a place of a host, with the emissions before it
pub record Found (host : HostId) (emissions : List Emission) (at : ℕ) (one : Emitted) : Type 0 where
  pub before : List Emission
  pub behind : List Emission
  pub is : emissions ≡ before ++ instruction one ∷ behind
  pub place : length (emitted_on host before) ≡ at
  pub own : one.host ≡ host

found_own : (host : HostId) (emission : Emission) (others : List Emission) (at : ℕ) (one : Emitted) →
    (own : IsOwn host emission) →
    ((at : ℕ) (one : Emitted) → slice_get (emitted_on host others) at ≡ Some one → Found host others at one) →
    slice_get (own.one ∷ emitted_on host others) at ≡ Some one → Found host (emission ∷ others) at one
found_own host emission others zero one own more there =
    let same : own.one ≡ one = cc in
    record {
      before = [];
      behind = others;
      is = ap (λ first. first ∷ others) (own.is ∙ ap instruction same);
      place = refl;
      own = ap (λ emitted. emitted.host) (sym same) ∙ own.own;
    }
found_own host emission others (suc at) one own more there =
    let so = more at one there in
    record {
      before = emission ∷ so.before;
      behind = so.behind;
      is = ap (◌∷◌ emission) so.is;
      place = ap length (own.first so.before) ∙ ap suc so.place;
      own = so.own;
    }

pub found : (host : HostId) (emissions : List Emission) (at : ℕ) (one : Emitted) →
    slice_get (emitted_on host emissions) at ≡ Some one → Found host emissions at one
found host [] at one there = absurd (cc)
found host (emission ∷ others) at one there = elim (shown host emission) [
  | inl own ↦ found_own host emission others at one own (found host others)
      (ap (λ list. slice_get list at) (sym (own.first others)) ∙ there)
  | inr other ↦
      let so = found host others at one (ap (λ list. slice_get list at) (sym (other others)) ∙ there) in
      record {
        before = emission ∷ so.before;
        behind = so.behind;
        is = ap (◌∷◌ emission) so.is;
        place = ap length (other so.before) ∙ so.place;
        own = so.own;
      }
]

-- the entry of a number, with the emissions before it
pub record FoundEntry (emissions : List Emission) (number : ℕ) (named : NamedEntry) : Type 0 where
  pub before : List Emission
  pub behind : List Emission
  pub is : emissions ≡ before ++ entry named ∷ behind
  pub place : length (entries_in before) ≡ number

entry_later : (emission : Emission) (others : List Emission) (number : ℕ) (named : NamedEntry) →
    ((list : List Emission) → entries_in (emission ∷ list) ≡ entries_in list) → FoundEntry others number named →
    FoundEntry (emission ∷ others) number named
entry_later emission others number named none so = record {
  before = emission ∷ so.before;
  behind = so.behind;
  is = ap (◌∷◌ emission) so.is;
  place = ap length (none so.before) ∙ so.place;
}

pub found_entry : (emissions : List Emission) (number : ℕ) (named : NamedEntry) →
    slice_get (entries_in emissions) number ≡ Some named → FoundEntry emissions number named
found_entry [] number named there = absurd (cc)
found_entry (instruction one ∷ others) number named there =
    entry_later (instruction one) others number named (λ list. refl) (found_entry others number named there)
found_entry (stands on other ∷ others) number named there =
    entry_later (stands on other) others number named (λ list. refl) (found_entry others number named there)
found_entry (lands on other ∷ others) number named there =
    entry_later (lands on other) others number named (λ list. refl) (found_entry others number named there)
found_entry (entry first ∷ others) zero named there =
    let same : first ≡ named = cc in
    record { before = []; behind = others; is = ap (λ one. entry one ∷ others) same; place = refl }
found_entry (entry first ∷ others) (suc number) named there =
    let so = found_entry others number named there in
    record {
      before = entry first ∷ so.before;
      behind = so.behind;
      is = ap (◌∷◌ (entry first)) so.is;
      place = ap suc so.place;
    }
