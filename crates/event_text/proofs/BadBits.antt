-- The bits of a word are those of the hosts that were named.
use Rattle.std.proofs.Common.{◌≡◌, ◌≢◌, ◌⊎◌, ◌↔◌, ◌^◌, ◌==◌, ◌||◌, ℕ, Bool, true, false, List, [], ◌∷◌}
use Rattle.std.proofs.Common.{bit_or}
use Rattle.std.proofs.Common.{refl, sym, subst, inl, inr, arith, eq-eqb, ne_eqb}
use Rattle.std.specs.Int.{bit_at}
use Rattle.std.specs.List.{list_any}
use Rattle.std.proofs.lemmas.Bool.{cases_eq, false≢true}
use Rattle.std.proofs.lemmas.Nat.Bits.{bit_at_or, bit_at-pow_same, bit_at-pow_other, bit_at-zero}
use Rattle.js_base.specs.declared.ids.HostId.{HostId}
use Rattle.js_base.proofs.BitLemmas.{is_bit}
use Rattle.event_text.specs.Misbehaving.{with_hosts}

abbrev pub has_number : ℕ → HostId → Bool
has_number number host = host.0 == number

abbrev Named : ℕ → List HostId → Type 0
Named number hosts = list_any (has_number number) hosts ≡ true

named_here : (number : ℕ) (host : HostId) (hosts : List HostId) → host.0 ≡ number → Named number (host ∷ hosts)
named_here number host hosts same = rw (eq-eqb host.0 number same) refl

named_later : (number : ℕ) (host : HostId) (hosts : List HostId) → Named number hosts → Named number (host ∷ hosts)
named_later number host hosts later = by (has_number number host)
  where
    by : (here : Bool) → (here || list_any (has_number number) hosts) ≡ true
    by true = refl
    by false = later

named_past : (number : ℕ) (host : HostId) (hosts : List HostId) → host.0 ≢ number → Named number (host ∷ hosts) →
    Named number hosts
named_past number host hosts other named = rw (ne_eqb host.0 number other) at named

-- a bit that is set was set, or is that of one of the hosts
set_from : (word : ℕ) (hosts : List HostId) (number : ℕ) → bit_at (with_hosts word hosts) number ≡ 1 →
    (bit_at word number ≡ 1) ⊎ Named number hosts
set_from word [] number set = inl set
set_from word (host ∷ hosts) number set = elim (cases_eq host.0 number) [
  | inl same ↦ inr (named_here number host hosts same)
  | inr other ↦ elim (set_from (bit_or word (2 ^ host.0)) hosts number set) [
    | inl joined ↦
        let clear : bit_at (2 ^ host.0) number ≡ 0 = bit_at-pow_other host.0 number (λ is. other (sym is)) in
        inl (omega (arith, joined, clear, bit_at_or word (2 ^ host.0) number))
    | inr named ↦ inr (named_later number host hosts named)
  ]
]

kept_set : (word : ℕ) (hosts : List HostId) (number : ℕ) → bit_at word number ≡ 1 →
    bit_at (with_hosts word hosts) number ≡ 1
kept_set word [] number set = set
kept_set word (host ∷ hosts) number set =
    kept_set (bit_or word (2 ^ host.0)) hosts number
    (omega (arith, set, bit_at_or word (2 ^ host.0) number, is_bit (2 ^ host.0) number))

set_named : (word : ℕ) (hosts : List HostId) (number : ℕ) → Named number hosts →
    bit_at (with_hosts word hosts) number ≡ 1
set_named word [] number named = absurd (false≢true named)
set_named word (host ∷ hosts) number named = elim (cases_eq host.0 number) [
  | inl same ↦
      let own : bit_at (2 ^ host.0) number ≡ 1 = subst (λ n. bit_at (2 ^ host.0) n ≡ 1) same (bit_at-pow_same host.0) in
      kept_set (bit_or word (2 ^ host.0)) hosts number
      (omega (arith, own, bit_at_or word (2 ^ host.0) number, is_bit word number))
  | inr other ↦ set_named (bit_or word (2 ^ host.0)) hosts number (named_past number host hosts other named)
]

pub bad_bits : (hosts : List HostId) (number : ℕ) →
    (bit_at (with_hosts 0 hosts) number ≡ 1) ↔ (list_any (has_number number) hosts ≡ true)
bad_bits hosts number = (
  (λ set. elim (set_from 0 hosts number set) [
    | inl never ↦ absurd (omega (arith, never, bit_at-zero number))
    | inr named ↦ named
  ]),
  (λ named. set_named 0 hosts number named),
)
