-- The test of trust means trust.
use Rattle.std.proofs.Common.{◌≡◌, ℕ, ◌<◌, ◌≤◌, Bool, true, nat_le, subst, sym, zero-add, ◌∙◌, arith}
use Rattle.std.specs.Bool.{Decides}
use Rattle.std.specs.Int.{bit_at}
use Rattle.std.specs.List.{list_all, range_with_len}
use Rattle.std.proofs.lemmas.Bool.{leb-true, le-leb}
use Rattle.std.proofs.lemmas.List.FromFn.{length-range_with_len, get_or-range_with_len}
use Rattle.std.proofs.lemmas.List.Sums.{AllPass-from_list_all, list_all-from_AllPass}
use Rattle.js_base.proofs.BitLemmas.{is_bit, bits_in_order}
use Rattle.label_lattice.specs.declared.label.Label.{Label}
use Rattle.label_lattice.specs.declared.label.TheConstants.{READERS}
use Rattle.label_lattice.specs.Label.{IsTrustedBy}
use Rattle.msg_cost.specs.Moves.{is_trusted_by}

abbrev passes : Label → ℕ → ℕ → Bool
passes label word principal = nat_le (bit_at word principal) (bit_at label.trust principal)

at_place : (label : Label) (word n principal : ℕ) → principal < n →
    list_all (passes label word) (range_with_len 0 n) ≡ true → bit_at word principal ≤ bit_at label.trust principal
at_place label word n principal within holds =
    let P : ℕ → Type 0 = λ one. passes label word one ≡ true in
    let many = length-range_with_len 0 n in
    leb-true (bit_at word principal) (bit_at label.trust principal)
    (subst P (get_or-range_with_len 0 n principal 0 within ∙ zero-add principal)
    (AllPass-from_list_all (passes label word) (range_with_len 0 n) holds principal 0 (omega arith)))

of_places : (label : Label) (word n : ℕ) →
    ((principal : ℕ) → principal < n → bit_at word principal ≤ bit_at label.trust principal) →
    list_all (passes label word) (range_with_len 0 n) ≡ true
of_places label word n holds =
    let many = length-range_with_len 0 n in
    list_all-from_AllPass (passes label word) (range_with_len 0 n) (λ k d within.
    let below : k < n = omega arith in
    let P : ℕ → Type 0 = λ one. passes label word one ≡ true in
    subst P (sym (get_or-range_with_len 0 n k d below ∙ zero-add k))
    (le-leb (bit_at word k) (bit_at label.trust k) (holds k below)))

set_too : (first second : ℕ) → second < 2 → first ≤ second → first ≡ 1 → second ≡ 1
set_too first second bit most set = omega arith

pub test_decides : (label : Label) (word : ℕ) → Decides (is_trusted_by label word) (IsTrustedBy label word)
unfolding is_trusted_by
test_decides label word = (
  (λ holds. λ principal within set.
      set_too (bit_at word principal) (bit_at label.trust principal) (is_bit label.trust principal)
      (at_place label word READERS principal within holds) set),
  (λ trusts. of_places label word READERS (λ principal within.
      bits_in_order (bit_at word principal) (bit_at label.trust principal) (is_bit word principal)
      (trusts principal within))),
)
