-- Words for all numbers, of which only those of the things that are there have bits.
use Rattle.std.proofs.Common.{◌≡◌, ℕ, ◌<◌, ◌≤◌, List, length, get_or, Option, ap, ◌∙◌, subst, inl, inr}
use Rattle.std.proofs.Common.{arith}
use Rattle.std.specs.Prelude.{IsSomeAnd, slice_get}
use Rattle.std.specs.Int.{bit_at}
use Rattle.std.proofs.lemmas.List.{get_or_past}
use Rattle.std.proofs.lemmas.Bool.{cases_lt}
use Rattle.std.proofs.lemmas.Nat.Bits.{bit_at-zero}
use Rattle.std.proofs.lemmas.Option.{slice_get_past}
use Rattle.js_base.specs.declared.ids.HostId.{HostId}
use Rattle.host_code.specs.Code.{CodeShape}
use Rattle.entry_check.specs.declared.ask.Ask.{Ask}
use Rattle.entry_check.specs.Checks.{May, IsWordOfAsk}

-- nothing is there past the end
pub past_end : {X : Type 0} (P : X → Type 0) (items : List X) (n : ℕ) → length items ≤ n →
    IsSomeAnd (slice_get items n) P → ⊥
past_end {X} P items n past there = subst (λ (o : Option X). IsSomeAnd o P) (slice_get_past items n past) there

no_bit : (word from : ℕ) → word ≡ 0 → bit_at word from ≡ 1 → ⊥
no_bit word from none is = let zero_is : bit_at word from ≡ 0 =
    ap (λ (w : ℕ). bit_at w from) none ∙ bit_at-zero from in cc

pub of_all : (code : CodeShape) (me : HostId) (asked : ℕ → Ask) (words : List ℕ) (count : ℕ) → length words ≡ count
    → ((n : ℕ) → n < count → IsWordOfAsk code me (asked n) (get_or words n 0))
    → ((n : ℕ) (from : HostId) → count ≤ n → May code me (asked n) from → ⊥)
    → (n : ℕ) → IsWordOfAsk code me (asked n) (get_or words n 0)
of_all code me asked words count long within past n =
    elim (cases_lt n count) as (λ _. IsWordOfAsk code me (asked n) (get_or words n 0)) [
      | inl lt ↦ within n lt
      | inr ge ↦ (λ from small. (
        λ is. absurd (no_bit (get_or words n 0) from.0 (get_or_past words n 0 (omega arith)) is),
        λ may. absurd (past n from ge may),
      ))
    ]
