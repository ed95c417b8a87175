-- Among distinct names a name is found at its place.
use Rattle.std.proofs.Common.{◌≡◌, ℕ, Bool, true, List, map, length, get_or, Some}
use Rattle.std.proofs.Common.{refl, ap, sym, ◌∙◌, inl, inr, arith, slice_get}
use Rattle.std.proofs.Common.{true≢false}
use Rattle.std.specs.Prelude.{position, nat_lt}
use Rattle.std.specs.List.{IsDistinct, position_or_len}
use Rattle.std.specs.Option.{option_map}
use Rattle.std.specs.Str.{bytes_eq}
use Rattle.std.proofs.lemmas.Bool.{cases_lt}
use Rattle.std.proofs.lemmas.Bool.Decides.{nat_tests}
use Rattle.std.proofs.lemmas.List.Quantifiers.{position-Some}
use Rattle.std.proofs.lemmas.List.Sums.{fails_before_first}
use Rattle.std.proofs.lemmas.Option.{slice_get-map, slice_get-get_or, slice_get_within, get_or_from_slice_get}
use Rattle.std.proofs.lemmas.Slice.Eq.{bytes_eq-Decides}
use Rattle.js_base.proofs.Repeats.{one_place}

-- something is found where something passes
some_position : {X : Type 0} (p : X → Bool) (items : List X) (place : ℕ) (item : X) →
    slice_get items place ≡ Some item → p item ≡ true → (found : ℕ) × (position p items ≡ Some found)
some_position p items place item there passes =
    let within = slice_get_within items place item there in
    elim (cases_lt (position_or_len p items) (length items)) [
      | inl less ↦
          let test : nat_lt (position_or_len p items) (length items) ≡ true = grind (arith, nat_tests) in
          (position_or_len p items, rw test refl)
      | inr more ↦
          let fails = fails_before_first p items place item (omega (arith, within, more)) in
          absurd (true≢false (sym passes ∙ ap p (sym (get_or_from_slice_get items place item item there)) ∙ fails))
    ]

pub place_again : {X : Type 0} (name : X → List ℕ) (items : List X) (place : ℕ) (item : X) →
    IsDistinct bytes_eq (map name items) → slice_get items place ≡ Some item →
    position (λ one. bytes_eq (name item) (name one)) items ≡ Some place
place_again {X} name items place item distinct there =
    let p : X → Bool = λ one. bytes_eq (name item) (name one) in
    let (found, is) = some_position p items place item there ((bytes_eq-Decides (name item) (name item)).1 refl) in
    let at = position-Some p items found item is in
    let named : ℕ → Type 0 = λ n. slice_get (map name items) n ≡ Some (name item) in
    let own : named place = slice_get-map name items place ∙ ap (option_map name) there in
    let other : named found = slice_get-map name items found
    ∙ ap (option_map name) (slice_get-get_or items found item at.0)
    ∙ ap Some (sym ((bytes_eq-Decides (name item) (name (get_or items found item))).0 at.1)) in
    is ∙ ap Some (one_place (map name items) (name item) found place distinct other own)
