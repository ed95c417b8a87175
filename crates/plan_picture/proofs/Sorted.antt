-- Relays that are sorted by their statements.
use Rattle.std.proofs.Common.{◌≡◌, ◌≢◌, ℕ, ◌<◌, Bool, true, false, ◌⊎◌, inl, inr, List, [], ◌∷◌, ◌++◌, length, get_or}
use Rattle.std.proofs.Common.{ap, sym, ◌∙◌, refl, arith, append_assoc, replicate}
use Rattle.std.specs.Prelude.{slice_set, ◌==◌}
use Rattle.std.proofs.lemmas.Bool.{eqb-true, eq-eqb}
use Rattle.std.proofs.lemmas.Grind.{get_or-set_at}
use Rattle.std.proofs.lemmas.List.{append-nil, get_or-replicate, get_or-set_other, length-replicate, length-set}
use Rattle.std.proofs.lemmas.Option.{unwrap_or-slice_get}
use Rattle.plan_ways.specs.declared.relays.Relay.{Relay}
use Rattle.plan_picture.specs.Behind.{all_behind, relays_at, with_relay, with_relays}
use Rattle.plan_picture.specs.Rows.{relays_behind}

true_or_false : (b : Bool) → (b ≡ true) ⊎ (b ≡ false)
true_or_false true = inl refl
true_or_false false = inr refl

pub one_more : (behind : List (List Relay)) (relay : Relay) (relays : List Relay) (s : ℕ) → s < length behind →
    relays_at (with_relay behind relay) s ++ relays_behind s relays
    ≡ relays_at behind s ++ relays_behind s (relay ∷ relays)
one_more behind relay relays s lt =
    let value = relays_at behind relay.behind ++ relay ∷ [] in
    let read = unwrap_or-slice_get (slice_set behind relay.behind value) s [] in
    elim (true_or_false (relay.behind == s)) [
      | inl here ↦
          let same : relay.behind ≡ s = eqb-true relay.behind s here in
          let put : get_or (slice_set behind relay.behind value) s [] ≡ value =
          get_or-set_at behind relay.behind s value [] (sym same) (omega (arith, lt, same)) in
          let is : relays_at (with_relay behind relay) s ≡ relays_at behind s ++ relay ∷ [] =
          read ∙ put ∙ ap (λ (n : ℕ). relays_at behind n ++ relay ∷ []) same in
          rw here
          (ap (λ (front : List Relay). front ++ relays_behind s relays) is
          ∙ append_assoc (relays_at behind s) (relay ∷ []) (relays_behind s relays))
      | inr elsewhere ↦
          let apart : s ≢ relay.behind = λ same. let no = eq-eqb relay.behind s (sym same) in cc in
          let kept : get_or (slice_set behind relay.behind value) s [] ≡ get_or behind s [] =
          get_or-set_other behind relay.behind s value [] apart in
          let is : relays_at (with_relay behind relay) s ≡ relays_at behind s =
          read ∙ kept ∙ sym (unwrap_or-slice_get behind s []) in
          rw elsewhere (ap (λ (front : List Relay). front ++ relays_behind s relays) is)
    ]

all_sorted : (behind : List (List Relay)) (relays : List Relay) (s : ℕ) → s < length behind →
    relays_at (with_relays behind relays) s ≡ relays_at behind s ++ relays_behind s relays
all_sorted behind [] s lt = sym (append-nil (relays_at behind s))
all_sorted behind (relay ∷ relays) s lt =
    let inside : s < length (with_relay behind relay) =
    omega (arith, lt, length-set behind relay.behind (relays_at behind relay.behind ++ relay ∷ [])) in
    all_sorted (with_relay behind relay) relays s inside ∙ one_more behind relay relays s lt

-- those behind each statement are found at its number
pub sorted : (count : ℕ) (relays : List Relay) (s : ℕ) → s < count →
    relays_at (all_behind count relays) s ≡ relays_behind s relays
sorted count relays s lt =
    all_sorted (replicate count []) relays s (omega (arith, lt, length-replicate {A = List Relay} count []))
    ∙ ap (λ (front : List Relay). front ++ relays_behind s relays)
    (unwrap_or-slice_get (replicate count []) s [] ∙ get_or-replicate count s [] [] lt)
