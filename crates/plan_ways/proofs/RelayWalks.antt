-- One relay more, from the greatest number down.
use Rattle.std.proofs.Common.{◌≡◌, ℕ, suc, ◌+◌, ◌-◌, ◌<◌, List, ◌++◌, ap, sym, ◌∙◌, arith}
use Rattle.std.proofs.lemmas.List.{append_assoc}
use Rattle.js_base.specs.declared.ids.EntryId.{EntryId}
use Rattle.plan_ways.specs.Relays.{RowShape, handed_down, relay_at, relays_below}
use Rattle.plan_ways.specs.declared.relays.Relay.{Relay}

pub relay_added : (sheet : RowShape) (count passed number : ℕ) (entry : EntryId) (spots lower : List ℕ)
    (found pushed whole : List Relay) → number ≡ count - 1 - passed → entry ≡ record { 0 = number } →
    passed < count → found ++ relays_below sheet (count - passed) spots ≡ whole →
    pushed ≡ found ++ relay_at sheet spots entry → lower ≡ handed_down sheet.handed spots entry →
    pushed ++ relays_below sheet (count - (passed + 1)) lower ≡ whole
relay_added sheet count passed number entry spots lower found pushed whole is entry_is lt was added down =
    let more : count - passed ≡ suc number = omega (arith, is, lt) in
    let less : count - (passed + 1) ≡ number = omega (arith, is, lt) in
    let there : EntryId = record { 0 = number } in
    let left = relays_below sheet number (handed_down sheet.handed spots there) in
    ap (λ (n : ℕ). pushed ++ relays_below sheet n lower) less
    ∙ ap (λ (rows : List ℕ). pushed ++ relays_below sheet number rows)
    (down ∙ ap (handed_down sheet.handed spots) entry_is)
    ∙ ap (λ (made : List Relay). made ++ left)
    (added ∙ ap (λ (e : EntryId). found ++ relay_at sheet spots e) entry_is)
    ∙ append_assoc found (relay_at sheet spots there) left
    ∙ sym (ap (λ (n : ℕ). found ++ relays_below sheet n spots) more)
    ∙ was
