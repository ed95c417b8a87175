-- What small runs release.
use Rattle.std.proofs.Common.{◌≡◌, ℕ, zero, suc, true, [], ◌∷◌, inl, inr, refl}
use Rattle.std.specs.Prelude.{pos, slice_get}
use Rattle.std.proofs.lemmas.Bool.{false≢true}
use Rattle.event_text.specs.declared.event.Event.TheVariants.{Turn}
use Rattle.net_world.specs.Released.{OneIsFront, Releases, AreReleased}
use Rattle.net_world.specs.Secret.{IsReadable, IsSecret}
use Rattle.net_world.specs.World.{is_absent}
use Rattle.token_laws.specs.TokenExamples.{host_id, handing, good_start, bad_start}
use Rattle.agreement.specs.ReleaseExamples.{a_table}

-- ---- host 1 misbehaves

read_there : IsReadable handing bad_start 0
read_there = (host_id 1, (refl, λ owner reader within allowed forbids. forbids))

seen_there : ¬ (IsSecret handing bad_start (Turn (host_id 0)))
seen_there secret = secret read_there

pub seen_turn : Releases handing a_table bad_start (Turn (host_id 0)) (pos 7 ∷ pos 8 ∷ [])
seen_turn = inr (seen_there, refl)

pub seen_turn_less : ¬ (Releases handing a_table bad_start (Turn (host_id 0)) [])
seen_turn_less (inl unseen) = seen_there unseen.0
seen_turn_less (inr seen) =
    let never : [] ≡ pos 7 ∷ pos 8 ∷ [] = seen.1 in
    absurd (cc)

pub run : AreReleased handing a_table bad_start (Turn (host_id 0) ∷ []) (pos 7 ∷ pos 8 ∷ [])
run = (pos 7 ∷ pos 8 ∷ [], [], seen_turn, refl, λ next step. refl)

-- ---- no host misbehaves

nobody : (place : ℕ) → ¬ (is_absent (slice_get good_start.hosts place) ≡ true)
nobody zero is = false≢true is
nobody (suc zero) is = false≢true is
nobody (suc (suc place)) is = false≢true is

unread_there : ¬ (IsReadable handing good_start 0)
unread_there read = nobody read.0.0 read.1.0

pub secret_turn : Releases handing a_table good_start (Turn (host_id 0)) []
secret_turn = inl ((λ read. unread_there read), refl)

pub secret_turn_more : ¬ (Releases handing a_table good_start (Turn (host_id 0)) (pos 7 ∷ pos 8 ∷ []))
secret_turn_more (inl unseen) =
    let never : pos 7 ∷ pos 8 ∷ [] ≡ [] = unseen.1 in
    absurd (cc)
secret_turn_more (inr seen) = seen.0 (λ read. unread_there read)

-- ---- lists

pub alike_more : ¬ (OneIsFront (pos 7 ∷ pos 8 ∷ []) (pos 8 ∷ []))
alike_more (inl (rest, is)) =
    let first : pos 8 ≡ pos 7 = cc in
    absurd (cc)
alike_more (inr (rest, is)) =
    let first : pos 7 ≡ pos 8 = cc in
    absurd (cc)
