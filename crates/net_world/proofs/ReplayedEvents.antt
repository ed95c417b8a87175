-- Replayed worlds: one event more, and why a script stops.
use Rattle.std.proofs.Common.{◌≡◌, ℕ, zero, suc, ◌+◌, ◌<◌, List, [], ◌∷◌, ◌++◌, map, length, get_or, take, Some}
use Rattle.std.proofs.Common.{refl, sym, ap, subst, ◌∙◌, arith, inl, inr}
use Rattle.std.proofs.lemmas.List.{map-append, take_more}
use Rattle.event_text.specs.declared.event.Event.{Event}
use Rattle.host_code.specs.Code.{CodeShape}
use Rattle.net_world.specs.declared.world.EventError.{EventError}
use Rattle.net_world.specs.declared.world.EventError.TheVariants as answer
use Rattle.net_world.specs.World.{WorldShape, IsStep, IsRun, EventRefusal, not_bad, not_there, host_busy, no_such_token}
use Rattle.net_world.specs.World.{refusal_of}
use Rattle.net_world.specs.declared.replaying.ReplayError.{ReplayError}
use Rattle.net_world.specs.Replay.{events_in, IsRefusedAt, IsReplayErrorOf, IsReplayError}

-- ---- one event more

ran_more : (code : CodeShape) (first middle after : WorldShape) (events : List Event) (event : Event) →
    IsRun code first events middle → IsStep code middle event after → IsRun code first (events ++ event ∷ []) after
ran_more code first middle after [] event ran step =
    subst (λ (w : WorldShape). IsRun code w (event ∷ []) after) (sym ran) (after, step, refl)
ran_more code first middle after (one ∷ events) event ran step =
    (ran.0, ran.1, ran_more code ran.0 middle after events event ran.2 step)

pub run_more : (code : CodeShape) (first middle after : WorldShape) (said : List (ℕ × Event)) (i : ℕ)
    (d : ℕ × Event) → i < length said → IsRun code first (events_in (take i said)) middle →
    IsStep code middle (get_or said i d).1 after → IsRun code first (events_in (take (i + 1) said)) after
run_more code first middle after said i d within ran step =
    let more : events_in (take (i + 1) said) ≡ events_in (take i said) ++ (get_or said i d).1 ∷ [] =
    ap events_in (take_more said i d within)
    ∙ map-append (λ (one : ℕ × Event). one.1) (take i said) (get_or said i d ∷ []) in
    subst (λ (events : List Event). IsRun code first events after) (sym more)
    (ran_more code first middle after (events_in (take i said)) (get_or said i d).1 ran step)

refused_at : (code : CodeShape) (first middle : WorldShape) (said : List (ℕ × Event)) (i : ℕ) (d : ℕ × Event)
    (why : EventRefusal) → i < length said → IsRun code first (events_in (take i said)) middle →
    refusal_of middle (get_or said i d).1 ≡ Some why → IsRefusedAt code first said (get_or said i d) why
refused_at code first middle [] i d why within ran refused = absurd (omega arith)
refused_at code first middle (one ∷ said) zero d why within ran refused =
    inl (refl, ap (λ (w : WorldShape). refusal_of w one.1) ran ∙ refused)
refused_at code first middle (one ∷ said) (suc i) d why within ran refused =
    inr (ran.0, ran.1, refused_at code ran.0 middle said i d why (omega arith) ran.2 refused)

-- what the world answers of an event tells why the script stops
pub stops : (code : CodeShape) (first middle : WorldShape) (said : List (ℕ × Event)) (i : ℕ) (d : ℕ × Event)
    (error : EventError) (result : ReplayError) → i < length said →
    IsRun code first (events_in (take i said)) middle →
    let event = (get_or said i d).1 in
    IsReplayErrorOf (get_or said i d).0 event error result →
    (error ≡ answer.NotBad → refusal_of middle event ≡ Some not_bad) →
    (error ≡ answer.NotThere → refusal_of middle event ≡ Some not_there) →
    (error ≡ answer.HostBusy → refusal_of middle event ≡ Some host_busy) →
    ((count : ℕ) → error ≡ answer.NoSuchToken count → refusal_of middle event ≡ Some (no_such_token count)) →
    IsReplayError code first said result
stops code first middle said i d answer.OutOfMemory result within ran is bad there busy token =
    subst (IsReplayError code first said) (sym is) tt
stops code first middle said i d answer.NotThere result within ran is bad there busy token =
    subst (IsReplayError code first said) (sym is)
    ((get_or said i d).1, refused_at code first middle said i d not_there within ran (there refl))
stops code first middle said i d answer.HostBusy result within ran is bad there busy token =
    subst (IsReplayError code first said) (sym is)
    ((get_or said i d).1, refused_at code first middle said i d host_busy within ran (busy refl))
stops code first middle said i d (answer.NoSuchToken count) result within ran is bad there busy token =
    subst (IsReplayError code first said) (sym is) (
      (get_or said i d).1,
      refused_at code first middle said i d (no_such_token count) within ran
          (token count refl),
      refl,
    )
stops code first middle said i d answer.NotBad result within ran is bad there busy token =
    subst (IsReplayError code first said) (sym is)
    ((get_or said i d).1, refused_at code first middle said i d not_bad within ran (bad refl))
stops code first middle said i d answer.Stopped result within ran is bad there busy token = absurd is
