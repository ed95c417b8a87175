-- What is seen of messages that are taken in small cases.
use Rattle.std.proofs.Common.{◌≡◌, ℤ, List, [], ◌∷◌, inl, inr, refl, ap}
use Rattle.std.specs.Prelude.{pos}
use Rattle.std.proofs.lemmas.Bool.{false≢true}
use Rattle.host_code.specs.declared.message.Message.{Message}
use Rattle.host_code.specs.declared.message.Message.TheVariants as message
use Rattle.host_code.specs.Riders.{Rider}
use Rattle.host_core.specs.Start.{main_frame}
use Rattle.token_laws.specs.TokenExamples.{host_id, entry_id, first_request, first_token, second_token}
use Rattle.seen_world.proofs.SeenPlaces.{some_is}
use Rattle.agreement.specs.Taken.{SeenPassing, SeenMessage, SeenTake, view_without}
use Rattle.agreement.specs.TakenExamples.{an_ack, a_waiting, waits_seen, woken_on, set_for}
use Rattle.agreement.specs.Views.{LowView}
use Rattle.agreement.specs.Worked.{small_eyes, one_entry, popped_at, a_variable, idle, runs_at, set_at}
use Rattle.agreement.proofs.TakesAgree.{take_once}
use Rattle.agreement.proofs.WorkedViews.{more_runs, tokens_apart}

pub wakes : SeenTake small_eyes waits_seen (host_id 1) (host_id 0) 0 (pos 0)
    (woken_on (view_without waits_seen (host_id 1) (host_id 0) 0))
wakes = record {
  flight = an_ack;
  there = refl;
  seen = inl (
    refl,
    record {
      place = 0;
      is = refl;
      waiting = a_waiting;
      there = refl;
      token = second_token;
      held = refl;
      comes = refl;
    },
  );
}

-- the thread does not go on waiting
pub wakes_more : ¬ (SeenTake small_eyes waits_seen (host_id 1) (host_id 0) 0 (pos 0) waits_seen)
wakes_more seen =
    more_runs waits_seen (woken_on (view_without waits_seen (host_id 1) (host_id 0) 0)) (runs_at 3) refl refl
    (take_once small_eyes waits_seen (host_id 1) (host_id 0) 0 (pos 0) waits_seen
    (woken_on (view_without waits_seen (host_id 1) (host_id 0) 0)) seen wakes)

-- a host that was not asked answers in vain
pub other_answer : SeenMessage small_eyes waits_seen (host_id 0) (host_id 0) 0 (message.Ack first_request) (pos 0)
    waits_seen
other_answer = inr (λ some. false≢true some, refl)

pub gives_back : SeenMessage small_eyes one_entry (host_id 1) (host_id 0) 0 (message.Lgoto first_token) (pos 0)
    (popped_at 3)
gives_back = inl (refl, inl (refl, refl))

pub gives_other : SeenMessage small_eyes one_entry (host_id 1) (host_id 0) 0 (message.Lgoto second_token) (pos 0)
    one_entry
gives_other = inr (λ top. tokens_apart (some_is top), refl)

pub sets : SeenPassing small_eyes idle (host_id 1) (host_id 0) 0
    (message.Forward first_request main_frame a_variable (pos 7)) (pos 0) (set_for (pos 7))
sets = refl

pub sets_more : ¬ (SeenPassing small_eyes idle (host_id 1) (host_id 0) 0
    (message.Forward first_request main_frame a_variable (pos 7)) (pos 0) (set_for (pos 8)))
sets_more same =
    let never : pos 8 ≡ pos 7 = ap (λ (v : LowView). (v.hosts (host_id 0)).variables main_frame a_variable) same in
    absurd (cc)

-- the message that hands control over at a place that may be seen, with these values
abbrev riding : List Rider → Message
riding riders = message.RgotoWith main_frame (entry_id 2) second_token riders

-- the value that a variable has then
abbrev value_shown : LowView → ℤ
value_shown view = (view.hosts (host_id 0)).variables main_frame a_variable

pub rides : SeenPassing small_eyes idle (host_id 1) (host_id 0) 0 (riding ((a_variable, pos 7) ∷ [])) (pos 0)
    (set_at 3 (pos 7))
rides = refl

pub rides_more : ¬ (SeenPassing small_eyes idle (host_id 1) (host_id 0) 0 (riding ((a_variable, pos 7) ∷ [])) (pos 0)
    (set_at 3 (pos 8)))
rides_more same =
    let never : pos 8 ≡ pos 7 = ap value_shown same in
    absurd (cc)

-- the first of two values does not stay
pub rides_first : ¬ (SeenPassing small_eyes idle (host_id 1) (host_id 0) 0
    (riding ((a_variable, pos 7) ∷ (a_variable, pos 8) ∷ [])) (pos 0) (set_at 3 (pos 7)))
rides_first same =
    let never : pos 7 ≡ pos 8 = ap value_shown same in
    absurd (cc)
