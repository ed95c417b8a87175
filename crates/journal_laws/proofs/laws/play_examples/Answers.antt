use Rattle.std.proofs.Common.{◌≡◌, ◌≢◌, ◌∙◌, ℕ, refl, ap, sym, List, [], ◌∷◌, ◌++◌, inl, inr, arith, true, rules}
use Rattle.std.specs.Fmt.{digits}
use Rattle.std.specs.Prelude.{Option, Some, None, pos}
use Rattle.js_base.specs.declared.ids.HostId.{HostId}
use Rattle.label_lattice.specs.declared.label.Label.{Label}
use Rattle.host_code.specs.declared.message.Message.{Message}
use Rattle.host_code.specs.declared.message.Message.TheVariants as message
use Rattle.host_core.specs.Host.{Outcome}
use Rattle.event_text.specs.JournalText.{sent_words}
use Rattle.event_text.specs.Words.{Word}
use Rattle.journal_laws.specs.Plays.{AreNotedOf, MayMakeStep}
use Rattle.journal_laws.specs.PlayExamples.{answer, answered, asking, host_a, host_b, reading, request, send_line}
use Rattle.journal_laws.specs.PlayExamples.{take_line, turn_line, waiting_for}
use Rattle.journal_laws.specs.Steps.{turns, takes, IsStepOfHost}
use Rattle.journal_laws.proofs.laws.play_examples.Goals as goal

abbrev asked : Option (HostId × Message)
asked = Some (host_b, message.Get request (record { 0 = 0 }) (pos 0))

abbrev behind_asking : Outcome
behind_asking = record { state = waiting_for; sent = asked }

abbrev behind_answer : Outcome
behind_answer = record { state = answered; sent = None }

asks : (label : Label) → IsStepOfHost (reading label) asking turns behind_asking
asks label = (true, (λ a. tt, λ a. refl), refl)

is_answered : (label : Label) → IsStepOfHost (reading label) waiting_for (takes host_b answer) behind_answer
is_answered label = (true, (λ a. refl, λ a. refl), refl)

other : host_b ≢ host_a
other same = let e : 1 ≡ 0 = ap (λ (host : HostId). host.0) same in omega (arith, e)

may_take : (label : Label) → MayMakeStep (reading label) waiting_for (takes host_b answer)
may_take label = record {
  rest = refl;
  other = (omega arith, other);
  fits = tt;
  real = ((omega arith, omega arith), search rules);
}

pub returns-clause-whole : goal.returns-clause-whole
unfolding digits
returns-clause-whole c label = (
  turn_line ∷ send_line ∷ take_line ∷ [],
  (
    behind_asking,
    take_line ∷ [],
    refl,
    asks label,
    (behind_answer, [], may_take label, is_answered label, (refl, refl), refl),
    refl,
  ),
  inl refl,
)

pub returns-clause-cut : goal.returns-clause-cut
unfolding digits
returns-clause-cut c label = (
  turn_line ∷ send_line ∷ [],
  (behind_asking, [], refl, asks label, (refl, refl), refl),
  inr (send_line, refl, refl),
)

-- the first byte of the second line
abbrev byte_of_word : Word → ℕ
byte_of_word [] = 0
byte_of_word (byte ∷ bytes) = byte

abbrev byte_of_line : List Word → ℕ
byte_of_line [] = 0
byte_of_line (word ∷ words) = byte_of_word word

abbrev byte_of_first : List (List Word) → ℕ
byte_of_first [] = 0
byte_of_first (line ∷ lines) = byte_of_line line

abbrev byte_of_second : List (List Word) → ℕ
byte_of_second [] = 0
byte_of_second (line ∷ lines) = byte_of_first lines

noted_byte : (all : List (List Word)) → AreNotedOf (turn_line ∷ take_line ∷ []) all → 116 ≡ byte_of_second all
noted_byte all (inl same) = ap byte_of_second same
noted_byte all (inr (sent, is, same)) = sym (ap byte_of_second same)

pub returns-clause-holed : goal.returns-clause-holed
returns-clause-holed c label [] last (all, (same, none), noted) =
    let e : 116 ≡ 0 = noted_byte all noted ∙ ap byte_of_second none in omega (arith, e)
returns-clause-holed c label (takes from letter ∷ steps) last
    (all, (outcome, later, may, is, plays, whole), noted) =
    absurd (let none = may.rest in cc)
returns-clause-holed c label (turns ∷ steps) last
    (all, (outcome, later, may, (passes, check, is), plays, whole), noted) =
    let sent : outcome.sent ≡ asked = sym (ap (λ (one : Outcome). one.sent) is) in
    let e : 116 ≡ 115 = noted_byte all noted ∙ ap byte_of_second whole
    ∙ ap (λ sent. byte_of_first (sent_words (reading label) sent ++ later)) sent in
    omega (arith, e)
