-- An event sends misbehaving hosts one message at most.
use Rattle.std.proofs.Common.{◌≡◌, ◌⊎◌, ◌∙◌, ◌+◌, Bool, true, false, List, [], ◌∷◌, ◌++◌, length, Option, Some, None}
use Rattle.std.proofs.Common.{ap, sym, refl, inl, inr, arith, length-append}
use Rattle.std.specs.Prelude.{if◌then◌else◌, nat_lt}
use Rattle.std.proofs.lemmas.Bool.{lt-ltb, le-ltb}
use Rattle.js_base.specs.declared.ids.HostId.{HostId}
use Rattle.host_code.specs.declared.message.Message.{Message}
use Rattle.host_code.specs.Code.{CodeShape}
use Rattle.host_core.specs.Host.{Letter}
use Rattle.host_core.specs.Turn.{label_of_turn}
use Rattle.event_text.specs.declared.event.Event.{Event}
use Rattle.event_text.specs.declared.event.Event.TheVariants.{Take, Turn, Act}
use Rattle.net_world.specs.Told.{SentMessage}
use Rattle.net_world.specs.World.{WorldShape, IsStep, misbehaves, with_state, without_flight, after_sending}
use Rattle.net_world.specs.World.{after_telling, letter_of}
use Rattle.run_rows.specs.Rows.{IsTelling}

-- nothing more was sent, or one message
abbrev pub OneMore : (before after : List SentMessage) → Type 0
OneMore before after = (after ≡ before) ⊎ ((letter : SentMessage) × (after ≡ before ++ letter ∷ []))

telling : (world : WorldShape) (from : HostId) (sent : Option (HostId × Message)) →
    OneMore world.sent (after_telling world from sent).sent
telling world from None = inl refl
telling world from (Some sent) = inr ((from, sent.0, sent.1), refl)

either : (bad : Bool) (told posted : WorldShape) (sent : List SentMessage) → OneMore sent told.sent →
    OneMore sent posted.sent → OneMore sent (if bad then told else posted).sent
either true told posted sent first second = first
either false told posted sent first second = second

sending : (world : WorldShape) (from : HostId) (letter : Option Letter) →
    OneMore world.sent (after_sending world from letter).sent
sending world from None = inl refl
sending world from (Some letter) =
    either (misbehaves world letter.to) _ _ world.sent (telling world from (Some (letter.to, letter.message)))
    (inl refl)

left : (old after : WorldShape) (sent : List SentMessage) → old ≡ after → OneMore sent old.sent →
    OneMore sent after.sent
left old after sent same (inl is) = inl (ap (λ (w : WorldShape). w.sent) (sym same) ∙ is)
left old after sent same (inr is) = inr (is.0, ap (λ (w : WorldShape). w.sent) (sym same) ∙ is.1)

pub one_more : (code : CodeShape) (world after : WorldShape) (event : Event) → IsStep code world event after →
    OneMore world.sent after.sent
one_more code world after (Take from to place) step =
    left _ after world.sent step.leaves
    (sending (with_state (without_flight world from to place) to step.outcome.state) to
    (letter_of (Some step.flight.label) step.outcome.sent))
one_more code world after (Turn host) step =
    left _ after world.sent step.leaves
    (sending (with_state world host step.outcome.state) host
    (letter_of (label_of_turn code step.state) step.outcome.sent))
one_more code world after (Act from to made) step =
    left _ after world.sent step.leaves (telling (with_state world to step.outcome.state) to step.outcome.sent)

-- the number of what was sent is told where there is more
pub told : (before after : List SentMessage) → OneMore before after →
    IsTelling before after (if nat_lt (length before) (length after) then Some (length before) else None)
told before after (inl same) =
    let long : length after ≡ length before = ap length same in
    rw (le-ltb (length before) (length after) (omega arith)) same
told before after (inr (letter, same)) =
    let long : length after ≡ length before + 1 = ap length same ∙ length-append before (letter ∷ []) in
    rw (lt-ltb (length before) (length after) (omega arith)) (letter, same, refl)
