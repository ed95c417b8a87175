-- All bytes are a script or are refused, and the events of a script happen, or one of them is refused.
use Rattle.std.proofs.Common.{◌≡◌, ◌≢◌, ◌⊎◌, ℕ, ◌≤◌, List, [], ◌∷◌, length, Ok, Some, refl, inl, inr, ⊎_elim}
use Rattle.js_base.specs.declared.limits.TheConstants.{SCRIPT_BYTES}
use Rattle.event_text.specs.declared.event.Event.{Event}
use Rattle.event_text.specs.declared.script.EventsError.{EventsError}
use Rattle.event_text.specs.declared.script.EventsError.TheVariants as error
use Rattle.event_text.specs.Script.{ScriptShape, script_of, EventsFail}
use Rattle.host_code.specs.Code.{CodeShape}
use Rattle.net_world.specs.World.{WorldShape, IsStep, EventRefusal, refusal_of}
use Rattle.front_end.specs.Stages.{given, stopped}
use Rattle.front_end.specs.Verdicts.{too_long, no_form}
use Rattle.front_end.proofs.SomeStages.{HasOutcome}
use Rattle.script_stages.specs.Scripts.{ScriptRead, long, bad_line, read, EventsHappen, happened, refused, event_refused}

-- all bytes are a script, or are refused
abbrev pub SomeScript : Type 0
SomeScript = (code : CodeShape) (bytes : List ℕ) →
    ((script : ScriptShape) × (length bytes ≤ SCRIPT_BYTES) × (script_of code bytes ≡ Ok script))
    ⊎ ((why : EventsError) × (why ≢ error.OutOfMemory) × EventsFail code bytes why)

script_fails : (file script : List ℕ) (code : CodeShape) (why : EventsError) → why ≢ error.OutOfMemory →
    EventsFail code script why → HasOutcome (ScriptRead file script code)
script_fails file script code error.OutOfMemory not fails = absurd (not refl)
script_fails file script code error.TooLong not fails = (stopped (too_long file), long fails)
script_fails file script code (error.BadLine line) not fails =
    (stopped (no_form file line), bad_line line fails.0 fails.1)

pub script_some : SomeScript → (file script : List ℕ) (code : CodeShape) → HasOutcome (ScriptRead file script code)
script_some law file script code =
    ⊎_elim
    (λ said. (given said.0, read said.0 said.1 said.2))
    (λ fails. script_fails file script code fails.0 fails.1 fails.2)
    (law code script)

-- an event happens or is refused
abbrev pub SomeStep : Type 0
SomeStep = (code : CodeShape) (world : WorldShape) (event : Event) →
    ((after : WorldShape) × IsStep code world event after)
    ⊎ ((why : EventRefusal) × (refusal_of world event ≡ Some why))

-- ---- events

-- one event before the others
happens_first : (file : List ℕ) (code : CodeShape) (world next : WorldShape) (one : ℕ × Event)
    (said : List (ℕ × Event)) → IsStep code world one.1 next → HasOutcome (EventsHappen file code next said) →
    HasOutcome (EventsHappen file code world (one ∷ said))
happens_first file code world next one said step (_, happened last ran) =
    (given last, happened last (next, step, ran))
happens_first file code world next one said step (_, refused at why stops) =
    (stopped (event_refused file at why), refused at why (inr (next, step, stops)))

pub events_some : SomeStep → (file : List ℕ) (code : CodeShape) (world : WorldShape) (said : List (ℕ × Event)) →
    HasOutcome (EventsHappen file code world said)
events_some law file code world [] = (given world, happened world refl)
events_some law file code world (one ∷ said) =
    ⊎_elim
    (λ step. happens_first file code world step.0 one said step.1 (events_some law file code step.0 said))
    (λ why. (stopped (event_refused file one why.0), refused one why.0 (inl (refl, why.1))))
    (law code world one.1)
