-- What journals note of events.
use Rattle.std.specs.Prelude.{◌≡◌, ◌==◌, if◌then◌else◌, List, [], ◌∷◌, ◌++◌}
use Rattle.js_base.specs.declared.ids.HostId.{HostId}
use Rattle.event_text.specs.declared.event.Event.{Event}
use Rattle.event_text.specs.declared.event.Event.TheVariants.{Take, Turn, Act}
use Rattle.event_text.specs.Words.{Word}
use Rattle.host_code.specs.Code.{CodeShape}
use Rattle.net_world.specs.World.{WorldShape, IsTurnStep, IsTakeStep}
use Rattle.event_text.specs.JournalText.{turn_words, take_words, sent_words}

-- the lines that an event adds to the journal of the host whose step it is
pub record JournalNote : Type 0 where
  pub host : HostId
  pub lines : List (List Word)

-- An event happens, and its host notes the step and then what it sends. An act of a misbehaving host is no step of a
-- journal.
abbrev pub IsEventNoted : CodeShape → WorldShape → Event → WorldShape → JournalNote → Type 0
IsEventNoted code world (Turn host) after note =
    (step : IsTurnStep code world host after)
    × (note ≡ record { host = host; lines = turn_words ∷ sent_words code step.outcome.sent })
IsEventNoted code world (Take from to place) after note =
    (step : IsTakeStep code world from to place after)
    × (note
    ≡ record { host = to; lines = take_words code from step.flight.message ∷ sent_words code step.outcome.sent })
IsEventNoted code world (Act from to made) after note = ⊥

-- events happen one after the other, leave a world, and are noted so
abbrev pub IsNotedRun : CodeShape → WorldShape → List Event → WorldShape → List JournalNote → Type 0
IsNotedRun code world [] last notes = (world ≡ last) × (notes ≡ [])
IsNotedRun code world (event ∷ events) last notes =
    (next : WorldShape) × (note : JournalNote) × (later : List JournalNote) × IsEventNoted code world event next note
    × IsNotedRun code next events last later × (notes ≡ note ∷ later)

-- the lines of one host, in order
abbrev pub lines_at : HostId → List JournalNote → List (List Word)
lines_at host [] = []
lines_at host (note ∷ notes) = (if note.host.0 == host.0 then note.lines else []) ++ lines_at host notes
