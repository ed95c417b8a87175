-- The lines of an event, as they are found in the worlds before it and after it.
use Rattle.std.specs.Prelude.{◌≡◌, List, [], ◌∷◌, Option, Some, None, slice_get}
use Rattle.js_base.specs.declared.ids.HostId.{HostId}
use Rattle.event_text.specs.declared.event.Event.{Event}
use Rattle.event_text.specs.declared.event.Event.TheVariants.{Take, Turn, Act}
use Rattle.event_text.specs.Words.{Word}
use Rattle.host_code.specs.declared.message.Message.{Message}
use Rattle.host_code.specs.Code.{CodeShape}
use Rattle.host_code.specs.Messages.{MessageFits}
use Rattle.net_world.specs.Flying.{Flight}
use Rattle.net_world.specs.World.{WorldShape, mover}
use Rattle.event_text.specs.JournalText.{turn_words, take_words, send_words}
use Rattle.record_merge.specs.Notes.{JournalNote}

abbrev pub taken_words : CodeShape → HostId → Option Flight → List Word
taken_words code from None = []
taken_words code from (Some flight) = take_words code from flight.message

-- the line of the step that an event is
abbrev pub step_words : CodeShape → WorldShape → Event → List Word
step_words code world (Turn host) = turn_words
step_words code world (Take from to place) = taken_words code from (slice_get (world.flying from to) place)
step_words code world (Act from to made) = []

abbrev pub flying_words : CodeShape → HostId → Option Flight → List (List Word)
flying_words code to None = []
flying_words code to (Some flight) = send_words code to flight.message ∷ []

-- the line of the message that is taken next, where one is
abbrev pub sent_next : CodeShape → WorldShape → Option Event → List (List Word)
sent_next code world None = []
sent_next code world (Some (Turn host)) = []
sent_next code world (Some (Take from to place)) = flying_words code to (slice_get (world.flying from to) place)
sent_next code world (Some (Act from to made)) = []

-- What an event notes, where the other event comes next. Whatever can be taken then was sent by it.
abbrev pub note_of : CodeShape → WorldShape → Event → WorldShape → Option Event → JournalNote
note_of code world event after next =
    record { host = mover event; lines = step_words code world event ∷ sent_next code after next }

-- it is the first of these in flight, and names what is there
pub record IsFirstFlight (code : CodeShape) (flights : List Flight) (message : Message) : Type 0 where
  pub flight : Flight
  pub there : slice_get flights 0 ≡ Some flight
  pub is : flight.message ≡ message
  pub fits : MessageFits code message
