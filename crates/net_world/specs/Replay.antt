-- What makes events happen one after the other, each of which stands on a line of a script, and what stops them.
--
-- A missing token is named by its number, which stands in the event and not in the cause. Only a sent token can be
-- missing; for an event that presents none the function says 0, and no such event is refused for a token.
use Rattle.std.specs.Prelude.{◌≡◌, ℕ, ◌⊎◌, List, [], ◌∷◌, map, Some, ⊤}
use Rattle.event_text.specs.declared.event.Event.{Event}
use Rattle.event_text.specs.declared.event.Event.TheVariants.{Act}
use Rattle.event_text.specs.declared.event.BadMessage.{BadMessage}
use Rattle.event_text.specs.declared.event.BadMessage.TheVariants as bad
use Rattle.event_text.specs.declared.event.BadToken.{BadToken}
use Rattle.event_text.specs.declared.event.BadToken.TheVariants.{Sent, Own}
use Rattle.host_code.specs.Code.{CodeShape}
use Rattle.net_world.specs.World.{WorldShape, EventRefusal, not_bad, not_there, host_busy, no_such_token, refusal_of}
use Rattle.net_world.specs.World.{IsStep}
use Rattle.net_world.specs.declared.world.EventError.{EventError}
use Rattle.net_world.specs.declared.world.EventError.TheVariants as answer
use Rattle.net_world.specs.declared.replaying.ReplayError.{ReplayError}
use Rattle.net_world.specs.declared.replaying.ReplayError.TheVariants as error

-- events that stand on the lines of a script, each with the number of its line
abbrev pub events_in : List (ℕ × Event) → List Event
events_in said = map (λ one. one.1) said

-- the first event that is refused is this one with its line, and those before it happen
abbrev pub IsRefusedAt : CodeShape → WorldShape → List (ℕ × Event) → ℕ × Event → EventRefusal → Type 0
IsRefusedAt code world [] at why = ⊥
IsRefusedAt code world (one ∷ said) at why =
    ((one ≡ at) × (refusal_of world one.1 ≡ Some why))
    ⊎ ((next : WorldShape) × IsStep code world one.1 next × IsRefusedAt code next said at why)

-- The number of the sent token that an event presents. Where it presents none, none can be missing, and this is 0.
abbrev pub number_in_token : BadToken → ℕ
number_in_token (Sent number) = number
number_in_token (Own token) = 0

abbrev pub number_in_message : BadMessage → ℕ
number_in_message (bad.Sync request frame entry token) = number_in_token token
number_in_message (bad.Rgoto frame entry token) = number_in_token token
number_in_message (bad.RgotoWith frame entry token riders) = number_in_token token
number_in_message (bad.Lgoto token) = number_in_token token
number_in_message (bad.Token request token) = number_in_token token
number_in_message _ = 0

abbrev pub number_presented : Event → ℕ
number_presented (Act from to made) = number_in_message made
number_presented _ = 0

-- ---- in the program

-- why the events of a script did not all happen
abbrev pub IsReplayError : CodeShape → WorldShape → List (ℕ × Event) → ReplayError → Type 0
IsReplayError code world said error.OutOfMemory = ⊤
IsReplayError code world said (error.NotThere line) =
    (event : Event) × IsRefusedAt code world said (line, event) not_there
IsReplayError code world said (error.HostBusy line) =
    (event : Event) × IsRefusedAt code world said (line, event) host_busy
IsReplayError code world said (error.NotBad line) =
    (event : Event) × IsRefusedAt code world said (line, event) not_bad
IsReplayError code world said (error.NoSuchToken line number count) =
    (event : Event) × IsRefusedAt code world said (line, event) (no_such_token count)
    × (number_presented event ≡ number)

-- why the event on a line did not happen, by what the world answers
abbrev pub IsReplayErrorOf : ℕ → Event → EventError → ReplayError → Type 0
IsReplayErrorOf line event answer.OutOfMemory result = result ≡ error.OutOfMemory
IsReplayErrorOf line event answer.NotThere result = result ≡ error.NotThere line
IsReplayErrorOf line event answer.HostBusy result = result ≡ error.HostBusy line
IsReplayErrorOf line event answer.NotBad result = result ≡ error.NotBad line
IsReplayErrorOf line event (answer.NoSuchToken count) result =
    result ≡ error.NoSuchToken line (number_presented event) count
IsReplayErrorOf line event answer.Stopped result = ⊥
