-- The lines that say events.
use Rattle.std.specs.Prelude.{ℕ, if◌then◌else◌, List, [], ◌∷◌, Option, Some, None, Result, Ok, Err, codes}
use Rattle.std.specs.Option.{option_map, option_and_then}
use Rattle.std.specs.Str.{bytes_eq}
use Rattle.host_code.specs.Code.{CodeShape, CodeHostShape}
use Rattle.event_text.specs.declared.event.Event.{Event}
use Rattle.event_text.specs.declared.event.Event.TheVariants.{Take, Turn, Act}
use Rattle.event_text.specs.Acts.{message_of}
use Rattle.event_text.specs.Lines.{LineShape}
use Rattle.event_text.specs.Numbers.{number_of}
use Rattle.event_text.specs.Parts.{host_named}
use Rattle.event_text.specs.Words.{Word, one_word, three_words, of_three}

-- `turn HOST`
abbrev pub turn_of : List CodeHostShape → List Word → Option Event
turn_of hosts words = option_and_then (λ host. option_map Turn (host_named hosts host)) (one_word words)

-- `take FROM TO PLACE`
abbrev pub take_of : List CodeHostShape → List Word → Option Event
take_of hosts words =
    option_and_then (λ it. of_three (λ from to place. Take from to place)
    (host_named hosts it.0) (host_named hosts it.1) (number_of it.2)) (three_words words)

-- `act FROM TO MESSAGE`
abbrev pub act_of : CodeShape → ℕ → List Word → Option Event
act_of code bad [] = None
act_of code bad (from ∷ []) = None
act_of code bad (from ∷ to ∷ said) =
    of_three (λ from to made. Act from to made)
    (host_named code.hosts from) (host_named code.hosts to) (message_of code bad said)

-- the event that the words say, where bit h of the word says that host h misbehaves
abbrev pub event_of : CodeShape → ℕ → List Word → Option Event
event_of code bad [] = None
event_of code bad (verb ∷ words) =
    if bytes_eq verb (codes "turn") then turn_of code.hosts words
    else (if bytes_eq verb (codes "take") then take_of code.hosts words
    else (if bytes_eq verb (codes "act") then act_of code bad words
    else None))

-- the events of the lines, each with the number of its line, or the first line that says none
abbrev pub with_event : ℕ → Option Event → Result (List (ℕ × Event)) ℕ → Result (List (ℕ × Event)) ℕ
with_event number None others = Err number
with_event number (Some event) (Ok events) = Ok ((number, event) ∷ events)
with_event number (Some event) (Err line) = Err line

abbrev pub events_of : CodeShape → ℕ → List LineShape → Result (List (ℕ × Event)) ℕ
events_of code bad [] = Ok []
events_of code bad (line ∷ others) =
    with_event line.number (event_of code bad line.words) (events_of code bad others)
