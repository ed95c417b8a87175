-- The report of a world, as lines.
--
-- A report has as many elements of a field as the code gives it. A host answers elements one by one, and 0 past the
-- end. So the report needs no fact on the length of a host's rows.
use Rattle.std.specs.Prelude.{ℕ, ◌+◌, ℤ, pos, Bool, false, List, [], ◌∷◌, ◌++◌, length, map, codes, is_some}
use Rattle.std.specs.Prelude.{Option, Some, None, if◌then◌else◌}
use Rattle.std.specs.Fmt.{decimal}
use Rattle.std.specs.List.{flat_map, range_with_len}
use Rattle.jif_tree.specs.Store.{element_at, row_of}
use Rattle.host_code.specs.declared.message.Message.{Message}
use Rattle.host_code.specs.Code.{CodeShape, CodeFieldShape}
use Rattle.host_code.specs.MessageText.{host_text, message_text}
use Rattle.host_core.specs.Host.{HostState}
use Rattle.net_world.specs.Told.{SentMessage}
use Rattle.net_world.specs.World.{WorldShape, state_at}
use Rattle.split_cli.specs.Report.{row_line}

-- `halted yes` where the root host obeys, and took the entry that ends the program off its control stack
abbrev pub is_halted : Option HostState → Bool
is_halted None = false
is_halted (Some root) = root.halted

abbrev pub halted_line : CodeShape → WorldShape → List ℕ
halted_line code w = if is_halted (state_at w code.root) then codes "halted yes" else codes "halted no"

-- ---- fields

-- the elements of a field of this number on its host, as many as the code gives it
abbrev pub elements_of : HostState → ℕ → ℕ → List ℤ
elements_of host number size = map (λ index. element_at (row_of host.rows number) (pos index)) (range_with_len 0 size)

-- `field NAME = V`, where the field's host obeys
abbrev pub field_line : Option HostState → ℕ → CodeFieldShape → List (List ℕ)
field_line None number field = []
field_line (Some host) number field = row_line field.name (elements_of host number field.size) ∷ []

-- the lines of the fields from a number on
abbrev pub field_lines : WorldShape → ℕ → List CodeFieldShape → List (List ℕ)
field_lines w number [] = []
field_lines w number (field ∷ fields) =
    field_line (state_at w field.host) number field ++ field_lines w (number + 1) fields

-- ---- hosts

-- `host H: running R, waiting W, stack D, ignored I`
abbrev pub state_line : List ℕ → HostState → List ℕ
state_line name host =
    codes "host " ++ name
    ++ codes ": running " ++ decimal (if is_some host.running then 1 else 0)
    ++ codes ", waiting " ++ decimal (length host.waiting)
    ++ codes ", stack " ++ decimal (length host.entries)
    ++ codes ", ignored " ++ decimal host.ignored

-- the line of a host, where it obeys
abbrev pub host_line : List ℕ → Option HostState → List (List ℕ)
host_line name None = []
host_line name (Some host) = state_line name host ∷ []

abbrev pub host_lines : CodeShape → WorldShape → List (List ℕ)
host_lines code w =
    flat_map (λ number. host_line (host_text code (record { 0 = number })) (state_at w (record { 0 = number })))
    (range_with_len 0 (length code.hosts))

-- ---- what is in flight

-- `flying I J K: MESSAGE`, for the message at a place
abbrev pub flying_line : CodeShape → ℕ → ℕ → ℕ → Message → List ℕ
flying_line code from to place message =
    codes "flying " ++ host_text code (record { 0 = from }) ++ codes " " ++ host_text code (record { 0 = to })
    ++ codes " " ++ decimal place ++ codes ": " ++ message_text code message

-- the lines of the messages from a place on
abbrev pub queue_lines : CodeShape → ℕ → ℕ → ℕ → List Message → List (List ℕ)
queue_lines code from to place [] = []
queue_lines code from to place (message ∷ messages) =
    flying_line code from to place message ∷ queue_lines code from to (place + 1) messages

-- the messages in flight between two hosts, the oldest first
abbrev pub messages_in : WorldShape → ℕ → ℕ → List Message
messages_in w from to = map (λ flight. flight.message) (w.flying (record { 0 = from }) (record { 0 = to }))

-- the lines of what is in flight from a host to each host
abbrev pub lines_from : CodeShape → WorldShape → ℕ → List (List ℕ)
lines_from code w from =
    flat_map (λ to. queue_lines code from to 0 (messages_in w from to)) (range_with_len 0 (length code.hosts))

-- the lines of what is in flight, by pairs of hosts in file order
abbrev pub flying_lines : CodeShape → WorldShape → List (List ℕ)
flying_lines code w = flat_map (lines_from code w) (range_with_len 0 (length code.hosts))

-- ---- what misbehaving hosts were sent

-- `sent K I J: MESSAGE`, for the message of this number
abbrev pub sent_line : CodeShape → ℕ → SentMessage → List ℕ
sent_line code number sent =
    codes "sent " ++ decimal number ++ codes " " ++ host_text code sent.0 ++ codes " " ++ host_text code sent.1
    ++ codes ": " ++ message_text code sent.2

-- the lines of the messages from a number on
abbrev pub sent_lines : CodeShape → ℕ → List SentMessage → List (List ℕ)
sent_lines code number [] = []
sent_lines code number (sent ∷ others) = sent_line code number sent ∷ sent_lines code (number + 1) others

-- ---- all

-- whether the program has halted, the fields, the hosts, what is in flight, and what misbehaving hosts were sent
abbrev pub world_lines : CodeShape → WorldShape → List (List ℕ)
world_lines code w =
    halted_line code w
    ∷ (field_lines w 0 code.fields ++ host_lines code w ++ flying_lines code w ++ sent_lines code 0 w.sent)
