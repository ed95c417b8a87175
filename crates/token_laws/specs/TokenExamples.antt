-- Small worlds of two hosts, of which the second misbehaves in some, to see who holds which tokens.
use Rattle.std.specs.Prelude.{ℕ, ℤ, pos, List, [], ◌∷◌, Some, None, codes, false, true}
use Rattle.js_base.specs.declared.ids.HostId.{HostId}
use Rattle.js_base.specs.declared.ids.FieldId.{FieldId}
use Rattle.js_base.specs.declared.ids.EntryId.{EntryId}
use Rattle.js_base.specs.declared.ids.RequestId.{RequestId}
use Rattle.capability.specs.declared.token.Token.{Token}
use Rattle.label_lattice.specs.declared.label.Label.{Label}
use Rattle.label_lattice.specs.Lattice.{free_rows}
use Rattle.host_decl.specs.Hosts as declared_hosts
use Rattle.host_code.specs.declared.code.Entry.{Entry}
use Rattle.host_code.specs.declared.code_expr.Node.TheVariants as node
use Rattle.host_code.specs.declared.instruction.Instr.{Instr}
use Rattle.host_code.specs.declared.instruction.Op.{Op}
use Rattle.host_code.specs.declared.instruction.Op.TheVariants as op
use Rattle.host_code.specs.declared.message.Message.{Message}
use Rattle.host_code.specs.declared.message.Message.TheVariants as message
use Rattle.host_code.specs.Riders.{Rider}
use Rattle.host_code.specs.Thread.{ThreadShape}
use Rattle.host_code.specs.Code.{CodeShape, halt}
use Rattle.host_core.specs.Host.{HostState, Outcome, new_token, thread_at, with_running}
use Rattle.host_core.specs.Start.{main_frame, idle_host, host_at_start}
use Rattle.host_core.specs.Taking.{after_taking}
use Rattle.host_core.specs.Turn.{after_operation}
use Rattle.event_text.specs.declared.event.BadToken.TheVariants.{Sent}
use Rattle.event_text.specs.declared.event.BadMessage.{BadMessage}
use Rattle.event_text.specs.declared.event.BadMessage.TheVariants as bad
use Rattle.net_world.specs.World.{WorldShape, world_at_start, after_step, after_telling, with_state, without_flight}
use Rattle.token_laws.specs.Requests.{FlightSpot}

abbrev pub host_id : ℕ → HostId
host_id number = record { 0 = number }

abbrev pub entry_id : ℕ → EntryId
entry_id number = record { 0 = number }

abbrev pub a_field : FieldId
a_field = record { 0 = 0 }

-- forbids nothing, and nobody trusts it
abbrev open_label : Label
open_label = record { rows = free_rows; trust = 0 }

abbrev a_host : declared_hosts.HostShape
a_host = record { name = codes "h"; label = open_label; key = []; path = [] }

abbrev pub two_hosts : List declared_hosts.HostShape
two_hosts = a_host ∷ a_host ∷ []

abbrev entry_on : ℕ → ℕ → Entry
entry_on host at = record { host = host_id host; at = at; label = 0; need = 0 }

abbrev runs : Op → Instr
runs operation = record { label = 0; statement = record { 0 = 0 }; op = operation }

-- Host 0 pushes an entry of its own, reads the field of host 1, and hands the token over to host 1. The field has 7.
abbrev pub small : CodeShape
small = record {
  hosts = record { name = codes "h"; label = open_label } ∷ record { name = codes "h"; label = open_label } ∷ [];
  labels = open_label ∷ [];
  fields = record { name = codes "f"; label = 0; size = 1; array = false; first = pos 7; host = host_id 1 } ∷ [];
  variables = [];
  entries = entry_on 0 0 ∷ entry_on 0 0 ∷ entry_on 0 3 ∷ entry_on 1 0 ∷ entry_on 0 2 ∷ [];
  sites = [];
  parts = (runs (op.Push (entry_id 2)) ∷ runs (op.Read a_field (node.Number (pos 0) ∷ []))
      ∷ runs (op.Go (entry_id 3) (host_id 1)) ∷ runs op.Back ∷ [])
      ∷ (runs op.Back ∷ []) ∷ [];
  root = host_id 0;
  main = entry_id 1;
}

abbrev store : List (List ℤ)
store = (pos 7 ∷ []) ∷ []

-- ---- the start: the thread at `main` holds the token of the entry that ends the program

abbrev pub start : WorldShape
start = world_at_start small two_hosts 0 store

abbrev pub start_state : HostState
start_state = host_at_start small store [] (host_id 0)

abbrev pub first_token : Token
first_token = new_token (idle_host small store [] (host_id 0)) halt main_frame

abbrev main_thread : ThreadShape
main_thread = thread_at (entry_on 0 0) main_frame first_token

-- ---- an entry was pushed

abbrev pushing : Outcome
pushing = after_operation small (with_running start_state None) main_thread (op.Push (entry_id 2)) true

abbrev pub pushed : WorldShape
pushed = after_step start (host_id 0) pushing (Some 0)

abbrev pub second_token : Token
second_token = new_token start_state (entry_id 2) main_frame

-- ---- the field was asked for

abbrev second_thread : ThreadShape
second_thread = record main_thread { at = 1; held = Some second_token }

abbrev pub asking : Outcome
asking =
    after_operation small (with_running pushing.state None) second_thread
    (op.Read a_field (node.Number (pos 0) ∷ [])) true

abbrev pub asked : WorldShape
asked = after_step pushed (host_id 0) asking (Some 0)

abbrev pub first_request : RequestId
first_request = record { at = 1; count = 0 }

abbrev pub spot_of : ℕ → ℕ → ℕ → FlightSpot
spot_of from to place = record { from = host_id from; to = host_id to; place = place }

-- ---- the request was taken and answered

abbrev pub other_state : HostState
other_state = host_at_start small store [] (host_id 1)

abbrev pub answering : Outcome
answering = after_taking small other_state (host_id 0) (message.Get first_request a_field (pos 0)) true

abbrev pub answered : WorldShape
answered = after_step (without_flight asked (host_id 0) (host_id 1) 0) (host_id 1) answering (Some 0)

-- ---- a token that is handed over to a host that obeys, and to one that misbehaves

abbrev pub handing : CodeShape
handing = record small { main = entry_id 4 }

abbrev handing_state : HostState
handing_state = host_at_start handing store [] (host_id 0)

abbrev pub handed : Outcome
handed =
    after_operation handing (with_running handing_state None) (thread_at (entry_on 0 2) main_frame first_token)
    (op.Go (entry_id 3) (host_id 1)) true

abbrev pub good_start : WorldShape
good_start = world_at_start handing two_hosts 0 store

abbrev pub passed_on : WorldShape
passed_on = after_step good_start (host_id 0) handed (Some 0)

abbrev pub bad_start : WorldShape
bad_start = world_at_start handing two_hosts 2 store

abbrev pub given : WorldShape
given = after_step bad_start (host_id 0) handed (Some 0)

-- the misbehaving host asks that an entry be pushed with that token
abbrev pub presents : BadMessage
presents = bad.Sync first_request main_frame (entry_id 2) (Sent 0)

abbrev pub keeping : HostState → Outcome
keeping state =
    after_taking handing state (host_id 1) (message.Sync first_request main_frame (entry_id 2) first_token) true

abbrev kept_by : WorldShape → HostState → WorldShape
kept_by world state =
    after_telling (with_state world (host_id 0) (keeping state).state) (host_id 0) (keeping state).sent

abbrev pub once : WorldShape
once = kept_by given handed.state

abbrev pub twice : WorldShape
twice = kept_by once (keeping handed.state).state

-- ---- values that ride

-- two values for one variable, of which the second is this one
abbrev two_riders : ℤ → List Rider
two_riders value = (record { 0 = 0 }, pos 5) ∷ (record { 0 = 0 }, value) ∷ []

abbrev pub riding : ℤ → Message
riding value = message.RgotoWith main_frame (entry_id 3) first_token (two_riders value)

abbrev pub made_riding : ℤ → BadMessage
made_riding value = bad.RgotoWith main_frame (entry_id 3) (Sent 0) (two_riders value)
