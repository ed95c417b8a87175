-- A small program and a small world of two hosts, of which the second misbehaves, to see what it may affect.
use Rattle.std.specs.Prelude.{ℕ, ℤ, pos, List, [], ◌∷◌, Some, None, codes, false, true}
use Rattle.host_decl.specs.Hosts as declared_hosts
use Rattle.jif_tree.specs.Altered.{Exposure}
use Rattle.jif_tree.specs.SourceRun.{Configuration, keep}
use Rattle.ics_stack.specs.declared.stack.StackEntry.{StackEntry}
use Rattle.host_code.specs.declared.code.Entry.{Entry}
use Rattle.host_code.specs.declared.instruction.Op.TheVariants as op
use Rattle.host_code.specs.declared.message.Message.TheVariants as message
use Rattle.host_code.specs.Thread.{ThreadShape}
use Rattle.host_code.specs.Code.{CodeShape, halt}
use Rattle.event_text.specs.declared.event.Event.{Event}
use Rattle.event_text.specs.declared.event.Event.TheVariants.{Act}
use Rattle.event_text.specs.declared.event.BadToken.TheVariants.{Sent}
use Rattle.event_text.specs.declared.event.BadMessage.TheVariants as bad
use Rattle.host_core.specs.Host.{HostState, Outcome, with_running}
use Rattle.host_core.specs.Start.{main_frame, idle_host, last_token}
use Rattle.host_core.specs.Taking.{after_taking}
use Rattle.host_core.specs.Turn.{after_operation}
use Rattle.net_world.specs.World.{WorldShape, world_at_start, after_telling, with_state}
use Rattle.split_rules.specs.OpenExamples.{untrusted, trusted_by_first, sent_table}
use Rattle.split_rules.specs.Worked.{host_id, field_id, var_id, a_host, placed_with, sent_local}
use Rattle.token_laws.specs.TokenExamples.{first_request, first_token, start, start_state, handing, handed, given}
use Rattle.integrity.specs.Exposed.{bad_labels}
use Rattle.integrity.specs.Outside.{Threat, threat_of}

-- ---- a program: a local that the first principal trusts is sent to the second host, which nobody trusts

abbrev pub sent_threat : ℕ → Threat
sent_threat bad = threat_of (placed_with sent_local (trusted_by_first ∷ [])) sent_table bad

-- the first host with nothing on its stack, where a thread is about to send the local
abbrev idle : HostState
idle = idle_host (sent_threat 2).code [] [] (host_id 0)

abbrev sender : ThreadShape
sender = record { at = 1; frame = main_frame; new_frame = main_frame; temporaries = []; held = None }

abbrev pub sending : HostState
sending = with_running idle (Some sender)

-- and where it was sent, and the thread waits
abbrev pub waiting : HostState
waiting = (after_operation (sent_threat 2).code idle sender (op.Send (var_id 0) (host_id 1)) true).state

-- ---- a world: the first host has a field that nobody trusts and one that the first principal trusts

abbrev rows : List declared_hosts.HostShape
rows = a_host 1 ∷ a_host 0 ∷ []

abbrev on_root : ℕ → Entry
on_root at = record { host = host_id 1; at = at; label = 0; need = 0 }

-- both have 7; the root is the second host
abbrev pub two_fields : CodeShape
two_fields = record {
  hosts = record { name = codes "H"; label = trusted_by_first } ∷ record { name = codes "H"; label = untrusted } ∷ [];
  labels = untrusted ∷ trusted_by_first ∷ [];
  fields = record { name = codes "f"; label = 0; size = 1; array = false; first = pos 7; host = host_id 0 }
      ∷ record { name = codes "g"; label = 1; size = 1; array = false; first = pos 7; host = host_id 0 } ∷ [];
  variables = [];
  entries = on_root 0 ∷ on_root 0 ∷ [];
  sites = [];
  parts = [] ∷ [] ∷ [];
  root = host_id 1;
  main = record { 0 = 1 };
}

abbrev pub store : List (List ℤ)
store = (pos 7 ∷ []) ∷ (pos 7 ∷ []) ∷ []

abbrev pub exposed_to : ℕ → Exposure
exposed_to bad = record {
  bad = bad_labels bad 0 rows;
  fields = untrusted ∷ trusted_by_first ∷ [];
  variables = [];
  needs = [];
}

abbrev pub before_set : WorldShape
before_set = world_at_start two_fields rows 2 store

abbrev pub holder : HostState
holder = idle_host two_fields store [] (host_id 0)

-- the second host sets a field to 9, and that passes its check or does not
abbrev pub sets_to_nine : ℕ → Event
sets_to_nine field = Act (host_id 1) (host_id 0) (bad.Set first_request (field_id field) (pos 0) (pos 9))

abbrev pub setting : Outcome
setting = after_taking two_fields holder (host_id 1) (message.Set first_request (field_id 0) (pos 0) (pos 9)) true

abbrev pub refusing : Outcome
refusing = after_taking two_fields holder (host_id 1) (message.Set first_request (field_id 1) (pos 0) (pos 9)) false

abbrev after_outcome : Outcome → WorldShape
after_outcome outcome = after_telling (with_state before_set (host_id 0) outcome.state) (host_id 0) outcome.sent

abbrev pub after_set : WorldShape
after_set = after_outcome setting

abbrev pub after_refused : WorldShape
after_refused = after_outcome refusing

-- ---- a program that has halted, and a configuration that is not at its end

abbrev pub halted_world : WorldShape
halted_world = with_state start (host_id 0) (record start_state { halted = true })

abbrev pub not_at_end : Configuration
not_at_end = record { store = (pos 7 ∷ []) ∷ []; calls = []; pending = keep 0 (var_id 0) (var_id 0) ∷ [] }

abbrev pub at_end : Configuration
at_end = record not_at_end { pending = [] }

-- ---- the entry that ends the program, where it was from the start

abbrev pub last_entry : StackEntry
last_entry = record { token = first_token; entry = halt; frame = main_frame; kept = last_token (host_id 0) }

-- ---- a misbehaving host that was handed the token of that entry gives it back

abbrev pub giving : Event
giving = Act (host_id 1) (host_id 0) (bad.Lgoto (Sent 0))

abbrev pub ending : Outcome
ending = after_taking handing handed.state (host_id 1) (message.Lgoto first_token) true

abbrev pub ended : WorldShape
ended = after_telling (with_state given (host_id 0) ending.state) (host_id 0) ending.sent
