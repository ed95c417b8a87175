-- What a journal tells of tokens, messages and hosts. Its lines print a token without the tag, so two tokens that
-- differ in their tags alone are alike there. Such things are bare where each tag is zeros: what is alike is the same
-- once it is bare.
--
-- A bare host has no key either, with which tags are made. And it counts as if it had ignored no message and not
-- halted: no line and no field tells how many messages a host ignored, or whether it halted.
use Rattle.std.specs.Prelude.{[], replicate, map, Option, Some, None, false}
use Rattle.std.specs.Option.{option_map}
use Rattle.js_base.specs.declared.ids.HostId.{HostId}
use Rattle.capability.specs.declared.tags.TheConstants.{TAG_BYTES}
use Rattle.capability.specs.declared.token.Token.{Token}
use Rattle.ics_stack.specs.declared.stack.StackEntry.{StackEntry}
use Rattle.host_code.specs.declared.message.Message.{Message}
use Rattle.host_code.specs.declared.message.Message.TheVariants as message
use Rattle.host_code.specs.Thread.{ThreadShape, WaitingShape}
use Rattle.host_core.specs.Host.{HostState, Outcome}

abbrev pub bare_token : Token → Token
bare_token token = record token { tag = replicate TAG_BYTES 0 }

abbrev pub bare_message : Message → Message
bare_message (message.Get request field index) = message.Get request field index
bare_message (message.Set request field index value) = message.Set request field index value
bare_message (message.Forward request frame variable value) = message.Forward request frame variable value
bare_message (message.Sync request frame entry token) = message.Sync request frame entry (bare_token token)
bare_message (message.Rgoto frame entry token) = message.Rgoto frame entry (bare_token token)
bare_message (message.RgotoWith frame entry token riders) = message.RgotoWith frame entry (bare_token token) riders
bare_message (message.Lgoto token) = message.Lgoto (bare_token token)
bare_message (message.Value request value) = message.Value request value
bare_message (message.Ack request) = message.Ack request
bare_message (message.Token request token) = message.Token request (bare_token token)

abbrev pub bare_thread : ThreadShape → ThreadShape
bare_thread thread = record thread { held = option_map bare_token thread.held }

abbrev pub bare_waiting : WaitingShape → WaitingShape
bare_waiting waiting = record waiting { thread = bare_thread waiting.thread }

abbrev pub bare_entry : StackEntry → StackEntry
bare_entry entry = record entry { token = bare_token entry.token; kept = bare_token entry.kept }

abbrev pub bare_host : HostState → HostState
bare_host host = record host {
  key = [];
  running = option_map bare_thread host.running;
  waiting = map bare_waiting host.waiting;
  entries = map bare_entry host.entries;
  ignored = 0;
  halted = false;
}

abbrev pub bare_sent : Option (HostId × Message) → Option (HostId × Message)
bare_sent None = None
bare_sent (Some sent) = Some (sent.0, bare_message sent.1)

abbrev pub bare_outcome : Outcome → Outcome
bare_outcome outcome = record { state = bare_host outcome.state; sent = bare_sent outcome.sent }
