-- What is seen of a turn that may be seen, and that asks another host.
use Rattle.std.specs.Prelude.{◌≡◌, ◌≢◌, ℕ, ◌+◌, ℤ, pos, ◌==◌, if◌then◌else◌, [], ◌∷◌, ◌++◌, Option, Some, None, ⊤}
use Rattle.std.specs.Option.{IsSomeAnd}
use Rattle.js_base.specs.declared.ids.HostId.{HostId}
use Rattle.js_base.specs.declared.ids.RequestId.{RequestId}
use Rattle.capability.specs.declared.token.Token.{Token}
use Rattle.host_code.specs.declared.instruction.Instr.{Instr}
use Rattle.host_code.specs.declared.instruction.Op.{Op}
use Rattle.host_code.specs.declared.instruction.Op.TheVariants as op
use Rattle.host_code.specs.declared.message.Message.{Message}
use Rattle.host_code.specs.declared.message.Message.TheVariants as message
use Rattle.host_code.specs.Code.{CodeShape, CodeFieldShape, instruction_at, field_at, variable_at}
use Rattle.host_code.specs.Thread.{ThreadShape, Awaited}
use Rattle.host_code.specs.Thread.Awaited.{value_of_field, acknowledgement, token_of_entry}
use Rattle.host_core.specs.Host.{HostState, after_step, after_clearing, with_token, value_in_thread, next_request}
use Rattle.host_core.specs.Turn.{MayReturn}
use Rattle.net_world.specs.World.{WorldShape, state_at}
use Rattle.seen_world.specs.Eyes.{Eyes}
use Rattle.agreement.specs.Handing.{sent_view}
use Rattle.agreement.specs.Turns.{Carried, carried_value, carried_in}
use Rattle.agreement.specs.Views.{LowView, HostView, masked, sees_variable, sees_read, with_host}

-- ---- which turns

-- An instruction of a host, run with this token, that asks another host: to read or to set an element of a field that
-- stands there, to keep the value of a variable, or to push an entry. So does a result, where the token is one of
-- another host, which may see it.
abbrev pub AsksElsewhere : CodeShape → HostId → Token → Op → Type 0
AsksElsewhere code me token (op.Read field index) = IsSomeAnd (field_at code field) (λ there. there.host ≢ me)
AsksElsewhere code me token (op.Put field index value) = IsSomeAnd (field_at code field) (λ there. there.host ≢ me)
AsksElsewhere code me token (op.Send x to) = ⊤
AsksElsewhere code me token (op.Pass x to) = ⊤
AsksElsewhere code me token (op.Ask entry on) = ⊤
AsksElsewhere code me token (op.Ret x value) = (token.host ≢ me) × MayReturn code (variable_at code x) token.host
AsksElsewhere code me token other = ⊥

-- the running thread of a host, at such an instruction
pub record RunsAsking (code : CodeShape) (world : WorldShape) (host : HostId) : Type 0 where
  pub state : HostState
  pub there : state_at world host ≡ Some state
  pub thread : ThreadShape
  pub running : state.running ≡ Some thread
  pub token : Token
  pub held : thread.held ≡ Some token
  pub instruction : Instr
  pub is : instruction_at code host thread.at ≡ Some instruction
  pub asks : AsksElsewhere code host token instruction.op

-- ---- what it carries

abbrev pub carried_index : ℤ → Carried
carried_index index = record { index = index; value = pos 0 }

-- What is sent to be kept is seen where it is kept, and the index of a read where what is read is a temporary.
abbrev pub carried_asking : Eyes → HostState → ThreadShape → Op → Carried
carried_asking eyes state thread (op.Read field index) =
    carried_index (masked (sees_read eyes state.me (next_request state thread.at)) (value_in_thread state thread index))
carried_asking eyes state thread (op.Send x to) =
    carried_value (masked (sees_variable eyes x) (state.variables thread.frame x))
carried_asking eyes state thread (op.Pass x to) =
    carried_value (masked (sees_variable eyes x) (state.variables thread.new_frame x))
carried_asking eyes state thread other = carried_in eyes state thread other

-- ---- what is asked

-- which host is asked with which message, what the thread waits for, and how it goes on then
pub record Question : Type 0 where
  pub to : HostId
  pub said : Message
  pub awaited : Awaited
  pub later : ThreadShape

-- the host of a field is asked
abbrev pub asked_there : Option CodeFieldShape → Message → Awaited → ThreadShape → Option Question
asked_there None said awaited later = None
asked_there (Some there) said awaited later =
    Some (record { to = there.host; said = said; awaited = awaited; later = later })

-- a host is asked to keep a value
abbrev pub asked_to_keep : HostId → Message → ThreadShape → Option Question
asked_to_keep to said later = Some (record { to = to; said = said; awaited = acknowledgement; later = later })

-- what a thread asks that holds this token, by its next request and with what it carries
abbrev pub asked : CodeShape → ThreadShape → Token → RequestId → Carried → Op → Option Question
asked code thread token request carried (op.Read field index) =
    asked_there (field_at code field) (message.Get request field carried.index) value_of_field (after_step thread)
asked code thread token request carried (op.Put field index value) =
    asked_there (field_at code field) (message.Set request field carried.index carried.value) acknowledgement
    (after_clearing thread)
asked code thread token request carried (op.Send x to) =
    asked_to_keep to (message.Forward request thread.frame x carried.value) (after_step thread)
asked code thread token request carried (op.Pass x to) =
    asked_to_keep to (message.Forward request thread.new_frame x carried.value) (after_step thread)
asked code thread token request carried (op.Ret x value) =
    asked_to_keep token.host (message.Forward request token.frame x carried.value) (after_clearing thread)
asked code thread token request carried (op.Ask entry on) = Some (record {
  to = on;
  said = message.Sync request thread.frame entry token;
  awaited = token_of_entry;
  later = with_token None (after_step thread);
})
asked code thread token request carried other = None

-- ---- what is seen then

-- the next request of an instruction
abbrev pub request_shown : HostView → ℕ → RequestId
request_shown view place = record { at = place; count = view.requests place }

-- the thread waits for the answer to the request, and its instruction has asked once more
abbrev pub host_waiting : HostView → RequestId → Question → HostView
host_waiting view request question = record view {
  running = [];
  waiting = view.waiting
      ++ record { thread = question.later; awaited = question.awaited; request = request; asked = question.to } ∷ [];
  requests = λ number. if number == request.at then view.requests number + 1 else view.requests number;
}

-- The thread that is seen on a host waits, and what it asks is sent.
pub record SeenAsking (eyes : Eyes) (view : LowView) (host : HostId) (carried : Carried) (after : LowView) : Type 0
  where
    pub thread : ThreadShape
    pub running : (view.hosts host).running ≡ thread ∷ []
    pub token : Token
    pub held : thread.held ≡ Some token
    pub instruction : Instr
    pub is : instruction_at eyes.code host thread.at ≡ Some instruction
    pub asks : AsksElsewhere eyes.code host token instruction.op
    pub question : Question
    pub asks_so : asked eyes.code thread token (request_shown (view.hosts host) thread.at) carried instruction.op
        ≡ Some question
    pub seen : after
        ≡ sent_view (with_host view host
        (host_waiting (view.hosts host) (request_shown (view.hosts host) thread.at) question)) host question.to
        (record { message = question.said; label = instruction.label }) (eyes.bad question.to)
