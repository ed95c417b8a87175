-- What is seen of a message that a host takes, where the message may be seen.
use Rattle.std.specs.Prelude.{◌≡◌, ◌⊎◌, ℕ, ℤ, pos, Bool, true, false, if◌then◌else◌, [], Option, Some, None, remove}
use Rattle.std.specs.Prelude.{List, slice_get}
use Rattle.js_base.specs.declared.ids.HostId.{HostId}
use Rattle.js_base.specs.declared.ids.FieldId.{FieldId}
use Rattle.js_base.specs.declared.ids.FrameId.{FrameId}
use Rattle.js_base.specs.declared.ids.RequestId.{RequestId}
use Rattle.jif_tree.specs.Store.{row_of, element_at}
use Rattle.capability.specs.declared.token.Token.{Token}
use Rattle.host_code.specs.declared.code.Entry.{Entry}
use Rattle.host_code.specs.declared.message.Message.{Message}
use Rattle.host_code.specs.declared.message.Message.TheVariants as message
use Rattle.host_code.specs.Riders.{Rider}
use Rattle.host_code.specs.Code.{entry_at}
use Rattle.host_code.specs.Thread.{ThreadShape, WaitingShape}
use Rattle.host_code.specs.Thread.Awaited.{value_of_field, acknowledgement, token_of_entry}
use Rattle.host_core.specs.Host.{HostState, thread_at, with_temporary, with_token}
use Rattle.host_core.specs.Taking.{PassesCheck, place_of_awaiting}
use Rattle.event_text.specs.declared.event.BadMessage.{BadMessage}
use Rattle.net_world.specs.Flying.{Flight, with_flights}
use Rattle.net_world.specs.Told.{tokens_in, message_made}
use Rattle.seen_world.specs.Eyes.{Eyes}
use Rattle.agreement.specs.Comes.{Comes}
use Rattle.agreement.specs.Handing.{sent_view}
use Rattle.agreement.specs.Turns.{variable_shown, riders_shown, element_shown, token_shown, entry_shown}
use Rattle.agreement.specs.Views.{LowView, HostView, GivenBack, masked, sees_field, sees_read, message_view, with_host}

-- ---- what it carries

-- whether the element may be seen that a get is answered with: a misbehaving host that asked sees the field, and for
-- another it will be a temporary
abbrev pub sees_answer : Eyes → HostId → RequestId → FieldId → Bool
sees_answer eyes from request field =
    if eyes.bad from then sees_field eyes field else sees_read eyes from request

-- The value with which a host answers a get is carried, as 0 where it may not be seen. All else is told by what is seen
-- of the message and of the host.
abbrev pub carried_taken : Eyes → HostState → HostId → Message → ℤ
carried_taken eyes state from (message.Get request field index) =
    masked (sees_answer eyes from request field) (element_at (row_of state.rows field.0) index)
carried_taken eyes state from other = pos 0

-- ---- the check

-- A host as far as the check of a message looks at it: its number, its threads that wait and its entries.
abbrev pub host_checked : HostId → HostView → HostState
host_checked host view = record {
  me = host;
  key = view.key;
  rows = [];
  variables = view.variables;
  running = None;
  waiting = view.waiting;
  entries = view.entries;
  serials = [];
  frames = [];
  requests = [];
  ignored = 0;
  halted = false;
}

-- ---- what is seen then

-- a message is no longer in flight
abbrev pub view_without : LowView → HostId → HostId → ℕ → LowView
view_without view from to place =
    record view { flying = with_flights view.flying from to (remove (view.flying from to) place) }

-- a thread waits no longer
abbrev pub host_without : HostView → ℕ → HostView
host_without view place = record view { waiting = remove view.waiting place }

-- The thread that is seen waiting at a place comes to where it goes on, as it is after the answer.
pub record ComesAnswered (eyes : Eyes) (view : LowView) (host : HostId) (found : Option ℕ)
    (answered : ThreadShape → ThreadShape) (after : LowView) : Type 0 where
  pub place : ℕ
  pub is : found ≡ Some place
  pub waiting : WaitingShape
  pub there : slice_get (view.hosts host).waiting place ≡ Some waiting
  pub token : Token
  pub held : (answered waiting.thread).held ≡ Some token
  pub comes : Comes eyes (with_host view host (host_without (view.hosts host) place)) host (answered waiting.thread)
      token after

-- a thread starts at an entry of the host
abbrev pub ComesToEntry : Eyes → LowView → HostId → Option Entry → FrameId → Token → LowView → Type 0
ComesToEntry eyes view host None frame token after = ⊥
ComesToEntry eyes view host (Some there) frame token after =
    Comes eyes view host (thread_at there frame token) token after

-- values ride to a host, for variables of a frame
abbrev pub view_riding : LowView → HostId → FrameId → List Rider → LowView
view_riding view to frame riders = with_host view to (riders_shown (view.hosts to) frame riders)

-- who asked is answered with the label of what was asked
abbrev pub answer_view : Eyes → LowView → HostId → HostId → ℕ → Message → LowView
answer_view eyes view from to label answer =
    sent_view view to from (record { message = answer; label = label }) (eyes.bad from)

-- A message passes its check, which a host takes from another, and which has this label. A token that is given back is
-- then that of the top entry, and so names the host.
abbrev pub SeenPassing : Eyes → LowView → HostId → HostId → ℕ → Message → ℤ → LowView → Type 0
SeenPassing eyes view from to label (message.Get request field index) carried after =
    after ≡ answer_view eyes view from to label (message.Value request carried)
SeenPassing eyes view from to label (message.Set request field index value) carried after =
    after ≡ answer_view eyes (with_host view to (element_shown (view.hosts to) field index value)) from to label
    (message.Ack request)
SeenPassing eyes view from to label (message.Forward request frame x value) carried after =
    after ≡ answer_view eyes (with_host view to (variable_shown (view.hosts to) frame x value)) from to label
    (message.Ack request)
SeenPassing eyes view from to label (message.Sync request frame entry token) carried after =
    after ≡ answer_view eyes (with_host view to (entry_shown to (view.hosts to) entry frame token)) from to label
    (message.Token request (token_shown to (view.hosts to) entry frame))
SeenPassing eyes view from to label (message.Rgoto frame entry token) carried after =
    ComesToEntry eyes view to (entry_at eyes.code entry) frame token after
SeenPassing eyes view from to label (message.RgotoWith frame entry token riders) carried after =
    ComesToEntry eyes (view_riding view to frame riders) to (entry_at eyes.code entry) frame token after
SeenPassing eyes view from to label (message.Lgoto token) carried after =
    GivenBack eyes view token (view.hosts to).entries after
SeenPassing eyes view from to label (message.Value request value) carried after =
    ComesAnswered eyes view to (place_of_awaiting (host_checked to (view.hosts to)) value_of_field request from)
    (with_temporary value) after
SeenPassing eyes view from to label (message.Ack request) carried after =
    ComesAnswered eyes view to (place_of_awaiting (host_checked to (view.hosts to)) acknowledgement request from)
    (λ thread. thread) after
SeenPassing eyes view from to label (message.Token request token) carried after =
    ComesAnswered eyes view to (place_of_awaiting (host_checked to (view.hosts to)) token_of_entry request from)
    (with_token (Some token)) after

-- A message that fails its check changes nothing that is seen.
abbrev pub SeenMessage : Eyes → LowView → HostId → HostId → ℕ → Message → ℤ → LowView → Type 0
SeenMessage eyes view from to label said carried after =
    (PassesCheck eyes.code (host_checked to (view.hosts to)) from said
    × SeenPassing eyes view from to label said carried after)
    ⊎ ((¬ (PassesCheck eyes.code (host_checked to (view.hosts to)) from said)) × (after ≡ view))

-- The message that is seen at a place of a queue is taken, and carries this.
pub record SeenTake (eyes : Eyes) (view : LowView) (from to : HostId) (place : ℕ) (carried : ℤ) (after : LowView)
    : Type 0 where
  pub flight : Flight
  pub there : slice_get (view.flying from to) place ≡ Some flight
  pub seen : SeenMessage eyes (view_without view from to place) from to flight.label flight.message carried after

-- A misbehaving host sends what it made of the tokens that such hosts were sent, which is taken at once. The answer is
-- told, so its label plays no part.
pub record SeenAct (eyes : Eyes) (view : LowView) (from to : HostId) (made : BadMessage) (carried : ℤ) (after : LowView)
    : Type 0 where
  pub bad : eyes.bad from ≡ true
  pub said : Message
  pub makes : message_made (tokens_in view.sent) made ≡ Some said
  pub seen : SeenMessage eyes view from to 0 (message_view eyes from to said) carried after
