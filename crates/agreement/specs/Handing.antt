-- What is seen of a turn that may be seen, and that hands control over to another host.
use Rattle.std.specs.Prelude.{◌≡◌, ℤ, Bool, true, false, ◌==◌, if◌then◌else◌, List, [], ◌∷◌, ◌++◌, map}
use Rattle.std.specs.Prelude.{Option, Some, None}
use Rattle.js_base.specs.declared.ids.HostId.{HostId}
use Rattle.js_base.specs.declared.ids.FrameId.{FrameId}
use Rattle.js_base.specs.declared.ids.VarId.{VarId}
use Rattle.capability.specs.declared.token.Token.{Token}
use Rattle.host_code.specs.declared.instruction.Instr.{Instr}
use Rattle.host_code.specs.declared.instruction.Op.{Op}
use Rattle.host_code.specs.declared.instruction.Op.TheVariants as op
use Rattle.host_code.specs.declared.message.Message.{Message}
use Rattle.host_code.specs.declared.message.Message.TheVariants as message
use Rattle.host_code.specs.Riders.{Rider}
use Rattle.host_code.specs.Code.{CodeShape, instruction_at}
use Rattle.host_code.specs.Thread.{ThreadShape}
use Rattle.host_core.specs.Host.{HostState}
use Rattle.net_world.specs.Flying.{Flight, with_flights}
use Rattle.net_world.specs.World.{WorldShape, state_at}
use Rattle.seen_world.specs.Eyes.{Eyes}
use Rattle.agreement.specs.Turns.{host_idle}
use Rattle.agreement.specs.Views.{LowView, HostView, masked, sees_variable, with_host}

-- these variables of a frame, with their values
abbrev pub riding : (FrameId → VarId → ℤ) → FrameId → List VarId → List Rider
riding variables frame riders = map (λ x. (x, variables frame x)) riders

-- with which message a thread hands control over, and to which other host, where the variables of its host are these
abbrev pub handed : (FrameId → VarId → ℤ) → HostId → ThreadShape → Token → Op → Option (HostId × Message)
handed variables me thread token (op.Go entry on) = Some (on, message.Rgoto thread.frame entry token)
handed variables me thread token (op.Call entry on) =
    if on.0 == me.0 then None else Some (on, message.Rgoto thread.new_frame entry token)
handed variables me thread token (op.GoWith entry on riders) =
    Some (on, message.RgotoWith thread.frame entry token (riding variables thread.frame riders))
handed variables me thread token (op.CallWith entry on riders) =
    Some (on, message.RgotoWith thread.new_frame entry token (riding variables thread.new_frame riders))
handed variables me thread token op.Back =
    if token.host.0 == me.0 then None else Some (token.host, message.Lgoto token)
handed variables me thread token other = None

-- the running thread of a host, which hands control over so
pub record RunsHanding (code : CodeShape) (world : WorldShape) (host : HostId) : Type 0 where
  pub state : HostState
  pub there : state_at world host ≡ Some state
  pub thread : ThreadShape
  pub running : state.running ≡ Some thread
  pub token : Token
  pub held : thread.held ≡ Some token
  pub instruction : Instr
  pub is : instruction_at code host thread.at ≡ Some instruction
  pub to : HostId
  pub said : Message
  pub hands : handed state.variables host thread token instruction.op ≡ Some (to, said)

-- what is seen of the variables of a host
abbrev pub shown_variables : Eyes → HostView → FrameId → VarId → ℤ
shown_variables eyes view frame x = masked (sees_variable eyes x) (view.variables frame x)

-- a misbehaving host is told a message, and for another it is in flight
abbrev pub sent_view : LowView → HostId → HostId → Flight → Bool → LowView
sent_view view from to flight true = record view { sent = view.sent ++ (from, to, flight.message) ∷ [] }
sent_view view from to flight false =
    record view { flying = with_flights view.flying from to (view.flying from to ++ flight ∷ []) }

-- The thread that is seen on a host ends, and this is sent.
pub record SeenHanding (eyes : Eyes) (view : LowView) (host : HostId) (after : LowView) : Type 0 where
  pub thread : ThreadShape
  pub running : (view.hosts host).running ≡ thread ∷ []
  pub token : Token
  pub held : thread.held ≡ Some token
  pub instruction : Instr
  pub is : instruction_at eyes.code host thread.at ≡ Some instruction
  pub to : HostId
  pub said : Message
  pub hands : handed (shown_variables eyes (view.hosts host)) host thread token instruction.op ≡ Some (to, said)
  pub seen : after ≡ sent_view (with_host view host (host_idle (view.hosts host))) host to
      (record { message = said; label = instruction.label }) (eyes.bad to)
