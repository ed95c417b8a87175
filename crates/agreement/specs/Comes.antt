-- A thread that comes to its place, which may be seen there or goes on unseen.
use Rattle.std.specs.Prelude.{◌≡◌, ◌≢◌, Bool, true, false, [], Some, None, filter}
use Rattle.js_base.specs.declared.ids.HostId.{HostId}
use Rattle.capability.specs.declared.token.Token.{Token}
use Rattle.host_code.specs.declared.instruction.Instr.{Instr}
use Rattle.host_code.specs.Code.{instruction_at}
use Rattle.host_code.specs.Thread.{ThreadShape}
use Rattle.host_core.specs.Host.{HostState, with_running}
use Rattle.net_world.specs.World.{WorldShape, state_at}
use Rattle.seen_world.specs.Eyes.{Eyes, is_open}
use Rattle.seen_world.specs.Points.{IsHiddenToken, MayHoldToken}
use Rattle.agreement.specs.Leads.{hidden_running, hidden_waiting, hidden_flights}
use Rattle.agreement.specs.Views.{LowView, ShowsHost, at, owed_at, Completed, thread_view, with_host, host_with_thread}
use Rattle.agreement.specs.Views.{flights_view, is_shown}

-- It is seen at its place, where that may be seen. Otherwise what it owes is done.
abbrev pub ComesIntoView : Eyes → LowView → HostId → ThreadShape → Token → Bool → LowView → Type 0
ComesIntoView eyes view host thread token true after =
    after ≡ with_host view host (host_with_thread (view.hosts host) (thread_view eyes host thread.at thread))
ComesIntoView eyes view host thread token false after =
    Completed eyes (owed_at eyes (at host thread.at thread.frame token)) view after

abbrev pub Comes : Eyes → LowView → HostId → ThreadShape → Token → LowView → Type 0
Comes eyes view host thread token after = ComesIntoView eyes view host thread token (is_open eyes host thread.at) after

-- A thread runs on a host with a token that may be held there and is no hidden one. Nothing else goes on unseen, and
-- without the thread the world would show this view.
pub record HasCome (eyes : Eyes) (world : WorldShape) (me : HostId) (state : HostState) (thread : ThreadShape)
    (token : Token) (view : LowView) : Type 0 where
  pub there : state_at world me ≡ Some state
  pub running : state.running ≡ Some thread
  pub held : thread.held ≡ Some token
  pub instruction : Instr
  pub is : instruction_at eyes.code me thread.at ≡ Some instruction
  pub may : MayHoldToken eyes (eyes.shades.at me thread.at) token
  pub shown : ¬ IsHiddenToken eyes token
  pub rest : (host : HostId) (other : HostState) → state_at world host ≡ Some other → host.0 ≢ me.0 →
      hidden_running eyes host other.running ≡ None
  pub waiting : (host : HostId) (other : HostState) → state_at world host ≡ Some other →
      hidden_waiting eyes host other.waiting ≡ []
  pub entries : (host : HostId) (other : HostState) → state_at world host ≡ Some other →
      other.entries ≡ filter (is_shown eyes) other.entries
  pub flying : (from to : HostId) → hidden_flights eyes (world.flying from to) ≡ []
  pub own : ShowsHost eyes me (with_running state None) (view.hosts me)
  pub others : (host : HostId) (other : HostState) → state_at world host ≡ Some other → host.0 ≢ me.0 →
      ShowsHost eyes host other (view.hosts host)
  pub seen_flying : (from to : HostId) → flights_view eyes from to (world.flying from to) ≡ view.flying from to
  pub sent : world.sent ≡ view.sent
