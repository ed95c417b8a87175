-- What a turn of the host that holds the token makes, seen from that host: what it leaves and sends, and what it keeps
-- of all that the hosts have of a configuration. Nothing is said of other hosts, nor of what else is in flight.
use Rattle.std.specs.Prelude.{◌≡◌, ◌≢◌, ◌↔◌, ℕ, ◌+◌, ◌-◌, ◌*◌, ◌<◌, ◌≤◌, ℤ, Bool, IsTrue, if◌then◌else◌, List, ◌∷◌}
use Rattle.std.specs.Prelude.{length, Some, None, slice_set}
use Rattle.js_base.specs.declared.ids.FrameId.{FrameId}
use Rattle.js_base.specs.declared.ids.HostId.{HostId}
use Rattle.js_base.specs.declared.ids.VarId.{VarId}
use Rattle.jif_tree.specs.SourceRun.{Configuration}
use Rattle.capability.specs.declared.token.Token.{Token}
use Rattle.ics_stack.specs.declared.stack.StackEntry.{StackEntry}
use Rattle.ics_stack.specs.Stack.{top_token}
use Rattle.host_code.specs.declared.message.Message.{Message}
use Rattle.host_code.specs.declared.message.Message.TheVariants as message
use Rattle.host_code.specs.Thread.{ThreadShape, Awaited, WaitingShape}
use Rattle.host_code.specs.Thread.Awaited.{acknowledgement}
use Rattle.entry_check.specs.declared.ask.Ask.TheVariants as ask
use Rattle.entry_check.specs.Checks.{May}
use Rattle.host_core.specs.Host.{HostState, Outcome, without_message, with_message, with_one_ignored, with_running}
use Rattle.host_core.specs.Host.{after_pop, after_asking, next_request}
use Rattle.host_core.specs.Turn.{with_thread}
use Rattle.split_rules.specs.Handing.{Arrival, arrival_in}
use Rattle.split_rules.specs.Pace.{PACE}
use Rattle.net_world.specs.Fits.{IsStateOf}
use Rattle.net_world.specs.World.{WorldShape, state_at}
use Rattle.typed_steps.specs.Values.{HoldsNumbers}
use Rattle.typed_steps.specs.Views.{Split, Link, entries_of, View}
use Rattle.typed_steps.specs.Chains.{IsChain}
use Rattle.typed_steps.specs.Threads.{IsAt}
use Rattle.typed_steps.specs.Variables.{HasWhatIsOwed, HostsHold}
use Rattle.typed_steps.specs.Requests.{Does, IsRequest, GivesResult, GoesTo, GivesUp}
use Rattle.typed_steps.specs.Weights.{Paced, STEP, weight_at, IsFueledRequest}

-- ---- before and after

-- A host runs the thread that holds the token of the first entry of the chain.
pub record IsActing (split : Split) (c : Configuration) (view : View) (world : WorldShape) (host : HostId)
    (old : HostState) (thread : ThreadShape) : Type 0 where
  pub there : state_at world host ≡ Some old
  pub many : length world.hosts ≡ length split.code.hosts
  pub fits : IsStateOf split.code host old
  pub numbers : HoldsNumbers split.exposure old
  pub running : old.running ≡ Some thread
  pub is_chain : IsChain split view.naming view.chain
  pub at : IsAt split c view host thread
  pub sent : HasWhatIsOwed split view old host
  pub holds : HostsHold split c view world

-- whatever is in flight then, all hosts have this of a configuration once one of them has come to another state
abbrev pub HostsStillHold : Split → Configuration → View → WorldShape → HostId → HostState → Type 0
HostsStillHold split now seen world host new =
    (after : WorldShape) → after.hosts ≡ slice_set world.hosts host.0 (Some new) → HostsHold split now seen after

-- The chain and the stack of a host stay, or both get the same entry, which stands on the host.
pub data Grows (host : HostId) (chain now : List Link) (old new : List StackEntry) : Type 0 where
  stays : now ≡ chain → new ≡ old → Grows host chain now old new
  grows : (link : Link) → link.entry.token.host ≡ host → now ≡ link ∷ chain → new ≡ link.entry ∷ old →
      Grows host chain now old new

-- what a turn or a take leaves alone
pub record IsLeftAlone (old new : HostState) : Type 0 where
  pub me : new.me ≡ old.me
  pub ignored : new.ignored ≡ old.ignored
  pub halted : new.halted ≡ old.halted
  pub waiting : new.waiting ≡ old.waiting

-- ---- what a turn makes

-- The thread goes on, and nothing is sent. Behind a step, so many more events may come.
pub record RunsOn (split : Split) (view : View) (world : WorldShape) (host : HostId) (old : HostState)
    (thread : ThreadShape) (now : Configuration) (more : ℕ) (outcome : Outcome) : Type 0 where
  pub seen : View
  pub state : HostState
  pub next : ThreadShape
  pub is : with_thread state next ≡ outcome
  pub steady : IsLeftAlone old state
  pub grown : Grows host view.chain seen.chain old.entries state.entries
  pub is_chain : IsChain split seen.naming seen.chain
  pub at : IsAt split now seen host next
  pub sent : HasWhatIsOwed split seen state host
  pub keeps : HostsStillHold split now seen world host (with_running state (Some next))
  pub pace : Paced split →
      weight_at split seen.chain host next.at < weight_at split view.chain host thread.at + more

-- a thread that waits for the answer to the next request of an instruction
abbrev pub waiting_for : HostState → ℕ → ThreadShape → Awaited → HostId → WaitingShape
waiting_for old at next awaited to =
    record { thread = next; awaited = awaited; request = next_request old at; asked = to }

-- The thread waits for what it asked another host for.
pub record Asks (split : Split) (c : Configuration) (view : View) (host : HostId) (old : HostState)
    (thread : ThreadShape) (outcome : Outcome) : Type 0 where
  pub next : ThreadShape
  pub awaited : Awaited
  pub to : HostId
  pub asking : Message
  pub is : with_message (after_asking (with_running old None) thread.at next awaited to) to asking ≡ outcome
  pub away : to.0 ≢ host.0
  pub request : IsRequest split c view host to (waiting_for old thread.at next awaited to) asking
  pub pace : Paced split → (0 < weight_at split view.chain host thread.at)
      × IsFueledRequest split view.chain host next.at (weight_at split view.chain host thread.at - 1) asking

-- The thread waits until the host of the call that made this one has its result.
pub record ThreadGives (split : Split) (c : Configuration) (view : View) (host : HostId) (old : HostState)
    (thread : ThreadShape) (outcome : Outcome) : Type 0 where
  pub next : ThreadShape
  pub to : HostId
  pub frame : FrameId
  pub x : VarId
  pub value : ℤ
  pub is : with_message (after_asking (with_running old None) thread.at next acknowledgement to) to
      (message.Forward (next_request old thread.at) frame x value) ≡ outcome
  pub away : to.0 ≢ host.0
  pub may : May split.code to (ask.Forward x) host
  pub result : GivesResult split c view host next frame x value to
  pub pace : Paced split → (0 < weight_at split view.chain host thread.at)
      × (weight_at split view.chain host next.at + 2 ≤ (weight_at split view.chain host thread.at - 1) + STEP)

-- The thread ends, and its token goes to an entry, with all that is still to be sent.
pub record Hands (split : Split) (c : Configuration) (view : View) (host : HostId) (old : HostState)
    (thread : ThreadShape) (outcome : Outcome) : Type 0 where
  pub to : HostId
  pub arrival : Arrival
  pub said : Message
  pub arrives : arrival_in said ≡ Some arrival
  pub is : with_message (with_running old None) to said ≡ outcome
  pub top : top_token (entries_of view.chain) ≡ Some arrival.token
  pub goes : GoesTo split c view host to arrival
  pub pace : Paced split → (0 < weight_at split view.chain host thread.at)
      × (weight_at split view.chain to goes.there.at + 1 ≤ weight_at split view.chain host thread.at - 1)

-- The thread ends, and its token goes back to the host that gave it.
pub record Returns (split : Split) (c : Configuration) (view : View) (host : HostId) (old : HostState)
    (thread : ThreadShape) (outcome : Outcome) : Type 0 where
  pub token : Token
  pub is : with_message (with_running old None) token.host (message.Lgoto token) ≡ outcome
  pub top : top_token (entries_of view.chain) ≡ Some token
  pub away : token.host.0 ≢ host.0
  pub gives_up : GivesUp split c view
  pub pace : Paced split → (0 < weight_at split view.chain host thread.at)
      × (3 * (PACE + length view.chain) ≤ (weight_at split view.chain host thread.at - 1) + 1)

-- The thread ends, and its token is of this host, which takes its top entry off where that has the token.
pub record ThreadEnds (split : Split) (c : Configuration) (view : View) (host : HostId) (old : HostState)
    (thread : ThreadShape) (outcome : Outcome) : Type 0 where
  pub token : Token
  pub passes : Bool
  pub passing : IsTrue passes ↔ (top_token old.entries ≡ Some token)
  pub is : without_message (if passes
      then after_pop split.code (with_running old None) old.entries
      else with_one_ignored (with_running old None)) ≡ outcome
  pub top : top_token (entries_of view.chain) ≡ Some token
  pub own : token.host ≡ host
  pub gives_up : GivesUp split c view
  pub pace : Paced split → 3 * (PACE + length view.chain) ≤ weight_at split view.chain host thread.at

pub data Turned (split : Split) (c : Configuration) (view : View) (world : WorldShape) (host : HostId)
    (old : HostState) (thread : ThreadShape) (outcome : Outcome) : Type 0 where
  runs_on : RunsOn split view world host old thread c 0 outcome → Turned split c view world host old thread outcome
  steps : (now : Configuration) → Does split c now → RunsOn split view world host old thread now STEP outcome →
      Turned split c view world host old thread outcome
  asks : Asks split c view host old thread outcome → Turned split c view world host old thread outcome
  gives : ThreadGives split c view host old thread outcome → Turned split c view world host old thread outcome
  hands : Hands split c view host old thread outcome → Turned split c view world host old thread outcome
  returns : Returns split c view host old thread outcome → Turned split c view world host old thread outcome
  ends : ThreadEnds split c view host old thread outcome → Turned split c view world host old thread outcome
