-- How a world of hosts that all obey stands for a configuration of the plain run.
use Rattle.std.proofs.Common.{◌≡◌, ◌≢◌, ℕ, ◌⊎◌, true, false, List, [], ◌∷◌, length, Some, None}
use Rattle.std.specs.Prelude.{◌+◌, ◌*◌, ◌<◌, ◌≤◌}
use Rattle.std.specs.Prelude.{ℤ, ⊤}
use Rattle.js_base.specs.declared.ids.HostId.{HostId}
use Rattle.js_base.specs.declared.ids.FrameId.{FrameId}
use Rattle.js_base.specs.declared.ids.RequestId.{RequestId}
use Rattle.js_base.specs.declared.ids.VarId.{VarId}
use Rattle.jif_tree.specs.SourceRun.{Configuration, IsAtEnd}
use Rattle.capability.specs.declared.token.Token.{Token}
use Rattle.ics_stack.specs.Stack.{top_token}
use Rattle.host_code.specs.declared.message.Message.TheVariants as message
use Rattle.host_code.specs.Thread.{ThreadShape, WaitingShape}
use Rattle.host_code.specs.Thread.Awaited.{acknowledgement}
use Rattle.entry_check.specs.declared.ask.Ask.TheVariants as ask
use Rattle.entry_check.specs.Checks.{May}
use Rattle.host_core.specs.Host.{HostState}
use Rattle.split_rules.specs.Handing.{Arrival, arrival_in}
use Rattle.split_rules.specs.Pace.{PACE}
use Rattle.net_world.specs.Flying.{Flight, Flying, with_flights}
use Rattle.net_world.specs.World.{WorldShape, state_at, misbehaves}
use Rattle.typed_steps.specs.Views.{Split, Link, entries_of, View}
use Rattle.typed_steps.specs.Chains.{chain_due, IsChain}
use Rattle.typed_steps.specs.Threads.{IsLeft, IsAt}
use Rattle.typed_steps.specs.Variables.{HasWhatIsOwed, HostsHold}
use Rattle.typed_steps.specs.Requests.{IsRequest, IsAnswerTo, GivesResult, GoesTo}
use Rattle.typed_steps.specs.Weights.{Paced, STEP, weight_at, IsFueledRequest}
use Rattle.ics_stack.specs.declared.stack.StackEntry.{StackEntry}
use Rattle.std.specs.Prelude.{◌==◌, if◌then◌else◌}
use Rattle.typed_steps.specs.Requests.{Does}

-- ---- what is in flight

abbrev pub nothing : Flying
nothing from to = []

-- all that is in flight goes from a host to a host
abbrev pub only : HostId → HostId → List Flight → Flying
only from to flights = with_flights nothing from to flights

-- ---- the holder of the token

pub data Holder : Type 0 where
  runs : HostId → Holder
  -- a host waits, and its request is in flight to another
  asked : HostId → HostId → Holder
  -- a host waits, and the answer of another is in flight
  answered : HostId → HostId → Holder
  -- a host waits, and a result is in flight from it to the host of the call
  gives : HostId → HostId → Holder
  -- the token goes from a host to another, to an entry or back to who gave it
  goes : HostId → HostId → Holder
  returns : HostId → HostId → Holder
  halted : Holder

-- nothing runs or waits on this host
abbrev pub IsIdle : Holder → HostId → Type 0
IsIdle (runs holder) host = host.0 ≢ holder.0
IsIdle (asked holder owner) host = host.0 ≢ holder.0
IsIdle (answered holder owner) host = host.0 ≢ holder.0
IsIdle (gives holder owner) host = host.0 ≢ holder.0
IsIdle other host = ⊤

pub record IsRunning (split : Split) (c : Configuration) (view : View) (world : WorldShape) (holder : HostId) :
    Type 0 where
  pub state : HostState
  pub there : state_at world holder ≡ Some state
  pub thread : ThreadShape
  pub running : state.running ≡ Some thread
  pub waiting : state.waiting ≡ []
  pub sent : HasWhatIsOwed split view state holder
  pub flying : world.flying ≡ nothing
  pub at : IsAt split c view holder thread

-- one thread waits on the holder, and one message is in flight
pub record IsWaiting (split : Split) (view : View) (world : WorldShape) (holder owner from to : HostId) : Type 0 where
  pub state : HostState
  pub there : state_at world holder ≡ Some state
  pub thread : WaitingShape
  pub flight : Flight
  pub running : state.running ≡ None
  pub waiting : state.waiting ≡ thread ∷ []
  pub asked : thread.asked ≡ owner
  pub other : owner.0 ≢ holder.0
  pub sent : HasWhatIsOwed split view state holder
  pub flying : world.flying ≡ only from to (flight ∷ [])

pub record IsAsked (split : Split) (c : Configuration) (view : View) (world : WorldShape) (holder owner : HostId) :
    Type 0 where
  pub waits : IsWaiting split view world holder owner holder owner
  pub request : IsRequest split c view holder owner waits.thread waits.flight.message

pub record IsAnswered (split : Split) (c : Configuration) (view : View) (world : WorldShape) (holder owner : HostId) :
    Type 0 where
  pub waits : IsWaiting split view world holder owner owner holder
  pub answer : IsAnswerTo split c view holder waits.thread waits.flight.message

pub record IsGiving (split : Split) (c : Configuration) (view : View) (world : WorldShape) (holder owner : HostId) :
    Type 0 where
  pub waits : IsWaiting split view world holder owner holder owner
  pub request : RequestId
  pub frame : FrameId
  pub x : VarId
  pub value : ℤ
  pub message : waits.flight.message ≡ message.Forward request frame x value
  pub awaited : waits.thread.awaited ≡ acknowledgement
  pub request_is : waits.thread.request ≡ request
  pub may : May split.code owner (ask.Forward x) holder
  pub result : GivesResult split c view holder waits.thread.thread frame x value owner

-- the token is in flight to an entry, with all that is still to be sent
pub record IsGoing (split : Split) (c : Configuration) (view : View) (world : WorldShape) (from to : HostId) :
    Type 0 where
  pub flight : Flight
  pub arrival : Arrival
  pub flying : world.flying ≡ only from to (flight ∷ [])
  pub arrives : arrival_in flight.message ≡ Some arrival
  pub goes : GoesTo split c view from to arrival

-- the token is in flight back to who gave it
pub record IsReturning (split : Split) (c : Configuration) (view : View) (world : WorldShape) (from to : HostId) :
    Type 0 where
  pub flight : Flight
  pub token : Token
  pub flying : world.flying ≡ only from to (flight ∷ [])
  pub message : flight.message ≡ message.Lgoto token
  pub host : token.host ≡ to
  pub top : top_token (entries_of view.chain) ≡ Some token
  pub none_out : view.out ≡ []
  pub count : view.naming.count ≡ length c.calls
  pub left : IsLeft split c view.keeper (chain_due split view.chain)

pub record IsHalted (split : Split) (c : Configuration) (view : View) (world : WorldShape) : Type 0 where
  pub state : HostState
  pub there : state_at world split.code.root ≡ Some state
  pub halted : state.halted ≡ true
  pub flying : world.flying ≡ nothing
  pub none_out : view.out ≡ []
  pub ends : IsAtEnd c

abbrev pub Stands : Split → Configuration → View → WorldShape → Holder → Type 0
Stands split c view world (runs holder) =
    IsChain split view.naming view.chain × IsRunning split c view world holder
Stands split c view world (asked holder owner) =
    IsChain split view.naming view.chain × IsAsked split c view world holder owner
Stands split c view world (answered holder owner) =
    IsChain split view.naming view.chain × IsAnswered split c view world holder owner
Stands split c view world (gives holder owner) =
    IsChain split view.naming view.chain × IsGiving split c view world holder owner
Stands split c view world (goes from to) =
    IsChain split view.naming view.chain × IsGoing split c view world from to
Stands split c view world (returns from to) =
    IsChain split view.naming view.chain × IsReturning split c view world from to
Stands split c view world halted = IsHalted split c view world

-- ---- how many events may still come before the next step

-- so many events are enough
abbrev pub IsFueled : (split : Split) (c : Configuration) (view : View) (world : WorldShape) (holder : Holder) →
    Stands split c view world holder → ℕ → Type 0
IsFueled split c view world (runs holder) stands fuel =
    weight_at split view.chain holder stands.1.thread.at ≤ fuel
IsFueled split c view world (asked holder owner) stands fuel =
    IsFueledRequest split view.chain holder stands.1.waits.thread.thread.at fuel stands.1.waits.flight.message
IsFueled split c view world (answered holder owner) stands fuel =
    weight_at split view.chain holder stands.1.waits.thread.thread.at + 1 ≤ fuel
IsFueled split c view world (gives holder owner) stands fuel =
    weight_at split view.chain holder stands.1.waits.thread.thread.at + 2 ≤ fuel + STEP
IsFueled split c view world (goes from to) stands fuel =
    weight_at split view.chain to stands.1.goes.there.at + 1 ≤ fuel
IsFueled split c view world (returns from to) stands fuel = 3 * (PACE + length view.chain) ≤ fuel + 1
IsFueled split c view world halted stands fuel = ⊤

-- ---- the world

-- nobody misbehaves, so nothing is affected, and no message was ignored
pub record IsOrderly (split : Split) (world : WorldShape) : Type 0 where
  pub unaffected : split.exposure.bad ≡ []
  pub count : length world.hosts ≡ length split.code.hosts
  pub none_bad : (host : HostId) → misbehaves world host ≡ false
  pub numbers : (host : HostId) (state : HostState) → state_at world host ≡ Some state → state.me ≡ host
  pub ignored : (host : HostId) (state : HostState) → state_at world host ≡ Some state → state.ignored ≡ 0

-- those on the stack of a host
abbrev pub on_stack : HostId → List Link → List StackEntry
on_stack host [] = []
on_stack host (link ∷ chain) =
    if link.entry.token.host.0 == host.0 then link.entry ∷ on_stack host chain else on_stack host chain

-- each host has its part of the chain on its stack
abbrev pub AreStacks : List Link → WorldShape → Type 0
AreStacks chain world =
    (host : HostId) (state : HostState) → state_at world host ≡ Some state → state.entries ≡ on_stack host chain

-- nothing runs or waits but on the holder
abbrev pub AreIdle : Holder → WorldShape → Type 0
AreIdle holder world =
    (host : HostId) (state : HostState) → state_at world host ≡ Some state → IsIdle holder host →
    (state.running ≡ None) × (state.waiting ≡ [])

-- no host has halted while the token is held
abbrev pub GoesOn : Holder → WorldShape → Type 0
GoesOn halted world = ⊤
GoesOn other world = (host : HostId) (state : HostState) → state_at world host ≡ Some state → state.halted ≡ false

pub record Simulates (split : Split) (c : Configuration) (world : WorldShape) : Type 0 where
  pub view : View
  pub holder : Holder
  pub orderly : IsOrderly split world
  pub stacks : AreStacks view.chain world
  pub idle : AreIdle holder world
  pub goes_on : GoesOn holder world
  pub holds : HostsHold split c view world
  pub stands : Stands split c view world holder
  pub fuel : ℕ
  pub fueled : Paced split → IsFueled split c view world holder stands fuel

-- fewer events than these are enough
pub record Falls (split : Split) (c : Configuration) (most : ℕ) (world : WorldShape) : Type 0 where
  pub now : Simulates split c world
  pub less : Paced split → now.fuel < most

-- the same configuration, or the next
abbrev pub Goes : Split → Configuration → ℕ → WorldShape → Type 0
Goes split c most world =
    Falls split c most world ⊎ ((now : Configuration) × Does split c now × Falls split now (most + STEP) world)
