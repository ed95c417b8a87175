-- How a world where some hosts misbehave stands for a configuration of an altered run, while the chain of entries
-- stands and misbehaving hosts were sent none of its tokens.
use Rattle.std.specs.Prelude.{◌≡◌, ⊤, ◌⊎◌, ℤ, [], Some, IsSomeAnd}
use Rattle.js_base.specs.declared.ids.HostId.{HostId}
use Rattle.jif_tree.specs.Altered.{MayStep}
use Rattle.jif_tree.specs.Numbers.{IsNumber}
use Rattle.jif_tree.specs.SourceRun.{Configuration, IsAtEnd}
use Rattle.capability.specs.declared.token.Token.{Token}
use Rattle.ics_stack.specs.Stack.{top_token}
use Rattle.host_code.specs.declared.message.Message.{Message}
use Rattle.host_code.specs.declared.message.Message.TheVariants as message
use Rattle.host_code.specs.Thread.{WaitingShape, Awaited}
use Rattle.host_code.specs.Thread.Awaited.{value_of_field, acknowledgement, token_of_entry}
use Rattle.entry_check.specs.declared.ask.Ask.TheVariants as ask
use Rattle.entry_check.specs.Checks.{May}
use Rattle.host_core.specs.Host.{with_temporary}
use Rattle.net_world.specs.World.{WorldShape, state_at, has_halted}
use Rattle.typed_steps.specs.Views.{Split, View, entries_of}
use Rattle.typed_steps.specs.Chains.{IsChain}
use Rattle.typed_steps.specs.Threads.{IsAt}
use Rattle.typed_steps.specs.Variables.{HasWhatIsOwed, HostsHold}
use Rattle.typed_steps.specs.Requests.{IsRequest, IsAnswerTo, GivesResult, GoesTo, GivesUp}
use Rattle.integrity.specs.Holding.{Holder, runs, asked, answered, stuck, passes, lost, halted, IsTight}
use Rattle.integrity.specs.Outside.{Threat}

-- a split program with what misbehaving hosts may affect there
abbrev pub threat_in : Split → Threat
threat_in split =
    record { planned = split.planned; code = split.code; table = split.table; exposure = split.exposure }

-- ---- what the holder is to do

-- A message gives a result back to the call that made this one.
abbrev pub IsResultGiven : Split → Configuration → View → HostId → WaitingShape → Message → Type 0
IsResultGiven split c view host waiting (message.Forward request frame x value) =
    (waiting.awaited ≡ acknowledgement) × (waiting.request ≡ request)
    × May split.code waiting.asked (ask.Forward x) host
    × GivesResult split c view host waiting.thread frame x value waiting.asked
IsResultGiven split c view host waiting other = ⊥

-- whatever number a misbehaving host answers, the thread goes on with it
abbrev pub GoesOnWhatever : Split → Configuration → View → HostId → WaitingShape → Awaited → Type 0
GoesOnWhatever split c view host waiting value_of_field =
    (value : ℤ) → IsNumber value → IsAt split c view host (with_temporary value waiting.thread)
GoesOnWhatever split c view host waiting acknowledgement = IsAt split c view host waiting.thread
GoesOnWhatever split c view host waiting token_of_entry = ⊥

-- the token goes back to the host that gave it
pub record GoesBack (split : Split) (c : Configuration) (view : View) (to : HostId) (token : Token) : Type 0 where
  pub host : token.host ≡ to
  pub top : top_token (entries_of view.chain) ≡ Some token
  pub gives_up : GivesUp split c view

-- it goes to an entry, with all that is still to be sent, or it goes back
abbrev pub IsPassing : Split → Configuration → View → HostId → HostId → Message → Type 0
IsPassing split c view from to (message.Rgoto frame entry token) =
    GoesTo split c view from to (record { frame = frame; entry = entry; token = token; riders = [] })
IsPassing split c view from to (message.RgotoWith frame entry token riders) =
    GoesTo split c view from to (record { frame = frame; entry = entry; token = token; riders = riders })
IsPassing split c view from to (message.Lgoto token) = GoesBack split c view to token
IsPassing split c view from to other = ⊥

abbrev pub HolderDoes : Split → Configuration → View → Holder → Type 0
HolderDoes split c view (runs host thread) = IsChain split view.naming view.chain × IsAt split c view host thread
HolderDoes split c view (asked host waiting m) =
    IsChain split view.naming view.chain
    × (IsRequest split c view host waiting.asked waiting m ⊎ IsResultGiven split c view host waiting m)
HolderDoes split c view (answered host waiting m) =
    IsChain split view.naming view.chain × IsAnswerTo split c view host waiting m
HolderDoes split c view (stuck host waiting) =
    IsChain split view.naming view.chain × GoesOnWhatever split c view host waiting waiting.awaited
HolderDoes split c view (passes from to m) = IsChain split view.naming view.chain × IsPassing split c view from to m
HolderDoes split c view lost = IsChain split view.naming view.chain × GivesUp split c view
HolderDoes split c view halted = (view.chain ≡ []) × (view.out ≡ []) × IsAtEnd c

-- whoever acts has the variables that are still to be sent
abbrev pub HasSends : Split → View → WorldShape → HostId → Type 0
HasSends split view world host = IsSomeAnd (state_at world host) (λ state. HasWhatIsOwed split view state host)

abbrev pub HolderSends : Split → View → WorldShape → Holder → Type 0
HolderSends split view world (runs host thread) = HasSends split view world host
HolderSends split view world (asked host waiting m) = HasSends split view world host
HolderSends split view world (answered host waiting m) = HasSends split view world host
HolderSends split view world (stuck host waiting) = HasSends split view world host
HolderSends split view world other = ⊤

-- ---- the world

-- The world stands for a configuration by what is seen of it and by whoever holds the token.
pub record StandsBy (split : Split) (c : Configuration) (view : View) (holder : Holder) (world : WorldShape) : Type 0
  where
    pub tight : IsTight (threat_in split) (entries_of view.chain) holder world
    pub holds : HostsHold split c view world
    pub sends : HolderSends split view world holder
    pub does : HolderDoes split c view holder
    pub halts : has_halted split.code.root world → holder ≡ halted

-- the holder waits for no misbehaving host
abbrev pub IsFree : Holder → Type 0
IsFree (stuck host waiting) = ⊥
IsFree other = ⊤

-- It stands for the same configuration by others, or for one that a step leads to.
pub data Goes (split : Split) (c : Configuration) (after : WorldShape) : Type 0 where
  stays : (view : View) (holder : Holder) → IsFree holder → StandsBy split c view holder after → Goes split c after
  steps : (now : Configuration) (view : View) (holder : Holder) → IsFree holder →
      MayStep split.program split.exposure c c.pending now → StandsBy split now view holder after → Goes split c after

-- A step was made, which sets a field of a misbehaving host, and the thread waits for that host.
pub record SetsThere (split : Split) (c : Configuration) (view : View) (host : HostId) (after : WorldShape) : Type 0
  where
    pub now : Configuration
    pub does : MayStep split.program split.exposure c c.pending now
    pub waiting : WaitingShape
    pub stands : StandsBy split now view (stuck host waiting) after

-- The thread waits for a misbehaving host, and the world stands for the same configuration, or for one that a step
-- leads to.
pub data Stalls (split : Split) (c : Configuration) (host : HostId) (after : WorldShape) : Type 0 where
  waits : (view : View) (waiting : WaitingShape) → StandsBy split c view (stuck host waiting) after →
      Stalls split c host after
  waits_behind : (now : Configuration) (view : View) (waiting : WaitingShape) →
      MayStep split.program split.exposure c c.pending now → StandsBy split now view (stuck host waiting) after →
      Stalls split c host after
