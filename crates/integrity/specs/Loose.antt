-- A world where misbehaving hosts may have been handed the token of the first entry of the chain. Until that is given
-- back nothing that goes on is the program's.
use Rattle.std.specs.Prelude.{⊤, List, [], ◌∷◌, IsSomeAnd}
use Rattle.std.specs.List.{AllByRecursion}
use Rattle.jif_tree.specs.Altered.{Altered}
use Rattle.jif_tree.specs.SourceRun.{Configuration}
use Rattle.ics_stack.specs.declared.stack.StackEntry.{StackEntry}
use Rattle.net_world.specs.World.{WorldShape, state_at, has_halted}
use Rattle.token_laws.specs.Holders.{IsTokenSent}
use Rattle.typed_steps.specs.Chains.{IsChain}
use Rattle.typed_steps.specs.Requests.{GivesUp}
use Rattle.typed_steps.specs.Variables.{HostsHold}
use Rattle.typed_steps.specs.Views.{Split, View, entries_of}
use Rattle.integrity.specs.Holding.{IsAmong, Holder, lost, AreLinked, IsOutsideBut}
use Rattle.integrity.specs.Outside.{Threat}
use Rattle.integrity.specs.Standing.{threat_in, IsFree, StandsBy}

-- ---- the chain

-- Misbehaving hosts were sent the token of no entry but the first.
abbrev pub AreUnsentBelow : WorldShape → List StackEntry → Type 0
AreUnsentBelow world [] = ⊤
AreUnsentBelow world (first ∷ below) = AllByRecursion (λ on_stack. ¬ IsTokenSent world on_stack.token) below

-- Each entry is on the stack of the host that its token names. The token of the first may be anywhere. All else is
-- outside.
pub record IsLoose (threat : Threat) (chain : List StackEntry) (world : WorldShape) : Type 0 where
  pub linked : AreLinked chain
  pub there : AllByRecursion (λ on_stack. IsSomeAnd (state_at world on_stack.token.host)
      (λ state. IsAmong state.entries on_stack)) chain
  pub unsent : AreUnsentBelow world chain
  pub outside : IsOutsideBut threat chain lost world

-- ---- the world

-- The world stands for a configuration in which what is left to do is due behind the chain.
pub record StandsLoosely (split : Split) (c : Configuration) (view : View) (world : WorldShape) : Type 0 where
  pub loose : IsLoose (threat_in split) (entries_of view.chain) world
  pub chain : IsChain split view.naming view.chain
  pub holds : HostsHold split c view world
  pub gives_up : GivesUp split c view
  pub goes_on : ¬ has_halted split.code.root world

-- ---- what an event makes of it

-- The token of the first entry was handed over, and what was due before that is left out.
pub record Loosens (split : Split) (c : Configuration) (after : WorldShape) : Type 0 where
  pub now : Configuration
  pub more : List Configuration
  pub altered : Altered split.program split.exposure c more now
  pub view : View
  pub stands : StandsLoosely split now view after

-- The world stands for the same configuration: the token is still to be given back, or it was, and the thread of the
-- first entry goes on, or the program is at its end.
pub data Recovers (split : Split) (c : Configuration) (after : WorldShape) : Type 0 where
  waits : (view : View) → StandsLoosely split c view after → Recovers split c after
  goes_on : (view : View) (holder : Holder) → IsFree holder → StandsBy split c view holder after →
      Recovers split c after
