-- What is made where the owner of a request takes it, where a host takes the token with what rides, and where the
-- thread that waits takes the answer, seen from the host that takes.
use Rattle.std.specs.Prelude.{◌≡◌, ℕ, ◌+◌, ◌<◌, [], Some}
use Rattle.js_base.specs.declared.ids.HostId.{HostId}
use Rattle.jif_tree.specs.SourceRun.{Configuration}
use Rattle.host_code.specs.declared.code.Entry.{Entry}
use Rattle.host_code.specs.declared.message.Message.{Message}
use Rattle.host_code.specs.Thread.{ThreadShape, WaitingShape}
use Rattle.host_core.specs.Host.{HostState, Outcome, without_message, with_message, thread_at}
use Rattle.host_core.specs.Taking.{after_answer}
use Rattle.net_world.specs.World.{WorldShape, state_at}
use Rattle.split_rules.specs.Handing.{Arrival}
use Rattle.typed_steps.specs.Values.{HoldsNumbers}
use Rattle.typed_steps.specs.Views.{Split, View, with_out}
use Rattle.typed_steps.specs.Chains.{IsChain}
use Rattle.typed_steps.specs.Threads.{IsAt}
use Rattle.typed_steps.specs.Variables.{HasWhatIsOwed, HostsHold}
use Rattle.typed_steps.specs.Requests.{Does, IsAnswerTo}
use Rattle.typed_steps.specs.Turns.{HostsStillHold, Grows, IsLeftAlone}
use Rattle.typed_steps.specs.Weights.{Paced, STEP, weight_at}

-- a host of a state has what there is of a configuration
pub record IsOwner (split : Split) (c : Configuration) (view : View) (world : WorldShape) (owner : HostId)
    (old : HostState) : Type 0 where
  pub there : state_at world owner ≡ Some old
  pub me : old.me ≡ owner
  pub numbers : HoldsNumbers split.exposure old
  pub is_chain : IsChain split view.naming view.chain
  pub holds : HostsHold split c view world

-- The owner of a request has answered. Where so many events were enough before, one less is after it.
pub record AnswersRequest (split : Split) (view : View) (world : WorldShape) (holder owner : HostId)
    (waiting : WaitingShape) (old : HostState) (enough : ℕ → Type 0) (now : Configuration) (more : ℕ)
    (outcome : Outcome) : Type 0 where
  pub seen : View
  pub new : HostState
  pub answer : Message
  pub is : with_message new holder answer ≡ outcome
  pub steady : IsLeftAlone old new
  pub running : new.running ≡ old.running
  pub grown : Grows owner view.chain seen.chain old.entries new.entries
  pub is_chain : IsChain split seen.naming seen.chain
  pub sent : (state : HostState) → HasWhatIsOwed split view state holder → HasWhatIsOwed split seen state holder
  pub ready : IsAnswerTo split now seen holder waiting answer
  pub keeps : HostsStillHold split now seen world owner new
  pub pace : Paced split → (fuel : ℕ) → enough fuel →
      weight_at split seen.chain holder waiting.thread.at + 1 < fuel + more

pub data Answered (split : Split) (c : Configuration) (view : View) (world : WorldShape) (holder owner : HostId)
    (waiting : WaitingShape) (old : HostState) (enough : ℕ → Type 0) (outcome : Outcome) : Type 0 where
  answers : AnswersRequest split view world holder owner waiting old enough c 0 outcome →
      Answered split c view world holder owner waiting old enough outcome
  steps : (now : Configuration) → Does split c now →
      AnswersRequest split view world holder owner waiting old enough now STEP outcome →
      Answered split c view world holder owner waiting old enough outcome

-- The host to which the token goes has what rode with it, and its thread starts. Nothing is still to be sent.
pub record TokenArrives (split : Split) (c : Configuration) (view : View) (world : WorldShape) (to : HostId)
    (old : HostState) (there : Entry) (arrival : Arrival) (outcome : Outcome) : Type 0 where
  pub new : HostState
  pub is : without_message new ≡ outcome
  pub running : new.running ≡ Some (thread_at there arrival.frame arrival.token)
  pub steady : IsLeftAlone old new
  pub entries : new.entries ≡ old.entries
  pub keeps : HostsStillHold split c (with_out view []) world to new

-- The thread that waits at a place goes on as it is after the answer.
pub record Resumes (split : Split) (c : Configuration) (view : View) (holder : HostId) (waiting : WaitingShape)
    (state : HostState) (place : ℕ) (outcome : Outcome) : Type 0 where
  pub change : ThreadShape → ThreadShape
  pub is : without_message (after_answer state (Some place) change) ≡ outcome
  pub at : IsAt split c view holder (change waiting.thread)
  pub stays : (change waiting.thread).at ≡ waiting.thread.at
