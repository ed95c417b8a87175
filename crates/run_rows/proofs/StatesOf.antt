-- The states of a step's host before it and after it.
use Rattle.std.proofs.Common.{◌≡◌, ◌∙◌, ℕ, List, Option, Some, None, ap, sym, subst}
use Rattle.std.specs.Prelude.{IsSomeAnd, slice_get, slice_set}
use Rattle.js_base.specs.declared.ids.HostId.{HostId}
use Rattle.host_code.specs.Code.{CodeShape}
use Rattle.host_core.specs.Host.{HostState}
use Rattle.event_text.specs.declared.event.BadMessage.{BadMessage}
use Rattle.event_text.specs.declared.event.Event.{Event}
use Rattle.event_text.specs.declared.event.Event.TheVariants.{Take, Turn, Act}
use Rattle.net_world.specs.World.{WorldShape, IsStep, IsTakeStep, IsTurnStep, IsActStep, given, present}
use Rattle.net_world.specs.World.{state_at, mover}
use Rattle.net_world.proofs.Present.{at_set}
use Rattle.net_world.proofs.StepLaws.{take_puts, turn_puts, act_puts}

pub some_and : {X : Type 0} (found : Option X) (x : X) (P : X → Type 0) → found ≡ Some x → P x → IsSomeAnd found P
some_and {X} found x P is holds = subst (λ (o : Option X). IsSomeAnd o P) (sym is) holds

pub and_some : {X : Type 0} (found : Option X) (x : X) (P : X → Type 0) → found ≡ Some x → IsSomeAnd found P → P x
and_some {X} found x P is holds = subst (λ (o : Option X). IsSomeAnd o P) is holds

given_there : {X : Type 0} (there : Option (Option X)) (x : X) → given there ≡ Some x → there ≡ Some (Some x)
given_there None x is = absurd (cc)
given_there (Some there) x is = ap Some is

-- what was put in the place of a state stands there
put_there : {X : Type 0} (before after : List (Option X)) (host : HostId) (x y : X) → present before host ≡ Some x →
    after ≡ slice_set before host.0 (Some y) → present after host ≡ Some y
put_there {X} before after host x y was puts =
    ap (λ (hosts : List (Option X)). given (slice_get hosts host.0)) puts
    ∙ ap given (at_set before host.0 (Some y) (Some x) (given_there (slice_get before host.0) x was))

pub after_take : (code : CodeShape) (world next : WorldShape) (from to : HostId) (place : ℕ)
    (step : IsTakeStep code world from to place next) → state_at next to ≡ Some step.outcome.state
after_take code world next from to place step =
    put_there world.hosts next.hosts to step.state step.outcome.state step.obeys
    (take_puts code world next from to place step)

pub after_turn : (code : CodeShape) (world next : WorldShape) (host : HostId)
    (step : IsTurnStep code world host next) → state_at next host ≡ Some step.outcome.state
after_turn code world next host step =
    put_there world.hosts next.hosts host step.state step.outcome.state step.obeys
    (turn_puts code world next host step)

pub after_act : (code : CodeShape) (world next : WorldShape) (from to : HostId) (made : BadMessage)
    (step : IsActStep code world from to made next) → state_at next to ≡ Some step.outcome.state
after_act code world next from to made step =
    put_there world.hosts next.hosts to step.state step.outcome.state step.obeys
    (act_puts code world next from to made step)

-- the state of an event's host before it
pub moved_state : (code : CodeShape) (world next : WorldShape) (event : Event) → IsStep code world event next →
    (state : HostState) × (state_at world (mover event) ≡ Some state)
moved_state code world next (Take from to place) step = (step.state, step.obeys)
moved_state code world next (Turn host) step = (step.state, step.obeys)
moved_state code world next (Act from to made) step = (step.state, step.obeys)
