-- Driven worlds: one event more, and how a drive ends.
use Rattle.std.proofs.Common.{◌≡◌, ℕ, ◌+◌, ◌≤◌, List, [], ◌∷◌, ◌++◌, length}
use Rattle.std.proofs.Common.{Some, None, refl, ap, sym, subst, ◌∙◌, arith}
use Rattle.std.proofs.lemmas.List.{length-append}
use Rattle.js_base.specs.declared.ids.HostId.{HostId}
use Rattle.js_base.specs.declared.status.Status.{Status}
use Rattle.js_base.specs.declared.status.Status.TheVariants.{Done}
use Rattle.event_text.specs.declared.event.Event.{Event}
use Rattle.host_code.specs.Code.{CodeShape}
use Rattle.net_world.specs.World.{WorldShape, AllObey, IsStep, misbehaves}
use Rattle.net_world.specs.Fits.{WorldModel, WorldFits, world_of}
use Rattle.net_world.specs.Steps.{HaveMade}
use Rattle.net_world.specs.Choice.{IsNextEvent}
use Rattle.simulation.specs.Driven.{IsDriven}
use Rattle.split_cli.specs.Driven.{rested, spent, LeavesWith, at_rest, unended, HasDriven}

-- ---- one event more

pub driven_more : (code : CodeShape) (world middle after : WorldShape) (events : List Event) (event : Event) →
    IsDriven code world events middle → IsNextEvent middle (Some event) → IsStep code middle event after →
    IsDriven code world (events ++ event ∷ []) after
driven_more code world middle after [] event driven next step =
    subst (λ (w : WorldShape). IsDriven code w (event ∷ []) after) (sym driven) (next, (after, step, refl))
driven_more code world middle after (first ∷ events) event driven next step =
    (driven.0, (driven.1.0, driven.1.1, driven_more code driven.1.0 middle after events event driven.1.2 next step))

-- ---- hosts that all obey

-- what is known of steps
abbrev pub KeepsObeying : Type 0
KeepsObeying = (code : CodeShape) (world after : WorldShape) (event : Event) (host : HostId) →
    IsStep code world event after → misbehaves after host ≡ misbehaves world host

pub obey_after : KeepsObeying → (code : CodeShape) (world after : WorldShape) (event : Event) →
    IsStep code world event after → AllObey world → AllObey after
obey_after keeps code world after event step obey host = keeps code world after event host step ∙ obey host

-- ---- the loop

-- so many events were made, each the one that comes next
pub record HasGone (code : CodeShape) (first : WorldShape) (made : ℕ) (world : WorldModel) : Type 0 where
  pub events : List Event
  pub count : length events ≡ made
  pub driven : IsDriven code first events (world_of world)
  pub fits : WorldFits code world
  pub obey : AllObey (world_of world)
  pub fresh : HaveMade made world.hosts

pub gone_on : KeepsObeying → (code : CodeShape) (first : WorldShape) (made : ℕ) (world after : WorldModel)
    (event : Event) → HasGone code first made world →
    IsNextEvent (world_of world) (Some event) → IsStep code (world_of world) event (world_of after) →
    WorldFits code after → HaveMade (made + 1) after.hosts → HasGone code first (made + 1) after
gone_on keeps code first made world after event gone next step fits fresh = record {
  events = gone.events ++ event ∷ [];
  count = length-append gone.events (event ∷ []) ∙ ap (λ (n : ℕ). n + 1) gone.count;
  driven = driven_more code first (world_of world) (world_of after) gone.events event gone.driven next step;
  fits = fits;
  obey = obey_after keeps code (world_of world) (world_of after) event step gone.obey;
  fresh = fresh;
}

-- a drive that came to rest
pub rest_at : (code : CodeShape) (first : WorldShape) (most made : ℕ) (world : WorldModel) →
    HasGone code first made world → made ≤ most → IsNextEvent (world_of world) None →
    HasDriven code first most (world_of world) (record { made = made; status = Done })
rest_at code first most made world gone few rest = record {
  events = gone.events;
  made = gone.count;
  ends = rested (omega (arith, few, gone.count)) gone.driven rest;
}

-- a drive that went as far as it may
pub ended_at : (code : CodeShape) (first : WorldShape) (most : ℕ) (world : WorldModel) (status : Status) →
    HasGone code first most world → LeavesWith (world_of world) status →
    HasDriven code first most (world_of world) (record { made = most; status = status })
ended_at code first most world _ gone (at_rest rest) = rest_at code first most most world gone (omega arith) rest
ended_at code first most world _ gone (unended next more) =
    record { events = gone.events; made = gone.count; ends = spent next gone.count gone.driven more }
