-- Secret events lead to the same view.
use Rattle.std.proofs.Common.{◌≡◌, ℕ, ℤ, List, [], ◌∷◌, ◌++◌, inl, inr, subst}
use Rattle.host_decl.specs.Hosts as declared_hosts
use Rattle.event_text.specs.declared.event.Event.{Event}
use Rattle.event_text.specs.declared.event.Event.TheVariants.{Take, Turn, Act}
use Rattle.net_world.specs.Fits.{HasOwnToken}
use Rattle.net_world.specs.Secret.{IsSecret, IsSeenRun}
use Rattle.net_world.specs.World.{WorldShape, IsStep, world_at_start}
use Rattle.net_world.proofs.Shapes.{shape_step}
use Rattle.token_laws.specs.Reached.{IsReached}
use Rattle.token_laws.proofs.Walks.{fits_there, one_more}
use Rattle.seen_world.specs.Eyes.{Eyes, AreEyes, Watches}
use Rattle.seen_world.proofs.PointsKept.{points_kept}
use Rattle.agreement.specs.Leads.{Leads, Agree}
use Rattle.agreement.specs.Views.{LowView}
use Rattle.agreement.proofs.HiddenTakes.{take_leads}
use Rattle.agreement.proofs.HiddenTurns.{turn_leads}

pub event_leads : (eyes : Eyes) (rows : List declared_hosts.HostShape) (bad : ℕ) (store : List (List ℤ))
    (events : List Event) (world after : WorldShape) (event : Event) (shown : LowView) → AreEyes eyes →
    Watches eyes (world_at_start eyes.code rows bad store) → IsReached eyes.code rows bad store events world →
    IsStep eyes.code world event after → IsSecret eyes.code world event → Leads eyes world shown →
    Leads eyes after shown
event_leads eyes rows bad store events world after (Take from to place) shown are watch reach step secret leads =
    let points = points_kept eyes rows bad store events world are watch reach in
    take_leads eyes world after from to place shown are reach.sound points.0
    (fits_there eyes.code rows bad store events world reach) points.1 step secret leads
event_leads eyes rows bad store events world after (Turn host) shown are watch reach step secret leads =
    let points = points_kept eyes rows bad store events world are watch reach in
    let fits = fits_there eyes.code rows bad store events world reach in
    turn_leads eyes world after host shown are reach.sound points.0 fits
    (shape_step eyes.code world after (Turn host) reach.sound fits tt step) points.1.hosts step secret leads
event_leads eyes rows bad store events world after (Act from to made) shown are watch reach step secret leads =
    absurd secret

-- a secret event presents no token
pub secret_own : (eyes : Eyes) (world start : WorldShape) (event : Event) → IsSecret eyes.code world event →
    HasOwnToken start event
secret_own eyes world start (Take from to place) secret = tt
secret_own eyes world start (Turn host) secret = tt
secret_own eyes world start (Act from to made) secret = absurd secret

pub no_event : {A : Type 0} (event : Event) (others : List Event) → [] ≡ event ∷ others → A
no_event event others is = absurd (cc)

pub run_leads : (eyes : Eyes) (rows : List declared_hosts.HostShape) (bad : ℕ) (store : List (List ℤ))
    (events : List Event) (world : WorldShape) (later : List Event) (after : WorldShape) (shown : LowView) →
    AreEyes eyes → Watches eyes (world_at_start eyes.code rows bad store) →
    IsReached eyes.code rows bad store events world → IsSeenRun eyes.code world later [] after →
    Leads eyes world shown → Leads eyes after shown
run_leads eyes rows bad store events world [] after shown are watch reach ran leads =
    subst (λ (w : WorldShape). Leads eyes w shown) ran.1 leads
run_leads eyes rows bad store events world (event ∷ later) after shown are watch reach (next, step, inl secret) leads =
    run_leads eyes rows bad store (events ++ event ∷ []) next later after shown are watch
    (one_more eyes.code rows bad store events world next event reach
    (secret_own eyes world (world_at_start eyes.code rows bad store) event secret.0) step) secret.1
    (event_leads eyes rows bad store events world next event shown are watch reach step secret.0 leads)
run_leads eyes rows bad store events world (event ∷ later) after shown are watch reach (next, step, inr seen) leads =
    no_event event seen.1.0 seen.1.1

-- so a world goes on agreeing with another
pub run_agrees : (eyes : Eyes) (rows : List declared_hosts.HostShape) (bad : ℕ) (store : List (List ℤ))
    (events : List Event) (world : WorldShape) (later : List Event) (after other : WorldShape) → AreEyes eyes →
    Watches eyes (world_at_start eyes.code rows bad store) → IsReached eyes.code rows bad store events world →
    IsSeenRun eyes.code world later [] after → Agree eyes world other → Agree eyes after other
run_agrees eyes rows bad store events world later after other are watch reach ran agree = record {
  shown = agree.shown;
  first = run_leads eyes rows bad store events world later after agree.shown are watch reach ran agree.first;
  second = agree.second;
}
