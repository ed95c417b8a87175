-- A script ends in one way.
use Rattle.std.proofs.Common.{◌≡◌, ℕ, List, [], ◌∷◌, ap, sym, subst, ◌∙◌}
use Rattle.js_base.specs.declared.status.Status.TheVariants.{Done}
use Rattle.event_text.specs.declared.event.Event.{Event}
use Rattle.host_code.specs.Code.{CodeShape}
use Rattle.net_world.specs.World.{WorldShape, IsRun, EventRefusal}
use Rattle.script_stages.specs.FirstWorld.{first_world}
use Rattle.front_end.specs.PlacedCode.{code_of}
use Rattle.front_end.specs.PlacedSources.{PlacedSource}
use Rattle.net_world.specs.Replay.{events_in}
use Rattle.script_stages.specs.Scripts.{event_refused, EventsHappen, happened, refused}
use Rattle.split_cli.specs.Replay.{replay_text}
use Rattle.script_stages.specs.Scripts.{ScriptRead}
use Rattle.split_cli.specs.Replay.{DueForEvents, DueForReplay}
use Rattle.front_end.specs.Verdicts.{VerdictShape, Print}
use Rattle.script_stages.proofs.OneScript.{OneStep, StepLaws, ran_or_refused, refused_once, script_once}
use Rattle.front_end.proofs.Stages.{IsOne, give, stop_with, one_due}

ran_once : OneStep → (code : CodeShape) (world one two : WorldShape) (events : List Event) →
    IsRun code world events one → IsRun code world events two → one ≡ two
ran_once step code world one two [] a b = sym a ∙ b
ran_once step code world one two (event ∷ events) a b =
    ran_once step code a.0 one two events a.2
    (subst (λ (w : WorldShape). IsRun code w events two) (sym (step code world a.0 b.0 event a.1 b.1)) b.2)

-- ---- what is due

events_once : StepLaws → (file : List ℕ) (code : CodeShape) (world : WorldShape) (said : List (ℕ × Event)) →
    IsOne (EventsHappen file code world said)
events_once laws file code world said _ _ (happened last ran) (happened other also) =
    ap give (ran_once laws.one code world last other (events_in said) ran also)
events_once laws file code world said _ _ (happened last ran) (refused at why stops) =
    absurd (ran_or_refused laws code world last said at why ran stops)
events_once laws file code world said _ _ (refused at why stops) (happened last ran) =
    absurd (ran_or_refused laws code world last said at why ran stops)
events_once laws file code world said _ _ (refused at why stops) (refused other also too) =
    let one = refused_once laws code world said at other why also stops too in
    ap (λ (it : ℕ × Event). stop_with {X = WorldShape} (event_refused file it why)) one.places
    ∙ ap (λ (cause : EventRefusal). stop_with {X = WorldShape} (event_refused file other cause)) one.causes

verdict_for_events_once : StepLaws → (file : List ℕ) (code : CodeShape) (world : WorldShape) (said : List (ℕ × Event))
    (first second : VerdictShape) → DueForEvents file code world said first →
    DueForEvents file code world said second → first ≡ second
verdict_for_events_once laws file code world said first second =
    one_due (EventsHappen file code world said) (λ last verdict. verdict ≡ Print Done (replay_text code last)) first
    second (events_once laws file code world said) (λ last happens one two. one ∙ sym two)

pub replay_once : StepLaws → (file script : List ℕ) (placed : PlacedSource) (first second : VerdictShape) →
    DueForReplay file script placed first → DueForReplay file script placed second → first ≡ second
replay_once laws file script placed first second one two =
    one_due (ScriptRead file script (code_of placed))
    (λ said. DueForEvents file (code_of placed) (first_world placed said.bad said.start) said.events) first second
    (script_once file script (code_of placed))
    (λ said was. verdict_for_events_once laws file (code_of placed) (first_world placed said.bad said.start) said.events
    first second) one.2 two.2
