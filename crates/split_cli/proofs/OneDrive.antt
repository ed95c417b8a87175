-- Hosts that are driven are driven in one way.
use Rattle.std.proofs.Common.{◌≡◌, ℕ, zero, suc, ◌<◌, ◌≤◌, List, [], ◌∷◌, length, map, Some, None, refl, ap}
use Rattle.std.proofs.Common.{sym, subst, ◌∙◌, arith, ⊎_elim, inl, inr}
use Rattle.std.specs.Prelude.{◌⊎◌, ℤ}
use Rattle.std.proofs.lemmas.Bool.{cases_lt}
use Rattle.js_base.specs.declared.ids.HostId.{HostId}
use Rattle.js_base.specs.declared.status.Status.{Status}
use Rattle.event_text.specs.declared.event.Event.{Event}
use Rattle.event_text.specs.declared.event.Event.TheVariants.{Take, Turn, Act}
use Rattle.host_code.specs.Code.{CodeShape}
use Rattle.net_world.specs.Choice.{IsNextEvent, IsFirstRunning, IsFirstFrom, IsFirstFlying}
use Rattle.net_world.specs.World.{WorldShape, IsStep, IsRun}
use Rattle.script_stages.specs.FirstWorld.{first_world}
use Rattle.script_stages.proofs.OneScript.{OneStep}
use Rattle.split_cli.specs.Drive.{TellsDrive, DueForDriven}
use Rattle.front_end.specs.PlacedCode.{code_of}
use Rattle.simulation.specs.Driven.{IsDriven}
use Rattle.split_cli.specs.Driven.{DrivesTo, rested, spent}
use Rattle.front_end.specs.PlacedSources.{PlacedSource}
use Rattle.event_text.specs.Start.{program_form}
use Rattle.front_end.specs.Starting.{StartingValues}
use Rattle.front_end.specs.Verdicts.{VerdictShape, Print}
use Rattle.front_end.proofs.OneStart.{start_moved, start_once}
use Rattle.front_end.proofs.Stages.{one_due, due_moved}

-- ---- one event comes next

-- two hosts of which neither is before the other
pub same_host : (first second : HostId) → ¬ (first.0 < second.0) → ¬ (second.0 < first.0) → first ≡ second
same_host first second not_before not_after =
    let make : ℕ → HostId = λ k. record { 0 = k } in
    let same : first.0 ≡ second.0 =
    elim (cases_lt first.0 second.0) [
      | inl less ↦ absurd (not_before less)
      | inr past ↦ elim (cases_lt second.0 first.0) [
        | inl more ↦ absurd (not_after more)
        | inr also ↦ omega arith
      ]
    ] in
    ap make same

one_running : (world : WorldShape) (first second : HostId) → IsFirstRunning world first →
    IsFirstRunning world second → first ≡ second
one_running world first second one two =
    same_host first second (λ before. two.first first before one.runs) (λ after. one.first second after two.runs)

one_target : (world : WorldShape) (from first second : HostId) → IsFirstFrom world from first →
    IsFirstFrom world from second → first ≡ second
one_target world from first second one two =
    same_host first second (λ before. two.first first before one.flies) (λ after. one.first second after two.flies)

one_sender : (world : WorldShape) (from to other another : HostId) → IsFirstFlying world from to →
    IsFirstFlying world other another → from ≡ other
one_sender world from to other another one two =
    same_host from other (λ before. two.sender from before to one.target.flies)
    (λ after. one.sender other after another two.target.flies)

same_take : (from other to another : HostId) (place also : ℕ) → from ≡ other → to ≡ another → place ≡ also →
    Take from to place ≡ Take other another also
same_take from other to another place also senders targets places = cc

pub one_next : (world : WorldShape) (first second : Event) → IsNextEvent world (Some first) →
    IsNextEvent world (Some second) → first ≡ second
one_next world (Turn host) (Turn other) one two = ap Turn (one_running world host other one two)
one_next world (Turn host) (Take from to place) one two = absurd (two.0 host one.runs)
one_next world (Turn host) (Act from to made) one two = absurd two
one_next world (Take from to place) (Turn host) one two = absurd (one.0 host two.runs)
one_next world (Take from to place) (Take other another also) one two =
    let senders = one_sender world from to other another one.1 two.1 in
    let moved = subst (λ (sender : HostId). IsFirstFrom world sender another) (sym senders) two.1.target in
    same_take from other to another place also senders (one_target world from to another one.1.target moved)
    (one.2 ∙ sym two.2)
one_next world (Take from to place) (Act other another made) one two = absurd two
one_next world (Act from to made) second one two = absurd one

pub never_both : (world : WorldShape) (event : Event) → IsNextEvent world (Some event) → ¬ IsNextEvent world None
never_both world (Turn host) next rest = rest.0 host next.runs
never_both world (Take from to place) next rest = rest.1 from to next.1.target.flies
never_both world (Act from to made) next rest = next

-- ---- a drive is a run

pub driven_run : (code : CodeShape) (world after : WorldShape) (events : List Event) →
    IsDriven code world events after → IsRun code world events after
driven_run code world after [] made = made
driven_run code world after (event ∷ events) made =
    (made.1.0, made.1.1, driven_run code made.1.0 after events made.1.2)

-- ---- so one list of events is made

-- the same events, and the same world behind them
pub record AreOne (first second : List Event) (one two : WorldShape) : Type 0 where
  pub events : first ≡ second
  pub worlds : one ≡ two

-- how far a drive went: to rest, or as far as it may
abbrev pub IsAtEnd : WorldShape → ℕ → List Event → Type 0
IsAtEnd last most events = (length events ≤ most) × (IsNextEvent last None ⊎ (length events ≡ most))

shorter : (most : ℕ) (event : Event) (events : List Event) (last : WorldShape) →
    IsAtEnd last (suc most) (event ∷ events) → IsAtEnd last most events
shorter most event events last end =
    (omega (arith, end.0), ⊎_elim (λ rest. inl rest) (λ all. inr (omega (arith, all))) end.1)

-- a drive that ended with no event is over
over : (most : ℕ) (world last : WorldShape) (event : Event) (events : List Event) → IsAtEnd world most [] →
    IsNextEvent world (Some event) → ¬ IsAtEnd last most (event ∷ events)
over most world last event events ended next goes =
    ⊎_elim (λ rest. never_both world event next rest)
    (λ none. let more = goes.0 in let no : ⊥ = omega (arith, more, none) in no) ended.1

pub one_drive : OneStep → (code : CodeShape) (most : ℕ) (world one two : WorldShape) (first second : List Event) →
    IsDriven code world first one → IsDriven code world second two → IsAtEnd one most first →
    IsAtEnd two most second → AreOne first second one two
one_drive step code most world one two [] [] a b a_ends b_ends =
    record { events = refl; worlds = sym a ∙ b }
one_drive step code most world one two [] (event ∷ events) a b a_ends b_ends =
    absurd (over most world two event events
    (subst (λ (w : WorldShape). IsAtEnd w most []) (sym a) a_ends) b.0 b_ends)
one_drive step code most world one two (event ∷ events) [] a b a_ends b_ends =
    absurd (over most world one event events
    (subst (λ (w : WorldShape). IsAtEnd w most []) (sym b) b_ends) a.0 a_ends)
one_drive step code zero world one two (event ∷ events) (other ∷ others) a b a_ends b_ends =
    absurd (let few = a_ends.0 in omega (arith, few))
one_drive step code (suc most) world one two (event ∷ events) (other ∷ others) a b a_ends b_ends =
    let same : event ≡ other = one_next world event other a.0 b.0 in
    let also = subst (λ (e : Event). IsStep code world e b.1.0) (sym same) b.1.1 in
    let next : b.1.0 ≡ a.1.0 = step code world b.1.0 a.1.0 event also a.1.1 in
    let rest =
    one_drive step code most a.1.0 one two events others a.1.2
    (subst (λ (w : WorldShape). IsDriven code w others two) next b.1.2)
    (shorter most event events one a_ends) (shorter most other others two b_ends) in
    record {
      events = ap (λ (e : Event). e ∷ events) same ∙ ap (λ (es : List Event). other ∷ es) rest.events;
      worlds = rest.worlds;
    }

-- ---- and one status is told

-- what is known of the end of a drive
record Ended (code : CodeShape) (world : WorldShape) (most : ℕ) (events : List Event) (last : WorldShape) : Type 0 where
  driven : IsDriven code world events last
  end : IsAtEnd last most events

ended : (code : CodeShape) (world : WorldShape) (most : ℕ) (events : List Event) (last : WorldShape) (status : Status) →
    DrivesTo code world most events last status → Ended code world most events last
ended code world most events last _ (rested few is rest) = record { driven = is; end = (few, inl rest) }
ended code world most events last _ (spent next all is more) =
    record { driven = is; end = (omega (arith, all), inr all) }

one_status : (code : CodeShape) (world : WorldShape) (most : ℕ) (events : List Event) (last : WorldShape)
    (first second : Status) → DrivesTo code world most events last first → DrivesTo code world most events last second →
    first ≡ second
one_status code world most events last _ _ (rested few is rest) (rested also_few also also_rest) = refl
one_status code world most events last _ _ (rested few is rest) (spent next all also more) =
    absurd (never_both last next more rest)
one_status code world most events last _ _ (spent next all is more) (rested few also rest) =
    absurd (never_both last next more rest)
one_status code world most events last _ _ (spent next all is more) (spent other also_all also also_more) = refl

same_report : (text : ℕ → WorldShape → List ℕ) (first second : List Event) (one two : WorldShape)
    (status other : Status) → first ≡ second → one ≡ two → status ≡ other →
    Print status (text (length first) one) ≡ Print other (text (length second) two)
same_report text first second one two status other events worlds statuses =
    ap (λ (s : Status). Print s (text (length first) one)) statuses
    ∙ ap (λ (es : List Event). Print other (text (length es) one)) events
    ∙ ap (λ (w : WorldShape). Print other (text (length second) w)) worlds

report_once : OneStep → (text : CodeShape → ℕ → WorldShape → List ℕ) (placed : PlacedSource) (values : List (List ℤ))
    (most : ℕ) (first second : VerdictShape) → TellsDrive text placed values most first →
    TellsDrive text placed values most second → first ≡ second
report_once step text placed values most first second one two =
    let code = code_of placed in
    let world = first_world placed 0 values in
    let a = ended code world most one.events one.last one.status one.ends in
    let b = ended code world most two.events two.last two.status two.ends in
    let same =
    one_drive step code most world one.last two.last one.events two.events a.driven b.driven a.end b.end in
    let moved =
    subst (λ (es : List Event). DrivesTo code world most es two.last two.status) (sym same.events) two.ends in
    let there =
    subst (λ (w : WorldShape). DrivesTo code world most one.events w two.status) (sym same.worlds) moved in
    let status = one_status code world most one.events one.last one.status two.status one.ends there in
    one.verdict_is
    ∙ same_report (text code) one.events two.events one.last two.last one.status two.status same.events same.worlds
    status
    ∙ sym two.verdict_is

-- ---- what is due

pub drive_once : OneStep → (text : CodeShape → ℕ → WorldShape → List ℕ) (file start : List ℕ) (most : ℕ)
    (placed : PlacedSource) (first second : VerdictShape) → DueForDriven text file start most placed first →
    DueForDriven text file start most placed second → first ≡ second
drive_once step text file start most placed first second one two =
    let program = one.0 in
    let report : List (List ℤ) → VerdictShape → Type 0 = λ values. TellsDrive text placed values most in
    one_due (StartingValues file start (map program_form program.fields.items)) report first second
    (start_once file start (map program_form program.fields.items))
    (λ values was. report_once step text placed values most first second) one.2
    (due_moved (StartingValues file start (map program_form two.0.fields.items)) (StartingValues file start (map program_form program.fields.items)) report
    report second (λ end. start_moved file start program two.0 end (one.1 ∙ sym two.1)) (λ values is. is) two.2)
