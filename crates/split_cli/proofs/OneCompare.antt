-- Two scripts are compared in one way.
use Rattle.std.proofs.Common.{◌≡◌, ◌∙◌, ℕ, zero, suc, ◌<◌, ℤ, List, [], ◌∷◌, ◌++◌, take, Option, Some, None}
use Rattle.std.proofs.Common.{slice_get, refl, sym, ap, subst, ⊎_elim, arith}
use Rattle.std.specs.Prelude.{⊤}
use Rattle.event_text.specs.declared.event.Event.{Event}
use Rattle.event_text.specs.Script.{ScriptShape}
use Rattle.host_code.specs.Code.{CodeShape, CodeFieldShape}
use Rattle.net_world.specs.Told.{SentMessage}
use Rattle.net_world.specs.World.{WorldShape, EventRefusal}
use Rattle.net_world.specs.Released.{OneIsFront}
use Rattle.run_comparison.specs.Compare.{DifferAt, IsFirstUnlike, Premise, holds}
use Rattle.run_comparison.specs.Compare.{fails, SameMisbehave, SameStarts, GoApart, SameEvents, IsPromptRun, Compared}
use Rattle.run_comparison.specs.Compare.{agree}
use Rattle.run_comparison.specs.Compare.{differ, differ_text, ScriptFollowed, DueForRuns, DueForReadScripts}
use Rattle.run_comparison.specs.Compare.{DueForCompare}
use Rattle.script_stages.specs.FirstWorld.{first_world}
use Rattle.front_end.specs.PlacedCode.{code_of, program_of}
use Rattle.split_rules.specs.Releases.{ReleasesShape, releases_of}
use Rattle.run_comparison.specs.Followed.{Followed, IsTraceKept, hidden, prompt, untimely, IsFollowed, EventsFollowed}
use Rattle.run_comparison.specs.Followed.{followed}
use Rattle.run_comparison.specs.Followed.{FollowedRun, refused}
use Rattle.run_comparison.specs.ReleaseLines.{release_lines}
use Rattle.front_end.specs.PlacedSources.{PlacedSource}
use Rattle.releasing_statements.specs.Releases.{first_release}
use Rattle.net_world.specs.Replay.{events_in}
use Rattle.script_stages.specs.Scripts.{event_refused, ScriptRead}
use Rattle.front_end.specs.Stages.{DueThen}
use Rattle.front_end.specs.Verdicts.{VerdictShape, Print, starts_differ, events_differ, not_prompt}
use Rattle.js_base.specs.declared.status.Status.TheVariants.{Differ}
use Rattle.net_world.proofs.ReleasedValues.{released_once}
use Rattle.run_comparison.proofs.FollowedEvents.{followed_ran}
use Rattle.script_stages.proofs.OneScript.{StepLaws, refused_once, ran_or_refused, script_once}
use Rattle.front_end.proofs.Places.{same_place, same_here}
use Rattle.front_end.proofs.Stages.{IsOne, give, stop_with, one_due}

-- ---- lists

get_in_front : {X : Type 0} (front rest : List X) (place : ℕ) (x : X) → slice_get front place ≡ Some x →
    slice_get (front ++ rest) place ≡ Some x
get_in_front [] rest place x there = absurd (let no : ⊥ = cc in no)
get_in_front (first ∷ front) rest zero x there = there
get_in_front (first ∷ front) rest (suc place) x there = get_in_front front rest place x there

get_in_take : {X : Type 0} (xs : List X) (place count : ℕ) → place < count →
    slice_get (take count xs) place ≡ slice_get xs place
get_in_take [] place zero before = absurd (omega arith)
get_in_take [] place (suc count) before = refl
get_in_take (x ∷ xs) place zero before = absurd (omega arith)
get_in_take (x ∷ xs) zero (suc count) before = refl
get_in_take (x ∷ xs) (suc place) (suc count) before = get_in_take xs place count (omega arith)

one_value : {X : Type 0} (found : Option X) (x y : X) → found ≡ Some x → found ≡ Some y → x ≡ y
one_value found x y one two = let both : Some x ≡ Some y = sym one ∙ two in cc

-- lists that differ at a place are not alike
pub differ_not_alike : {X : Type 0} (one other : List X) (place : ℕ) → DifferAt one other place → ¬ OneIsFront one other
differ_not_alike {X} one other place apart alike =
    ⊎_elim
    (λ front. apart.differ (one_value (slice_get other place) apart.first apart.second
    (ap (λ (xs : List X). slice_get xs place) front.1
    ∙ get_in_front one front.0 place apart.first apart.first_there) apart.second_there))
    (λ front. apart.differ (one_value (slice_get one place) apart.first apart.second apart.first_there
    (ap (λ (xs : List X). slice_get xs place) front.1
    ∙ get_in_front other front.0 place apart.second apart.second_there)))
    alike

-- they are equal before the first place at which they differ
not_earlier : {X : Type 0} (one other : List X) (place later : ℕ) → DifferAt one other place →
    DifferAt one other later →
    ¬ (place < later)
not_earlier {X} one other place later apart also before =
    apart.differ (one_value (slice_get one place) apart.first apart.second apart.first_there
    (sym (get_in_take one place later before) ∙ ap (λ (xs : List X). slice_get xs place) also.same
    ∙ get_in_take other place later before ∙ apart.second_there))

one_difference : {X : Type 0} (one other : List X) (place also : ℕ) → DifferAt one other place →
    DifferAt one other also →
    place ≡ also
one_difference one other place also apart too =
    same_place place also (not_earlier one other place also apart too) (not_earlier one other also place too apart)

-- ---- runs

kept_once : (code : CodeShape) (world : WorldShape) (event : ℕ × Event) (rest one two : Followed) →
    IsTraceKept code world event rest one → IsTraceKept code world event rest two → one ≡ two
kept_once code world event rest _ _ (hidden is) (hidden also) = refl
kept_once code world event rest _ _ (hidden is) (prompt not quiet) = absurd (not is)
kept_once code world event rest _ _ (hidden is) (untimely not loud) = absurd (not is)
kept_once code world event rest _ _ (prompt not quiet) (hidden is) = absurd (not is)
kept_once code world event rest _ _ (prompt not quiet) (prompt also too) = refl
kept_once code world event rest _ _ (prompt not quiet) (untimely also loud) = absurd (loud quiet)
kept_once code world event rest _ _ (untimely not loud) (hidden is) = absurd (not is)
kept_once code world event rest _ _ (untimely not loud) (prompt also quiet) = absurd (loud quiet)
kept_once code world event rest _ _ (untimely not loud) (untimely also too) = refl

followed_once : StepLaws → (code : CodeShape) (world : WorldShape) (said : List (ℕ × Event)) (one two : Followed) →
    IsFollowed code world said one → IsFollowed code world said two → one ≡ two
followed_once laws code world [] one two is also = is ∙ sym also
followed_once laws code world (event ∷ said) one two (next, rest, step, follows, kept) (other, more, goes, also, too) =
    let same : other ≡ next = laws.one code world other next event.1 goes step in
    let rests : more ≡ rest = followed_once laws code next said more rest
    (subst (λ (w : WorldShape). IsFollowed code w said more) same also) follows in
    kept_once code world event rest one two kept
    (subst (λ (r : Followed). IsTraceKept code world event r two) rests too)

runs_once : StepLaws → (file : List ℕ) (code : CodeShape) (table : ReleasesShape) (world : WorldShape)
    (said : List (ℕ × Event)) → IsOne (EventsFollowed file code table world said)
runs_once laws file code table world said _ _ (followed one is values) (followed other also values_too) =
    let run = followed_ran code world said one.run is in
    let runs = followed_once laws code world said one.run other.run is also in
    let released =
    released_once code table world one.run.last (events_in said) one.released other.released run values values_too in
    ap (λ (it : Followed). give (record { run = it; released = one.released })) runs
    ∙ ap (λ (all : List ℤ). give (record { run = other.run; released = all })) released
runs_once laws file code table world said _ _ (followed it is values) (refused at why stops) =
    absurd (ran_or_refused laws code world it.run.last said at why (followed_ran code world said it.run is) stops)
runs_once laws file code table world said _ _ (refused at why stops) (followed it is values) =
    absurd (ran_or_refused laws code world it.run.last said at why (followed_ran code world said it.run is) stops)
runs_once laws file code table world said _ _ (refused at why stops) (refused other also too) =
    let one = refused_once laws code world said at other why also stops too in
    ap (λ (it : ℕ × Event). stop_with {X = FollowedRun} (event_refused file it why)) one.places
    ∙ ap (λ (cause : EventRefusal). stop_with {X = FollowedRun} (event_refused file other cause)) one.causes

-- ---- premises

premise_once : (Holds : Type 0) (Fails : VerdictShape → Type 0) →
    ((verdict : VerdictShape) → Holds → ¬ Fails verdict) →
    ((first second : VerdictShape) → Fails first → Fails second → first ≡ second) → IsOne (Premise Holds Fails)
premise_once Holds Fails never one _ _ (holds is) (holds also) = refl
premise_once Holds Fails never one _ _ (holds is) (fails verdict not) = absurd (never verdict is not)
premise_once Holds Fails never one _ _ (fails verdict not) (holds is) = absurd (never verdict is not)
premise_once Holds Fails never one _ _ (fails first not) (fails second also) =
    ap (λ (verdict : VerdictShape). stop_with {X = ⊤} verdict) (one first second not also)

misbehave_once : (one other : ScriptShape) → IsOne (SameMisbehave one other)
misbehave_once one other =
    premise_once _ _ (λ verdict same not. not.0 same) (λ first second not also. not.1 ∙ sym also.1)

first_unlike_once : (code : CodeShape) (world : WorldShape) (one other : List (List ℤ)) (number also : ℕ)
    (field too : CodeFieldShape) → IsFirstUnlike code world one other number field →
    IsFirstUnlike code world one other also too → field ≡ too
first_unlike_once code world one other number also field too first second =
    same_here code.fields number also field too
    (same_place number also (λ before. second.before number before first.unlike)
    (λ before. first.before also before second.unlike)) first.there second.there

starts_once : (placed : PlacedSource) (one other : ScriptShape) → IsOne (SameStarts placed one other)
starts_once placed one other =
    let code = code_of placed in
    let world = first_world placed one.bad one.start in
    premise_once _ _ (λ verdict alike not. alike not.0 not.2.unlike)
    (λ first second not also. not.3
    ∙ ap (λ (field : CodeFieldShape). starts_differ field.name)
    (first_unlike_once code world one.start other.start not.0 also.0 not.1 also.1 not.2 also.2)
    ∙ sym also.3)

apart_once : (one other : List (ℕ × Event)) (line also : ℕ) → GoApart one other line → GoApart one other also →
    line ≡ also
apart_once one other line also first second =
    let place = one_difference (events_in one) (events_in other) first.place second.place first.apart second.apart in
    ap (λ (it : ℕ × Event). it.0)
    (same_here one first.place second.place (line, first.event) (also, second.event) place first.there second.there)

events_once : (file : List ℕ) (one other : Followed) → IsOne (SameEvents file one other)
events_once file one other =
    premise_once _ _
    (λ verdict alike not. differ_not_alike (events_in one.seen) (events_in other.seen) not.1.place not.1.apart alike)
    (λ first second not also. not.2
    ∙ ap (events_differ file) (apart_once one.seen other.seen not.0 also.0 not.1 also.1) ∙ sym also.2)

prompt_once : (file : List ℕ) (run : Followed) → IsOne (IsPromptRun file run)
prompt_once file run =
    premise_once _ _ (λ verdict none not. let no : None ≡ Some not.0 = sym none ∙ not.1 in cc)
    (λ first second not also. not.2
    ∙ ap (not_prompt file) (one_value run.late not.0 also.0 not.1 also.1) ∙ sym also.2)

-- ---- what is due

compared_once : (placed : PlacedSource) (one other : List SentMessage) (released released_too : List ℤ)
    (first second : VerdictShape) → Compared placed one other released released_too first →
    Compared placed one other released released_too second → first ≡ second
compared_once placed one other released released_too _ _ (agree alike) (agree also) = refl
compared_once placed one other released released_too _ _ (agree alike) (differ place apart) =
    absurd (differ_not_alike one other place apart alike)
compared_once placed one other released released_too _ _ (differ place apart) (agree alike) =
    absurd (differ_not_alike one other place apart alike)
compared_once placed one other released released_too _ _ (differ place apart) (differ also too) =
    ap (λ (at : ℕ). Print Differ
    (differ_text at (first_release placed.source.tree) ++ release_lines released released_too))
    (one_difference one other place also apart too)

runs_due_once : (placed : PlacedSource) (file : List ℕ) (said : ScriptShape) (run : FollowedRun) (other : List ℕ)
    (said_too : ScriptShape) (run_too : FollowedRun) (first second : VerdictShape) →
    DueForRuns placed file said run other said_too run_too first →
    DueForRuns placed file said run other said_too run_too second → first ≡ second
runs_due_once placed file said run other said_too run_too first second =
    let Sent : ⊤ → VerdictShape → Type 0 =
    λ _. Compared placed run.run.last.sent run_too.run.last.sent run.released run_too.released in
    let Later : ⊤ → VerdictShape → Type 0 = λ _. DueThen (IsPromptRun other run_too.run) Sent in
    let Prompt : ⊤ → VerdictShape → Type 0 = λ _. DueThen (IsPromptRun file run.run) Later in
    let Happens : ⊤ → VerdictShape → Type 0 = λ _. DueThen (SameEvents file run.run run_too.run) Prompt in
    let Starts : ⊤ → VerdictShape → Type 0 = λ _. DueThen (SameStarts placed said said_too) Happens in
    one_due (SameMisbehave said said_too) Starts first second (misbehave_once said said_too) (λ _ _.
    one_due (SameStarts placed said said_too) Happens first second (starts_once placed said said_too) (λ _ _.
    one_due (SameEvents file run.run run_too.run) Prompt first second (events_once file run.run run_too.run) (λ _ _.
    one_due (IsPromptRun file run.run) Later first second (prompt_once file run.run) (λ _ _.
    one_due (IsPromptRun other run_too.run) Sent first second (prompt_once other run_too.run) (λ _ _.
    compared_once placed run.run.last.sent run_too.run.last.sent run.released run_too.released first second)))))

said_due_once : StepLaws → (placed : PlacedSource) (file : List ℕ) (said : ScriptShape) (other : List ℕ)
    (said_too : ScriptShape) (first second : VerdictShape) → DueForReadScripts placed file said other said_too first →
    DueForReadScripts placed file said other said_too second → first ≡ second
said_due_once laws placed file said other said_too first second =
    let code = code_of placed in
    let table = releases_of (program_of placed) in
    let world = first_world placed said.bad said.start in
    let world_too = first_world placed said_too.bad said_too.start in
    let Runs : FollowedRun → FollowedRun → VerdictShape → Type 0 =
    λ run run_too. DueForRuns placed file said run other said_too run_too in
    let Follows : FollowedRun → VerdictShape → Type 0 =
    λ run. DueThen (ScriptFollowed placed other said_too) (Runs run) in
    one_due (ScriptFollowed placed file said) Follows first second
    (runs_once laws file code table world said.events) (λ run _.
    one_due (ScriptFollowed placed other said_too) (Runs run) first second
    (runs_once laws other code table world_too said_too.events)
    (λ run_too _. runs_due_once placed file said run other said_too run_too first second))

pub compare_once : StepLaws → (file script other script_too : List ℕ) (placed : PlacedSource)
    (first second : VerdictShape) → DueForCompare file script other script_too placed first →
    DueForCompare file script other script_too placed second → first ≡ second
compare_once laws file script other script_too placed first second one two =
    let code = code_of placed in
    let Said : ScriptShape → ScriptShape → VerdictShape → Type 0 =
    λ said said_too. DueForReadScripts placed file said other said_too in
    let Second : ScriptShape → VerdictShape → Type 0 = λ said. DueThen (ScriptRead other script_too code) (Said said) in
    one_due (ScriptRead file script code) Second first second (script_once file script code)
    (λ said _. one_due (ScriptRead other script_too code) (Said said) first second (script_once other script_too code)
    (λ said_too _. said_due_once laws placed file said other said_too first second)) one.2 two.2
