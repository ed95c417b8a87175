-- For two scripts of a program in its places something is due, whatever they hold.
use Rattle.std.proofs.Common.{◌≡◌, ◌≢◌, ◌∙◌, ◌⊎◌, ℕ, suc, ℤ, pos, negsuc, List, [], ◌∷◌, ◌++◌, length, Option}
use Rattle.std.proofs.Common.{Some, None, Ok, slice_get, inl, inr, refl, sym, ap, ⊎_elim, arith}
use Rattle.std.specs.Prelude.{All, IsSome, IsSomeAnd}
use Rattle.std.specs.Option.{option_map}
use Rattle.std.proofs.lemmas.Bool.{cases_eq}
use Rattle.std.proofs.lemmas.Option.{slice_get-map, slice_get_within}
use Rattle.js_base.proofs.Decisions.{Decided, never, both, as_well}
use Rattle.js_base.specs.declared.status.Status.TheVariants.{Done, Differ}
use Rattle.jif_tree.specs.Trees.{program_tree}
use Rattle.event_text.specs.declared.event.Event.{Event}
use Rattle.event_text.specs.OwnTokens.{IsOwnEvent}
use Rattle.event_text.specs.Script.{ScriptShape, script_of}
use Rattle.entry_check.proofs.Decisions.{some_and}
use Rattle.host_code.specs.Code.{CodeShape, CodeFieldShape}
use Rattle.host_code.specs.Sound.{IsSoundCode}
use Rattle.net_world.specs.Fits.{ShapeFits, HasOwnToken}
use Rattle.net_world.specs.Secret.{IsReadable, IsSecret, IsQuiet}
use Rattle.net_world.specs.Told.{SentMessage}
use Rattle.net_world.specs.World.{WorldShape, IsStep, state_at}
use Rattle.net_world.specs.Released.{OneIsFront}
use Rattle.split_rules.specs.Releases.{ReleasesShape, releases_of}
use Rattle.run_comparison.specs.Compare.{DifferAt, StartsUnlike, Premise, holds, fails, ScriptFollowed}
use Rattle.run_comparison.specs.Compare.{SameMisbehave, SameStarts, SameEvents, IsPromptRun, Compared, agree, differ}
use Rattle.run_comparison.specs.Compare.{agree_text, differ_text, DueForRuns, DueForScripts, DueForCompare}
use Rattle.script_stages.specs.FirstWorld.{first_world}
use Rattle.front_end.specs.PlacedCode.{code_of, program_of}
use Rattle.run_comparison.specs.Followed.{Followed, FollowedRun, IsTraceKept, hidden, prompt, untimely, EventsFollowed}
use Rattle.run_comparison.specs.Followed.{followed, refused}
use Rattle.run_comparison.specs.ReleaseLines.{release_lines}
use Rattle.front_end.specs.PlacedSources.{PlacedSource, PlacedSources}
use Rattle.releasing_statements.specs.Releases.{first_release}
use Rattle.net_world.specs.Replay.{events_in}
use Rattle.script_stages.specs.Scripts.{event_refused, ScriptRead, read}
use Rattle.front_end.specs.Stages.{given, stopped}
use Rattle.front_end.specs.Verdicts.{VerdictShape, Print, bad_differ, starts_differ, events_differ, not_prompt}
use Rattle.net_world.proofs.ReleasedValues.{some_released, released_first}
use Rattle.script_stages.proofs.ScriptReads.{code_hosts}
use Rattle.split_cli.proofs.DriveEnds.{StepCauses}
use Rattle.split_cli.proofs.FirstHosts.{first_number_or_none}
use Rattle.front_end.proofs.NativeParts.{IsSeen}
use Rattle.script_stages.proofs.ScriptReads.{OwnAtStart, own_in_first}
use Rattle.run_comparison.proofs.SameMessages.{same_event, same_option, same_sent}
use Rattle.split_cli.proofs.SomeDrive.{CodeLaws, sound_code}
use Rattle.script_stages.proofs.SomeScript.{SomeScript, script_some}
use Rattle.front_end.proofs.SomeStages.{HasOutcome, HasVerdict, some_due}

-- what is known of events, of what misbehaving hosts may see, and of what they present
pub record CompareCauses : Type 0 where
  pub steps : StepCauses
  pub readable : (code : CodeShape) (world : WorldShape) (label : ℕ) → Decided (IsReadable code world label)
  pub secret : (code : CodeShape) (world : WorldShape) (event : Event) → Decided (IsSecret code world event)
  pub quiet : (code : CodeShape) (world : WorldShape) → ShapeFits code world → Decided (IsQuiet code world)
  pub said_own : (code : CodeShape) (bytes : List ℕ) (said : ScriptShape) → script_of code bytes ≡ Ok said →
      All (λ one. IsOwnEvent code.hosts said.bad one.1) said.events
  pub own_at_start : OwnAtStart
  pub own : (code : CodeShape) (world after : WorldShape) (made event : Event) → IsStep code world made after →
      HasOwnToken world event → HasOwnToken after event

-- ---- runs

some_kept : (code : CodeShape) (world : WorldShape) (one : ℕ × Event) (rest : Followed) →
    Decided (IsSecret code world one.1) → Decided (IsQuiet code world) →
    (run : Followed) × IsTraceKept code world one rest run
some_kept code world one rest (inl is) quiet = (rest, hidden is)
some_kept code world one rest (inr not) (inl is) =
    (record { seen = one ∷ rest.seen; late = rest.late; last = rest.last }, prompt not is)
some_kept code world one rest (inr not) (inr loud) =
    (record { seen = one ∷ rest.seen; late = Some one.0; last = rest.last }, untimely not loud)

-- one event before the others
follow_first : (file : List ℕ) (code : CodeShape) (table : ReleasesShape) (world next : WorldShape) (one : ℕ × Event)
    (said : List (ℕ × Event)) → IsStep code world one.1 next →
    Decided (IsSecret code world one.1) → Decided (IsQuiet code world) →
    HasOutcome (EventsFollowed file code table next said) →
    HasOutcome (EventsFollowed file code table world (one ∷ said))
follow_first file code table world next one said step secret quiet (_, followed rest is values) =
    let kept = some_kept code world one rest.run secret quiet in
    let own = some_released code table world one.1 secret in
    let it : FollowedRun = record { run = kept.0; released = own.0 ++ rest.released } in (
      given it,
      followed it (next, rest.run, step, is, kept.1)
          (released_first code table world next one.1 (events_in said) own.0 rest.released step own.1 values),
    )
follow_first file code table world next one said step secret quiet (_, refused at why stops) =
    (stopped (event_refused file at why), refused at why (inr (next, step, stops)))

follow_some : CompareCauses → (file : List ℕ) (code : CodeShape) (table : ReleasesShape) → IsSoundCode code →
    (said : List (ℕ × Event)) (world : WorldShape) → ShapeFits code world →
    All (λ one. HasOwnToken world one.1) said → HasOutcome (EventsFollowed file code table world said)
follow_some laws file code table sound [] world fits own =
    let it : FollowedRun = record { run = record { seen = []; late = None; last = world }; released = [] } in
    (given it, followed it refl refl)
follow_some laws file code table sound (one ∷ said) world fits own =
    ⊎_elim
    (λ step. follow_first file code table world step.0 one said step.1 (laws.secret code world one.1)
    (laws.quiet code world fits)
    (follow_some laws file code table sound said step.0
    (laws.steps.fits code world step.0 one.1 sound fits (own 0 one (omega arith)) step.1)
    (λ k d lt. laws.own code world step.0 one.1 _ step.1 (own (suc k) d (omega arith)))))
    (λ why. (stopped (event_refused file one why.0), refused one why.0 (inl (refl, why.1))))
    (laws.steps.some code world one.1)

-- ---- lists

alike_or_differ : {X : Type 0} → ((x y : X) → Decided (x ≡ y)) → (one other : List X) →
    OneIsFront one other ⊎ ((place : ℕ) × DifferAt one other place)
alike_or_differ each [] other = inl (inl (other, refl))
alike_or_differ each (x ∷ one) [] = inl (inr (x ∷ one, refl))
alike_or_differ each (x ∷ one) (y ∷ other) = elim (each x y) [
  | inl same ↦ elim (alike_or_differ each one other) [
    | inl alike ↦ inl (⊎_elim (λ front. inl (front.0, cc)) (λ front. inr (front.0, cc)) alike)
    | inr (place, apart) ↦ inr (
      suc place,
      record {
        same = cc;
        first = apart.first;
        second = apart.second;
        first_there = apart.first_there;
        second_there = apart.second_there;
        differ = apart.differ;
      },
    )
  ]
  | inr not ↦ inr (
    0,
    record { same = refl; first = x; second = y; first_there = refl; second_there = refl; differ = not },
  )
]

pub same_list : {X : Type 0} → ((x y : X) → Decided (x ≡ y)) → (xs ys : List X) → Decided (xs ≡ ys)
same_list each [] [] = inl refl
same_list each [] (y ∷ ys) = inr (λ is. cc)
same_list each (x ∷ xs) [] = inr (λ is. cc)
same_list each (x ∷ xs) (y ∷ ys) =
    as_well ((x ≡ y) × (xs ≡ ys)) (x ∷ xs ≡ y ∷ ys) (λ same. cc)
    (λ is. (let first : x ≡ y = cc in first, let rest : xs ≡ ys = cc in rest))
    (both _ _ (each x y) (same_list each xs ys))

pub same_int : (x y : ℤ) → Decided (x ≡ y)
same_int (pos m) (pos n) = as_well (m ≡ n) (pos m ≡ pos n) (ap pos) (λ is. let same : m ≡ n = cc in same) (cases_eq m n)
same_int (pos m) (negsuc n) = inr (λ is. cc)
same_int (negsuc m) (pos n) = inr (λ is. cc)
same_int (negsuc m) (negsuc n) =
    as_well (m ≡ n) (negsuc m ≡ negsuc n) (ap negsuc) (λ is. let same : m ≡ n = cc in same) (cases_eq m n)

-- ---- premises

premise_some : (Holds : Type 0) (Fails : VerdictShape → Type 0) → Holds ⊎ ((verdict : VerdictShape) × Fails verdict) →
    HasOutcome (Premise Holds Fails)
premise_some Holds Fails (inl is) = (given tt, holds is)
premise_some Holds Fails (inr not) = (stopped not.0, fails not.0 not.1)

misbehave_some : (one other : ScriptShape) → HasOutcome (SameMisbehave one other)
misbehave_some one other =
    premise_some _ _
    (⊎_elim (λ same. inl same) (λ apart. inr (bad_differ, (apart, refl))) (cases_eq one.bad other.bad))

is_some : {X : Type 0} (found : Option X) → Decided (IsSome found)
is_some None = inr (λ there. cc)
is_some (Some x) = inl refl

unlike : CompareCauses → (code : CodeShape) (world : WorldShape) (one other : List (List ℤ)) (number : ℕ) →
    Decided (StartsUnlike code world one other number)
unlike laws code world one other number =
    let Differs : Type 0 = slice_get one number ≢ slice_get other number in
    some_and _
    (λ (field : CodeFieldShape).
    let Readable : Type 0 = IsReadable code world field.label in
    let Stands : Type 0 = IsSome (state_at world field.host) in
    as_well (Readable × (Stands × Differs)) (Readable × Stands × Differs) (λ it. (it.0, it.1.0, it.1.1))
    (λ it. (it.0, (it.1, it.2)))
    (both _ _ (laws.readable code world field.label)
    (both _ _ (is_some (state_at world field.host))
    (never _ (same_option (same_list same_int) (slice_get one number) (slice_get other number))))))
    (slice_get code.fields number)

field_within : (code : CodeShape) (P : CodeFieldShape → Type 0) (number : ℕ) →
    IsSomeAnd (slice_get code.fields number) P →
    (field : CodeFieldShape) × (slice_get code.fields number ≡ Some field)
field_within code P number some = by (slice_get code.fields number) refl some
  where
    by : (found : Option CodeFieldShape) → slice_get code.fields number ≡ found → IsSomeAnd found P →
        (field : CodeFieldShape) × (slice_get code.fields number ≡ Some field)
    by None is none = absurd none
    by (Some field) is so = (field, is)

starts_some : CompareCauses → (placed : PlacedSource) (one other : ScriptShape) →
    HasOutcome (SameStarts placed one other)
starts_some laws placed one other =
    let code = code_of placed in
    let world = first_world placed one.bad one.start in
    let Unlike : ℕ → Type 0 = StartsUnlike code world one.start other.start in
    premise_some _ _
    (⊎_elim
    (λ found. let there = field_within code _ found.0 found.1.holds in
    inr (
      starts_differ there.0.name,
      (
        found.0,
        there.0,
        record { there = there.1; unlike = found.1.holds; before = found.1.first },
        refl,
      ),
    ))
    (λ none. inl none)
    (first_number_or_none Unlike (unlike laws code world one.start other.start) (length code.fields)
    (λ number some. let there = field_within code _ number some in
    slice_get_within code.fields number there.0 there.1)))

-- the line of an event
line_of : (said : List (ℕ × Event)) (place : ℕ) (event : Event) → slice_get (events_in said) place ≡ Some event →
    (line : ℕ) × (slice_get said place ≡ Some (line, event))
line_of said place event there =
    by (slice_get said place) refl (sym (slice_get-map (λ (one : ℕ × Event). one.1) said place) ∙ there)
  where
    by : (found : Option (ℕ × Event)) → slice_get said place ≡ found →
        option_map (λ (one : ℕ × Event). one.1) found ≡ Some event →
        (line : ℕ) × (slice_get said place ≡ Some (line, event))
    by None is none = absurd (let no : ⊥ = cc in no)
    by (Some one) is same =
        let events : one.1 ≡ event = cc in
        (one.0, is ∙ ap (λ (it : Event). Some (one.0, it)) events)

events_some : (file : List ℕ) (one other : Followed) → HasOutcome (SameEvents file one other)
events_some file one other =
    premise_some _ _
    (⊎_elim (λ alike. inl alike)
    (λ apart. let line = line_of one.seen apart.0 apart.1.first apart.1.first_there in
    inr (
      events_differ file line.0,
      (line.0, record { place = apart.0; event = apart.1.first; apart = apart.1; there = line.1 }, refl),
    ))
    (alike_or_differ same_event (events_in one.seen) (events_in other.seen)))

prompt_some : (file : List ℕ) (run : Followed) → HasOutcome (IsPromptRun file run)
prompt_some file run =
    premise_some (run.late ≡ None)
    (λ verdict. (line : ℕ) × (run.late ≡ Some line) × (verdict ≡ not_prompt file line)) (by run.late refl)
  where
    by : (late : Option ℕ) → run.late ≡ late →
        (run.late ≡ None)
        ⊎ ((verdict : VerdictShape) × ((line : ℕ) × (run.late ≡ Some line) × (verdict ≡ not_prompt file line)))
    by None is = inl is
    by (Some line) is = inr (not_prompt file line, (line, is, refl))

-- ---- what is due

compared_some : (placed : PlacedSource) (one other : List SentMessage) (released released_too : List ℤ) →
    HasVerdict (Compared placed one other released released_too)
compared_some placed one other released released_too =
    let lines = release_lines released released_too in
    ⊎_elim (λ alike. (Print Done (agree_text one other ++ lines), agree alike))
    (λ apart. (
      Print Differ (differ_text apart.0 (first_release placed.source.tree) ++ lines),
      differ apart.0 apart.1,
    ))
    (alike_or_differ same_sent one other)

runs_due : CompareCauses → (placed : PlacedSource) (file : List ℕ) (said : ScriptShape) (run : FollowedRun)
    (other : List ℕ) (said_too : ScriptShape) (run_too : FollowedRun) →
    HasVerdict (DueForRuns placed file said run other said_too run_too)
runs_due laws placed file said run other said_too run_too =
    some_due (SameMisbehave said said_too) _ (misbehave_some said said_too) (λ _ _.
    some_due (SameStarts placed said said_too) _ (starts_some laws placed said said_too) (λ _ _.
    some_due (SameEvents file run.run run_too.run) _ (events_some file run.run run_too.run) (λ _ _.
    some_due (IsPromptRun file run.run) _ (prompt_some file run.run) (λ _ _.
    some_due (IsPromptRun other run_too.run) _ (prompt_some other run_too.run) (λ _ _.
    compared_some placed run.run.last.sent run_too.run.last.sent run.released run_too.released)))))

-- a script that was read is followed
script_followed : CompareCauses → CodeLaws → (placed : PlacedSource) → IsSoundCode (code_of placed) →
    (file script : List ℕ) (said : ScriptShape) → ScriptRead file script (code_of placed) (given said) →
    HasOutcome (ScriptFollowed placed file said)
script_followed laws code_laws placed sound file script _ (read said short is) =
    let code = code_of placed in
    let rows = placed.source.file.hosts in
    let are = code_hosts placed code refl in
    follow_some laws file code (releases_of (program_of placed)) sound said.events
    (first_world placed said.bad said.start)
    (code_laws.start code rows said.bad said.start sound are)
    (own_in_first laws.own_at_start code rows said.bad said.start said (first_world placed said.bad said.start)
    said.events are refl refl refl (laws.said_own code script said is))

pub compare_some : CompareCauses → CodeLaws → SomeScript → (program hosts : List ℕ) (placed : PlacedSource) →
    PlacedSources program hosts (given placed) → (file script other script_too : List ℕ) →
    IsSeen program_tree placed.source.tree → HasVerdict (DueForCompare file script other script_too placed)
compare_some laws code_laws scripts program hosts placed accepted file script other script_too seen =
    let code = code_of placed in
    let sound = sound_code code_laws program hosts placed accepted in
    let due : HasVerdict (DueForScripts file script other script_too placed) =
    some_due (ScriptRead file script code) _ (script_some scripts file script code) (λ said was.
    some_due (ScriptRead other script_too code) _ (script_some scripts other script_too code) (λ said_too was_too.
    some_due (ScriptFollowed placed file said) _
    (script_followed laws code_laws placed sound file script said was) (λ run _.
    some_due (ScriptFollowed placed other said_too) _
    (script_followed laws code_laws placed sound other script_too said_too was_too) (λ run_too _.
    runs_due laws placed file said run other said_too run_too)))) in
    (due.0, (seen.0, seen.1, due.1))
