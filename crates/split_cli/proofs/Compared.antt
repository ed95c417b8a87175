-- From what is due for two scripts to what misbehaving hosts are told by them.
use Rattle.std.proofs.Common.{◌≡◌, ◌∙◌, ℕ, List, [], ◌∷◌, ◌++◌, Ok, None, get_or, refl, sym, ap, subst, inl, inr}
use Rattle.std.proofs.Common.{⊎_elim}
use Rattle.std.specs.Prelude.{ℤ, ⊤, Option, All}
use Rattle.std.proofs.lemmas.List.Elements.{All-map}
use Rattle.js_base.specs.declared.status.Status.{Status}
use Rattle.js_base.specs.declared.status.Status.TheVariants.{Done, Differ}
use Rattle.jif_tree.specs.declared.program.Program.{Program}
use Rattle.event_text.specs.declared.event.Event.{Event}
use Rattle.event_text.specs.OwnTokens.{IsOwnEvent}
use Rattle.event_text.specs.Script.{ScriptShape, script_of}
use Rattle.host_code.specs.Code.{CodeShape}
use Rattle.host_code.specs.Sound.{IsSoundCode}
use Rattle.net_world.specs.Fits.{HasOwnToken}
use Rattle.net_world.specs.Released.{IsListFront, OneIsFront, AreReleased}
use Rattle.net_world.specs.Secret.{IsSeenRun, IsPrompt}
use Rattle.net_world.specs.Told.{SentMessage}
use Rattle.net_world.specs.World.{WorldShape, world_at_start, not_bad, not_there, host_busy, no_such_token}
use Rattle.split_rules.specs.Placed.{PlacedProgram}
use Rattle.split_rules.specs.Allowed.{IsAllowed}
use Rattle.split_rules.specs.Held.{IsWellHeld}
use Rattle.split_rules.specs.Releases.{ReleasesShape, releases_of}
use Rattle.split_rules.specs.SplitCode.{split_code}
use Rattle.split_rules.specs.Splittable.{IsSplittable}
use Rattle.split_shades.specs.Flows.{AreResultsLabelled}
use Rattle.split_shades.specs.Sites.{ReleasesNothing}
use Rattle.agreement.specs.Alike.{AreStoresAlike}
use Rattle.front_end.specs.PlacedCode.{code_of, program_of}
use Rattle.front_end.specs.PlacedSources.{PlacedSource, PlacedSources}
use Rattle.front_end.specs.Stages.{StageEnd, given, stopped, DueThen}
use Rattle.front_end.specs.Verdicts.{VerdictShape, Print}
use Rattle.split_words.specs.Commands.{Compare, words_of}
use Rattle.run_comparison.specs.Compare.{StartAlike, holds, fails, SameMisbehave, SameStarts, SameEvents}
use Rattle.run_comparison.specs.Compare.{IsPromptRun, Compared, agree, differ}
use Rattle.run_comparison.specs.Compare.{ScriptFollowed, DueForRuns, DueForReadScripts, DueForCompare}
use Rattle.split_cli.specs.Due.{Due}
use Rattle.script_stages.specs.FirstWorld.{first_world}
use Rattle.split_cli.specs.Headline.{IsPlacedAs, IsPrivate, OfFourFiles}
use Rattle.run_comparison.specs.Followed.{Followed, FollowedRun, IsFollowed, EventsFollowed, followed, refused}
use Rattle.net_world.specs.Replay.{events_in}
use Rattle.script_stages.specs.Scripts.{ScriptRead}
use Rattle.split_cli.proofs.AlikeStarts.{alike_stores, alike_swapped}
use Rattle.script_stages.proofs.ScriptReads.{code_hosts}
use Rattle.split_cli.proofs.Faithful.{AllLaws, Says, refused_says, placed_says, IsRead, script_says, played}
use Rattle.split_cli.proofs.Faithful.{SaysOfBytes, OnlyTwo, four_due}
use Rattle.split_cli.proofs.OneCompare.{differ_not_alike}
use Rattle.script_stages.proofs.OneScript.{OneStep}
use Rattle.net_world.proofs.ReleasedValues.{released_once}
use Rattle.run_comparison.proofs.FollowedEvents.{followed_ran}
use Rattle.split_cli.proofs.PromptRuns.{followed_runs, followed_seen, all_seen, followed_prompt}
use Rattle.split_cli.proofs.SetSources.{set_there, results_there}

-- ---- what is known of two runs

-- two runs tell misbehaving hosts the same, of which the values that one releases go on as those of the other
abbrev pub ToldAlikeLaw : Type 0
ToldAlikeLaw = (placed : PlacedProgram) (bad : ℕ) (store start : List (List ℤ)) (events others seen more : List Event)
    (one other : WorldShape) (values values_too : List ℤ) →
    let code = split_code placed in
    let table = releases_of placed in
    let first = world_at_start code placed.hosts.hosts bad store in
    let second = world_at_start code placed.hosts.hosts bad start in
    IsSplittable placed → IsAllowed placed → IsWellHeld placed → AreResultsLabelled placed.labelled.program →
    AreStoresAlike code first store start → AreReleased code table first events values →
    AreReleased code table second others values_too → OneIsFront values values_too → All (HasOwnToken first) seen →
    IsSeenRun code first events (seen ++ more) one → IsSeenRun code second others seen other →
    IsPrompt code first events → IsPrompt code second others →
    (rest : List SentMessage) × (one.sent ≡ other.sent ++ rest)

-- a run of a program that releases nothing releases no value
abbrev pub NoneReleasedLaw : Type 0
NoneReleasedLaw = (placed : PlacedProgram) (world after : WorldShape) (events seen : List Event) →
    IsSplittable placed → IsAllowed placed → IsWellHeld placed → AreResultsLabelled placed.labelled.program →
    ReleasesNothing placed.labelled.program → IsSeenRun (split_code placed) world events seen after →
    AreReleased (split_code placed) (releases_of placed) world events []

-- all that is cited beside the laws of accepted programs
pub record PrivateLaws : Type 0 where
  pub told_alike : ToldAlikeLaw
  pub none_released : NoneReleasedLaw
  pub one_step : OneStep

-- ---- what two runs tell

-- a run of a program in its places that misbehaving hosts see so, and that releases these values
record IsSeenSo (placed : PlacedSource) (world : WorldShape) (events seen : List Event) (values : List ℤ)
    (last : WorldShape) : Type 0 where
  runs : IsSeenRun (code_of placed) world events seen last
  prompt : IsPrompt (code_of placed) world events
  released : AreReleased (code_of placed) (releases_of (program_of placed)) world events values

-- the first of two runs is that of which more is seen
longer_tells : AllLaws → PrivateLaws → (program hosts : List ℕ) (placed : PlacedSource) (tree : Program) (bad : ℕ)
    (store start : List (List ℤ)) (events others seen more : List Event) (values values_too : List ℤ)
    (one other : WorldShape) → IsPlacedAs program hosts placed tree → OneIsFront values values_too →
    AreStoresAlike (code_of placed) (first_world placed bad store) store start →
    All (HasOwnToken (first_world placed bad store)) others →
    IsSeenSo placed (first_world placed bad store) events (seen ++ more) values one →
    IsSeenSo placed (first_world placed bad start) others seen values_too other → IsListFront other.sent one.sent
longer_tells sets laws program hosts placed tree bad store start events others seen more values values_too one other
    is_placed same_values alike own first second =
    let code = code_of placed in
    let set =
    set_there sets.reading sets.plans sets.granted program hosts placed is_placed.accepted tree is_placed.tree_is in
    laws.told_alike (program_of placed) bad store start events others seen more one other values values_too
    set.splittable set.allowed set.held
    (results_there sets.reading sets.plans sets.granted program hosts placed is_placed.accepted) alike first.released
    second.released same_values
    (all_seen (HasOwnToken (first_world placed bad store)) code others seen (first_world placed bad start) other
    second.runs own)
    first.runs second.runs first.prompt second.prompt

-- the code of an accepted program is sound
sound_there : AllLaws → PrivateLaws → (program hosts : List ℕ) (placed : PlacedSource) (tree : Program) →
    IsPlacedAs program hosts placed tree → IsSoundCode (code_of placed)
sound_there sets laws program hosts placed tree is_placed =
    sets.scripts.sound (program_of placed)
    (set_there sets.reading sets.plans sets.granted program hosts placed is_placed.accepted tree
    is_placed.tree_is).splittable

-- the tokens that misbehaving hosts make up in a script are their own, in any world that starts with the same hosts
own_there : AllLaws → (placed : PlacedSource) (script : List ℕ) (said : ScriptShape) (bad : ℕ)
    (store : List (List ℤ)) → script_of (code_of placed) script ≡ Ok said → said.bad ≡ bad →
    All (HasOwnToken (first_world placed bad store)) (events_in said.events)
own_there sets placed script said bad store read same =
    let code = code_of placed in
    let Own : Event → Type 0 = HasOwnToken (first_world placed bad store) in
    let own = subst (λ (word : ℕ). All (λ (it : ℕ × Event). IsOwnEvent code.hosts word it.1) said.events) same
    (sets.scripts.said_own code script said read) in
    All-map Own (λ (it : ℕ × Event). it.1) said.events
    (λ k d less. sets.scripts.own_at_start code placed.source.file.hosts bad store (get_or said.events k d).1
    (code_hosts placed code refl) (own k d less))

-- lists that are alike are so in either order
turned_round : {X : Type 0} (one other : List X) → OneIsFront one other → OneIsFront other one
turned_round one other alike = ⊎_elim inr inl alike

runs_tell : AllLaws → PrivateLaws → (program hosts one other : List ℕ) (placed : PlacedSource) (tree : Program)
    (said said_too : ScriptShape) (seen seen_too : List Event) (values values_too : List ℤ)
    (last last_too : WorldShape) →
    IsPlacedAs program hosts placed tree → script_of (code_of placed) one ≡ Ok said →
    script_of (code_of placed) other ≡ Ok said_too → said.bad ≡ said_too.bad →
    StartAlike (code_of placed) (first_world placed said.bad said.start) said.start said_too.start →
    IsSeenSo placed (first_world placed said.bad said.start) (events_in said.events) seen values last →
    IsSeenSo placed (first_world placed said_too.bad said_too.start) (events_in said_too.events) seen_too values_too
    last_too → OneIsFront seen seen_too → OneIsFront values values_too → OneIsFront last.sent last_too.sent
runs_tell sets laws program hosts one other placed tree said said_too seen seen_too values values_too last last_too
    is_placed read read_too same starts first second both same_values =
    let code = code_of placed in
    let rows = placed.source.file.hosts in
    let bad = said.bad in
    let second_same =
    subst (λ (word : ℕ). IsSeenSo placed (first_world placed word said_too.start) (events_in said_too.events) seen_too
    values_too last_too) (sym same) second in
    let alike =
    alike_stores code rows bad said.start said_too.start (sound_there sets laws program hosts placed tree is_placed)
    (code_hosts placed code refl) starts in
    ⊎_elim
    (λ longer. inl (longer_tells sets laws program hosts placed tree bad said_too.start said.start
    (events_in said_too.events) (events_in said.events) seen longer.0 values_too values last_too last is_placed
    (turned_round values values_too same_values)
    (alike_swapped code rows bad said.start said_too.start alike)
    (own_there sets placed one said bad said_too.start read refl)
    (subst (λ (all : List Event). IsSeenSo placed (first_world placed bad said_too.start) (events_in said_too.events)
    all values_too last_too) longer.1 second_same) first))
    (λ longer. inr (longer_tells sets laws program hosts placed tree bad said.start said_too.start
    (events_in said.events) (events_in said_too.events) seen_too longer.0 values values_too last last_too is_placed
    same_values alike
    (own_there sets placed other said_too bad said.start read_too (sym same))
    (subst (λ (all : List Event). IsSeenSo placed (first_world placed bad said.start) (events_in said.events) all
    values last) longer.1 first) second_same))
    both

-- ---- what is reported

-- what is reported of alike messages is that they agree
alike_done : (placed : PlacedSource) (one other : List SentMessage) (released released_too : List ℤ)
    (verdict : VerdictShape) (status : Status) (text : List ℕ) →
    Compared placed one other released released_too verdict → verdict ≡ Print status text → OneIsFront one other →
    status ≡ Done
alike_done placed one other released released_too _ status text (agree alike) is also =
    let done : Done ≡ status = cc in sym done
alike_done placed one other released released_too _ status text (differ place apart) is also =
    absurd (differ_not_alike one other place apart also)

-- ---- what a verdict says

-- a stage that says something of what it gives, or stops the command
then_says : {X : Type 0} (Text : Status → List ℕ → Type 0) (First : StageEnd X → Type 0)
    (Last : X → VerdictShape → Type 0) (verdict : VerdictShape) → (First (stopped verdict) → Says Text verdict) →
    ((x : X) → First (given x) → Last x verdict → Says Text verdict) → DueThen First Last verdict →
    Says Text verdict
then_says Text First Last verdict stops goes ends =
    ⊎_elim (λ both. goes both.0 both.1 both.2) (λ stop. stops stop) ends

-- events are followed, or stop the command
abbrev FollowedSays : (Status → List ℕ → Type 0) → CodeShape → ReleasesShape → WorldShape → List (ℕ × Event) →
    StageEnd FollowedRun → Type 0
FollowedSays Text code table world said (given it) =
    IsFollowed code world said it.run × AreReleased code table world (events_in said) it.released
FollowedSays Text code table world said (stopped verdict) = Says Text verdict

followed_says : (Text : Status → List ℕ → Type 0) (file : List ℕ) (code : CodeShape) (table : ReleasesShape)
    (world : WorldShape) (said : List (ℕ × Event)) (end : StageEnd FollowedRun) →
    EventsFollowed file code table world said end → FollowedSays Text code table world said end
unfolding Says
followed_says Text file code table world said _ (followed run is values) = (is, values)
followed_says Text file code table world said _ (refused at not_bad stops) = tt
followed_says Text file code table world said _ (refused at not_there stops) = tt
followed_says Text file code table world said _ (refused at host_busy stops) = tt
followed_says Text file code table world said _ (refused at (no_such_token count) stops) = tt

-- a premise holds, or stops the command
abbrev PremiseSays : (Status → List ℕ → Type 0) → Type 0 → StageEnd ⊤ → Type 0
PremiseSays Text Holds (given one) = Holds
PremiseSays Text Holds (stopped verdict) = Says Text verdict

misbehave_says : (Text : Status → List ℕ → Type 0) (one other : ScriptShape) (end : StageEnd ⊤) →
    SameMisbehave one other end → PremiseSays Text (one.bad ≡ other.bad) end
misbehave_says Text one other _ (holds is) = is
misbehave_says Text one other _ (fails verdict not) = refused_says Text _ verdict not.1

starts_say : (Text : Status → List ℕ → Type 0) (placed : PlacedSource) (one other : ScriptShape) (end : StageEnd ⊤) →
    SameStarts placed one other end →
    PremiseSays Text (StartAlike (code_of placed) (first_world placed one.bad one.start) one.start other.start) end
starts_say Text placed one other _ (holds is) = is
starts_say Text placed one other _ (fails verdict not) = refused_says Text _ verdict not.3

events_say : (Text : Status → List ℕ → Type 0) (file : List ℕ) (one other : Followed) (end : StageEnd ⊤) →
    SameEvents file one other end → PremiseSays Text (OneIsFront (events_in one.seen) (events_in other.seen)) end
events_say Text file one other _ (holds is) = is
events_say Text file one other _ (fails verdict not) = refused_says Text _ verdict not.2

prompt_says : (Text : Status → List ℕ → Type 0) (file : List ℕ) (run : Followed) (end : StageEnd ⊤) →
    IsPromptRun file run end → PremiseSays Text (run.late ≡ None) end
prompt_says Text file run _ (holds is) = is
prompt_says Text file run _ (fails verdict not) = refused_says Text _ verdict not.2

-- ---- two scripts

abbrev IsCompareText : (program hosts one other : List ℕ) → Status → List ℕ → Type 0
IsCompareText = IsPrivate

-- a script that was read, and whose events were followed
record IsFollowedSo (placed : PlacedSource) (script : List ℕ) (said : ScriptShape) (it : FollowedRun) : Type 0 where
  was : IsRead script placed said
  followed : IsFollowed (code_of placed) (first_world placed said.bad said.start) said.events it.run
  released : AreReleased (code_of placed) (releases_of (program_of placed)) (first_world placed said.bad said.start)
      (events_in said.events) it.released

seen_so : PrivateLaws → (placed : PlacedSource) (script : List ℕ) (said : ScriptShape) (it : FollowedRun) →
    IsFollowedSo placed script said it → it.run.late ≡ None →
    IsSeenSo placed (first_world placed said.bad said.start) (events_in said.events) (events_in it.run.seen)
    it.released it.run.last
seen_so laws placed script said it was none =
    let first = first_world placed said.bad said.start in
    record {
      runs = followed_seen (code_of placed) first said.events it.run was.followed;
      prompt = followed_prompt laws.one_step (code_of placed) first said.events it.run was.followed none;
      released = was.released;
    }

-- where the program releases nothing, a run that was followed released no value
none_so : AllLaws → PrivateLaws → (program hosts script : List ℕ) (placed : PlacedSource) (tree : Program)
    (said : ScriptShape) (it : FollowedRun) → IsPlacedAs program hosts placed tree →
    IsFollowedSo placed script said it → ReleasesNothing placed.source.tree → it.released ≡ []
none_so sets laws program hosts script placed tree said it is_placed was silent =
    let code = code_of placed in
    let first = first_world placed said.bad said.start in
    let set =
    set_there sets.reading sets.plans sets.granted program hosts placed is_placed.accepted tree is_placed.tree_is in
    released_once code (releases_of (program_of placed)) first it.run.last (events_in said.events) it.released []
    (followed_ran code first said.events it.run was.followed) was.released
    (laws.none_released (program_of placed) first it.run.last (events_in said.events) (events_in it.run.seen)
    set.splittable set.allowed set.held
    (results_there sets.reading sets.plans sets.granted program hosts placed is_placed.accepted) silent
    (followed_seen code first said.events it.run was.followed))

-- empty lists are alike
both_empty : {X : Type 0} (one other : List X) → one ≡ [] → other ≡ [] → OneIsFront one other
both_empty one other none none_too = inl ([], none_too ∙ ap (λ all. all ++ []) (sym none))

-- all that is tested of two runs before they are compared
record AreComparable (placed : PlacedSource) (said said_too : ScriptShape) (run run_too : FollowedRun) : Type 0 where
  same_bad : said.bad ≡ said_too.bad
  starts : StartAlike (code_of placed) (first_world placed said.bad said.start) said.start said_too.start
  events : OneIsFront (events_in run.run.seen) (events_in run_too.run.seen)
  prompt : run.run.late ≡ None
  prompt_too : run_too.run.late ≡ None

-- the report of two runs
abbrev IsReported : PlacedSource → (run run_too : FollowedRun) → VerdictShape → Type 0
IsReported placed run run_too =
    Compared placed run.run.last.sent run_too.run.last.sent run.released run_too.released

is_private : AllLaws → PrivateLaws → (program hosts one other : List ℕ) (placed : PlacedSource) (tree : Program)
    (said said_too : ScriptShape) (run run_too : FollowedRun) (status : Status) (text : List ℕ) →
    IsPlacedAs program hosts placed tree → IsFollowedSo placed one said run → IsFollowedSo placed other said_too run_too
    → AreComparable placed said said_too run run_too → IsReported placed run run_too (Print status text) →
    IsPrivate program hosts one other status text
unfolding played
is_private sets laws program hosts one other placed tree said said_too run run_too status text is_placed first second
    both reported =
    let code = code_of placed in
    let one_seen = seen_so laws placed one said run first both.prompt in
    let other_seen = seen_so laws placed other said_too run_too second both.prompt_too in
    let tells = runs_tell sets laws program hosts one other placed tree said said_too (events_in run.run.seen)
    (events_in run_too.run.seen) run.released run_too.released run.run.last run_too.run.last is_placed first.was.read
    second.was.read both.same_bad both.starts one_seen other_seen both.events in
    let agrees : OneIsFront run.released run_too.released → status ≡ Done =
    λ alike. alike_done placed run.run.last.sent run_too.run.last.sent run.released run_too.released
    (Print status text) status text reported refl (tells alike) in
    let none = none_so sets laws program hosts one placed tree said run is_placed first in
    let none_too = none_so sets laws program hosts other placed tree said_too run_too is_placed second in
    let silent_alike : ReleasesNothing placed.source.tree → OneIsFront run.released run_too.released =
    λ silent. both_empty run.released run_too.released (none silent) (none_too silent) in
    record {
      placed = placed;
      tree = tree;
      is_placed = is_placed;
      first = played sets program hosts one placed tree said run.run.last is_placed first.was.short first.was.read
          (followed_runs code (first_world placed said.bad said.start) said.events run.run first.followed);
      second = played sets program hosts other placed tree said_too run_too.run.last is_placed second.was.short
          second.was.read
          (followed_runs code (first_world placed said_too.bad said_too.start) said_too.events run_too.run
          second.followed);
      same_bad = both.same_bad;
      starts = both.starts;
      seen = events_in run.run.seen;
      seen_too = events_in run_too.run.seen;
      first_seen = record { runs = one_seen.runs; prompt = one_seen.prompt };
      second_seen = record { runs = other_seen.runs; prompt = other_seen.prompt };
      alike = both.events;
      released = run.released;
      released_too = run_too.released;
      first_released = first.released;
      second_released = second.released;
      reported = reported;
      released_alike = tells;
      differs = λ is alike. let no : Differ ≡ Done = sym is ∙ agrees alike in absurd (cc);
      silent = λ nothing. (none nothing, none_too nothing);
      told_alike = λ nothing. tells (silent_alike nothing);
      never_differs = λ nothing. agrees (silent_alike nothing);
    }

report_says : AllLaws → PrivateLaws → (program hosts one other : List ℕ) (placed : PlacedSource) (tree : Program)
    (said said_too : ScriptShape) (run run_too : FollowedRun) (verdict : VerdictShape) →
    IsPlacedAs program hosts placed tree → IsFollowedSo placed one said run → IsFollowedSo placed other said_too run_too
    → AreComparable placed said said_too run run_too → IsReported placed run run_too verdict →
    Says (IsCompareText program hosts one other) verdict
unfolding Says
report_says sets laws program hosts one other placed tree said said_too run run_too _ is_placed first second both
    (agree alike) =
    is_private sets laws program hosts one other placed tree said said_too run run_too _ _ is_placed first second both
    (agree alike)
report_says sets laws program hosts one other placed tree said said_too run run_too _ is_placed first second both
    (differ place apart) =
    is_private sets laws program hosts one other placed tree said said_too run run_too _ _ is_placed first second both
    (differ place apart)

runs_say : AllLaws → PrivateLaws → (program hosts one other : List ℕ) (placed : PlacedSource) (tree : Program)
    (file file_too : List ℕ) (said said_too : ScriptShape) (run run_too : FollowedRun) (verdict : VerdictShape) →
    IsPlacedAs program hosts placed tree → IsFollowedSo placed one said run → IsFollowedSo placed other said_too run_too
    → DueForRuns placed file said run file_too said_too run_too verdict →
    Says (IsCompareText program hosts one other) verdict
runs_say sets laws program hosts one other placed tree file file_too said said_too run run_too verdict is_placed first
    second =
    let Text = IsCompareText program hosts one other in
    let Sent : ⊤ → VerdictShape → Type 0 = λ _. IsReported placed run run_too in
    let Later : ⊤ → VerdictShape → Type 0 = λ _. DueThen (IsPromptRun file_too run_too.run) Sent in
    let Prompt : ⊤ → VerdictShape → Type 0 = λ _. DueThen (IsPromptRun file run.run) Later in
    let Happens : ⊤ → VerdictShape → Type 0 = λ _. DueThen (SameEvents file run.run run_too.run) Prompt in
    let Starts : ⊤ → VerdictShape → Type 0 = λ _. DueThen (SameStarts placed said said_too) Happens in
    then_says Text (SameMisbehave said said_too) Starts verdict
    (λ stops. misbehave_says Text said said_too (stopped verdict) stops) (λ a same_bad.
    then_says Text (SameStarts placed said said_too) Happens verdict
    (λ stops. starts_say Text placed said said_too (stopped verdict) stops) (λ b starts.
    then_says Text (SameEvents file run.run run_too.run) Prompt verdict
    (λ stops. events_say Text file run.run run_too.run (stopped verdict) stops) (λ c events.
    then_says Text (IsPromptRun file run.run) Later verdict
    (λ stops. prompt_says Text file run.run (stopped verdict) stops) (λ d prompt.
    then_says Text (IsPromptRun file_too run_too.run) Sent verdict
    (λ stops. prompt_says Text file_too run_too.run (stopped verdict) stops) (λ e prompt_too.
    report_says sets laws program hosts one other placed tree said said_too run run_too verdict is_placed first second
    (record {
      same_bad = misbehave_says Text said said_too (given a) same_bad;
      starts = starts_say Text placed said said_too (given b) starts;
      events = events_say Text file run.run run_too.run (given c) events;
      prompt = prompt_says Text file run.run (given d) prompt;
      prompt_too = prompt_says Text file_too run_too.run (given e) prompt_too;
    }))))))

said_says : AllLaws → PrivateLaws → (program hosts one other : List ℕ) (placed : PlacedSource) (tree : Program)
    (file : List ℕ) (said : ScriptShape) (file_too : List ℕ) (said_too : ScriptShape) (verdict : VerdictShape) →
    IsPlacedAs program hosts placed tree → IsRead one placed said → IsRead other placed said_too →
    DueForReadScripts placed file said file_too said_too verdict → Says (IsCompareText program hosts one other) verdict
said_says sets laws program hosts one other placed tree file said file_too said_too verdict is_placed was was_too =
    let Text = IsCompareText program hosts one other in
    let code = code_of placed in
    let table = releases_of (program_of placed) in
    let world = first_world placed said.bad said.start in
    let world_too = first_world placed said_too.bad said_too.start in
    let Second = ScriptFollowed placed file_too said_too in
    let Runs : FollowedRun → FollowedRun → VerdictShape → Type 0 =
    λ run run_too. DueForRuns placed file said run file_too said_too run_too in
    then_says Text (ScriptFollowed placed file said) (λ run. DueThen Second (Runs run)) verdict
    (λ stops. followed_says Text file code table world said.events (stopped verdict) stops) (λ run ran.
    then_says Text Second (Runs run) verdict
    (λ stops. followed_says Text file_too code table world_too said_too.events (stopped verdict) stops)
    (λ run_too ran_too.
    let kept = followed_says Text file code table world said.events (given run) ran in
    let kept_too = followed_says Text file_too code table world_too said_too.events (given run_too) ran_too in
    runs_say sets laws program hosts one other placed tree file file_too said said_too run run_too verdict is_placed
    (record { was = was; followed = kept.0; released = kept.1 })
    (record { was = was_too; followed = kept_too.0; released = kept_too.1 })))

compare_says : AllLaws → PrivateLaws → (file file_too program hosts one other : List ℕ) (placed : PlacedSource)
    (verdict : VerdictShape) → PlacedSources program hosts (given placed) →
    DueForCompare file one file_too other placed verdict → Says (IsCompareText program hosts one other) verdict
compare_says sets laws file file_too program hosts one other placed verdict accepted ends =
    let Text = IsCompareText program hosts one other in
    let code = code_of placed in
    let First = ScriptRead file one code in
    let Second = ScriptRead file_too other code in
    let Said : ScriptShape → ScriptShape → VerdictShape → Type 0 =
    λ said said_too. DueForReadScripts placed file said file_too said_too in
    then_says Text First (λ said. DueThen Second (Said said)) verdict
    (λ stops. script_says Text file one placed (stopped verdict) stops) (λ said was.
    then_says Text Second (Said said) verdict
    (λ stops. script_says Text file_too other placed (stopped verdict) stops) (λ said_too was_too.
    said_says sets laws program hosts one other placed ends.0 file said file_too said_too verdict
    (record { accepted = accepted; tree_is = ends.1 }) (script_says Text file one placed (given said) was)
    (script_says Text file_too other placed (given said_too) was_too))) ends.2

-- ---- the command

compare_bytes : AllLaws → PrivateLaws → (program hosts one other : List ℕ) →
    SaysOfBytes (λ p h others status text. OnlyTwo (λ s t. IsPrivate p h s t status text) others)
    (Compare program hosts one other)
compare_bytes sets laws program hosts one other p h [] verdict ends = absurd ends
compare_bytes sets laws program hosts one other p h (s ∷ []) verdict ends = absurd ends
compare_bytes sets laws program hosts one other p h (s ∷ t ∷ []) verdict ends = ⊎_elim
    (λ both. compare_says sets laws one other p h s t both.0 verdict both.1 both.2)
    (λ no. placed_says (IsCompareText p h s t) p h verdict no) ends
compare_bytes sets laws program hosts one other p h (s ∷ t ∷ x ∷ more) verdict ends = absurd ends

pub compare_is_private : AllLaws → PrivateLaws → (program hosts one other : List ℕ)
    (held : Option (List ℕ → Option (List ℕ))) (number : ℕ) (status : Status) (text : List ℕ) →
    Due (words_of (Compare program hosts one other)) held number (Print status text) →
    OfFourFiles (λ p h s t. IsPrivate p h s t status) program hosts one other held text
compare_is_private sets laws program hosts one other held number status text due =
    four_due IsPrivate (Compare program hosts one other) program hosts one other held tt refl
    (compare_bytes sets laws program hosts one other) number status text due
