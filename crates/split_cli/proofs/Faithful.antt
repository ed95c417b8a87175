-- From what is due to the headline.
use Rattle.std.proofs.Common.{◌≡◌, ◌≤◌, ◌+◌, ◌*◌, ◌∙◌, ℕ, suc, List, [], ◌∷◌, ◌++◌, map, length, Option, Some, Ok, refl}
use Rattle.std.proofs.Common.{sym, ap}
use Rattle.std.proofs.Common.{subst, length-append}
use Rattle.std.proofs.Common.{⊎_elim, arith}
use Rattle.std.specs.Prelude.{ℤ, ◌⊎◌, ◌≢◌, ⊤, All, codes, replicate}
use Rattle.std.specs.List.{AllZip}
use Rattle.std.proofs.lemmas.List.Elements.{All-map}
use Rattle.js_base.specs.Sink.{Takes}
use Rattle.js_base.specs.declared.limits.TheConstants.{SCRIPT_BYTES}
use Rattle.js_base.specs.declared.status.Status.{Status}
use Rattle.js_base.specs.declared.status.Status.TheVariants.{Done, Spent, Differ, Usage, SourceRefused, InputRefused}
use Rattle.js_base.specs.declared.status.Status.TheVariants.{FileFault, OutFault, NoMemory}
use Rattle.jif_tree.specs.declared.program.Field.{Field}
use Rattle.jif_tree.specs.declared.program.Program.{Program}
use Rattle.jif_tree.specs.SourceRun.{HasLength}
use Rattle.jif_tree.specs.Store.{starting_values}
use Rattle.jif_tree.specs.Trees.{FieldTree, ProgramTree, field_tree, program_tree}
use Rattle.event_text.specs.declared.event.Event.{Event}
use Rattle.event_text.specs.OwnTokens.{IsOwnEvent}
use Rattle.event_text.specs.Lines.{said_lines}
use Rattle.event_text.specs.Misbehaving.{past_bad}
use Rattle.event_text.specs.Script.{ScriptShape, script_of}
use Rattle.event_text.specs.Start.{start_of, program_form}
use Rattle.event_text.specs.Settings.{FieldForm, form_of, settings_in_front, starting_rows, after_settings}
use Rattle.host_code.specs.Code.{CodeShape}
use Rattle.host_code.specs.Sound.{IsSoundCode}
use Rattle.integrity.specs.Altering as altering
use Rattle.integrity.specs.Exposed.{exposure_of}
use Rattle.label_lattice.specs.declared.label.Label.{Label}
use Rattle.need_labels.specs.Plan.{PlanShape}
use Rattle.net_world.specs.Choice.{NoneRuns, NothingFlies, IsNextEvent}
use Rattle.net_world.specs.World.{WorldShape, IsStep, IsRun, world_at_start, has_halted}
use Rattle.net_world.specs.World.{not_bad, not_there, host_busy, no_such_token}
use Rattle.net_world.specs.Fits.{HasOwnToken}
use Rattle.split_rules.specs.Placed.{PlacedProgram}
use Rattle.split_rules.specs.SplitCode.{split_code, placed_code_fields}
use Rattle.split_rules.specs.Splittable.{IsSplittable}
use Rattle.simulation.specs.Ending.{EVENTS}
use Rattle.simulation.specs.Obeying.{IsSet, FollowsPlainRun}
use Rattle.token_laws.specs.Numbers.{CodeHasNumbers, RowsHaveNumbers, EventHasNumbers}
use Rattle.token_laws.specs.Reached.{IsReached}
use Rattle.split_words.specs.Commands.{CommandShape, Replay, Drive, IsCommand, words_of, files_of}
use Rattle.front_end.specs.StepCounts.{IsStepCount}
use Rattle.front_end.specs.Refusals as refusals
use Rattle.front_end.specs.Refusals.{RefusalShape, refusal_status}
use Rattle.front_end.specs.Verdicts.{VerdictShape, Refuse, Print}
use Rattle.front_end.specs.Loads.{FilesChange, Told}
use Rattle.front_end.specs.Stages.{StageEnd, given, stopped}
use Rattle.front_end.specs.PlacedSources.{PlacedSource, PlacedSources}
use Rattle.script_stages.specs.FirstWorld.{first_world}
use Rattle.split_cli.specs.Drive.{drive_text, IsDriveReport, DueForDrive}
use Rattle.front_end.specs.PlacedCode.{code_of, program_of}
use Rattle.split_cli.specs.Driven.{DrivesTo, rested, spent}
use Rattle.net_world.specs.Replay.{events_in}
use Rattle.split_cli.specs.Replay.{replay_text, DueForReplay}
use Rattle.script_stages.specs.Scripts.{ScriptRead, EventsHappen}
use Rattle.script_stages.specs.Scripts as scripts
use Rattle.front_end.specs.Starting.{StartingValues}
use Rattle.front_end.specs.Starting as starting
use Rattle.split_cli.specs.Due.{DueForBytes, DueForCommand, Due, no_words, for_command}
use Rattle.split_cli.specs.Due as due
use Rattle.front_end.specs.Answers as answers
use Rattle.front_end.specs.Answers.{SinkChange}
use Rattle.split_cli.specs.Answers.{AnswersTo}
use Rattle.split_cli.specs.Headline.{IsPlacedAs, Played, IsFaithful, IsFaithfulDrive}
use Rattle.split_cli.specs.Headline.{OfThreeFiles, OfFourFiles, Puts}
use Rattle.split_cli.proofs.OneDrive.{driven_run}
use Rattle.split_cli.proofs.OneVerdict.{fault_verdict, one_command}
use Rattle.split_cli.proofs.CodeNumbers.{code_has}
use Rattle.front_end.proofs.PlacedStops.{placed_stops}
use Rattle.script_stages.proofs.ScriptReads.{OwnAtStart, own_in_first}
use Rattle.split_cli.proofs.ScriptStarts.{script_starts}
use Rattle.split_cli.proofs.ScriptNumbers.{events_have, starts_have}
use Rattle.split_cli.proofs.SetSources.{ReadingLaws, PlanLaws, GrantedLaw, set_there, checked_there, has_numbers}
use Rattle.split_cli.proofs.UnalteredRuns.{UnalteredLaws, unaltered}

-- ---- the laws of one program in its places

-- hosts that all obey follow the plain run
abbrev pub ObeyingLaw : Type 0
ObeyingLaw = (tree : Program) (placed : PlacedProgram) (store : List (List ℤ)) (events : List Event)
    (world : WorldShape) →
    IsSet tree placed →
    IsRun (split_code placed) (world_at_start (split_code placed) placed.hosts.hosts 0 store)
    events world → FollowsPlainRun tree (split_code placed) placed.hosts.hosts store events world

-- where nothing goes on they have halted
abbrev pub IdleLaw : Type 0
IdleLaw = (tree : Program) (placed : PlacedProgram) (store : List (List ℤ)) (events : List Event)
    (world : WorldShape) →
    IsSet tree placed →
    IsRun (split_code placed) (world_at_start (split_code placed) placed.hosts.hosts 0 store)
    events world → NoneRuns world → NothingFlies world → has_halted (split_code placed).root world

-- no list of events is longer than the plain run allows
abbrev pub EndingLaw : Type 0
EndingLaw = (tree : Program) (placed : PlacedProgram) (store : List (List ℤ)) (steps : ℕ) (events : List Event)
    (world : WorldShape) →
    IsSet tree placed → HasLength tree store steps →
    IsRun (split_code placed) (world_at_start (split_code placed) placed.hosts.hosts 0 store)
    events world → length events ≤ EVENTS * (steps + 1)

-- the event that comes next happens
abbrev pub NextLaw : Type 0
NextLaw = (tree : Program) (placed : PlacedProgram) (store : List (List ℤ)) (events : List Event) (world : WorldShape)
    (event : Event) →
    IsSet tree placed →
    IsRun (split_code placed) (world_at_start (split_code placed) placed.hosts.hosts 0 store)
    events world → IsNextEvent world (Some event) →
    (after : WorldShape) × IsStep (split_code placed) world event after

-- whoever misbehaves, the others follow an altered run
abbrev pub AlteredLaw : Type 0
AlteredLaw = (tree : Program) (placed : PlacedProgram) (bad : ℕ) (store : List (List ℤ)) (events : List Event)
    (world : WorldShape) →
    IsSet tree placed → CodeHasNumbers (split_code placed) → RowsHaveNumbers store →
    IsReached (split_code placed) placed.hosts.hosts bad store events world → All EventHasNumbers events →
    altering.WorldFollowsAltered tree (exposure_of placed bad) (split_code placed) placed.hosts.hosts bad store events
    world

-- what emitted code and scripts are
pub record ScriptLaws : Type 0 where
  pub sound : (placed : PlacedProgram) → IsSplittable placed → IsSoundCode (split_code placed)
  pub said_own : (code : CodeShape) (bytes : List ℕ) (said : ScriptShape) → script_of code bytes ≡ Ok said →
      All (λ one. IsOwnEvent code.hosts said.bad one.1) said.events
  pub own_at_start : OwnAtStart

-- all that is cited
pub record AllLaws : Type 0 where
  pub reading : ReadingLaws
  pub plans : PlanLaws
  pub granted : GrantedLaw
  pub obeying : ObeyingLaw
  pub idle : IdleLaw
  pub next : NextLaw
  pub ending : EndingLaw
  pub altered : AlteredLaw
  pub sources : UnalteredLaws
  pub scripts : ScriptLaws

-- what the laws ask for
pub set_of : AllLaws → (program hosts : List ℕ) (placed : PlacedSource) (tree : Program) →
    IsPlacedAs program hosts placed tree → IsSet tree (program_of placed)
set_of laws program hosts placed tree is_placed =
    set_there laws.reading laws.plans laws.granted program hosts placed is_placed.accepted tree is_placed.tree_is

-- ---- starting values

rows_placed : (labels : List Label) (plan : PlanShape) (number : ℕ) (fields : List FieldTree) →
    starting_rows (map form_of (placed_code_fields labels plan number fields))
    ≡ map (λ field. replicate field.size field.first) fields
rows_placed labels plan number [] = refl
rows_placed labels plan number (field ∷ fields) =
    ap (λ rows. replicate field.size field.first ∷ rows) (rows_placed labels plan (suc number) fields)

rows_of_trees : (fields : List Field) →
    map (λ (tree : FieldTree). replicate tree.size tree.first) (map field_tree fields)
    ≡ map (λ (field : Field). replicate field.size field.first) fields
rows_of_trees [] = refl
rows_of_trees (field ∷ fields) = ap (λ rows. replicate field.size field.first ∷ rows) (rows_of_trees fields)

pub values_of_text : (placed : PlacedSource) (tree : Program) → program_tree tree ≡ placed.source.tree →
    starting_rows (map form_of (code_of placed).fields) ≡ starting_values tree
values_of_text placed tree is =
    rows_placed (code_of placed).labels placed.plan 0 placed.source.tree.fields
    ∙ ap (λ (t : ProgramTree). map (λ (field : FieldTree). replicate field.size field.first) t.fields) (sym is)
    ∙ rows_of_trees tree.fields.items

-- the fields of a script start with numbers
pub said_numbers : AllLaws → (program hosts script : List ℕ) (placed : PlacedSource) (said : ScriptShape) →
    PlacedSources program hosts (given placed) → script_of (code_of placed) script ≡ Ok said →
    RowsHaveNumbers said.start
said_numbers laws program hosts script placed said accepted read =
    let code = code_of placed in
    let fields = placed.source.tree.fields in
    let small = has_numbers laws.reading laws.plans laws.granted program hosts placed accepted in
    subst RowsHaveNumbers (sym (script_starts code script said read))
    (starts_have fields (map form_of code.fields) (past_bad code.hosts (said_lines script))
    (rows_placed code.labels placed.plan 0 fields) small.fields)

-- ---- hosts of which some misbehave

-- the events of a script lead to its last world
pub reached_there : AllLaws → (program hosts script : List ℕ) (placed : PlacedSource) (tree : Program)
    (said : ScriptShape) (last : WorldShape) → IsPlacedAs program hosts placed tree →
    script_of (code_of placed) script ≡ Ok said →
    IsRun (code_of placed) (first_world placed said.bad said.start) (events_in said.events) last →
    IsReached (code_of placed) placed.source.file.hosts said.bad said.start (events_in said.events) last
reached_there laws program hosts script placed tree said last is_placed read ran =
    let code = code_of placed in
    let rows = placed.source.file.hosts in
    let first = first_world placed said.bad said.start in
    record {
      sound = laws.scripts.sound (program_of placed) (set_of laws program hosts placed tree is_placed).splittable;
      hosts = refl;
      own = All-map (HasOwnToken first) (λ (one : ℕ × Event). one.1) said.events
          (own_in_first laws.scripts.own_at_start code rows said.bad said.start said first said.events refl refl refl
          refl
          (laws.scripts.said_own code script said read));
      ran = ran;
    }

-- a script that was read, and whose events happened
unfoldable pub played : AllLaws →
    (program hosts script : List ℕ) (placed : PlacedSource) (tree : Program) (said : ScriptShape)
    (last : WorldShape) → IsPlacedAs program hosts placed tree → length script ≤ SCRIPT_BYTES →
    script_of (code_of placed) script ≡ Ok said →
    IsRun (code_of placed) (first_world placed said.bad said.start) (events_in said.events) last →
    Played placed tree script
played laws program hosts script placed tree said last is_placed short read ran =
    let code = code_of placed in
    let events = events_in said.events in
    let set = set_of laws program hosts placed tree is_placed in
    let settings = settings_in_front (map form_of code.fields) (past_bad code.hosts (said_lines script)) in
    let follows = laws.altered tree (program_of placed) said.bad said.start events last set
    (code_has (program_of placed) (has_numbers laws.reading laws.plans laws.granted program hosts placed
    is_placed.accepted))
    (said_numbers laws program hosts script placed said is_placed.accepted read)
    (reached_there laws program hosts script placed tree said last is_placed read ran)
    (events_have code script said read) in
    record {
      said = said;
      last = last;
      short = short;
      read = read;
      starts = script_starts code script said read
          ∙ ap (λ (rows : List (List ℤ)). after_settings rows settings)
          (values_of_text placed tree is_placed.tree_is);
      altered = follows;
      unaltered = λ pure steps halts.
          unaltered laws.sources tree (program_of placed) said.bad said.start events
          (first_world placed said.bad said.start) last code is_placed.tree_is
          (checked_there laws.reading laws.plans laws.granted program hosts placed is_placed.accepted) pure steps halts
          follows;
      plain = λ nobody. laws.obeying tree (program_of placed) said.start events last set
          (subst (λ bad. IsRun code (first_world placed bad said.start) events last) nobody ran);
    }

-- ---- drives

ends_rested : (code : CodeShape) (world : WorldShape) (most : ℕ) (events : List Event) (last : WorldShape)
    (status : Status) → DrivesTo code world most events last status → status ≡ Done → NoneRuns last × NothingFlies last
ends_rested code world most events last _ (rested few driven rest) done = rest
ends_rested code world most events last _ (spent next all driven more) done = absurd (let no : ⊥ = cc in no)

ends_run : (code : CodeShape) (world : WorldShape) (most : ℕ) (events : List Event) (last : WorldShape)
    (status : Status) → DrivesTo code world most events last status → IsRun code world events last
ends_run code world most events last _ (rested few driven rest) = driven_run code world last events driven
ends_run code world most events last _ (spent next all driven more) = driven_run code world last events driven

-- one event more
runs_on : (code : CodeShape) (world last after : WorldShape) (events : List Event) (event : Event) →
    IsRun code world events last → IsStep code last event after → IsRun code world (events ++ event ∷ []) after
runs_on code world last after [] event run step =
    (after, subst (λ (w : WorldShape). IsStep code w event after) (sym run) step, refl)
runs_on code world last after (first ∷ events) event run step =
    (run.0, run.1, runs_on code run.0 last after events event run.2 step)

too_many : (bound most : ℕ) (events : List Event) (event : Event) → length (events ++ event ∷ []) ≤ bound →
    length events ≡ most → bound ≤ most → ⊥
too_many bound most events event few all enough =
    let many : length (events ++ event ∷ []) ≡ length events + 1 = length-append events (event ∷ []) in
    omega (arith, few, all, enough, many)

-- who was given as many events as ever happen came to rest
ends_in_time : (code : CodeShape) (world : WorldShape) (most : ℕ) (events : List Event) (last : WorldShape)
    (status : Status) → DrivesTo code world most events last status → (bound : ℕ) →
    ((more : List Event) (after : WorldShape) → IsRun code world more after → length more ≤ bound) →
    ((event : Event) → IsRun code world events last → IsNextEvent last (Some event) →
    (after : WorldShape) × IsStep code last event after) → bound ≤ most → status ≡ Done
ends_in_time code world most events last _ (rested few driven rest) bound ends next enough = refl
ends_in_time code world most events last _ (spent event all driven more) bound ends next enough =
    let run = driven_run code world last events driven in
    let step = next event run more in
    absurd (too_many bound most events event
    (ends (events ++ event ∷ []) step.0 (runs_on code world last step.0 events event run step.1)) all enough)

-- hosts that are driven from starting values that were read
is_faithful_drive : AllLaws → (program hosts start : List ℕ) (most : ℕ) (placed : PlacedSource) (tree : Program)
    (values : List (List ℤ)) (events : List Event) (last : WorldShape) (status : Status) →
    IsPlacedAs program hosts placed tree → length start ≤ SCRIPT_BYTES →
    start_of (map program_form tree.fields.items) start ≡ Ok values →
    DrivesTo (code_of placed) (first_world placed 0 values) most events last status →
    IsFaithfulDrive program hosts start most status (drive_text (code_of placed) (length events) last)
is_faithful_drive laws program hosts start most placed tree values events last status is_placed short read ends =
    let code = code_of placed in
    let first = first_world placed 0 values in
    let set = set_of laws program hosts placed tree is_placed in
    let ran = ends_run code first most events last status ends in
    record {
      placed = placed;
      tree = tree;
      is_placed = is_placed;
      values = values;
      events = events;
      last = last;
      short = short;
      read = read;
      runs = ran;
      ends = ends;
      plain = laws.obeying tree (program_of placed) values events last set ran;
      rested = λ done.
          let rest = ends_rested code first most events last status ends done in
          laws.idle tree (program_of placed) values events last set ran rest.0 rest.1;
      in_time = λ steps halts enough.
          ends_in_time code first most events last status ends (EVENTS * (steps + 1))
          (λ more after ran. laws.ending tree (program_of placed) values steps more after set halts ran)
          (λ event ran comes. laws.next tree (program_of placed) values events last event set ran comes)
          enough;
      text_is = refl;
    }

-- ---- what a verdict says

-- the status of a report
abbrev pub IsSuccess : Status → Type 0
IsSuccess status = (status ≡ Done) ⊎ ((status ≡ Spent) ⊎ (status ≡ Differ))

-- any other is that of a refusal or a fault
fails : (status : Status) → status ≢ Done → status ≢ Spent → status ≢ Differ → ¬ IsSuccess status
fails status not_done not_spent not_differ success =
    ⊎_elim (λ done. not_done done)
    (λ other. ⊎_elim (λ spent. not_spent spent) (λ differ. not_differ differ) other) success

program_fails : ¬ IsSuccess SourceRefused
program_fails = fails SourceRefused (λ same. cc) (λ same. cc) (λ same. cc)

input_fails : ¬ IsSuccess InputRefused
input_fails = fails InputRefused (λ same. cc) (λ same. cc) (λ same. cc)

output_fails : ¬ IsSuccess OutFault
output_fails = fails OutFault (λ same. cc) (λ same. cc) (λ same. cc)

memory_fails : ¬ IsSuccess NoMemory
memory_fails = fails NoMemory (λ same. cc) (λ same. cc) (λ same. cc)

refusal_fails : (refusal : RefusalShape) → ¬ IsSuccess (refusal_status refusal)
refusal_fails (refusals.Usage forms) = fails Usage (λ same. cc) (λ same. cc) (λ same. cc)
refusal_fails (refusals.FileFault file) = fails FileFault (λ same. cc) (λ same. cc) (λ same. cc)
refusal_fails (refusals.Lex why) = program_fails
refusal_fails (refusals.Parse why) = program_fails
refusal_fails (refusals.Resolve why) = program_fails
refusal_fails (refusals.Labels why line words) = program_fails
refusal_fails (refusals.Places why words) = program_fails
refusal_fails (refusals.NoSuchFile file) = input_fails
refusal_fails (refusals.Hosts why) = input_fails
refusal_fails (refusals.TooLong file) = input_fails
refusal_fails (refusals.AtLine file line why) = input_fails
refusal_fails refusals.BadDiffer = input_fails
refusal_fails (refusals.StartsDiffer field) = input_fails
refusal_fails (refusals.BadCode file why) = input_fails
refusal_fails (refusals.NoHost name) = input_fails
refusal_fails (refusals.OtherHosts code hosts) = input_fails
refusal_fails (refusals.NoKey file host) = input_fails
refusal_fails (refusals.WeakEntry file entry place) = input_fails
refusal_fails (refusals.Reveals file place) = input_fails
refusal_fails refusals.WrongJournals = input_fails
refusal_fails (refusals.NoRun file line host) = input_fails
refusal_fails (refusals.TwoFields file name) = input_fails
refusal_fails (refusals.TwoVariables file name) = input_fails
refusal_fails (refusals.SourceExplained text) = program_fails
refusal_fails (refusals.InputExplained text) = input_fails

-- a report is such a text with its status; nothing is said of a refusal
unfoldable pub Says : (Status → List ℕ → Type 0) → VerdictShape → Type 0
Says IsText (Refuse refusal) = ⊤
Says IsText (Print status text) = IsText status text

pub refused_says : (IsText : Status → List ℕ → Type 0) (refusal : RefusalShape) (verdict : VerdictShape) →
    verdict ≡ Refuse refusal → Says IsText verdict
unfolding Says
refused_says IsText refusal verdict is = subst (Says IsText) (sym is) tt

-- where a program and its hosts are refused
pub placed_says : (IsText : Status → List ℕ → Type 0) (program hosts : List ℕ) (verdict : VerdictShape) →
    PlacedSources program hosts (stopped verdict) → Says IsText verdict
unfolding Says
placed_says IsText program hosts verdict stops =
    placed_stops (Says IsText) (λ refusal of. tt) program hosts verdict stops

-- ---- a replay

-- a replay ends well
abbrev IsReplayText : List ℕ → List ℕ → List ℕ → Status → List ℕ → Type 0
IsReplayText program hosts script status text = (status ≡ Done) × IsFaithful program hosts script text

-- a script that was read
pub record IsRead (script : List ℕ) (placed : PlacedSource) (said : ScriptShape) : Type 0 where
  pub short : length script ≤ SCRIPT_BYTES
  pub read : script_of (code_of placed) script ≡ Ok said

-- a script says something, or what is due for it is no success
abbrev pub ScriptSays : (Status → List ℕ → Type 0) → List ℕ → PlacedSource → StageEnd ScriptShape → Type 0
ScriptSays Text script placed (given said) = IsRead script placed said
ScriptSays Text script placed (stopped verdict) = Says Text verdict

pub script_says : (Text : Status → List ℕ → Type 0) (file script : List ℕ) (placed : PlacedSource)
    (end : StageEnd ScriptShape) → ScriptRead file script (code_of placed) end → ScriptSays Text script placed end
unfolding Says
script_says Text file script placed _ (scripts.long more) = tt
script_says Text file script placed _ (scripts.bad_line line short is) = tt
script_says Text file script placed _ (scripts.read said short is) = record { short = short; read = is }

-- its events leave a world, or what is due is no success
abbrev EventsSay : (Status → List ℕ → Type 0) → CodeShape → WorldShape → List (ℕ × Event) → StageEnd WorldShape → Type 0
EventsSay Text code world said (given last) = IsRun code world (events_in said) last
EventsSay Text code world said (stopped verdict) = Says Text verdict

events_say : (Text : Status → List ℕ → Type 0) (file : List ℕ) (code : CodeShape) (world : WorldShape)
    (said : List (ℕ × Event)) (end : StageEnd WorldShape) → EventsHappen file code world said end →
    EventsSay Text code world said end
unfolding Says
events_say Text file code world said _ (scripts.happened last ran) = ran
events_say Text file code world said _ (scripts.refused at not_bad stops) = tt
events_say Text file code world said _ (scripts.refused at not_there stops) = tt
events_say Text file code world said _ (scripts.refused at host_busy stops) = tt
events_say Text file code world said _ (scripts.refused at (no_such_token count) stops) = tt

report_says : AllLaws → (program hosts script : List ℕ) (placed : PlacedSource) (tree : Program) (said : ScriptShape)
    (last : WorldShape) (verdict : VerdictShape) → IsPlacedAs program hosts placed tree → IsRead script placed said →
    IsRun (code_of placed) (first_world placed said.bad said.start) (events_in said.events) last →
    verdict ≡ Print Done (replay_text (code_of placed) last) → Says (IsReplayText program hosts script) verdict
unfolding Says played
report_says laws program hosts script placed tree said last verdict is_placed was ran is =
    subst (Says (IsReplayText program hosts script)) (sym is) (
      refl,
      record {
        placed = placed;
        tree = tree;
        is_placed = is_placed;
        played = played laws program hosts script placed tree said last is_placed was.short was.read ran;
        text_is = refl;
      },
    )

replay_says : AllLaws → (file program hosts script : List ℕ) (placed : PlacedSource) (verdict : VerdictShape) →
    PlacedSources program hosts (given placed) → DueForReplay file script placed verdict →
    Says (IsReplayText program hosts script) verdict
replay_says laws file program hosts script placed verdict accepted ends =
    let Text = IsReplayText program hosts script in
    let code = code_of placed in
    ⊎_elim
    (λ read.
    let said = read.0 in
    let world = first_world placed said.bad said.start in
    ⊎_elim
    (λ all. report_says laws program hosts script placed ends.0 said all.0 verdict
    (record { accepted = accepted; tree_is = ends.1 }) (script_says Text file script placed (given said) read.1)
    (events_say Text file code world said.events (given all.0) all.1) all.2)
    (λ stops. events_say Text file code world said.events (stopped verdict) stops)
    read.2)
    (λ stops. script_says Text file script placed (stopped verdict) stops)
    ends.2

-- ---- a drive

abbrev IsDriveText : ℕ → List ℕ → List ℕ → List ℕ → Status → List ℕ → Type 0
IsDriveText most program hosts start status text = IsFaithfulDrive program hosts start most status text

-- what is known of starting values that a file gives
record AreRead (start : List ℕ) (fields : List FieldForm) (values : List (List ℤ)) : Type 0 where
  short : length start ≤ SCRIPT_BYTES
  read : start_of fields start ≡ Ok values

-- a file of starting values gives some, or what is due for it is no success
abbrev StartSays : (Status → List ℕ → Type 0) → List ℕ → List FieldForm → StageEnd (List (List ℤ)) → Type 0
StartSays Text start fields (given values) = AreRead start fields values
StartSays Text start fields (stopped verdict) = Says Text verdict

start_says : (Text : Status → List ℕ → Type 0) (file start : List ℕ) (fields : List FieldForm)
    (end : StageEnd (List (List ℤ))) → StartingValues file start fields end → StartSays Text start fields end
unfolding Says
start_says Text file start fields _ (starting.long more) = tt
start_says Text file start fields _ (starting.bad_line line short is) = tt
start_says Text file start fields _ (starting.read values short is) = record { short = short; read = is }

hosts_say : AllLaws → (program hosts start : List ℕ) (most : ℕ) (placed : PlacedSource) (tree : Program)
    (values : List (List ℤ)) (verdict : VerdictShape) → IsPlacedAs program hosts placed tree →
    AreRead start (map program_form tree.fields.items) values → IsDriveReport placed values most verdict →
    Says (IsDriveText most program hosts start) verdict
unfolding Says
hosts_say laws program hosts start most placed tree values verdict is_placed was report =
    subst (Says (IsDriveText most program hosts start)) (sym report.verdict_is)
    (is_faithful_drive laws program hosts start most placed tree values report.events report.last report.status
    is_placed was.short was.read report.ends)

drive_says : AllLaws → (file program hosts start : List ℕ) (most : ℕ) (placed : PlacedSource)
    (verdict : VerdictShape) → PlacedSources program hosts (given placed) →
    DueForDrive file start most placed verdict → Says (IsDriveText most program hosts start) verdict
drive_says laws file program hosts start most placed verdict accepted ends =
    let tree = ends.0 in
    let fields = map program_form tree.fields.items in
    let Text = IsDriveText most program hosts start in
    ⊎_elim
    (λ read. hosts_say laws program hosts start most placed tree read.0 verdict
    (record { accepted = accepted; tree_is = ends.1 }) (start_says Text file start fields (given read.0) read.1) read.2)
    (λ stops. start_says Text file start fields (stopped verdict) stops)
    ends.2

-- ---- a command of a program, a host file and others

-- what is reported for a program, a host file and other files of these bytes, with its status
abbrev pub Kind : Type 1
Kind = List ℕ → List ℕ → List (List ℕ) → Status → List ℕ → Type 0

-- what is due for the bytes of the files is such a report, or a failure
abbrev pub SaysOfBytes : Kind → CommandShape → Type 0
SaysOfBytes Text command = (p h : List ℕ) (others : List (List ℕ)) (verdict : VerdictShape) →
    DueForBytes command (p ∷ h ∷ others) verdict → Says (Text p h others) verdict

-- what the names stand for has this report
record IsPrinted (Text : Kind) (program hosts : List ℕ) (others : List (List ℕ))
    (held : Option (List ℕ → Option (List ℕ))) (status : Status) (text : List ℕ) : Type 0 where
  program_bytes : List ℕ
  hosts_bytes : List ℕ
  others_bytes : List (List ℕ)
  program_told : Told held program (Some program_bytes)
  hosts_told : Told held hosts (Some hosts_bytes)
  others_told : AllZip (λ file content. Told held file (Some content)) others others_bytes
  is : Text program_bytes hosts_bytes others_bytes status text

-- for the names: a report is one of their files
SaysOfFiles : (Text : Kind) (program hosts : List ℕ) (others : List (List ℕ)) → Option (List ℕ → Option (List ℕ)) →
    VerdictShape → Type 0
SaysOfFiles Text program hosts others held (Refuse refusal) = ⊤
SaysOfFiles Text program hosts others held (Print status text) = IsPrinted Text program hosts others held status text

printed_says : (Text : Kind) (program hosts : List ℕ) (others : List (List ℕ)) (held : Option (List ℕ →
    Option (List ℕ)))
    (p h : List ℕ) (t : List (List ℕ)) (verdict : VerdictShape) → Told held program (Some p) →
    Told held hosts (Some h) →
    AllZip (λ file content. Told held file (Some content)) others t → Says (Text p h t) verdict →
    SaysOfFiles Text program hosts others held verdict
unfolding Says SaysOfFiles
printed_says Text program hosts others held p h t (Refuse refusal) told_p told_h told_t says = tt
printed_says Text program hosts others held p h t (Print status text) told_p told_h told_t says = record {
  program_bytes = p;
  hosts_bytes = h;
  others_bytes = t;
  program_told = told_p;
  hosts_told = told_h;
  others_told = told_t;
  is = says;
}

files_say : (Text : Kind) (command : CommandShape) (program hosts : List ℕ) (others : List (List ℕ))
    (held : Option (List ℕ → Option (List ℕ))) → SaysOfBytes Text command → (bytes : List (List ℕ))
    (verdict : VerdictShape) →
    AllZip (λ file content. Told held file (Some content)) (program ∷ hosts ∷ others) bytes →
    DueForBytes command bytes verdict → SaysOfFiles Text program hosts others held verdict
files_say Text command program hosts others held says [] verdict told ends = absurd told
files_say Text command program hosts others held says (p ∷ []) verdict told ends = absurd told.1
files_say Text command program hosts others held says (p ∷ h ∷ t) verdict told ends =
    printed_says Text program hosts others held p h t verdict told.0 told.1.0 told.1.1 (says p h t verdict ends)

command_says : (Text : Kind) (command : CommandShape) (program hosts : List ℕ) (others : List (List ℕ))
    (held : Option (List ℕ → Option (List ℕ))) → files_of command ≡ program ∷ hosts ∷ others →
    SaysOfBytes Text command → (number : ℕ) (verdict : VerdictShape) → DueForCommand held command number verdict →
    SaysOfFiles Text program hosts others held verdict
unfolding SaysOfFiles
command_says Text command program hosts others held files says _ _ (due.absent place file first) = tt
command_says Text command program hosts others held files says _ verdict (due.loaded _ ends) =
    files_say Text command program hosts others held says ends.bytes verdict
    (subst (λ (names : List (List ℕ)). AllZip (λ file content. Told held file (Some content)) names ends.bytes) files
    ends.told)
    ends.due

words_say : (Text : Kind) (command : CommandShape) (program hosts : List ℕ) (others : List (List ℕ))
    (words : List (List ℕ))
    (held : Option (List ℕ → Option (List ℕ))) → IsCommand command → files_of command ≡ program ∷ hosts ∷ others →
    SaysOfBytes Text command → (number : ℕ) (verdict : VerdictShape) → words ≡ words_of command →
    Due words held number verdict → SaysOfFiles Text program hosts others held verdict
unfolding SaysOfFiles
words_say Text command program hosts others words held is files says _ _ asked (no_words none) = tt
words_say Text command program hosts others words held is files says number verdict asked
    (for_command other _ _ is_too also ends) =
    command_says Text command program hosts others held files says number verdict
    (subst (λ (c : CommandShape). DueForCommand held c number verdict)
    (one_command other command is_too is (sym also ∙ asked)) ends)

-- ---- three files, or four

abbrev pub Only : (List ℕ → Type 0) → List (List ℕ) → Type 0
Only Holds (bytes ∷ []) = Holds bytes
Only Holds files = ⊥

abbrev pub OnlyTwo : (List ℕ → List ℕ → Type 0) → List (List ℕ) → Type 0
OnlyTwo Hold (one ∷ other ∷ []) = Hold one other
OnlyTwo Hold files = ⊥

three_told : (Is : (program hosts third text : List ℕ) → Type 0) (program hosts third : List ℕ)
    (held : Option (List ℕ → Option (List ℕ))) (text p h : List ℕ) (others : List (List ℕ)) →
    Told held program (Some p) → Told held hosts (Some h) →
    AllZip (λ file content. Told held file (Some content)) (third ∷ []) others → Only (λ t. Is p h t text) others →
    OfThreeFiles Is program hosts third held text
three_told Is program hosts third held text p h [] told_p told_h told is = absurd is
three_told Is program hosts third held text p h (t ∷ []) told_p told_h told is = record {
  program_bytes = p;
  hosts_bytes = h;
  third_bytes = t;
  program_told = told_p;
  hosts_told = told_h;
  third_told = told.0;
  is = is;
}
three_told Is program hosts third held text p h (t ∷ x ∷ more) told_p told_h told is = absurd is

four_told : (Is : (program hosts one other text : List ℕ) → Type 0) (program hosts one other : List ℕ)
    (held : Option (List ℕ → Option (List ℕ))) (text p h : List ℕ) (others : List (List ℕ)) →
    Told held program (Some p) → Told held hosts (Some h) →
    AllZip (λ file content. Told held file (Some content)) (one ∷ other ∷ []) others →
    OnlyTwo (λ s t. Is p h s t text) others → OfFourFiles Is program hosts one other held text
four_told Is program hosts one other held text p h [] told_p told_h told is = absurd is
four_told Is program hosts one other held text p h (s ∷ []) told_p told_h told is = absurd is
four_told Is program hosts one other held text p h (s ∷ t ∷ []) told_p told_h told is = record {
  program_bytes = p;
  hosts_bytes = h;
  one_bytes = s;
  other_bytes = t;
  program_told = told_p;
  hosts_told = told_h;
  one_told = told.0;
  other_told = told.1.0;
  is = is;
}
four_told Is program hosts one other held text p h (s ∷ t ∷ x ∷ more) told_p told_h told is = absurd is

-- the report of a command that is due for three files
pub three_due : (Is : (program hosts third : List ℕ) → Status → List ℕ → Type 0) (command : CommandShape)
    (program hosts third : List ℕ) (held : Option (List ℕ → Option (List ℕ))) → IsCommand command →
    files_of command ≡ program ∷ hosts ∷ third ∷ [] →
    SaysOfBytes (λ p h others status text. Only (λ t. Is p h t status text) others) command → (number : ℕ)
    (status : Status) (text : List ℕ) → Due (words_of command) held number (Print status text) →
    OfThreeFiles (λ p h t text. Is p h t status text) program hosts third held text
unfolding SaysOfFiles
three_due Is command program hosts third held is files says number status text due =
    let printed = words_say (λ p h others status text. Only (λ t. Is p h t status text) others) command program hosts
    (third ∷ []) (words_of command) held is files says number (Print status text) refl due in
    three_told (λ p h t text. Is p h t status text) program hosts third held text printed.program_bytes
    printed.hosts_bytes printed.others_bytes printed.program_told printed.hosts_told printed.others_told printed.is

-- and for four
pub four_due : (Is : (program hosts one other : List ℕ) → Status → List ℕ → Type 0) (command : CommandShape)
    (program hosts one other : List ℕ) (held : Option (List ℕ → Option (List ℕ))) → IsCommand command →
    files_of command ≡ program ∷ hosts ∷ one ∷ other ∷ [] →
    SaysOfBytes (λ p h others status text. OnlyTwo (λ s t. Is p h s t status text) others) command → (number : ℕ)
    (status : Status) (text : List ℕ) → Due (words_of command) held number (Print status text) →
    OfFourFiles (λ p h s t text. Is p h s t status text) program hosts one other held text
unfolding SaysOfFiles
four_due Is command program hosts one other held is files says number status text due =
    let printed = words_say (λ p h others status text. OnlyTwo (λ s t. Is p h s t status text) others) command program
    hosts (one ∷ other ∷ []) (words_of command) held is files says number (Print status text) refl due in
    four_told (λ p h s t text. Is p h s t status text) program hosts one other held text printed.program_bytes
    printed.hosts_bytes printed.others_bytes printed.program_told printed.hosts_told printed.others_told printed.is

-- ---- replays and drives

replay_bytes : AllLaws → (program hosts events : List ℕ) →
    SaysOfBytes (λ p h others status text. Only (λ e. IsReplayText p h e status text) others)
    (Replay program hosts events)
replay_bytes laws program hosts events p h [] verdict ends = absurd ends
replay_bytes laws program hosts events p h (e ∷ []) verdict ends = ⊎_elim
    (λ both. replay_says laws events p h e both.0 verdict both.1 both.2)
    (λ no. placed_says (IsReplayText p h e) p h verdict no) ends
replay_bytes laws program hosts events p h (e ∷ x ∷ more) verdict ends = absurd ends

drive_bytes : AllLaws → (program hosts start : List ℕ) (most : ℕ) →
    SaysOfBytes (λ p h others status text. Only (λ s. IsDriveText most p h s status text) others)
    (Drive program hosts start most)
drive_bytes laws program hosts start most p h [] verdict ends = absurd ends
drive_bytes laws program hosts start most p h (s ∷ []) verdict ends = ⊎_elim
    (λ both. drive_says laws start p h s most both.0 verdict both.1 both.2)
    (λ no. placed_says (IsDriveText most p h s) p h verdict no) ends
drive_bytes laws program hosts start most p h (s ∷ x ∷ more) verdict ends = absurd ends

-- what is due for a replay ends well
well_replayed : (program hosts events : List ℕ) (held : Option (List ℕ → Option (List ℕ))) (status : Status)
    (text : List ℕ) →
    OfThreeFiles (λ p h e text. IsReplayText p h e status text) program hosts events held text →
    (status ≡ Done) × OfThreeFiles IsFaithful program hosts events held text
well_replayed program hosts events held status text it = (
  it.is.0,
  record {
    program_bytes = it.program_bytes;
    hosts_bytes = it.hosts_bytes;
    third_bytes = it.third_bytes;
    program_told = it.program_told;
    hosts_told = it.hosts_told;
    third_told = it.third_told;
    is = it.is.1;
  },
)

pub replay_is_faithful : AllLaws → (program hosts events : List ℕ) (held : Option (List ℕ → Option (List ℕ)))
    (number : ℕ) (status : Status) (text : List ℕ) →
    Due (words_of (Replay program hosts events)) held number (Print status text) →
    (status ≡ Done) × OfThreeFiles IsFaithful program hosts events held text
replay_is_faithful laws program hosts events held number status text due =
    well_replayed program hosts events held status text
    (three_due IsReplayText (Replay program hosts events) program hosts events held tt refl
    (replay_bytes laws program hosts events) number status text due)

pub drive_is_faithful : AllLaws → (program hosts start : List ℕ) (most : ℕ)
    (held : Option (List ℕ → Option (List ℕ))) (number : ℕ) (status : Status) (text : List ℕ) → IsStepCount most →
    Due (words_of (Drive program hosts start most)) held number (Print status text) →
    OfThreeFiles (λ p h s. IsFaithfulDrive p h s most status) program hosts start held text
drive_is_faithful laws program hosts start most held number status text few due =
    three_due (IsDriveText most) (Drive program hosts start most) program hosts start held few refl
    (drive_bytes laws program hosts start most) number status text due

-- ---- the answer

-- an answer that went well puts the text
puts_text : (text : List ℕ) (status answer : Status) (sink : SinkChange) → IsSuccess answer →
    answers.PutsWhole text status answer sink → (answer ≡ status) × Takes text sink.taken_before sink.taken_after
puts_text text status answer sink success puts =
    ⊎_elim (λ put. (put.0, put.1))
    (λ fault. absurd (output_fails (subst IsSuccess fault.0 success)))
    puts

verdict_put : (P : Status → List ℕ → Type 0) (answer : Status) (out err : SinkChange) (verdict : VerdictShape) →
    IsSuccess answer → Says P verdict → answers.IsAnswered (codes "jifsplit") verdict answer out err →
    Puts (P answer) out.taken_before out.taken_after
unfolding Says
verdict_put P answer out err (Refuse refusal) success says answered =
    absurd (refusal_fails refusal
    (subst IsSuccess (puts_text _ (refusal_status refusal) answer err success answered.1).0 success))
verdict_put P answer out err (Print status text) success says answered =
    let put = puts_text text status answer out success answered.1 in
    (text, subst (λ (s : Status). P s text) (sym put.0) says, put.1)

of_due : (P : Status → List ℕ → Type 0) (words : List (List ℕ)) (held : Option (List ℕ → Option (List ℕ))) →
    ((number : ℕ) (status : Status) (text : List ℕ) → Due words held number (Print status text) → P status text) →
    (number : ℕ) (verdict : VerdictShape) → Due words held number verdict → Says P verdict
unfolding Says
of_due P words held law number (Refuse refusal) due = tt
of_due P words held law number (Print status text) due = law number status text due

-- what holds of each report that is due holds of what was put, where the answer is that of a report
pub put_due : (P : Status → List ℕ → Type 0) (words : List (List ℕ)) (files : FilesChange) (answer : Status)
    (out err : SinkChange) →
    ((number : ℕ) (status : Status) (text : List ℕ) → Due words files.held number (Print status text) →
    P status text) → AnswersTo words files answer out err → IsSuccess answer →
    Puts (P answer) out.taken_before out.taken_after
put_due P words files answer out err law answers success =
    ⊎_elim
    (λ memory. absurd (memory_fails (subst IsSuccess memory.0 success)))
    (λ whole. verdict_put P answer out err whole.0 success
    (⊎_elim (λ by_files. of_due P words files.held law by_files.0 whole.0 by_files.1)
    (λ fault. refused_says P (refusals.FileFault files.failed) whole.0 (fault_verdict fault.0 files whole.0 fault.3))
    whole.1) whole.2)
    answers
