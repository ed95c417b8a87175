-- What is due for an accepted program in its places and two scripts: whether misbehaving hosts are sent the same in
-- both runs, as far as both go, and which values each run released. The runs may be compared where the same hosts
-- misbehave, where all starts alike that these hosts may see, where the same events happen before their eyes, and where
-- each such event finds the world quiet.
use Rattle.std.specs.Prelude.{◌≡◌, ◌≢◌, ⊤, ℕ, ◌<◌, ℤ, List, ◌++◌, codes, length, take, Some}
use Rattle.std.specs.Prelude.{None, IsSome, IsSomeAnd, slice_get}
use Rattle.std.specs.Fmt.{decimal}
use Rattle.js_base.specs.declared.status.Status.TheVariants.{Done, Differ}
use Rattle.jif_tree.specs.declared.program.Program.{Program}
use Rattle.jif_tree.specs.Trees.{program_tree}
use Rattle.event_text.specs.declared.event.Event.{Event}
use Rattle.event_text.specs.Script.{ScriptShape}
use Rattle.host_code.specs.Code.{CodeShape, CodeFieldShape}
use Rattle.net_world.specs.Released.{OneIsFront}
use Rattle.net_world.specs.Secret.{IsReadable}
use Rattle.net_world.specs.Told.{SentMessage}
use Rattle.net_world.specs.World.{WorldShape, state_at}
use Rattle.script_stages.specs.FirstWorld.{first_world}
use Rattle.front_end.specs.PlacedCode.{code_of, program_of}
use Rattle.run_comparison.specs.Followed.{Followed, FollowedRun, EventsFollowed}
use Rattle.front_end.specs.PlacedSources.{PlacedSource}
use Rattle.split_rules.specs.Releases.{releases_of}
use Rattle.run_comparison.specs.ReleaseLines.{release_lines}
use Rattle.releasing_statements.specs.Releases.{first_release}
use Rattle.net_world.specs.Replay.{events_in}
use Rattle.script_stages.specs.Scripts.{ScriptRead}
use Rattle.front_end.specs.Stages.{StageEnd, given, stopped, DueThen}
use Rattle.front_end.specs.Text.{line_text}
use Rattle.front_end.specs.Verdicts.{VerdictShape, Print, bad_differ, starts_differ, events_differ, not_prompt}

-- ---- lists

-- this is the first place, of those that both lists have, at which they differ
pub record DifferAt {X : Type 0} (one other : List X) (place : ℕ) : Type 0 where
  pub same : take place one ≡ take place other
  pub first : X
  pub second : X
  pub first_there : slice_get one place ≡ Some first
  pub second_there : slice_get other place ≡ Some second
  pub differ : first ≢ second

-- ---- starting values

-- The field of this number starts with other values in one run than in the other. Misbehaving hosts may read it, and
-- the host that has it obeys.
abbrev pub StartsUnlike : CodeShape → WorldShape → (one other : List (List ℤ)) → ℕ → Type 0
StartsUnlike code world one other number =
    IsSomeAnd (slice_get code.fields number) (λ field.
    IsReadable code world field.label × IsSome (state_at world field.host)
    × (slice_get one number ≢ slice_get other number))

-- no field does
abbrev pub StartAlike : CodeShape → WorldShape → (one other : List (List ℤ)) → Type 0
StartAlike code world one other = (number : ℕ) → ¬ StartsUnlike code world one other number

-- the first field that does
pub record IsFirstUnlike (code : CodeShape) (world : WorldShape) (one other : List (List ℤ)) (number : ℕ)
    (field : CodeFieldShape) : Type 0 where
  pub there : slice_get code.fields number ≡ Some field
  pub unlike : StartsUnlike code world one other number
  pub before : (earlier : ℕ) → earlier < number → ¬ StartsUnlike code world one other earlier

-- ---- premises

-- a premise holds, or it stops the command with what is then due
pub data Premise (Holds : Type 0) (Fails : VerdictShape → Type 0) : StageEnd ⊤ → Type 0 where
  holds : Holds → Premise Holds Fails (given tt)
  fails : (verdict : VerdictShape) → Fails verdict → Premise Holds Fails (stopped verdict)

-- the same hosts misbehave, by a bit for each host
abbrev pub SameBits : (bad other : ℕ) → StageEnd ⊤ → Type 0
SameBits bad other = Premise (bad ≡ other) (λ verdict. (bad ≢ other) × (verdict ≡ bad_differ))

abbrev pub SameMisbehave : (one other : ScriptShape) → StageEnd ⊤ → Type 0
SameMisbehave one other = SameBits one.bad other.bad

-- what misbehaving hosts of a world may read of obeying hosts starts alike
abbrev pub SameValues : CodeShape → WorldShape → (one other : List (List ℤ)) → StageEnd ⊤ → Type 0
SameValues code world one other =
    Premise (StartAlike code world one other)
    (λ verdict. (number : ℕ) × (field : CodeFieldShape) × IsFirstUnlike code world one other number field
    × (verdict ≡ starts_differ field.name))

abbrev pub SameStarts : PlacedSource → (one other : ScriptShape) → StageEnd ⊤ → Type 0
SameStarts placed one other =
    SameValues (code_of placed) (first_world placed one.bad one.start) one.start other.start

-- the line of the first file on which the events that may be seen go apart
pub record GoApart (one other : List (ℕ × Event)) (line : ℕ) : Type 0 where
  pub place : ℕ
  pub event : Event
  pub apart : DifferAt (events_in one) (events_in other) place
  pub there : slice_get one place ≡ Some (line, event)

-- what may be seen happens alike
abbrev pub SameEvents : (file : List ℕ) (one other : Followed) → StageEnd ⊤ → Type 0
SameEvents file one other =
    Premise (OneIsFront (events_in one.seen) (events_in other.seen))
    (λ verdict. (line : ℕ) × GoApart one.seen other.seen line × (verdict ≡ events_differ file line))

-- at each event of a run that may be seen the world is quiet
abbrev pub IsPromptRun : (file : List ℕ) → Followed → StageEnd ⊤ → Type 0
IsPromptRun file run =
    Premise (run.late ≡ None) (λ verdict. (line : ℕ) × (run.late ≡ Some line) × (verdict ≡ not_prompt file line))

-- ---- what is due

-- `agree K L`, how many messages misbehaving hosts were sent in each run
abbrev pub agree_text : (one other : List SentMessage) → List ℕ
agree_text one other =
    line_text (codes "agree " ++ decimal (length one) ++ codes " " ++ decimal (length other))

-- `differ K statement S`, the first message that differs, and the first statement that releases something
abbrev pub differ_text : (place statement : ℕ) → List ℕ
differ_text place statement =
    line_text (codes "differ " ++ decimal place ++ codes " statement " ++ decimal statement)

-- Two runs were compared, by what misbehaving hosts were sent in each. Behind the answer stand the values that the
-- runs released.
pub data Compared (placed : PlacedSource) (one other : List SentMessage) (released released_too : List ℤ) :
    VerdictShape → Type 0 where
  agree : OneIsFront one other → Compared placed one other released released_too
      (Print Done (agree_text one other ++ release_lines released released_too))
  differ : (place : ℕ) → DifferAt one other place → Compared placed one other released released_too
      (Print Differ (differ_text place (first_release placed.source.tree) ++ release_lines released released_too))

-- the premises of two scripts that were followed, in order, and then the messages
abbrev pub DueForRuns : PlacedSource → (file : List ℕ) (said : ScriptShape) (one : FollowedRun) →
    (other : List ℕ) (said_too : ScriptShape) (two : FollowedRun) → VerdictShape → Type 0
DueForRuns placed file said one other said_too two =
    DueThen (SameMisbehave said said_too) (λ _.
    DueThen (SameStarts placed said said_too) (λ _.
    DueThen (SameEvents file one.run two.run) (λ _.
    DueThen (IsPromptRun file one.run) (λ _.
    DueThen (IsPromptRun other two.run) (λ _.
    Compared placed one.run.last.sent two.run.last.sent one.released two.released)))))

-- the events of a script of this name are followed on the hosts of a program
abbrev pub ScriptFollowed : PlacedSource → (file : List ℕ) → ScriptShape → StageEnd FollowedRun → Type 0
ScriptFollowed placed file said =
    EventsFollowed file (code_of placed) (releases_of (program_of placed)) (first_world placed said.bad said.start)
    said.events

-- two scripts that were read are followed, one after the other
abbrev pub DueForReadScripts : PlacedSource →
    (file : List ℕ) (said : ScriptShape) (other : List ℕ) (said_too : ScriptShape) →
    VerdictShape → Type 0
DueForReadScripts placed file said other said_too =
    DueThen (ScriptFollowed placed file said) (λ one.
    DueThen (ScriptFollowed placed other said_too) (λ two. DueForRuns placed file said one other said_too two))

-- two files of these names hold these scripts, which are read one after the other
abbrev pub DueForScripts : (file script other script_too : List ℕ) → PlacedSource → VerdictShape → Type 0
DueForScripts file script other script_too placed =
    DueThen (ScriptRead file script (code_of placed)) (λ said.
    DueThen (ScriptRead other script_too (code_of placed)) (λ said_too.
    DueForReadScripts placed file said other said_too))

-- hosts make both scripts happen; the tree is that of some program
abbrev pub DueForCompare : (file script other script_too : List ℕ) → PlacedSource → VerdictShape → Type 0
DueForCompare file script other script_too placed verdict =
    (program : Program) × (program_tree program ≡ placed.source.tree)
    × DueForScripts file script other script_too placed verdict
