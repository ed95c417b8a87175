-- What is due for two scripts, by what was followed of them.
use Rattle.std.proofs.Common.{◌≡◌, ℕ, List, subst, inl, inr, Result}
use Rattle.std.specs.Prelude.{ℤ, ⊤, IfOk, MatchResult}
use Rattle.std.proofs.lemmas.Result.{IfOk-weaker}
use Rattle.event_text.specs.declared.event.Event.{Event}
use Rattle.event_text.specs.Script.{ScriptShape}
use Rattle.host_code.specs.Code.{CodeShape}
use Rattle.jif_tree.specs.declared.program.Program.{Program}
use Rattle.jif_tree.specs.Trees.{program_tree}
use Rattle.js_base.specs.declared.OutOfMemory.{OutOfMemory}
use Rattle.net_world.specs.Told.{SentMessage}
use Rattle.net_world.specs.World.{WorldShape}
use Rattle.run_comparison.specs.Compare.{Premise, fails, SameBits, SameMisbehave, SameValues, SameStarts, Compared}
use Rattle.run_comparison.specs.Compare.{ScriptFollowed, DueForRuns, DueForReadScripts, DueForCompare}
use Rattle.script_stages.specs.FirstWorld.{first_world}
use Rattle.front_end.specs.PlacedCode.{code_of, program_of}
use Rattle.split_rules.specs.Releases.{ReleasesShape, releases_of}
use Rattle.run_comparison.specs.Followed.{FollowedRun, EventsFollowed}
use Rattle.front_end.specs.Loading.{StopsWith}
use Rattle.front_end.specs.PlacedSources.{PlacedSource}
use Rattle.script_stages.specs.Scripts.{ScriptRead}
use Rattle.front_end.specs.Stages.{StageEnd, given, stopped}
use Rattle.front_end.specs.Verdicts.{VerdictShape, verdict_shape}
use Rattle.front_end.specs.declared.stop.Stop.{Stop}
use Rattle.front_end.specs.declared.stop.Stop.TheVariants as stop
use Rattle.front_end.specs.declared.verdict.Verdict.{Verdict}
use Rattle.front_end.proofs.Stages.{stopped_with}

-- what was followed in a world that is the first, by a code that is that of the program
pub followed_as : (file : List ℕ) (placed : PlacedSource) (code : CodeShape) (said : ScriptShape) (first : WorldShape)
    (table : ReleasesShape) (events : List (ℕ × Event)) (end : StageEnd FollowedRun) → code ≡ code_of placed →
    table ≡ releases_of (program_of placed) → first ≡ first_world placed said.bad said.start → events ≡ said.events →
    EventsFollowed file code table first events end → ScriptFollowed placed file said end
followed_as file placed code said first table events end same tells starts are was =
    let world = first_world placed said.bad said.start in
    subst (λ (c : CodeShape). EventsFollowed file c (releases_of (program_of placed)) world said.events end) same
    (subst (λ (t : ReleasesShape). EventsFollowed file code t world said.events end) tells
    (subst (λ (w : WorldShape). EventsFollowed file code table w said.events end) starts
    (subst (λ (es : List (ℕ × Event)). EventsFollowed file code table first es end) are was)))

-- a premise that fails, and the stop with what is then due
pub premise_stops : (Holds : Type 0) (Fails : VerdictShape → Type 0) (due : Result Verdict OutOfMemory) (why : Stop) →
    IfOk due (λ verdict. Fails (verdict_shape verdict)) →
    MatchResult due (λ verdict. why ≡ stop.Due verdict) (λ _. why ≡ stop.OutOfMemory) →
    StopsWith (λ verdict. Premise Holds Fails (stopped verdict)) why
premise_stops Holds Fails due why is made =
    stopped_with (λ verdict. Premise Holds Fails (stopped verdict)) due why
    (IfOk-weaker due _ _ (λ verdict not. fails (verdict_shape verdict) not) is) made

-- ---- premises, of a program in its places

pub misbehave_as : (one other : ScriptShape) (bad bad_too : ℕ) (end : StageEnd ⊤) → bad ≡ one.bad →
    bad_too ≡ other.bad → SameBits bad bad_too end → SameMisbehave one other end
misbehave_as one other bad bad_too end is is_too was =
    subst (λ (word : ℕ). SameBits one.bad word end) is_too (subst (λ (word : ℕ). SameBits word bad_too end) is was)

pub starts_as : (placed : PlacedSource) (code : CodeShape) (world : WorldShape) (one other : ScriptShape)
    (start start_too : List (List ℤ)) (end : StageEnd ⊤) → code ≡ code_of placed →
    world ≡ first_world placed one.bad one.start → start ≡ one.start → start_too ≡ other.start →
    SameValues code world start start_too end → SameStarts placed one other end
starts_as placed code world one other start start_too end same first is is_too was =
    subst (λ (c : CodeShape). SameValues c (first_world placed one.bad one.start) one.start other.start end) same
    (subst (λ (w : WorldShape). SameValues code w one.start other.start end) first
    (subst (λ (values : List (List ℤ)). SameValues code world one.start values end) is_too
    (subst (λ (values : List (List ℤ)). SameValues code world values start_too end) is was)))

pub compared_as : (placed : PlacedSource) (one other sent sent_too : List SentMessage)
    (values values_too released released_too : List ℤ) (verdict : VerdictShape) → one ≡ sent → other ≡ sent_too →
    values ≡ released → values_too ≡ released_too → Compared placed one other values values_too verdict →
    Compared placed sent sent_too released released_too verdict
compared_as placed one other sent sent_too values values_too released released_too verdict is is_too are are_too was =
    subst (λ (all : List ℤ). Compared placed sent sent_too released all verdict) are_too
    (subst (λ (all : List ℤ). Compared placed sent sent_too all values_too verdict) are
    (subst (λ (messages : List SentMessage). Compared placed sent messages values values_too verdict) is_too
    (subst (λ (messages : List SentMessage). Compared placed messages other values values_too verdict) is was)))

-- ---- what is due

-- both runs were followed
pub runs_due : (placed : PlacedSource) (code : CodeShape) (table : ReleasesShape) (file : List ℕ)
    (said : ScriptShape) (run : FollowedRun) (other : List ℕ) (said_too : ScriptShape) (run_too : FollowedRun)
    (first first_too : WorldShape) (events events_too : List (ℕ × Event)) (verdict : VerdictShape) →
    code ≡ code_of placed → table ≡ releases_of (program_of placed) →
    first ≡ first_world placed said.bad said.start → events ≡ said.events →
    EventsFollowed file code table first events (given run) →
    first_too ≡ first_world placed said_too.bad said_too.start → events_too ≡ said_too.events →
    EventsFollowed other code table first_too events_too (given run_too) →
    DueForRuns placed file said run other said_too run_too verdict →
    DueForReadScripts placed file said other said_too verdict
runs_due placed code table file said run other said_too run_too first first_too events events_too verdict same tells
    starts are was starts_too are_too was_too due =
    inl (
      run,
      followed_as file placed code said first table events (given run) same tells starts are was,
      inl (
        run_too,
        followed_as other placed code said_too first_too table events_too (given run_too) same tells starts_too are_too
            was_too,
        due,
      ),
    )

-- the first script stops the command
pub first_stops : (file script other script_too : List ℕ) (placed : PlacedSource) (program : Program)
    (verdict : VerdictShape) → program_tree program ≡ placed.source.tree →
    ScriptRead file script (code_of placed) (stopped verdict) →
    DueForCompare file script other script_too placed verdict
first_stops file script other script_too placed program verdict same stops = (program, same, inr stops)

-- the second script does
pub second_stops : (file script other script_too : List ℕ) (placed : PlacedSource) (program : Program)
    (said : ScriptShape) (verdict : VerdictShape) → program_tree program ≡ placed.source.tree →
    ScriptRead file script (code_of placed) (given said) →
    ScriptRead other script_too (code_of placed) (stopped verdict) →
    DueForCompare file script other script_too placed verdict
second_stops file script other script_too placed program said verdict same was stops =
    (program, same, inl (said, was, inr stops))

-- both were read
pub both_read : (file script other script_too : List ℕ) (placed : PlacedSource) (program : Program)
    (said said_too : ScriptShape) (verdict : VerdictShape) → program_tree program ≡ placed.source.tree →
    ScriptRead file script (code_of placed) (given said) →
    ScriptRead other script_too (code_of placed) (given said_too) →
    DueForReadScripts placed file said other said_too verdict →
    DueForCompare file script other script_too placed verdict
both_read file script other script_too placed program said said_too verdict same was also due =
    (program, same, inl (said, was, inl (said_too, also, due)))
