-- The headline, to be read from the top: what is reported of hosts that run a program together, whoever misbehaves.
--
-- `Together` follows events: at every moment the world stands for what a run of the program has come to. `StandsFor`
-- says that each field of an obeying host, which misbehaving hosts may not affect, has its value there, and that this
-- run is at its end once an obeying root has halted. `StandsPlainly` says it of all fields, and that no message was
-- ignored. What misbehaving hosts may affect may be altered in that run. Only by `endorse` does a program let it decide
-- on the rest: so without one the rest is that of the plain run itself (`FollowsUnaltered`).
use Rattle.std.specs.Prelude.{◌≡◌, ℕ, ◌+◌, ◌*◌, ◌≤◌, ℤ, List, [], length, map, Option, Some, Ok}
use Rattle.js_base.specs.declared.limits.TheConstants.{SCRIPT_BYTES}
use Rattle.js_base.specs.declared.status.Status.{Status}
use Rattle.js_base.specs.declared.status.Status.TheVariants.{Done, Differ}
use Rattle.js_base.specs.Sink.{Takes}
use Rattle.jif_tree.specs.declared.program.Program.{Program}
use Rattle.jif_tree.specs.Altered.{Exposure}
use Rattle.jif_tree.specs.Store.{starting_values}
use Rattle.jif_tree.specs.SourceRun.{Configuration, after_steps, configuration_at_start, HasLength}
use Rattle.jif_tree.specs.Trees.{program_tree}
use Rattle.event_text.specs.declared.event.Event.{Event}
use Rattle.event_text.specs.Lines.{said_lines}
use Rattle.event_text.specs.Misbehaving.{past_bad}
use Rattle.event_text.specs.Script.{ScriptShape, script_of}
use Rattle.event_text.specs.Settings.{form_of, settings_in_front, after_settings}
use Rattle.event_text.specs.Start.{start_of, program_form}
use Rattle.net_world.specs.Released.{OneIsFront, AreReleased}
use Rattle.net_world.specs.Replay.{events_in}
use Rattle.net_world.specs.Secret.{IsSeenRun, IsPrompt}
use Rattle.net_world.specs.Together.{Together}
use Rattle.net_world.specs.World.{WorldShape, IsRun, has_halted}
use Rattle.simulation.specs.Ending.{EVENTS}
use Rattle.simulation.specs.Obeying.{StandsPlainly, GoesOnPlainly}
use Rattle.source_law.specs.Unendorsed.{EndorsesNothing}
use Rattle.split_rules.specs.Releases.{releases_of}
use Rattle.split_shades.specs.Sites.{ReleasesNothing}
use Rattle.integrity.specs.Altering.{StandsFor, GoesOnAltered}
use Rattle.integrity.specs.Exposed.{exposure_of}
use Rattle.front_end.specs.Loads.{Told}
use Rattle.front_end.specs.PlacedCode.{code_of, program_of}
use Rattle.front_end.specs.PlacedSources.{PlacedSource, PlacedSources}
use Rattle.front_end.specs.Stages.{given}
use Rattle.front_end.specs.Verdicts.{Print}
use Rattle.run_comparison.specs.Compare.{StartAlike, Compared}
use Rattle.script_stages.specs.FirstWorld.{first_world}
use Rattle.split_cli.specs.Drive.{drive_text}
use Rattle.split_cli.specs.Driven.{DrivesTo}
use Rattle.split_cli.specs.Replay.{replay_text}

-- ---- hosts and the program together

-- what the misbehaving hosts may affect, which are those of the word's bits
abbrev pub power_of : PlacedSource → ℕ → Exposure
power_of placed bad = exposure_of (program_of placed) bad

-- Whoever misbehaves and whatever they send: while events happen, the program makes no step, one or several, each as it
-- stands or altered in what may be affected, and the world stands for what it has come to.
abbrev pub FollowsAltered : PlacedSource → Program → (bad : ℕ) → (start : List (List ℤ)) → List Event → WorldShape →
    Type 0
FollowsAltered placed tree bad start events last =
    let power = power_of placed bad in
    Together (StandsFor (code_of placed) power) (GoesOnAltered tree power) (code_of placed)
    (first_world placed bad start) (configuration_at_start tree start) events last

-- the plain run makes no step, one or several
abbrev pub MakesSteps : Program → Configuration → Configuration → Type 0
MakesSteps tree c now = (steps : ℕ) × (now ≡ after_steps tree steps c)

-- So it is with the plain run itself, none of whose steps is altered: what may not be affected is at every moment what
-- it is after some number of its steps, never fewer than before, and what it is at its end once an obeying root has
-- halted.
abbrev pub FollowsUnaltered : PlacedSource → Program → (bad : ℕ) → (start : List (List ℤ)) → List Event → WorldShape →
    Type 0
FollowsUnaltered placed tree bad start events last =
    Together (StandsFor (code_of placed) (power_of placed bad)) (MakesSteps tree) (code_of placed)
    (first_world placed bad start) (configuration_at_start tree start) events last

-- Where nobody misbehaves, the program makes at most its next step while an event happens, and all fields follow it.
abbrev pub FollowsPlainly : PlacedSource → Program → (start : List (List ℤ)) → List Event → WorldShape → Type 0
FollowsPlainly placed tree start events last =
    Together (StandsPlainly (code_of placed)) (GoesOnPlainly tree) (code_of placed) (first_world placed 0 start)
    (configuration_at_start tree start) events last

-- ---- what files say

-- A program and a host file of these bytes are accepted. This is the program as a tree, with its hosts, and with places
-- for its parts.
pub record IsPlacedAs (program hosts : List ℕ) (placed : PlacedSource) (tree : Program) : Type 0 where
  pub accepted : PlacedSources program hosts (given placed)
  pub tree_is : program_tree tree ≡ placed.source.tree

-- A script of these bytes was played: all its events happened, and left the last world. The fields started with the
-- values of the program's text, but for what the script sets. Of a program without `endorse` whose plain run from these
-- values ends, what may not be affected follows the plain run itself.
pub record Played (placed : PlacedSource) (tree : Program) (script : List ℕ) : Type 0 where
  pub said : ScriptShape
  pub last : WorldShape
  pub short : length script ≤ SCRIPT_BYTES
  pub read : script_of (code_of placed) script ≡ Ok said
  pub starts : said.start ≡ after_settings (starting_values tree)
      (settings_in_front (map form_of (code_of placed).fields)
      (past_bad (code_of placed).hosts (said_lines script)))
  pub altered : FollowsAltered placed tree said.bad said.start (events_in said.events) last
  pub unaltered : EndorsesNothing placed.source.tree → (steps : ℕ) → HasLength tree said.start steps →
      FollowsUnaltered placed tree said.bad said.start (events_in said.events) last
  pub plain : said.bad ≡ 0 → FollowsPlainly placed tree said.start (events_in said.events) last

-- ---- reports

-- A program, a host file and a script of these bytes were replayed to this report.
pub record IsFaithful (program hosts script text : List ℕ) : Type 0 where
  pub placed : PlacedSource
  pub tree : Program
  pub is_placed : IsPlacedAs program hosts placed tree
  pub played : Played placed tree script
  pub text_is : text ≡ replay_text (code_of placed) played.last

-- The hosts of a program and a host file of these bytes were driven from the starting values of a file, to this status
-- and this report. Where they came to rest the program has halted. They come to rest in time: where the plain run ends
-- after so many steps, so many events are enough.
pub record IsFaithfulDrive (program hosts start : List ℕ) (most : ℕ) (status : Status) (text : List ℕ) : Type 0 where
  pub placed : PlacedSource
  pub tree : Program
  pub is_placed : IsPlacedAs program hosts placed tree
  pub values : List (List ℤ)
  pub events : List Event
  pub last : WorldShape
  pub short : length start ≤ SCRIPT_BYTES
  pub read : start_of (map program_form tree.fields.items) start ≡ Ok values
  pub runs : IsRun (code_of placed) (first_world placed 0 values) events last
  pub ends : DrivesTo (code_of placed) (first_world placed 0 values) most events last status
  pub plain : FollowsPlainly placed tree values events last
  pub rested : status ≡ Done → has_halted (code_of placed).root last
  pub in_time : (steps : ℕ) → HasLength tree values steps → EVENTS * (steps + 1) ≤ most → status ≡ Done
  pub text_is : text ≡ drive_text (code_of placed) (length events) last

-- Of a script that was played misbehaving hosts saw these events, each of them in a quiet world.
pub record IsSeen (placed : PlacedSource) (tree : Program) (script : List ℕ) (it : Played placed tree script)
    (seen : List Event) : Type 0 where
  pub runs : IsSeenRun (code_of placed) (first_world placed it.said.bad it.said.start) (events_in it.said.events) seen
      it.last
  pub prompt : IsPrompt (code_of placed) (first_world placed it.said.bad it.said.start) (events_in it.said.events)

-- of a script that was played turns that may be seen released these values, in order
abbrev pub HasReleased : (placed : PlacedSource) (tree : Program) (script : List ℕ) → Played placed tree script →
    List ℤ → Type 0
HasReleased placed tree script it values =
    AreReleased (code_of placed) (releases_of (program_of placed)) (first_world placed it.said.bad it.said.start)
    (events_in it.said.events) values

-- Two scripts were played and compared, to this status and this report: the same hosts misbehave, what they may read
-- starts alike, and they see the same as far as both runs go. As long as the values that one run releases go on as
-- those of the other, they are told the same too: so it is reported that they differ only where these values do. Where
-- the program releases nothing it is never reported.
pub record IsPrivate (program hosts one other : List ℕ) (status : Status) (text : List ℕ) : Type 0 where
  pub placed : PlacedSource
  pub tree : Program
  pub is_placed : IsPlacedAs program hosts placed tree
  pub first : Played placed tree one
  pub second : Played placed tree other
  pub same_bad : first.said.bad ≡ second.said.bad
  pub starts : StartAlike (code_of placed) (first_world placed first.said.bad first.said.start) first.said.start
      second.said.start
  pub seen : List Event
  pub seen_too : List Event
  pub first_seen : IsSeen placed tree one first seen
  pub second_seen : IsSeen placed tree other second seen_too
  pub alike : OneIsFront seen seen_too
  pub released : List ℤ
  pub released_too : List ℤ
  pub first_released : HasReleased placed tree one first released
  pub second_released : HasReleased placed tree other second released_too
  pub reported : Compared placed first.last.sent second.last.sent released released_too (Print status text)
  pub released_alike : OneIsFront released released_too → OneIsFront first.last.sent second.last.sent
  pub differs : status ≡ Differ → ¬ OneIsFront released released_too
  pub silent : ReleasesNothing placed.source.tree → (released ≡ []) × (released_too ≡ [])
  pub told_alike : ReleasesNothing placed.source.tree → OneIsFront first.last.sent second.last.sent
  pub never_differs : ReleasesNothing placed.source.tree → status ≡ Done

-- ---- what is put

-- Three files hold such bytes, with this text. Where files do not tell what they hold, they hold some bytes.
pub record OfThreeFiles (Is : (program hosts third text : List ℕ) → Type 0) (program hosts third : List ℕ)
    (held : Option (List ℕ → Option (List ℕ))) (text : List ℕ) : Type 0 where
  pub program_bytes : List ℕ
  pub hosts_bytes : List ℕ
  pub third_bytes : List ℕ
  pub program_told : Told held program (Some program_bytes)
  pub hosts_told : Told held hosts (Some hosts_bytes)
  pub third_told : Told held third (Some third_bytes)
  pub is : Is program_bytes hosts_bytes third_bytes text

-- and so do four
pub record OfFourFiles (Is : (program hosts one other text : List ℕ) → Type 0) (program hosts one other : List ℕ)
    (held : Option (List ℕ → Option (List ℕ))) (text : List ℕ) : Type 0 where
  pub program_bytes : List ℕ
  pub hosts_bytes : List ℕ
  pub one_bytes : List ℕ
  pub other_bytes : List ℕ
  pub program_told : Told held program (Some program_bytes)
  pub hosts_told : Told held hosts (Some hosts_bytes)
  pub one_told : Told held one (Some one_bytes)
  pub other_told : Told held other (Some other_bytes)
  pub is : Is program_bytes hosts_bytes one_bytes other_bytes text

-- a text of this kind was put
abbrev pub Puts : (List ℕ → Type 0) → (before after : Option (List ℕ)) → Type 0
Puts IsText before after = (text : List ℕ) × IsText text × Takes text before after
