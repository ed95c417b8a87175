-- For a drive of a program in its places something is due, whatever the file of starting values holds and is told.
use Rattle.std.proofs.Common.{ℕ, ◌≤◌, List, All, length, map, refl}
use Rattle.std.specs.Prelude.{ℤ}
use Rattle.js_base.specs.declared.limits.TheConstants.{HOSTS_BYTES}
use Rattle.principals.specs.ActsFor.{Declared}
use Rattle.host_code.specs.Code.{CodeShape}
use Rattle.host_code.specs.Sound.{IsSoundCode}
use Rattle.host_decl.specs.Hosts as declared_hosts
use Rattle.host_decl.specs.Hosts.{HostsShape, AreHosts}
use Rattle.host_decl.specs.Reading.{ReadsHosts}
use Rattle.jif_grammar.specs.DraftShapes.{DraftShape}
use Rattle.jif_resolve.specs.Verdicts.{IsProgramOf}
use Rattle.jif_tree.specs.Numbering.{CountsFrom, site_numbers, statement_numbers}
use Rattle.jif_tree.specs.Trees.{ProgramTree, program_tree}
use Rattle.need_labels.specs.Labelled as needs
use Rattle.need_labels.specs.Needs.{NeedsShape}
use Rattle.need_labels.specs.Plan.{PlanShape}
use Rattle.net_world.specs.Fits.{ShapeFits}
use Rattle.net_world.specs.World.{WorldShape, AreHostsOf, world_at_start}
use Rattle.place_rules.specs.Allowed.{AllowedShape}
use Rattle.placement.specs.Placing.{IsPlaced, HasHosts}
use Rattle.split_rules.specs.Placed.{PlacedProgram}
use Rattle.split_rules.specs.SplitCode.{split_code}
use Rattle.split_rules.specs.Splittable.{IsSplittable}
use Rattle.script_stages.specs.FirstWorld.{first_world}
use Rattle.split_cli.specs.Drive.{TellsDrive, DueForDriven}
use Rattle.front_end.specs.PlacedCode.{code_of, program_of}
use Rattle.front_end.specs.PlacedSources.{PlacedSource, PlacedSources, labelled_source}
use Rattle.front_end.specs.Stages.{given}
use Rattle.event_text.specs.Start.{program_form}
use Rattle.front_end.specs.Starting.{StartingValues}
use Rattle.front_end.specs.Verdicts.{Print}
use Rattle.net_world.proofs.Obeying.{obey_at_start}
use Rattle.script_stages.proofs.ScriptReads.{code_hosts}
use Rattle.front_end.proofs.NativeParts.{IsSeen}
use Rattle.front_end.proofs.NativeSources.{NativeLaws, is_read}
use Rattle.front_end.proofs.ReadLaws.{splittable}
use Rattle.front_end.proofs.ReadSources.{read_source, source_given, chosen}
use Rattle.split_cli.proofs.DriveEnds.{StepCauses, drive_ends}
use Rattle.front_end.proofs.SomeStart.{SomeStart, start_some}
use Rattle.front_end.proofs.SomeStages.{HasVerdict, some_due}

-- what is known of the code of split programs, and of the world before the first event
pub record CodeLaws : Type 0 where
  pub native : NativeLaws
  pub statements : (principals : Declared) (draft : DraftShape) (tree : ProgramTree) →
      IsProgramOf principals draft tree → CountsFrom 0 (statement_numbers tree)
  pub sites : (principals : Declared) (draft : DraftShape) (tree : ProgramTree) →
      IsProgramOf principals draft tree → CountsFrom 1 (site_numbers tree)
  pub hosts : (bytes : List ℕ) (file : HostsShape) → ReadsHosts bytes file → AreHosts file
  pub short_names : (bytes : List ℕ) (file : HostsShape) → ReadsHosts bytes file →
      All (λ host. length host.name ≤ HOSTS_BYTES) file.hosts
  pub places : (labelled : needs.Labelled) (need : NeedsShape) (hosts : HostsShape) (allowed : AllowedShape)
      (plan : PlanShape) → IsPlaced labelled need hosts allowed plan → HasHosts hosts plan
  pub sound : (placed : PlacedProgram) → IsSplittable placed → IsSoundCode (split_code placed)
  pub start : (code : CodeShape) (rows : List declared_hosts.HostShape) (bad : ℕ) (store : List (List ℤ)) →
      IsSoundCode code → AreHostsOf code rows → ShapeFits code (world_at_start code rows bad store)

splits : CodeLaws → (program hosts : List ℕ) (placed : PlacedSource) → PlacedSources program hosts (given placed) →
    IsSplittable (program_of placed)
splits laws program hosts placed accepted =
    let source = placed.source in
    let given_source = source_given program hosts placed accepted in
    let read = read_source program hosts source given_source in
    let choice = chosen program hosts placed accepted in
    splittable source placed.needs placed.plan
    (is_read laws.native program hosts source
    (laws.statements source.file.principals read.draft source.tree read.resolved)
    (laws.sites source.file.principals read.draft source.tree read.resolved) given_source)
    (laws.hosts hosts source.file read.file) (laws.short_names hosts source.file read.file)
    (laws.places (labelled_source source) placed.needs source.file placed.allowed placed.plan choice.plan)

pub sound_code : CodeLaws → (program hosts : List ℕ) (placed : PlacedSource) →
    PlacedSources program hosts (given placed) → IsSoundCode (code_of placed)
sound_code laws program hosts placed accepted =
    laws.sound (program_of placed)
    (splits laws program hosts placed accepted)

report_some : StepCauses → (text : CodeShape → ℕ → WorldShape → List ℕ) (placed : PlacedSource)
    (values : List (List ℤ)) (most : ℕ) →
    IsSoundCode (code_of placed) → ShapeFits (code_of placed) (first_world placed 0 values) →
    HasVerdict (TellsDrive text placed values most)
report_some steps text placed values most sound fits =
    let code = code_of placed in
    let world = first_world placed 0 values in
    let end = drive_ends steps code sound most world fits (obey_at_start code placed.source.file.hosts values) in (
      Print end.status (text code (length end.events) end.last),
      record { events = end.events; last = end.last; status = end.status; ends = end.ends; verdict_is = refl },
    )

pub drive_some : SomeStart → StepCauses → CodeLaws → (program hosts : List ℕ) (placed : PlacedSource) →
    PlacedSources program hosts (given placed) → (text : CodeShape → ℕ → WorldShape → List ℕ) (file start : List ℕ)
    (most : ℕ) → IsSeen program_tree placed.source.tree → HasVerdict (DueForDriven text file start most placed)
drive_some starts steps laws program hosts placed accepted text file start most seen =
    let tree = seen.0 in
    let code = code_of placed in
    let sound = sound_code laws program hosts placed accepted in
    let due =
    some_due (StartingValues file start (map program_form tree.fields.items)) (λ values. TellsDrive text placed values most)
    (start_some starts file start (map program_form tree.fields.items))
    (λ values was. report_some steps text placed values most sound
    (laws.start code placed.source.file.hosts 0 values sound (code_hosts placed code refl))) in
    (due.0, (tree, seen.1, due.1))
