-- For all words something is due, whatever the files hold and whether they tell or not.
use Rattle.std.proofs.Common.{◌≡◌, ◌⊎◌, ℕ, ◌+◌, List, [], ◌∷◌, length, refl, ⊎_elim}
use Rattle.js_base.specs.declared.status.Status.TheVariants.{Done}
use Rattle.front_end.specs.declared.step_counts.TheConstants.{STEPS}
use Rattle.split_cli.specs.Check.{plan_report}
use Rattle.front_end.specs.PlacedCode.{cost_of}
use Rattle.split_words.specs.Commands.{CommandShape, Check, Run, Replay, Drive, Compare, Split, Make, files_of, forms}
use Rattle.run_comparison.specs.Compare.{DueForCompare}
use Rattle.split_cli.specs.Drive.{DueForDrive, drive_text}
use Rattle.split_cli.specs.Due.{DueForBytes, DueForCommand, absent, loaded, Due, no_words, for_command}
use Rattle.made_laws.specs.MadePrograms.{made_hosts, made_program}
use Rattle.split_cli.specs.Making.{DueForMade, made_text}
use Rattle.front_end.specs.PlacedSources.{PlacedSource, PlacedSources}
use Rattle.split_cli.specs.PlainRun.{DueForRun}
use Rattle.split_cli.specs.Replay.{DueForReplay}
use Rattle.front_end.specs.Sources.{Sources}
use Rattle.split_cli.specs.Split.{SplitSources}
use Rattle.front_end.specs.Stages.{given}
use Rattle.front_end.specs.Verdicts.{VerdictShape, Print, usage, no_such_file}
use Rattle.jif_tree.specs.Trees.{program_tree}
use Rattle.front_end.proofs.NativeParts.{IsSeen}
use Rattle.front_end.proofs.NativeSources.{NativeLaws, source_seen}
use Rattle.front_end.proofs.HeldFiles.{AreHeld, Held, any_told}
use Rattle.split_cli.proofs.SomeCompare.{CompareCauses, compare_some}
use Rattle.split_cli.proofs.SomeDrive.{CodeLaws, drive_some}
use Rattle.front_end.proofs.ReadSources.{source_given}
use Rattle.split_cli.proofs.DriveEnds.{StepCauses}
use Rattle.script_stages.proofs.SomeScript.{SomeScript}
use Rattle.split_cli.proofs.SomeReplay.{replay_some}
use Rattle.split_cli.proofs.SomeRun.{SomeEnd, run_some}
use Rattle.front_end.proofs.SomeStart.{SomeStart}
use Rattle.front_end.proofs.SomeStages.{HasOutcome, HasVerdict, some_due}
use Rattle.split_cli.proofs.SplitStages.{split_some}
use Rattle.split_words.proofs.WordForms.{words_form}

-- what is known of all stages
pub record AllCauses : Type 0 where
  pub sources : (program hosts : List ℕ) → HasOutcome (Sources program hosts)
  pub places : (program hosts : List ℕ) → HasOutcome (PlacedSources program hosts)
  pub code : CodeLaws
  pub start : SomeStart
  pub ends : SomeEnd
  pub scripts : SomeScript
  pub steps : StepCauses
  pub comparing : CompareCauses

-- the tree of a program with its places is that of a program of the code
placed_seen : NativeLaws → (program hosts : List ℕ) (placed : PlacedSource) →
    PlacedSources program hosts (given placed) → IsSeen program_tree placed.source.tree
placed_seen laws program hosts placed was =
    source_seen laws program hosts placed.source (source_given program hosts placed was)

-- ---- files that are all held

bytes_due : AllCauses → (files : Held) (command : CommandShape) (bytes : List (List ℕ)) →
    AreHeld files (files_of command) bytes → HasVerdict (DueForBytes command bytes)
bytes_due laws files (Check program hosts) (p ∷ h ∷ []) held =
    some_due (PlacedSources p h) (λ placed end. end ≡ plan_report placed) (laws.places p h)
    (λ placed was. (plan_report placed, refl))
bytes_due laws files (Run program hosts start steps) (p ∷ h ∷ s ∷ []) held =
    some_due (Sources p h) (λ source. DueForRun start s steps source.tree) (laws.sources p h)
    (λ source was. run_some laws.start laws.ends start s steps source.tree
    (source_seen laws.code.native p h source was))
bytes_due laws files (Replay program hosts events) (p ∷ h ∷ e ∷ []) held =
    some_due (PlacedSources p h) (DueForReplay events e) (laws.places p h)
    (λ placed was. replay_some laws.scripts laws.steps.some events e placed
    (placed_seen laws.code.native p h placed was))
bytes_due laws files (Drive program hosts start events) (p ∷ h ∷ s ∷ []) held =
    some_due (PlacedSources p h) (DueForDrive start s events) (laws.places p h)
    (λ placed was. drive_some laws.start laws.steps laws.code p h placed was drive_text start s events
    (placed_seen laws.code.native p h placed was))
bytes_due laws files (Compare program hosts one other) (p ∷ h ∷ s ∷ t ∷ []) held =
    some_due (PlacedSources p h) (DueForCompare one s other t) (laws.places p h)
    (λ placed was. compare_some laws.comparing laws.code laws.scripts p h placed was one s other t
    (placed_seen laws.code.native p h placed was))
bytes_due laws files (Split program hosts out) (p ∷ h ∷ []) held =
    some_due (SplitSources p h) (λ split end. end ≡ Print Done split.text) (split_some laws.places p h)
    (λ split was. (Print Done split.text, refl))
bytes_due laws files (Make statements) [] held =
    some_due (PlacedSources (made_program statements) made_hosts) (DueForMade statements)
    (laws.places (made_program statements) made_hosts)
    (λ placed was. drive_some laws.start laws.steps laws.code (made_program statements) made_hosts placed was
    (made_text statements (cost_of placed)) [] [] STEPS
    (placed_seen laws.code.native (made_program statements) made_hosts placed was))
bytes_due laws files (Check program hosts) [] held = absurd held
bytes_due laws files (Check program hosts) (p ∷ []) held = absurd held.1
bytes_due laws files (Check program hosts) (p ∷ h ∷ s ∷ more) held = absurd held.1.1
bytes_due laws files (Run program hosts start steps) [] held = absurd held
bytes_due laws files (Run program hosts start steps) (p ∷ []) held = absurd held.1
bytes_due laws files (Run program hosts start steps) (p ∷ h ∷ []) held = absurd held.1.1
bytes_due laws files (Run program hosts start steps) (p ∷ h ∷ s ∷ x ∷ more) held = absurd held.1.1.1
bytes_due laws files (Replay program hosts events) [] held = absurd held
bytes_due laws files (Replay program hosts events) (p ∷ []) held = absurd held.1
bytes_due laws files (Replay program hosts events) (p ∷ h ∷ []) held = absurd held.1.1
bytes_due laws files (Replay program hosts events) (p ∷ h ∷ e ∷ x ∷ more) held = absurd held.1.1.1
bytes_due laws files (Drive program hosts start events) [] held = absurd held
bytes_due laws files (Drive program hosts start events) (p ∷ []) held = absurd held.1
bytes_due laws files (Drive program hosts start events) (p ∷ h ∷ []) held = absurd held.1.1
bytes_due laws files (Drive program hosts start events) (p ∷ h ∷ s ∷ x ∷ more) held = absurd held.1.1.1
bytes_due laws files (Compare program hosts one other) [] held = absurd held
bytes_due laws files (Compare program hosts one other) (p ∷ []) held = absurd held.1
bytes_due laws files (Compare program hosts one other) (p ∷ h ∷ []) held = absurd held.1.1
bytes_due laws files (Compare program hosts one other) (p ∷ h ∷ s ∷ []) held = absurd held.1.1.1
bytes_due laws files (Compare program hosts one other) (p ∷ h ∷ s ∷ t ∷ x ∷ more) held = absurd held.1.1.1.1
bytes_due laws files (Split program hosts out) [] held = absurd held
bytes_due laws files (Split program hosts out) (p ∷ []) held = absurd held.1
bytes_due laws files (Split program hosts out) (p ∷ h ∷ s ∷ more) held = absurd held.1.1
bytes_due laws files (Make statements) (p ∷ more) held = absurd held

-- ---- commands

-- a number of loads and a verdict
abbrev HasDue : (ℕ → VerdictShape → Type 0) → Type 0
HasDue P = (number : ℕ) × (verdict : VerdictShape) × P number verdict

command_due : AllCauses → (held : Held) (command : CommandShape) → HasDue (DueForCommand held command)
command_due laws held command =
    ⊎_elim
    (λ lacks. (lacks.0 + 1, no_such_file lacks.1, absent lacks.0 lacks.1 lacks.2))
    (λ all. let due = bytes_due laws held command all.0 all.1 in (
      length (files_of command),
      due.0,
      loaded due.0 (record { bytes = all.0; told = all.1; due = due.1 }),
    ))
    (any_told held (files_of command))

pub due_some : AllCauses → (words : List (List ℕ)) (held : Held) → HasDue (Due words held)
due_some laws words held =
    ⊎_elim
    (λ asked. let due = command_due laws held asked.0 in
    (due.0, due.1, for_command asked.0 due.0 due.1 asked.1 asked.2 due.2))
    (λ none. (0, usage forms, no_words none))
    (words_form words)
