-- For words and for files that tell what they hold, one verdict is due.
use Rattle.std.proofs.Common.{◌≡◌, ℕ, ◌+◌, ◌<◌, List, [], ◌∷◌, Option, Some, refl, sym, ap, ◌∙◌}
use Rattle.std.proofs.Common.{codes, subst, inl, inr, ⊎_elim}
use Rattle.std.specs.Fmt.{decimal}
use Rattle.js_base.specs.Counts.{last_count, Rose}
use Rattle.js_base.specs.declared.status.Status.TheVariants.{Done}
use Rattle.split_words.specs.Commands.{CommandShape, Check, Run, Replay, Drive, Compare, Split, Make}
use Rattle.split_words.specs.Commands.{IsCommand, words_of, files_of}
use Rattle.front_end.specs.declared.step_counts.TheConstants.{STEPS}
use Rattle.front_end.specs.Verdicts.{VerdictShape, Print, no_such_file, file_fault}
use Rattle.front_end.specs.Loads.{FilesChange, IsHeld, IsFirstAbsent}
use Rattle.front_end.specs.Sources.{Sources}
use Rattle.front_end.specs.PlacedSources.{PlacedSources}
use Rattle.split_cli.specs.Check.{plan_report}
use Rattle.front_end.specs.PlacedCode.{cost_of}
use Rattle.run_comparison.specs.Compare.{DueForCompare}
use Rattle.made_laws.specs.MadePrograms.{made_hosts, made_program}
use Rattle.split_cli.specs.Making.{DueForMade, made_text}
use Rattle.split_cli.specs.PlainRun.{DueForRun}
use Rattle.split_cli.specs.Replay.{DueForReplay}
use Rattle.split_cli.specs.Drive.{DueForDrive, drive_text}
use Rattle.split_cli.specs.Split.{SplitSources}
use Rattle.split_cli.specs.Due.{DueForBytes, DueForFiles, DueForCommand, absent, loaded, Due, no_words, for_command}
use Rattle.split_cli.specs.Due.{IsFault, IsDue}
use Rattle.split_cli.proofs.OneCompare.{compare_once}
use Rattle.split_cli.proofs.OneDrive.{drive_once}
use Rattle.script_stages.proofs.OneScript.{StepLaws}
use Rattle.split_cli.proofs.OneReplay.{replay_once}
use Rattle.split_cli.proofs.OneRun.{RunLaws, run_once}
use Rattle.split_cli.proofs.SplitStages.{split_once}
use Rattle.front_end.proofs.Answering.{no_fault_and_fault}
use Rattle.front_end.proofs.Places.{of_all}
use Rattle.front_end.proofs.Stages.{IsOne, one_due}
use Rattle.front_end.proofs.StepCounts.{same_steps}
use Rattle.front_end.proofs.AbsentFiles.{absent_not_held, absent_once}
use Rattle.front_end.proofs.HeldFiles.{all_held, all_once}
use Rattle.split_words.proofs.MadeCounts.{as_steps}

-- what is known of the parts of a command
pub record AllLaws : Type 0 where
  pub sources : (program hosts : List ℕ) → IsOne (Sources program hosts)
  pub places : (program hosts : List ℕ) → IsOne (PlacedSources program hosts)
  pub runs : RunLaws
  pub steps : StepLaws

-- ---- what is due for the bytes of all files

bytes_once : AllLaws → (command : CommandShape) (bytes : List (List ℕ)) (first second : VerdictShape) →
    DueForBytes command bytes first → DueForBytes command bytes second → first ≡ second
bytes_once laws (Check program hosts) (p ∷ h ∷ []) first second one two =
    one_due (PlacedSources p h) (λ placed end. end ≡ plan_report placed) first second
    (laws.places p h) (λ placed was here there. here ∙ sym there) one two
bytes_once laws (Run program hosts start steps) (p ∷ h ∷ s ∷ []) first second one two =
    one_due (Sources p h) (λ source. DueForRun start s steps source.tree) first second
    (laws.sources p h) (λ source was. run_once laws.runs start s steps source.tree first second) one two
bytes_once laws (Replay program hosts events) (p ∷ h ∷ e ∷ []) first second one two =
    one_due (PlacedSources p h) (DueForReplay events e) first second
    (laws.places p h)
    (λ placed was. replay_once laws.steps events e placed first second) one two
bytes_once laws (Drive program hosts start events) (p ∷ h ∷ s ∷ []) first second one two =
    one_due (PlacedSources p h) (DueForDrive start s events) first second
    (laws.places p h)
    (λ placed was. drive_once laws.steps.one drive_text start s events placed first second) one two
bytes_once laws (Compare program hosts name other) (p ∷ h ∷ s ∷ t ∷ []) first second one two =
    one_due (PlacedSources p h) (DueForCompare name s other t) first second
    (laws.places p h)
    (λ placed was. compare_once laws.steps name s other t placed first second) one two
bytes_once laws (Split program hosts out) (p ∷ h ∷ []) first second one two =
    one_due (SplitSources p h) (λ split end. end ≡ Print Done split.text) first second
    (split_once laws.places p h) (λ split was here there. here ∙ sym there) one two
bytes_once laws (Make statements) [] first second one two =
    one_due (PlacedSources (made_program statements) made_hosts) (DueForMade statements) first second
    (laws.places (made_program statements) made_hosts)
    (λ placed was. drive_once laws.steps.one (made_text statements (cost_of placed)) [] [] STEPS placed first second)
    one two
bytes_once laws (Check program hosts) [] first second one two = absurd one
bytes_once laws (Check program hosts) (p ∷ []) first second one two = absurd one
bytes_once laws (Check program hosts) (p ∷ h ∷ s ∷ more) first second one two = absurd one
bytes_once laws (Run program hosts start steps) [] first second one two = absurd one
bytes_once laws (Run program hosts start steps) (p ∷ []) first second one two = absurd one
bytes_once laws (Run program hosts start steps) (p ∷ h ∷ []) first second one two = absurd one
bytes_once laws (Run program hosts start steps) (p ∷ h ∷ s ∷ x ∷ more) first second one two = absurd one
bytes_once laws (Replay program hosts events) [] first second one two = absurd one
bytes_once laws (Replay program hosts events) (p ∷ []) first second one two = absurd one
bytes_once laws (Replay program hosts events) (p ∷ h ∷ []) first second one two = absurd one
bytes_once laws (Replay program hosts events) (p ∷ h ∷ e ∷ x ∷ more) first second one two = absurd one
bytes_once laws (Drive program hosts start events) [] first second one two = absurd one
bytes_once laws (Drive program hosts start events) (p ∷ []) first second one two = absurd one
bytes_once laws (Drive program hosts start events) (p ∷ h ∷ []) first second one two = absurd one
bytes_once laws (Drive program hosts start events) (p ∷ h ∷ s ∷ x ∷ more) first second one two = absurd one
bytes_once laws (Compare program hosts name other) [] first second one two = absurd one
bytes_once laws (Compare program hosts name other) (p ∷ []) first second one two = absurd one
bytes_once laws (Compare program hosts name other) (p ∷ h ∷ []) first second one two = absurd one
bytes_once laws (Compare program hosts name other) (p ∷ h ∷ s ∷ []) first second one two = absurd one
bytes_once laws (Compare program hosts name other) (p ∷ h ∷ s ∷ t ∷ x ∷ more) first second one two = absurd one
bytes_once laws (Split program hosts out) [] first second one two = absurd one
bytes_once laws (Split program hosts out) (p ∷ []) first second one two = absurd one
bytes_once laws (Split program hosts out) (p ∷ h ∷ s ∷ more) first second one two = absurd one
bytes_once laws (Make statements) (p ∷ more) first second one two = absurd one

-- ---- what is due for a command

files_once : AllLaws → (holds : List ℕ → Option (List ℕ)) (command : CommandShape) (first second : VerdictShape) →
    DueForFiles (Some holds) command first → DueForFiles (Some holds) command second → first ≡ second
files_once laws holds command first second one two =
    let same : two.bytes ≡ one.bytes = all_once holds (files_of command) two.bytes one.bytes two.told one.told in
    bytes_once laws command one.bytes first second one.due
    (subst (λ (bytes : List (List ℕ)). DueForBytes command bytes second) same two.due)

absent_or_held : (holds : List ℕ → Option (List ℕ)) (command : CommandShape) (place : ℕ) (file : List ℕ)
    (verdict : VerdictShape) →
    IsFirstAbsent (Some holds) (files_of command) place file → ¬ DueForFiles (Some holds) command verdict
absent_or_held holds command place file verdict first = λ due.
    absent_not_held holds file first.absent
    (of_all (IsHeld (Some holds)) (files_of command) place file (all_held holds (files_of command) due.bytes due.told)
    first.here)

command_once : AllLaws → (holds : List ℕ → Option (List ℕ)) (command : CommandShape) (number other : ℕ)
    (first second : VerdictShape) →
    DueForCommand (Some holds) command number first → DueForCommand (Some holds) command other second →
    (number ≡ other) × (first ≡ second)
command_once laws holds command _ _ _ _ (absent place file one) (absent other second two) =
    let same =
    absent_once holds (files_of command) place other file second one two in
    (ap (λ n. n + 1) same.0, ap no_such_file same.1)
command_once laws holds command _ _ _ _ (absent place file one) (loaded verdict due) =
    absurd (absent_or_held holds command place file verdict one due)
command_once laws holds command _ _ _ _ (loaded verdict due) (absent place file two) =
    absurd (absent_or_held holds command place file verdict two due)
command_once laws holds command _ _ _ _ (loaded first one) (loaded second two) =
    (refl, files_once laws holds command first second one two)

-- ---- one command

-- words ask for one command
pub one_command : (first second : CommandShape) → IsCommand first → IsCommand second →
    words_of first ≡ words_of second → first ≡ second
one_command (Check p h) (Check q i) one two same = cc
one_command (Check p h) (Run q i t n) one two same = absurd (let no = same in cc)
one_command (Check p h) (Replay q i f) one two same = absurd (let no = same in cc)
one_command (Check p h) (Drive q i t n) one two same = absurd (let no = same in cc)
one_command (Check p h) (Compare q i f g) one two same = absurd (let no = same in cc)
one_command (Check p h) (Make n) one two same = absurd (let no = same in cc)
one_command (Run p h s n) (Check q i) one two same = absurd (let no = same in cc)
one_command (Run p h s n) (Run q i t m) one two same =
    let steps : decimal n ≡ decimal m = cc in
    let program : p ≡ q = cc in
    let hosts : h ≡ i = cc in
    let start : s ≡ t = cc in
    let number : n ≡ m = same_steps n m one two steps in
    cc
one_command (Run p h s n) (Replay q i f) one two same = absurd (let no = same in cc)
one_command (Run p h s n) (Drive q i t m) one two same = absurd (let no = same in cc)
one_command (Run p h s n) (Compare q i f g) one two same =
    absurd (let first : codes "run" ≡ codes "compare" = cc in cc)
one_command (Run p h s n) (Make m) one two same = absurd (let no = same in cc)
one_command (Replay p h e) (Check q i) one two same = absurd (let no = same in cc)
one_command (Replay p h e) (Run q i t n) one two same = absurd (let no = same in cc)
one_command (Replay p h e) (Replay q i f) one two same = cc
one_command (Replay p h e) (Drive q i t n) one two same = absurd (let no = same in cc)
one_command (Replay p h e) (Compare q i f g) one two same = absurd (let no = same in cc)
one_command (Replay p h e) (Make n) one two same = absurd (let no = same in cc)
one_command (Drive p h s n) (Check q i) one two same = absurd (let no = same in cc)
one_command (Drive p h s n) (Run q i t m) one two same = absurd (let no = same in cc)
one_command (Drive p h s n) (Replay q i f) one two same = absurd (let no = same in cc)
one_command (Drive p h s n) (Drive q i t m) one two same =
    let events : decimal n ≡ decimal m = cc in
    let program : p ≡ q = cc in
    let hosts : h ≡ i = cc in
    let start : s ≡ t = cc in
    let number : n ≡ m = same_steps n m one two events in
    cc
one_command (Drive p h s n) (Compare q i f g) one two same =
    absurd (let first : codes "drive" ≡ codes "compare" = cc in cc)
one_command (Drive p h s n) (Make m) one two same = absurd (let no = same in cc)
one_command (Compare p h e f) (Check q i) one two same = absurd (let no = same in cc)
one_command (Compare p h e f) (Run q i t m) one two same =
    absurd (let first : codes "compare" ≡ codes "run" = cc in cc)
one_command (Compare p h e f) (Replay q i g) one two same = absurd (let no = same in cc)
one_command (Compare p h e f) (Drive q i t m) one two same =
    absurd (let first : codes "compare" ≡ codes "drive" = cc in cc)
one_command (Compare p h e f) (Compare q i g j) one two same = cc
one_command (Check p h) (Split q i o) one two same = absurd (let no = same in cc)
one_command (Run p h s n) (Split q i o) one two same = absurd (let no = same in cc)
one_command (Replay p h e) (Split q i o) one two same =
    absurd (let first : codes "replay" ≡ codes "split" = cc in cc)
one_command (Drive p h s n) (Split q i o) one two same = absurd (let no = same in cc)
one_command (Compare p h e f) (Split q i o) one two same = absurd (let no = same in cc)
one_command (Split p h o) (Check q i) one two same = absurd (let no = same in cc)
one_command (Split p h o) (Run q i t n) one two same = absurd (let no = same in cc)
one_command (Split p h o) (Replay q i f) one two same =
    absurd (let first : codes "split" ≡ codes "replay" = cc in cc)
one_command (Split p h o) (Drive q i t n) one two same = absurd (let no = same in cc)
one_command (Split p h o) (Compare q i f g) one two same = absurd (let no = same in cc)
one_command (Split p h o) (Split q i r) one two same = cc
one_command (Split p h o) (Make n) one two same = absurd (let no = same in cc)
one_command (Make n) (Split q i o) one two same = absurd (let no = same in cc)
one_command (Compare p h e f) (Make n) one two same = absurd (let no = same in cc)
one_command (Make n) (Check q i) one two same = absurd (let no = same in cc)
one_command (Make n) (Run q i t m) one two same = absurd (let no = same in cc)
one_command (Make n) (Replay q i f) one two same = absurd (let no = same in cc)
one_command (Make n) (Drive q i t m) one two same = absurd (let no = same in cc)
one_command (Make n) (Compare q i f g) one two same = absurd (let no = same in cc)
one_command (Make n) (Make m) one two same =
    let statements : decimal n ≡ decimal m = cc in
    ap Make (same_steps n m (as_steps n one) (as_steps m two) statements)

pub due_once : AllLaws → (words : List (List ℕ)) (holds : List ℕ → Option (List ℕ)) (number other : ℕ)
    (first second : VerdictShape) →
    Due words (Some holds) number first → Due words (Some holds) other second → (number ≡ other) × (first ≡ second)
due_once laws words holds _ _ _ _ (no_words none) (no_words also) = (refl, refl)
due_once laws words holds _ _ _ _ (no_words none) (for_command command number verdict is asked due) =
    absurd (none command is asked)
due_once laws words holds _ _ _ _ (for_command command number verdict is asked due) (no_words none) =
    absurd (none command is asked)
due_once laws words holds _ _ _ _ (for_command command number first is asked one)
    (for_command also other second is_too asked_too two) =
    command_once laws holds command number other first second one
    (subst (λ (c : CommandShape). DueForCommand (Some holds) c other second)
    (sym (one_command command also is is_too (sym asked ∙ asked_too))) two)

-- ---- what is due for words and for what the files did

-- a fault was counted
pub fault_rose : (command : CommandShape) (files : FilesChange) (verdict : VerdictShape) →
    IsFault command files verdict →
    Rose files.faults_before files.faults_after
fault_rose command files verdict (inl loading) = loading.0.rose
fault_rose (Check program hosts) files verdict (inr none) = absurd none
fault_rose (Run program hosts start steps) files verdict (inr none) = absurd none
fault_rose (Replay program hosts events) files verdict (inr none) = absurd none
fault_rose (Drive program hosts start events) files verdict (inr none) = absurd none
fault_rose (Compare program hosts one other) files verdict (inr none) = absurd none
fault_rose (Make statements) files verdict (inr none) = absurd none
fault_rose (Split program hosts out) files verdict (inr saving) = saving.3.rose

-- and the file is named
pub fault_verdict : (command : CommandShape) (files : FilesChange) (verdict : VerdictShape) →
    IsFault command files verdict → verdict ≡ file_fault files.failed
fault_verdict command files verdict (inl loading) = loading.0.verdict_is
fault_verdict (Check program hosts) files verdict (inr none) = absurd none
fault_verdict (Run program hosts start steps) files verdict (inr none) = absurd none
fault_verdict (Replay program hosts events) files verdict (inr none) = absurd none
fault_verdict (Drive program hosts start events) files verdict (inr none) = absurd none
fault_verdict (Compare program hosts one other) files verdict (inr none) = absurd none
fault_verdict (Make statements) files verdict (inr none) = absurd none
fault_verdict (Split program hosts out) files verdict (inr saving) = saving.3.verdict_is

pub answer_once : AllLaws → (words : List (List ℕ)) (files : FilesChange) (holds : List ℕ → Option (List ℕ))
    (first second : VerdictShape) →
    files.held ≡ Some holds → files.faults_before < last_count → IsDue words files first →
    IsDue words files second → first ≡ second
answer_once laws words files holds first second tells below one two =
    ⊎_elim
    (λ by_files. ⊎_elim
    (λ also. (due_once laws words holds by_files.0 also.0 first second
    (subst (λ (held : Option (List ℕ → Option (List ℕ))). Due words held by_files.0 first) tells by_files.1)
    (subst (λ (held : Option (List ℕ → Option (List ℕ))). Due words held also.0 second) tells also.1)).1)
    (λ fault. absurd (no_fault_and_fault files.faults_before files.faults_after below by_files.2.no_fault
    (fault_rose fault.0 files second fault.3)))
    two)
    (λ fault. ⊎_elim
    (λ also. absurd (no_fault_and_fault files.faults_before files.faults_after below also.2.no_fault
    (fault_rose fault.0 files first fault.3)))
    (λ also. fault_verdict fault.0 files first fault.3 ∙ sym (fault_verdict also.0 files second also.3))
    two)
    one
