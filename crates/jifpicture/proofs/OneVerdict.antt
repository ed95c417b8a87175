-- For words and for files that tell what they hold, one verdict is due.
use Rattle.std.proofs.Common.{◌≡◌, ℕ, ◌+◌, ◌<◌, List, [], ◌∷◌, Option, Some, refl, sym, ap, ◌∙◌}
use Rattle.std.proofs.Common.{subst, inl, inr, ⊎_elim}
use Rattle.js_base.specs.Counts.{last_count}
use Rattle.front_end.specs.Loads.{FilesChange, IsHeld, IsFirstAbsent}
use Rattle.front_end.specs.PlacedSources.{PlacedSources}
use Rattle.front_end.specs.Verdicts.{VerdictShape, no_such_file}
use Rattle.front_end.proofs.DueByFiles.{IsDueOrFault, due_or_fault_once}
use Rattle.front_end.proofs.Places.{of_all}
use Rattle.front_end.proofs.Stages.{IsOne, one_due}
use Rattle.front_end.proofs.AbsentFiles.{absent_not_held, absent_once}
use Rattle.front_end.proofs.HeldFiles.{all_held, all_once}
use Rattle.run_picture.specs.RunDue.{DueForChart}
use Rattle.jifpicture.specs.Due.{DueForBytes, DueForFiles, DueForPlan, Due, no_form, absent, loaded, HaveForm}
use Rattle.jifpicture.specs.Due.{HaveNoForm, IsDue}
use Rattle.jifpicture.specs.Picture.{picture_report}

-- a program and a host file have one plan, or are refused for one cause; and with a script one run, or the same
pub record OneOfEach : Type 0 where
  pub plans : (program hosts : List ℕ) → IsOne (PlacedSources program hosts)
  pub runs : (file program hosts script : List ℕ) (first second : VerdictShape) →
      DueForChart file program hosts script first → DueForChart file program hosts script second → first ≡ second

-- ---- what is due for the bytes of all files

plan_once : OneOfEach → (p h : List ℕ) (first second : VerdictShape) → DueForPlan p h first → DueForPlan p h second →
    first ≡ second
plan_once laws p h first second one two =
    one_due (PlacedSources p h) (λ placed verdict. verdict ≡ picture_report placed) first second (laws.plans p h)
    (λ placed was here there. here ∙ sym there) one two

bytes_once : OneOfEach → (words bytes : List (List ℕ)) (first second : VerdictShape) →
    DueForBytes words bytes first → DueForBytes words bytes second → first ≡ second
bytes_once laws (program ∷ hosts ∷ []) (p ∷ h ∷ []) first second one two = plan_once laws p h first second one two
bytes_once laws (program ∷ hosts ∷ events ∷ []) (p ∷ h ∷ e ∷ []) first second one two =
    laws.runs events p h e first second one two
bytes_once laws [] bytes first second one two = absurd one
bytes_once laws (program ∷ []) bytes first second one two = absurd one
bytes_once laws (program ∷ hosts ∷ []) [] first second one two = absurd one
bytes_once laws (program ∷ hosts ∷ []) (p ∷ []) first second one two = absurd one
bytes_once laws (program ∷ hosts ∷ []) (p ∷ h ∷ e ∷ more) first second one two = absurd one
bytes_once laws (program ∷ hosts ∷ events ∷ []) [] first second one two = absurd one
bytes_once laws (program ∷ hosts ∷ events ∷ []) (p ∷ []) first second one two = absurd one
bytes_once laws (program ∷ hosts ∷ events ∷ []) (p ∷ h ∷ []) first second one two = absurd one
bytes_once laws (program ∷ hosts ∷ events ∷ []) (p ∷ h ∷ e ∷ x ∷ more) first second one two = absurd one
bytes_once laws (program ∷ hosts ∷ events ∷ word ∷ words) bytes first second one two = absurd one

-- words for whose files something is due have a form
form_of : (words bytes : List (List ℕ)) (verdict : VerdictShape) → DueForBytes words bytes verdict → HaveForm words
form_of [] bytes verdict due = absurd due
form_of (program ∷ []) bytes verdict due = absurd due
form_of (program ∷ hosts ∷ []) bytes verdict due = inl refl
form_of (program ∷ hosts ∷ events ∷ []) bytes verdict due = inr refl
form_of (program ∷ hosts ∷ events ∷ word ∷ words) bytes verdict due = absurd due

form_or_none : (words : List (List ℕ)) → HaveNoForm words → ¬ HaveForm words
form_or_none words none = λ form. ⊎_elim (λ two. none.0 two) (λ three. none.1 three) form

-- ---- files that tell what they hold

files_once : OneOfEach → (holds : List ℕ → Option (List ℕ)) (words : List (List ℕ)) (first second : VerdictShape) →
    DueForFiles (Some holds) words first → DueForFiles (Some holds) words second → first ≡ second
files_once laws holds words first second one two =
    let same : two.bytes ≡ one.bytes = all_once holds words two.bytes one.bytes two.told one.told in
    bytes_once laws words one.bytes first second one.due
    (subst (λ (bytes : List (List ℕ)). DueForBytes words bytes second) same two.due)

absent_or_held : (holds : List ℕ → Option (List ℕ)) (words : List (List ℕ)) (place : ℕ) (file : List ℕ)
    (verdict : VerdictShape) → IsFirstAbsent (Some holds) words place file → ¬ DueForFiles (Some holds) words verdict
absent_or_held holds words place file verdict first = λ due.
    absent_not_held holds file first.absent
    (of_all (IsHeld (Some holds)) words place file (all_held holds words due.bytes due.told) first.here)

-- ---- words

pub due_once : OneOfEach → (words : List (List ℕ)) (holds : List ℕ → Option (List ℕ)) (number other : ℕ)
    (first second : VerdictShape) →
    Due words (Some holds) number first → Due words (Some holds) other second → (number ≡ other) × (first ≡ second)
due_once laws words holds _ _ _ _ (no_form none) (no_form also) = (refl, refl)
due_once laws words holds _ _ _ _ (no_form none) (absent place file form two) = absurd (form_or_none words none form)
due_once laws words holds _ _ _ _ (no_form none) (loaded verdict due) =
    absurd (form_or_none words none (form_of words due.bytes verdict due.due))
due_once laws words holds _ _ _ _ (absent place file form one) (no_form none) = absurd (form_or_none words none form)
due_once laws words holds _ _ _ _ (absent place file form one) (absent other second also two) =
    let same = absent_once holds words place other file second one two in
    (ap (λ n. n + 1) same.0, ap no_such_file same.1)
due_once laws words holds _ _ _ _ (absent place file form one) (loaded verdict due) =
    absurd (absent_or_held holds words place file verdict one due)
due_once laws words holds _ _ _ _ (loaded verdict due) (no_form none) =
    absurd (form_or_none words none (form_of words due.bytes verdict due.due))
due_once laws words holds _ _ _ _ (loaded verdict due) (absent place file form two) =
    absurd (absent_or_held holds words place file verdict two due)
due_once laws words holds _ _ _ _ (loaded first one) (loaded second two) =
    (refl, files_once laws holds words first second one two)

-- ---- what is due for words and for what the files did

-- for a file whose load failed its line is due
pub due_or_fault : (words : List (List ℕ)) (files : FilesChange) (verdict : VerdictShape) → IsDue words files verdict →
    IsDueOrFault (Due words) files verdict
due_or_fault words files verdict due =
    ⊎_elim (λ by_files. inl by_files) (λ fault. inr (fault.1.rose, fault.1.verdict_is)) due

pub answer_once : OneOfEach → (words : List (List ℕ)) (files : FilesChange) (holds : List ℕ → Option (List ℕ))
    (first second : VerdictShape) →
    files.held ≡ Some holds → files.faults_before < last_count → IsDue words files first →
    IsDue words files second → first ≡ second
answer_once laws words files holds first second tells below one two =
    due_or_fault_once (Due words) files holds (due_once laws words holds) tells below first second
    (due_or_fault words files first one) (due_or_fault words files second two)
