-- For all words something is due, whatever the files hold and whether they tell or not.
use Rattle.std.proofs.Common.{◌≡◌, ◌⊎◌, ℕ, ◌+◌, List, [], ◌∷◌, length, Option, refl, inl, inr}
use Rattle.std.proofs.Common.{⊎_elim, arith}
use Rattle.front_end.specs.PlacedSources.{PlacedSources}
use Rattle.front_end.specs.Verdicts.{VerdictShape, no_such_file}
use Rattle.front_end.proofs.HeldFiles.{AreHeld, Held, any_told}
use Rattle.front_end.proofs.SomeStages.{HasOutcome, HasVerdict, some_due}
use Rattle.run_picture.specs.RunDue.{DueForChart}
use Rattle.jifpicture.specs.Due.{DueForBytes, Due, no_form, absent, loaded, HaveForm, usage}
use Rattle.jifpicture.specs.Picture.{picture_report}

-- a program and a host file have some plan, or are refused, and with a script there is something due
pub record SomeOfEach : Type 0 where
  pub plans : (program hosts : List ℕ) → HasOutcome (PlacedSources program hosts)
  pub runs : (file program hosts script : List ℕ) → HasVerdict (DueForChart file program hosts script)

-- ---- files that are all held

plan_some : SomeOfEach → (held : Held) (program hosts : List ℕ) (bytes : List (List ℕ)) →
    AreHeld held (program ∷ hosts ∷ []) bytes → HasVerdict (DueForBytes (program ∷ hosts ∷ []) bytes)
plan_some laws held program hosts (p ∷ h ∷ []) all =
    some_due (PlacedSources p h) (λ placed verdict. verdict ≡ picture_report placed) (laws.plans p h)
    (λ placed was. (picture_report placed, refl))
plan_some laws held program hosts [] all = absurd all
plan_some laws held program hosts (p ∷ []) all = absurd all.1
plan_some laws held program hosts (p ∷ h ∷ e ∷ more) all = absurd all.1.1

run_some : SomeOfEach → (held : Held) (program hosts events : List ℕ) (bytes : List (List ℕ)) →
    AreHeld held (program ∷ hosts ∷ events ∷ []) bytes →
    HasVerdict (DueForBytes (program ∷ hosts ∷ events ∷ []) bytes)
run_some laws held program hosts events (p ∷ h ∷ e ∷ []) all = laws.runs events p h e
run_some laws held program hosts events [] all = absurd all
run_some laws held program hosts events (p ∷ []) all = absurd all.1
run_some laws held program hosts events (p ∷ h ∷ []) all = absurd all.1.1
run_some laws held program hosts events (p ∷ h ∷ e ∷ x ∷ more) all = absurd all.1.1.1

-- ---- words

-- a number of loads and a verdict
abbrev pub HasDue : (ℕ → VerdictShape → Type 0) → Type 0
HasDue P = (number : ℕ) × (verdict : VerdictShape) × P number verdict

-- words of a form, for whose bytes something is due
form_some : (held : Held) (words : List (List ℕ)) → HaveForm words →
    ((bytes : List (List ℕ)) → AreHeld held words bytes → HasVerdict (DueForBytes words bytes)) →
    HasDue (Due words held)
form_some held words form some =
    ⊎_elim
    (λ lacks. (lacks.0 + 1, no_such_file lacks.1, absent lacks.0 lacks.1 form lacks.2))
    (λ all. let due = some all.0 all.1 in (
      length words,
      due.0,
      loaded due.0 (record { bytes = all.0; told = all.1; due = due.1 }),
    ))
    (any_told held words)

pub due_some : SomeOfEach → (words : List (List ℕ)) (held : Option (List ℕ → Option (List ℕ))) →
    HasDue (Due words held)
due_some laws [] held = (0, usage, no_form ((λ same. omega arith), (λ same. omega arith)))
due_some laws (word ∷ []) held = (0, usage, no_form ((λ same. omega arith), (λ same. omega arith)))
due_some laws (program ∷ hosts ∷ []) held =
    form_some held (program ∷ hosts ∷ []) (inl refl) (plan_some laws held program hosts)
due_some laws (program ∷ hosts ∷ events ∷ []) held =
    form_some held (program ∷ hosts ∷ events ∷ []) (inr refl) (run_some laws held program hosts events)
due_some laws (one ∷ two ∷ three ∷ four ∷ others) held =
    (0, usage, no_form ((λ same. omega arith), (λ same. omega arith)))
