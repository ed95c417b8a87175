-- For all words something is due, whatever the files hold and whether they tell or not.
use Rattle.std.proofs.Common.{◌≡◌, ℕ, List, [], ◌∷◌, Option, Some, None, refl, inl, inr, arith}
use Rattle.front_end.specs.PlacedSources.{PlacedSource, PlacedSources}
use Rattle.front_end.specs.Stages.{StageEnd, given, stopped}
use Rattle.front_end.specs.Verdicts.{VerdictShape, no_such_file}
use Rattle.front_end.proofs.AbsentFiles.{told_held}
use Rattle.front_end.proofs.SomeStages.{HasOutcome, HasVerdict}
use Rattle.jifexplain.specs.Due.{DueForBytes, DueForNames, absent, loaded, Due, no_words, names, usage}
use Rattle.jifexplain.proofs.OneExplanation.{SomeTold, explained_some, some_told}
use Rattle.jifexplain.proofs.StoppedStages.{placed_source}

-- a program and a host file have some plan, or are refused
abbrev pub SomePlan : Type 0
SomePlan = (p h : List ℕ) → HasOutcome (PlacedSources p h)

due_at : SomeTold → (program hosts : List ℕ) (asked : Option (List ℕ)) (p h : List ℕ) (end : StageEnd PlacedSource) →
    PlacedSources p h end → HasVerdict (DueForBytes program hosts asked p h)
due_at told program hosts asked p h (given placed) was =
    let source = placed_source p h placed was in
    let due = some_told program p h asked None source.0 source.1 in (due.0, inl (placed, was, due.1))
due_at told program hosts asked p h (stopped refused) was =
    let why = explained_some told program hosts p h asked refused was in (why.0, inr (refused, was, why.1))

bytes_due : SomeTold → SomePlan → (program hosts : List ℕ) (asked : Option (List ℕ)) (p h : List ℕ) →
    HasVerdict (DueForBytes program hosts asked p h)
bytes_due told plans program hosts asked p h = let end = plans p h in due_at told program hosts asked p h end.0 end.1

-- a number of loads and a verdict
abbrev pub HasDue : (ℕ → VerdictShape → Type 0) → Type 0
HasDue P = (number : ℕ) × (verdict : VerdictShape) × P number verdict

-- two files, of which each is held or is not
told_due : SomeTold → SomePlan → (holds : List ℕ → Option (List ℕ)) (program hosts : List ℕ)
    (asked p h : Option (List ℕ)) → holds program ≡ p → holds hosts ≡ h →
    HasDue (DueForNames (Some holds) program hosts asked)
told_due told plans holds program hosts asked None h p_is h_is =
    (1, no_such_file program, absent 0 program (record { here = refl; absent = p_is; before = tt }))
told_due told plans holds program hosts asked (Some p) None p_is h_is = (
  2,
  no_such_file hosts,
  absent 1 hosts (record { here = refl; absent = h_is; before = (told_held holds program p p_is, tt) }),
)
told_due told plans holds program hosts asked (Some p) (Some h) p_is h_is =
    let due = bytes_due told plans program hosts asked p h in (2, due.0, loaded p h due.0 p_is h_is due.1)

names_due : SomeTold → SomePlan → (held : Option (List ℕ → Option (List ℕ))) (program hosts : List ℕ)
    (asked : Option (List ℕ)) → HasDue (DueForNames held program hosts asked)
names_due told plans None program hosts asked =
    let due = bytes_due told plans program hosts asked [] [] in (2, due.0, loaded [] [] due.0 tt tt due.1)
names_due told plans (Some holds) program hosts asked =
    told_due told plans holds program hosts asked (holds program) (holds hosts) refl refl

pub due_some : SomeTold → SomePlan → (words : List (List ℕ)) (held : Option (List ℕ → Option (List ℕ))) →
    HasDue (Due words held)
due_some told plans [] held = (0, usage, no_words (λ same. omega arith) (λ same. omega arith))
due_some told plans (word ∷ []) held = (0, usage, no_words (λ same. omega arith) (λ same. omega arith))
due_some told plans (program ∷ hosts ∷ []) held =
    let due = names_due told plans held program hosts None in
    (due.0, due.1, names program hosts None due.0 due.1 refl due.2)
due_some told plans (program ∷ hosts ∷ word ∷ []) held =
    let due = names_due told plans held program hosts (Some word) in
    (due.0, due.1, names program hosts (Some word) due.0 due.1 refl due.2)
due_some told plans (one ∷ two ∷ three ∷ four ∷ others) held =
    (0, usage, no_words (λ same. omega arith) (λ same. omega arith))
