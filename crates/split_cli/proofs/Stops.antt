-- What is due for a command where a file was not loaded, and for the words that ask for it.
use Rattle.std.proofs.Common.{◌≡◌, ℕ, ◌+◌, List, sym}
use Rattle.std.proofs.Common.{subst, inl, inr, ⊎_elim}
use Rattle.split_words.specs.Commands.{CommandShape, Check, Run, Replay, Drive, Compare, Split, Make}
use Rattle.split_words.specs.Commands.{IsCommand, words_of, files_of, forms, HaveNoForm}
use Rattle.front_end.specs.Refusals.{RefusalShape}
use Rattle.front_end.specs.Verdicts.{VerdictShape, Refuse, usage}
use Rattle.front_end.specs.Loads.{FilesChange, AreKept}
use Rattle.front_end.specs.Loading.{StopsLoading}
use Rattle.split_cli.specs.Due.{IsDueForCommand, SavesFor, DueForCommand, absent, for_command, no_words, Due, IsDue}

-- a refusal saves nothing
pub saves_refused : (command : CommandShape) (refusal : RefusalShape) (files : FilesChange) → AreKept files →
    SavesFor command (Refuse refusal) files
saves_refused (Check program hosts) refusal files kept = kept
saves_refused (Run program hosts start steps) refusal files kept = kept
saves_refused (Replay program hosts events) refusal files kept = kept
saves_refused (Drive program hosts start events) refusal files kept = kept
saves_refused (Compare program hosts one other) refusal files kept = kept
saves_refused (Split program hosts out) refusal files kept = kept
saves_refused (Make statements) refusal files kept = kept

-- a file of a command that was not loaded
pub loading_due : (command : CommandShape) (files : FilesChange) (verdict : VerdictShape) →
    AreKept files → StopsLoading (files_of command) files verdict → IsDueForCommand command files verdict
loading_due command files verdict kept stops =
    ⊎_elim
    (λ none. inl (
      none.0 + 1,
      subst (DueForCommand files.held command (none.0 + 1)) (sym none.4) (absent none.0 none.1 none.2),
      none.3,
      subst (λ (due : VerdictShape). SavesFor command due files) (sym none.4)
          (saves_refused command _ files kept),
    ))
    (λ fault. inr (inl (fault, kept)))
    stops

-- what is due for a command is due for its words
pub verdict_for_words : (words : List (List ℕ)) (command : CommandShape) (files : FilesChange) (verdict : VerdictShape) →
    IsCommand command → words ≡ words_of command → IsDueForCommand command files verdict → IsDue words files verdict
verdict_for_words words command files verdict is asked due =
    ⊎_elim
    (λ whole. inl (
      whole.0,
      for_command command whole.0 verdict is asked whole.1,
      whole.2,
      inl (command, is, asked, whole.3),
    ))
    (λ fault. inr (command, is, asked, fault))
    due

-- words that ask for nothing
pub usage_due : (words : List (List ℕ)) (files : FilesChange) (verdict : VerdictShape) → HaveNoForm words →
    files.loads_after ≡ files.loads_before → files.faults_after ≡ files.faults_before → AreKept files →
    verdict ≡ usage forms → IsDue words files verdict
usage_due words files verdict none loads faults kept is =
    inl (
      0,
      subst (Due words files.held 0) (sym is) (no_words none),
      record { loads = loads; no_fault = faults },
      inr (none, kept),
    )
