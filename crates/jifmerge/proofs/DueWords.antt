-- What is due for words whose files were loaded, or of which one was not.
use Rattle.std.proofs.Common.{◌≡◌, ◌∙◌, ℕ, ◌+◌, ◌≤◌, ◌<◌, List, length, sym, ap, subst, inl, inr, ⊎_elim, Result}
use Rattle.front_end.specs.declared.load.Loaded.{Loaded}
use Rattle.front_end.specs.declared.stop.Stop.{Stop}
use Rattle.front_end.specs.declared.verdict.Verdict.{Verdict}
use Rattle.front_end.specs.Loading.{EndsIn, StopsLoading, StopsWith}
use Rattle.front_end.specs.Loads.{FilesChange, counted_by}
use Rattle.front_end.specs.Verdicts.{VerdictShape}
use Rattle.front_end.proofs.Stages.{ends_weaker, stops_weaker}
use Rattle.jifmerge.specs.declared.due.TheConstants.{FEWEST}
use Rattle.jifmerge.specs.Due.{AreLoaded, Due, few_words, absent, loaded, DueForBytes, IsDue, usage}
use Rattle.jifmerge.proofs.LoadedWords.{HaveContents}

-- one of the files was not loaded
loading_due : (words : List (List ℕ)) (files : FilesChange) (verdict : VerdictShape) → FEWEST ≤ length words →
    StopsLoading words files verdict → IsDue words files verdict
loading_due words files verdict few stops =
    ⊎_elim
    (λ none. inl (
      none.0 + 1,
      subst (Due words files.held (none.0 + 1)) (sym none.4) (absent none.0 none.1 few none.2),
      none.3,
    ))
    (λ fault. inr (few, fault))
    stops

pub loading_stops : (words names : List (List ℕ)) (files : FilesChange) (why : Stop) → FEWEST ≤ length words →
    names ≡ words → StopsWith (StopsLoading names files) why → StopsWith (IsDue words files) why
loading_stops words names files why few same stops =
    stops_weaker (StopsLoading names files) (IsDue words files) why
    (λ verdict is. loading_due words files verdict few
    (subst (λ (all : List (List ℕ)). StopsLoading all files verdict) same is)) stops

-- all were loaded
pub all_due : (words : List (List ℕ)) (files : FilesChange) (given : List Loaded) (most : ℕ)
    (result : Result Verdict Stop) → FEWEST ≤ length words → HaveContents files.held 0 words given →
    most ≡ length words → files.loads_after ≡ counted_by most files.loads_before →
    files.faults_after ≡ files.faults_before →
    ((bytes : List (List ℕ)) → AreLoaded 0 bytes given → EndsIn (DueForBytes words bytes) result) →
    EndsIn (IsDue words files) result
all_due words files given most result few contents same loads faults due =
    ends_weaker (DueForBytes words contents.bytes) (IsDue words files) result
    (λ verdict is. inl (
      length words,
      loaded contents.bytes verdict few contents.told is,
      record { loads = loads ∙ ap (λ (n : ℕ). counted_by n files.loads_before) same; no_fault = faults },
    ))
    (due contents.bytes contents.loaded)

-- there are fewer than four words
pub usage_due : (words : List (List ℕ)) (files : FilesChange) (verdict : VerdictShape) → length words < FEWEST →
    files.loads_after ≡ files.loads_before → files.faults_after ≡ files.faults_before → verdict ≡ usage →
    IsDue words files verdict
usage_due words files verdict few loads faults is =
    inl (
      0,
      subst (Due words files.held 0) (sym is) (few_words few),
      record { loads = loads; no_fault = faults },
    )
