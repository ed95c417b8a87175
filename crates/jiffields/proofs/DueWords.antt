-- What is due for words whose files were loaded, or of which one was not.
use Rattle.std.proofs.Common.{◌≡◌, ◌≢◌, ◌∙◌, ◌⊎◌, ℕ, ◌+◌, ◌≤◌, List, [], ◌∷◌, get_or, sym, ap, subst, inl, inr, ⊎_elim}
use Rattle.std.proofs.Common.{Option, Some, Result}
use Rattle.std.specs.List.{AllZip}
use Rattle.js_base.specs.declared.limits.TheConstants.{HOSTS_BYTES, SCRIPT_BYTES}
use Rattle.record_merge.specs.declared.lines.TheConstants.{JOURNAL_BYTES}
use Rattle.front_end.specs.declared.load.Asked as file
use Rattle.front_end.specs.declared.load.Loaded.{Loaded}
use Rattle.front_end.specs.declared.stop.Stop.{Stop}
use Rattle.front_end.specs.declared.verdict.Verdict.{Verdict}
use Rattle.front_end.specs.Loading.{EndsIn, IsLoaded, StopsLoading, StopsWith}
use Rattle.front_end.specs.Loads.{FilesChange, LoadsWell}
use Rattle.front_end.specs.Verdicts.{VerdictShape}
use Rattle.front_end.proofs.LoadedFiles.{given_file}
use Rattle.front_end.proofs.Stages.{ends_weaker, stops_weaker}
use Rattle.front_end.proofs.Stops.{GivesAsked}
use Rattle.node_starts.specs.SourceNames.{most_of, name_of}
use Rattle.jiffields.specs.Due.{DueForAsked, absent, loaded, Due, no_words, asks, DueForBytes, IsDue}
use Rattle.jiffields.specs.Due.{IsDueForAsked, usage}
use Rattle.jiffields.specs.Words.{FieldsAsked, files_of, words_of}

-- one of the files was not loaded
loading_due : (asked : FieldsAsked) (files : FilesChange) (verdict : VerdictShape) →
    StopsLoading (files_of asked) files verdict → IsDueForAsked asked files verdict
loading_due asked files verdict stops =
    ⊎_elim
    (λ none. inl (
      none.0 + 1,
      subst (DueForAsked asked files.held (none.0 + 1)) (sym none.4) (absent none.0 none.1 none.2),
      none.3,
    ))
    (λ fault. inr fault)
    stops

pub loading_stops : (asked : FieldsAsked) (names : List (List ℕ)) (files : FilesChange) (why : Stop) →
    names ≡ files_of asked → StopsWith (StopsLoading names files) why → StopsWith (IsDueForAsked asked files) why
loading_stops asked names files why same stops =
    stops_weaker (StopsLoading names files) (IsDueForAsked asked files) why
    (λ verdict is. loading_due asked files verdict
    (subst (λ (all : List (List ℕ)). StopsLoading all files verdict) same is)) stops

-- all were loaded
pub all_due : (asked : FieldsAsked) (files : FilesChange) (one two three four : file.Asked) (all : List Loaded)
    (c h s j : Loaded) (result : Result Verdict Stop) →
    AllZip (GivesAsked files.held) (one ∷ two ∷ three ∷ four ∷ []) all → c ≡ get_or all 0 c → h ≡ get_or all 1 h →
    s ≡ get_or all 2 s → j ≡ get_or all 3 j →
    one.name.now ≡ name_of asked.source → one.most ≡ most_of asked.source → two.name.now ≡ asked.hosts →
    two.most ≡ HOSTS_BYTES → three.name.now ≡ asked.start → three.most ≡ SCRIPT_BYTES →
    four.name.now ≡ asked.journal → four.most ≡ JOURNAL_BYTES → LoadsWell 4 files →
    ((source hosts start journal : List ℕ) → IsLoaded (most_of asked.source) source c → IsLoaded HOSTS_BYTES hosts h →
    IsLoaded SCRIPT_BYTES start s → IsLoaded JOURNAL_BYTES journal j →
    EndsIn (DueForBytes asked source hosts start journal) result) →
    EndsIn (IsDueForAsked asked files) result
all_due asked files one two three four [] c h s j result zipped pa pb pc pd na ma nb mb nc mc nd md loads due =
    absurd zipped
all_due asked files one two three four (x ∷ []) c h s j result zipped pa pb pc pd na ma nb mb nc mc nd md loads due =
    absurd zipped.1
all_due asked files one two three four (x ∷ y ∷ []) c h s j result zipped pa pb pc pd na ma nb mb nc mc nd md loads
    due = absurd zipped.1.1
all_due asked files one two three four (x ∷ y ∷ z ∷ []) c h s j result zipped pa pb pc pd na ma nb mb nc mc nd md
    loads due = absurd zipped.1.1.1
all_due asked files one two three four (x ∷ y ∷ z ∷ w ∷ v ∷ more) c h s j result zipped pa pb pc pd na ma nb mb nc mc
    nd md loads due = absurd zipped.1.1.1.1
all_due asked files one two three four (x ∷ y ∷ z ∷ w ∷ []) c h s j result zipped pa pb pc pd na ma nb mb nc mc nd md
    loads due =
    let first = given_file files.held one (name_of asked.source) (most_of asked.source) x na ma zipped.0 in
    let second = given_file files.held two asked.hosts HOSTS_BYTES y nb mb zipped.1.0 in
    let third = given_file files.held three asked.start SCRIPT_BYTES z nc mc zipped.1.1.0 in
    let fourth = given_file files.held four asked.journal JOURNAL_BYTES w nd md zipped.1.1.1.0 in
    ends_weaker (DueForBytes asked first.0 second.0 third.0 fourth.0) (IsDueForAsked asked files) result
    (λ verdict is. inl (
      4,
      loaded first.0 second.0 third.0 fourth.0 verdict first.1 second.1 third.1 fourth.1 is,
      loads,
    ))
    (due first.0 second.0 third.0 fourth.0 (subst (IsLoaded (most_of asked.source) first.0) (sym pa) first.2)
    (subst (IsLoaded HOSTS_BYTES second.0) (sym pb) second.2) (subst (IsLoaded SCRIPT_BYTES third.0) (sym pc) third.2)
    (subst (IsLoaded JOURNAL_BYTES fourth.0) (sym pd) fourth.2))

-- what is due for what is asked for is due for the words
pub verdict_for_words : (words : List (List ℕ)) (asked : FieldsAsked) (files : FilesChange) (verdict : VerdictShape) →
    words ≡ words_of asked → IsDueForAsked asked files verdict → IsDue words files verdict
verdict_for_words words asked files verdict are due =
    ⊎_elim
    (λ whole. inl (whole.0, asks asked whole.0 verdict are whole.1, whole.2))
    (λ fault. inr (asked, are, fault))
    due

-- words that ask for nothing
pub usage_due : (words : List (List ℕ)) (files : FilesChange) (verdict : VerdictShape) →
    ((asked : FieldsAsked) → words ≢ words_of asked) → files.loads_after ≡ files.loads_before →
    files.faults_after ≡ files.faults_before → verdict ≡ usage → IsDue words files verdict
usage_due words files verdict none loads faults is =
    inl (
      0,
      subst (Due words files.held 0) (sym is) (no_words none),
      record { loads = loads; no_fault = faults },
    )
