-- What is due for words whose files were loaded, or of which one was not, and for words of no form.
use Rattle.std.proofs.Common.{◌≡◌, ℕ, ◌+◌, List, [], ◌∷◌, length, get_or, Some, sym, subst, inl, inr}
use Rattle.std.proofs.Common.{⊎_elim, Result, String, Global, arith, map}
use Rattle.std.specs.List.{AllZip}
use Rattle.std.specs.Prelude.{string_bytes}
use Rattle.js_base.specs.declared.limits.TheConstants.{PROGRAM_BYTES, HOSTS_BYTES, SCRIPT_BYTES}
use Rattle.front_end.specs.declared.load.Asked.{Asked}
use Rattle.front_end.specs.declared.load.Loaded.{Loaded}
use Rattle.front_end.specs.declared.stop.Stop.{Stop}
use Rattle.front_end.specs.declared.verdict.Verdict.{Verdict}
use Rattle.front_end.specs.Loading.{EndsIn, IsLoaded, StopsLoading, StopsWith}
use Rattle.front_end.specs.Loads.{FilesChange, Told, counted_by}
use Rattle.front_end.specs.Verdicts.{VerdictShape}
use Rattle.front_end.proofs.LoadedFiles.{TwoFiles, given_file}
use Rattle.front_end.proofs.Stages.{ends_weaker, stops_weaker}
use Rattle.front_end.proofs.Stops.{GivesAsked}
use Rattle.run_picture.specs.RunDue.{DueForChart}
use Rattle.jifpicture.specs.Due.{DueForBytes, DueForPlan, Due, absent, loaded, no_form, HaveForm, HaveNoForm, IsDue}
use Rattle.jifpicture.specs.Due.{usage}

-- one of the files was not loaded
loading_due : (words : List (List ℕ)) (files : FilesChange) (verdict : VerdictShape) → HaveForm words →
    StopsLoading words files verdict → IsDue words files verdict
loading_due words files verdict form stops =
    ⊎_elim
    (λ none. inl (
      none.0 + 1,
      subst (Due words files.held (none.0 + 1)) (sym none.4) (absent none.0 none.1 form none.2),
      none.3,
    ))
    (λ fault. inr (form, fault))
    stops

pub loading_stops : (words names : List (List ℕ)) (files : FilesChange) (why : Stop) → HaveForm words →
    names ≡ words → StopsWith (StopsLoading names files) why → StopsWith (IsDue words files) why
loading_stops words names files why form same stops =
    stops_weaker (StopsLoading names files) (IsDue words files) why
    (λ verdict is. loading_due words files verdict form
    (subst (λ (all : List (List ℕ)). StopsLoading all files verdict) same is)) stops

-- all were loaded
all_due : (words bytes : List (List ℕ)) (files : FilesChange) (result : Result Verdict Stop) →
    AllZip (λ file content. Told files.held file (Some content)) words bytes →
    files.loads_after ≡ counted_by (length words) files.loads_before → files.faults_after ≡ files.faults_before →
    EndsIn (DueForBytes words bytes) result → EndsIn (IsDue words files) result
all_due words bytes files result told loads faults ends =
    ends_weaker (DueForBytes words bytes) (IsDue words files) result
    (λ verdict is. inl (
      length words,
      loaded verdict (record { bytes = bytes; told = told; due = is }),
      record { loads = loads; no_fault = faults },
    ))
    ends

-- both files of two words
pub plan_ends : (program hosts : List ℕ) (files : FilesChange) (p h : Loaded) (result : Result Verdict Stop) →
    TwoFiles files.held program hosts p h → files.loads_after ≡ counted_by 2 files.loads_before →
    files.faults_after ≡ files.faults_before →
    ((b c : List ℕ) → IsLoaded PROGRAM_BYTES b p → IsLoaded HOSTS_BYTES c h → EndsIn (DueForPlan b c) result) →
    EndsIn (IsDue (program ∷ hosts ∷ []) files) result
plan_ends program hosts files p h result two loads faults due =
    all_due (program ∷ hosts ∷ []) (two.program_bytes ∷ two.hosts_bytes ∷ []) files result
    (two.program_told, (two.hosts_told, tt)) loads faults
    (due two.program_bytes two.hosts_bytes two.program_loaded two.hosts_loaded)

-- the three files of three words
pub run_ends : (program hosts events : List ℕ) (one two three : Asked) (files : FilesChange) (given : List Loaded)
    (p h e : Loaded) (result : Result Verdict Stop) →
    AllZip (GivesAsked files.held) (one ∷ two ∷ three ∷ []) given → p ≡ get_or given 0 p → h ≡ get_or given 1 h →
    e ≡ get_or given 2 e → one.name.now ≡ program → one.most ≡ PROGRAM_BYTES → two.name.now ≡ hosts →
    two.most ≡ HOSTS_BYTES → three.name.now ≡ events → three.most ≡ SCRIPT_BYTES →
    files.loads_after ≡ counted_by 3 files.loads_before → files.faults_after ≡ files.faults_before →
    ((b c d : List ℕ) → IsLoaded PROGRAM_BYTES b p → IsLoaded HOSTS_BYTES c h → IsLoaded SCRIPT_BYTES d e →
    EndsIn (DueForChart events b c d) result) →
    EndsIn (IsDue (program ∷ hosts ∷ events ∷ []) files) result
run_ends program hosts events one two three files [] p h e result all pa pb pc na ma nb mb nc mc loads faults due =
    absurd all
run_ends program hosts events one two three files (x ∷ []) p h e result all pa pb pc na ma nb mb nc mc loads faults
    due = absurd all.1
run_ends program hosts events one two three files (x ∷ y ∷ []) p h e result all pa pb pc na ma nb mb nc mc loads faults
    due = absurd all.1.1
run_ends program hosts events one two three files (x ∷ y ∷ z ∷ w ∷ more) p h e result all pa pb pc na ma nb mb nc mc
    loads faults due = absurd all.1.1.1
run_ends program hosts events one two three files (x ∷ y ∷ z ∷ []) p h e result all pa pb pc na ma nb mb nc mc loads
    faults due =
    let first = given_file files.held one program PROGRAM_BYTES x na ma all.0 in
    let second = given_file files.held two hosts HOSTS_BYTES y nb mb all.1.0 in
    let third = given_file files.held three events SCRIPT_BYTES z nc mc all.1.1.0 in
    all_due (program ∷ hosts ∷ events ∷ []) (first.0 ∷ second.0 ∷ third.0 ∷ []) files result
    (first.1, (second.1, (third.1, tt))) loads faults
    (due first.0 second.0 third.0 (subst (IsLoaded PROGRAM_BYTES first.0) (sym pa) first.2)
    (subst (IsLoaded HOSTS_BYTES second.0) (sym pb) second.2)
    (subst (IsLoaded SCRIPT_BYTES third.0) (sym pc) third.2))

-- words of no form
pub usage_due : (words : List (List ℕ)) (files : FilesChange) (verdict : VerdictShape) → HaveNoForm words →
    files.loads_after ≡ files.loads_before → files.faults_after ≡ files.faults_before → verdict ≡ usage →
    IsDue words files verdict
usage_due words files verdict none loads faults is =
    inl (
      0,
      subst (Due words files.held 0) (sym is) (no_form none),
      record { loads = loads; no_fault = faults },
    )

-- what is due for words is due for such as are the same
pub words_end : (words named : List (List ℕ)) (files : FilesChange) (result : Result Verdict Stop) → words ≡ named →
    EndsIn (IsDue named files) result → EndsIn (IsDue words files) result
words_end words named files result same ends =
    subst (λ (all : List (List ℕ)). EndsIn (IsDue all files) result) (sym same) ends

-- ---- two words and three

-- two texts, by their places
pub two_words : (xs : List (String Global)) (a b : String Global) (program hosts : List ℕ) → length xs ≡ 2 →
    a ≡ get_or xs 0 a → b ≡ get_or xs 1 b → program ≡ string_bytes a → hosts ≡ string_bytes b →
    map string_bytes xs ≡ program ∷ hosts ∷ []
two_words [] a b program hosts n pa pb na nb = absurd (omega arith)
two_words (w ∷ []) a b program hosts n pa pb na nb = absurd (omega arith)
two_words (w ∷ x ∷ []) a b program hosts n pa pb na nb = cc
two_words (w ∷ x ∷ y ∷ xs) a b program hosts n pa pb na nb = absurd (omega arith)

-- three texts, by their places
pub three_words : (xs : List (String Global)) (a b c : String Global) (program hosts events : List ℕ) →
    length xs ≡ 3 → a ≡ get_or xs 0 a → b ≡ get_or xs 1 b → c ≡ get_or xs 2 c → program ≡ string_bytes a →
    hosts ≡ string_bytes b → events ≡ string_bytes c → map string_bytes xs ≡ program ∷ hosts ∷ events ∷ []
three_words [] a b c program hosts events n pa pb pc na nb nc = absurd (omega arith)
three_words (w ∷ []) a b c program hosts events n pa pb pc na nb nc = absurd (omega arith)
three_words (w ∷ x ∷ []) a b c program hosts events n pa pb pc na nb nc = absurd (omega arith)
three_words (w ∷ x ∷ y ∷ []) a b c program hosts events n pa pb pc na nb nc = cc
three_words (w ∷ x ∷ y ∷ z ∷ xs) a b c program hosts events n pa pb pc na nb nc = absurd (omega arith)
