-- What is due for the names of a program and a host file that were loaded, or of which one was not, and for words.
use Rattle.std.proofs.Common.{◌≡◌, ℕ, ◌+◌, List, [], ◌∷◌, length, sym, subst, inl, inr, ⊎_elim, Result}
use Rattle.std.proofs.Common.{Option, Some, None, String, Global, arith, get_or, map}
use Rattle.std.specs.Prelude.{◌≢◌, string_bytes}
use Rattle.js_base.specs.declared.limits.TheConstants.{PROGRAM_BYTES, HOSTS_BYTES}
use Rattle.front_end.specs.declared.load.Loaded.{Loaded}
use Rattle.front_end.specs.declared.stop.Stop.{Stop}
use Rattle.front_end.specs.declared.verdict.Verdict.{Verdict}
use Rattle.front_end.specs.Loading.{EndsIn, IsLoaded, StopsLoading, StopsWith}
use Rattle.front_end.specs.Loads.{FilesChange, counted_by}
use Rattle.front_end.specs.Verdicts.{VerdictShape}
use Rattle.front_end.proofs.LoadedFiles.{TwoFiles}
use Rattle.front_end.proofs.Stages.{ends_weaker, stops_weaker}
use Rattle.jifexplain.specs.Due.{AskFor, DueForBytes, DueForNames, absent, loaded, Due, no_words, names, IsDue}
use Rattle.jifexplain.specs.Due.{IsDueForNames, usage}

-- one of the files was not loaded
loading_due : (program hosts : List ℕ) (asked : Option (List ℕ)) (files : FilesChange) (verdict : VerdictShape) →
    StopsLoading (program ∷ hosts ∷ []) files verdict → IsDueForNames program hosts asked files verdict
loading_due program hosts asked files verdict stops =
    ⊎_elim
    (λ none. inl (
      none.0 + 1,
      subst (DueForNames files.held program hosts asked (none.0 + 1)) (sym none.4) (absent none.0 none.1 none.2),
      none.3,
    ))
    (λ fault. inr fault)
    stops

pub loading_stops : (program hosts : List ℕ) (asked : Option (List ℕ)) (files_named : List (List ℕ))
    (files : FilesChange) (why : Stop) → files_named ≡ program ∷ hosts ∷ [] →
    StopsWith (StopsLoading files_named files) why → StopsWith (IsDueForNames program hosts asked files) why
loading_stops program hosts asked files_named files why same stops =
    stops_weaker (StopsLoading files_named files) (IsDueForNames program hosts asked files) why
    (λ verdict is. loading_due program hosts asked files verdict
    (subst (λ (all : List (List ℕ)). StopsLoading all files verdict) same is)) stops

-- both were loaded
pub two_due : (program hosts : List ℕ) (asked : Option (List ℕ)) (files : FilesChange) (p h : Loaded)
    (result : Result Verdict Stop) →
    TwoFiles files.held program hosts p h → files.loads_after ≡ counted_by 2 files.loads_before →
    files.faults_after ≡ files.faults_before →
    ((b c : List ℕ) → IsLoaded PROGRAM_BYTES b p → IsLoaded HOSTS_BYTES c h →
    EndsIn (DueForBytes program hosts asked b c) result) →
    EndsIn (IsDueForNames program hosts asked files) result
two_due program hosts asked files p h result two loads faults due =
    ends_weaker (DueForBytes program hosts asked two.program_bytes two.hosts_bytes)
    (IsDueForNames program hosts asked files) result
    (λ verdict is. inl (
      2,
      loaded two.program_bytes two.hosts_bytes verdict two.program_told two.hosts_told is,
      record { loads = loads; no_fault = faults },
    ))
    (due two.program_bytes two.hosts_bytes two.program_loaded two.hosts_loaded)

-- what is due for two names is due for the words
pub verdict_for_words : (words : List (List ℕ)) (program hosts : List ℕ) (asked : Option (List ℕ)) (files : FilesChange)
    (verdict : VerdictShape) → AskFor words program hosts asked → IsDueForNames program hosts asked files verdict →
    IsDue words files verdict
verdict_for_words words program hosts asked files verdict asks due =
    ⊎_elim
    (λ whole. inl (whole.0, names program hosts asked whole.0 verdict asks whole.1, whole.2))
    (λ fault. inr (program, hosts, asked, asks, fault))
    due

-- words that are neither two nor three
pub usage_due : (words : List (List ℕ)) (files : FilesChange) (verdict : VerdictShape) → length words ≢ 2 →
    length words ≢ 3 → files.loads_after ≡ files.loads_before → files.faults_after ≡ files.faults_before →
    verdict ≡ usage → IsDue words files verdict
usage_due words files verdict two three loads faults is =
    inl (
      0,
      subst (Due words files.held 0) (sym is) (no_words two three),
      record { loads = loads; no_fault = faults },
    )

-- ---- two words and three

-- two texts, by their places
two : (xs : List (String Global)) (a b : String Global) → length xs ≡ 2 → a ≡ get_or xs 0 a → b ≡ get_or xs 1 b →
    map string_bytes xs ≡ string_bytes a ∷ string_bytes b ∷ []
two [] a b n pa pb = absurd (omega arith)
two (w ∷ []) a b n pa pb = absurd (omega arith)
two (w ∷ x ∷ []) a b n pa pb = cc
two (w ∷ x ∷ y ∷ xs) a b n pa pb = absurd (omega arith)

-- three texts
three : (xs : List (String Global)) (a b c : String Global) → length xs ≡ 3 → a ≡ get_or xs 0 a → b ≡ get_or xs 1 b →
    c ≡ get_or xs 2 c → map string_bytes xs ≡ string_bytes a ∷ string_bytes b ∷ string_bytes c ∷ []
three [] a b c n pa pb pc = absurd (omega arith)
three (w ∷ []) a b c n pa pb pc = absurd (omega arith)
three (w ∷ x ∷ []) a b c n pa pb pc = absurd (omega arith)
three (w ∷ x ∷ y ∷ []) a b c n pa pb pc = cc
three (w ∷ x ∷ y ∷ z ∷ xs) a b c n pa pb pc = absurd (omega arith)

pub two_asked : (xs : List (String Global)) (a b : String Global) (program hosts : List ℕ) → length xs ≡ 2 →
    a ≡ get_or xs 0 a → b ≡ get_or xs 1 b → program ≡ string_bytes a → hosts ≡ string_bytes b →
    AskFor (map string_bytes xs) program hosts None
two_asked xs a b program hosts n pa pb first second =
    let are : map string_bytes xs ≡ string_bytes a ∷ string_bytes b ∷ [] = two xs a b n pa pb in cc

pub three_asked : (xs : List (String Global)) (a b c : String Global) (program hosts word : List ℕ) → length xs ≡ 3 →
    a ≡ get_or xs 0 a → b ≡ get_or xs 1 b → c ≡ get_or xs 2 c → program ≡ string_bytes a → hosts ≡ string_bytes b →
    word ≡ string_bytes c → AskFor (map string_bytes xs) program hosts (Some word)
three_asked xs a b c program hosts word n pa pb pc first second third =
    let are : map string_bytes xs ≡ string_bytes a ∷ string_bytes b ∷ string_bytes c ∷ [] = three xs a b c n pa pb pc in cc
