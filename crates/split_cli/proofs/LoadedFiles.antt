-- What is due for a command whose files were all loaded.
use Rattle.std.proofs.Common.{◌≡◌, ℕ, List, [], ◌∷◌, length, get_or, Option, Some, sym, ap, ◌∙◌, subst, inl, Result}
use Rattle.std.specs.List.{AllZip}
use Rattle.js_base.specs.declared.limits.TheConstants.{PROGRAM_BYTES, HOSTS_BYTES, SCRIPT_BYTES}
use Rattle.front_end.specs.declared.load.Asked.{Asked}
use Rattle.front_end.specs.declared.load.Loaded.{Loaded}
use Rattle.front_end.specs.declared.stop.Stop.{Stop}
use Rattle.front_end.specs.declared.verdict.Verdict.{Verdict}
use Rattle.split_words.specs.Commands.{CommandShape, Check, files_of}
use Rattle.front_end.specs.Loads.{FilesChange, AreKept, Told, counted_by}
use Rattle.front_end.specs.Loading.{IsLoaded, StopsWith, StopsLoading, EndsIn}
use Rattle.split_cli.specs.Due.{DueForBytes, loaded, SavesFor, IsDueForCommand}
use Rattle.front_end.specs.Verdicts.{VerdictShape}
use Rattle.front_end.proofs.Stages.{ends_weaker, stops_weaker}
use Rattle.split_cli.proofs.Stops.{loading_due}
use Rattle.front_end.proofs.Stops.{GivesAsked}
use Rattle.front_end.proofs.LoadedFiles.{TwoFiles, given_file}

-- a command stops where one of its files was not loaded
pub loading_stops : (command : CommandShape) (names : List (List ℕ)) (files : FilesChange) (why : Stop) →
    names ≡ files_of command → AreKept files → StopsWith (StopsLoading names files) why →
    StopsWith (IsDueForCommand command files) why
loading_stops command names files why same kept stops =
    stops_weaker (StopsLoading names files) (IsDueForCommand command files) why
    (λ verdict is. loading_due command files verdict kept
    (subst (λ (all : List (List ℕ)). StopsLoading all files verdict) same is)) stops

abbrev pub AreTold : Option (List ℕ → Option (List ℕ)) → List (List ℕ) → List (List ℕ) → Type 0
AreTold held names bytes = AllZip (λ file content. Told held file (Some content)) names bytes

-- the command saves nothing, whatever is due
abbrev pub SavesNothing : CommandShape → FilesChange → Type 0
SavesNothing command files = (verdict : VerdictShape) → SavesFor command verdict files

-- all were loaded
all_due : (command : CommandShape) (files : FilesChange) (bytes : List (List ℕ)) (result : Result Verdict Stop) →
    AreTold files.held (files_of command) bytes →
    files.loads_after ≡ counted_by (length (files_of command)) files.loads_before →
    files.faults_after ≡ files.faults_before → SavesNothing command files → EndsIn (DueForBytes command bytes) result →
    EndsIn (IsDueForCommand command files) result
all_due command files bytes result told loads faults kept ends =
    ends_weaker (DueForBytes command bytes) (IsDueForCommand command files) result
    (λ verdict due. inl (
      length (files_of command),
      loaded verdict (record { bytes = bytes; told = told; due = due }),
      record { loads = loads; no_fault = faults },
      kept verdict,
    )) ends

-- a count after as many more, in other words; for numbers that are no literals, of which the counts would be computed
counted_as : (most number before after : ℕ) → after ≡ counted_by most before → number ≡ most →
    after ≡ counted_by number before
counted_as most number before after is same = is ∙ ap (λ (n : ℕ). counted_by n before) (sym same)

pub two_due : (program hosts : List ℕ) (files : FilesChange) (p h : Loaded) (result : Result Verdict Stop) →
    TwoFiles files.held program hosts p h → files.loads_after ≡ counted_by 2 files.loads_before →
    files.faults_after ≡ files.faults_before → AreKept files →
    ((b c : List ℕ) → IsLoaded PROGRAM_BYTES b p → IsLoaded HOSTS_BYTES c h →
    EndsIn (DueForBytes (Check program hosts) (b ∷ c ∷ [])) result) →
    EndsIn (IsDueForCommand (Check program hosts) files) result
two_due program hosts files p h result two loads faults kept due =
    all_due (Check program hosts) files (two.program_bytes ∷ two.hosts_bytes ∷ []) result
    (two.program_told, (two.hosts_told, tt)) loads faults (λ verdict. kept)
    (due two.program_bytes two.hosts_bytes two.program_loaded two.hosts_loaded)

-- a command with a program, a host file and a script
pub three_due : (command : CommandShape) (program hosts script : List ℕ) (one two three : Asked)
    (files : FilesChange) (given : List Loaded) (p h s : Loaded) (result : Result Verdict Stop) →
    files_of command ≡ program ∷ hosts ∷ script ∷ [] →
    AllZip (GivesAsked files.held) (one ∷ two ∷ three ∷ []) given → p ≡ get_or given 0 p → h ≡ get_or given 1 h →
    s ≡ get_or given 2 s →
    one.name.now ≡ program → one.most ≡ PROGRAM_BYTES → two.name.now ≡ hosts → two.most ≡ HOSTS_BYTES →
    three.name.now ≡ script → three.most ≡ SCRIPT_BYTES →
    files.loads_after ≡ counted_by 3 files.loads_before → files.faults_after ≡ files.faults_before →
    SavesNothing command files → ((b c d : List ℕ) → IsLoaded PROGRAM_BYTES b p → IsLoaded HOSTS_BYTES c h →
    IsLoaded SCRIPT_BYTES d s →
    EndsIn (DueForBytes command (b ∷ c ∷ d ∷ [])) result) →
    EndsIn (IsDueForCommand command files) result
three_due command program hosts script one two three files [] p h s result names all pa pb pc na ma nb mb nc mc loads
    faults kept due = absurd all
three_due command program hosts script one two three files (x ∷ []) p h s result names all pa pb pc na ma nb mb nc mc
    loads faults kept due = absurd all.1
three_due command program hosts script one two three files (x ∷ y ∷ []) p h s result names all pa pb pc na ma nb mb nc
    mc loads faults kept due = absurd all.1.1
three_due command program hosts script one two three files (x ∷ y ∷ z ∷ w ∷ more) p h s result names all pa pb pc na
    ma nb mb nc mc loads faults kept due = absurd all.1.1.1
three_due command program hosts script one two three files (x ∷ y ∷ z ∷ []) p h s result names all pa pb pc na ma nb
    mb nc mc loads faults kept due =
    let first = given_file files.held one program PROGRAM_BYTES x na ma all.0 in
    let second = given_file files.held two hosts HOSTS_BYTES y nb mb all.1.0 in
    let third = given_file files.held three script SCRIPT_BYTES z nc mc all.1.1.0 in
    let told : AreTold files.held (program ∷ hosts ∷ script ∷ []) (first.0 ∷ second.0 ∷ third.0 ∷ []) =
    (first.1, (second.1, (third.1, tt))) in
    let names_told : AreTold files.held (files_of command) (first.0 ∷ second.0 ∷ third.0 ∷ []) =
    subst (λ (all_names : List (List ℕ)). AreTold files.held all_names (first.0 ∷ second.0 ∷ third.0 ∷ [])) (sym names)
    told in
    all_due command files (first.0 ∷ second.0 ∷ third.0 ∷ []) result names_told
    (counted_as 3 (length (files_of command)) files.loads_before files.loads_after loads (ap length names)) faults
    kept (due first.0 second.0 third.0 (subst (IsLoaded PROGRAM_BYTES first.0) (sym pa) first.2)
    (subst (IsLoaded HOSTS_BYTES second.0) (sym pb) second.2)
    (subst (IsLoaded SCRIPT_BYTES third.0) (sym pc) third.2))

-- a command with a program, a host file and two scripts
pub four_due : (command : CommandShape) (program hosts script other : List ℕ) (one two three four : Asked)
    (files : FilesChange) (given : List Loaded) (p h s t : Loaded) (result : Result Verdict Stop) →
    files_of command ≡ program ∷ hosts ∷ script ∷ other ∷ [] →
    AllZip (GivesAsked files.held) (one ∷ two ∷ three ∷ four ∷ []) given → p ≡ get_or given 0 p → h ≡ get_or given 1 h →
    s ≡ get_or given 2 s → t ≡ get_or given 3 t →
    one.name.now ≡ program → one.most ≡ PROGRAM_BYTES → two.name.now ≡ hosts → two.most ≡ HOSTS_BYTES →
    three.name.now ≡ script → three.most ≡ SCRIPT_BYTES → four.name.now ≡ other → four.most ≡ SCRIPT_BYTES →
    files.loads_after ≡ counted_by 4 files.loads_before → files.faults_after ≡ files.faults_before →
    SavesNothing command files → ((b c d e : List ℕ) → IsLoaded PROGRAM_BYTES b p → IsLoaded HOSTS_BYTES c h →
    IsLoaded SCRIPT_BYTES d s →
    IsLoaded SCRIPT_BYTES e t → EndsIn (DueForBytes command (b ∷ c ∷ d ∷ e ∷ [])) result) →
    EndsIn (IsDueForCommand command files) result
four_due command program hosts script other one two three four files [] p h s t result names all pa pb pc pd na ma nb
    mb nc mc nd md loads faults kept due = absurd all
four_due command program hosts script other one two three four files (x ∷ []) p h s t result names all pa pb pc pd na
    ma nb mb nc mc nd md loads faults kept due = absurd all.1
four_due command program hosts script other one two three four files (x ∷ y ∷ []) p h s t result names all pa pb pc pd
    na ma nb mb nc mc nd md loads faults kept due = absurd all.1.1
four_due command program hosts script other one two three four files (x ∷ y ∷ z ∷ []) p h s t result names all pa pb pc
    pd na ma nb mb nc mc nd md loads faults kept due = absurd all.1.1.1
four_due command program hosts script other one two three four files (x ∷ y ∷ z ∷ w ∷ v ∷ more) p h s t result names all
    pa pb pc pd na ma nb mb nc mc nd md loads faults kept due = absurd all.1.1.1.1
four_due command program hosts script other one two three four files (x ∷ y ∷ z ∷ w ∷ []) p h s t result names all pa pb
    pc pd na ma nb mb nc mc nd md loads faults kept due =
    let first = given_file files.held one program PROGRAM_BYTES x na ma all.0 in
    let second = given_file files.held two hosts HOSTS_BYTES y nb mb all.1.0 in
    let third = given_file files.held three script SCRIPT_BYTES z nc mc all.1.1.0 in
    let fourth = given_file files.held four other SCRIPT_BYTES w nd md all.1.1.1.0 in
    let bytes : List (List ℕ) = first.0 ∷ second.0 ∷ third.0 ∷ fourth.0 ∷ [] in
    let told : AreTold files.held (program ∷ hosts ∷ script ∷ other ∷ []) bytes =
    (first.1, (second.1, (third.1, (fourth.1, tt)))) in
    let names_told : AreTold files.held (files_of command) bytes =
    subst (λ (all_names : List (List ℕ)). AreTold files.held all_names bytes) (sym names) told in
    all_due command files bytes result names_told
    (counted_as 4 (length (files_of command)) files.loads_before files.loads_after loads (ap length names)) faults
    kept (due first.0 second.0 third.0 fourth.0 (subst (IsLoaded PROGRAM_BYTES first.0) (sym pa) first.2)
    (subst (IsLoaded HOSTS_BYTES second.0) (sym pb) second.2)
    (subst (IsLoaded SCRIPT_BYTES third.0) (sym pc) third.2)
    (subst (IsLoaded SCRIPT_BYTES fourth.0) (sym pd) fourth.2))
