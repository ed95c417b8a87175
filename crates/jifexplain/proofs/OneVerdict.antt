-- For words, and for files that tell what they hold, one verdict is due, where the host file is TOML.
use Rattle.std.proofs.Common.{◌≡◌, ◌≢◌, ◌⊎◌, ℕ, ◌+◌, ◌<◌, List, [], ◌∷◌, length, Option, Some, None, refl, sym, ap}
use Rattle.std.proofs.Common.{◌∙◌, subst, inl, inr, ⊎_elim}
use Rattle.js_base.specs.Counts.{last_count}
use Rattle.host_decl.specs.Refusal.{not_toml}
use Rattle.front_end.specs.Loads.{FilesChange, Told, IsHeld, IsFirstAbsent}
use Rattle.front_end.specs.PlacedSources.{PlacedSource, PlacedSources}
use Rattle.front_end.specs.Sources.{HostsRead}
use Rattle.front_end.specs.Stages.{StageEnd, given, stopped}
use Rattle.front_end.specs.Verdicts.{VerdictShape, hosts_refused, no_such_file}
use Rattle.front_end.proofs.DueByFiles.{IsDueOrFault, due_or_fault_once}
use Rattle.front_end.proofs.Places.{of_all}
use Rattle.front_end.proofs.Stages.{IsOne, give, stop_with}
use Rattle.front_end.proofs.AbsentFiles.{held_once as one_held, told_held, absent_not_held, absent_once}
use Rattle.jifexplain.specs.Due.{AskFor, DueForBytes, DueForNames, absent, loaded, Due, no_words, names, IsDue}
use Rattle.jifexplain.specs.Explained.{ExplainsVerdict}
use Rattle.jifexplain.specs.Places.{PlacesTold, no_part}
use Rattle.jifexplain.specs.Statuses.{HoldsToml, checked_status, verdict_status}
use Rattle.jifexplain.proofs.OneExplanation.{IsStatusOr, OneOfEach, OneTold, explained_once, explained_status}
use Rattle.jifexplain.proofs.OneExplanation.{placed_status, told_once}
use Rattle.jifexplain.proofs.StoppedStages.{StopsAt, no_draft, no_hosts, no_labels, no_places, no_program}
use Rattle.jifexplain.proofs.StoppedStages.{no_tokens, placed_source, places_at}

-- what is known of all stages
pub record OneOfAll : Type 0 where
  pub each : OneOfEach
  pub told : OneTold
  pub plans : (p h : List ℕ) → IsOne (PlacedSources p h)

-- ---- refused ones

-- where all stops since the host file is no TOML, that is why its reading stops
stops_toml : (p h : List ℕ) (refused : VerdictShape) → StopsAt p h refused → refused ≡ hosts_refused not_toml →
    HostsRead h (stopped (hosts_refused not_toml))
stops_toml p h _ (no_tokens why) same = cc
stops_toml p h _ (no_draft list why lexed) same = cc
stops_toml p h _ (no_program list why lexed) same = cc
stops_toml p h _ (no_hosts why refuses memory) same = (why, refuses, memory, sym same)
stops_toml p h _ (no_labels list draft file tree why was) same = cc
stops_toml p h _ (no_places list draft source why was sourced none) same = cc

abbrev pub IsToml : List ℕ → Type 0
IsToml h = ¬ HostsRead h (stopped (hosts_refused not_toml))

refused_once : OneOfAll → (program hosts p h : List ℕ) (asked : Option (List ℕ)) (refused first second : VerdictShape) →
    IsToml h → PlacedSources p h (stopped refused) → ExplainsVerdict program hosts p h asked refused first →
    ExplainsVerdict program hosts p h asked refused second → first ≡ second
refused_once one program hosts p h asked refused first second toml stops here there =
    explained_once one.each one.told program hosts p h asked refused first second stops
    (λ same. toml (stops_toml p h refused (places_at p h refused stops) same)) here there

-- ---- files

-- what is told of a program in its places
pub telling_once : OneOfEach → (name p h : List ℕ) (asked : Option (List ℕ)) (placed : PlacedSource)
    (first second : VerdictShape) → PlacedSources p h (given placed) → PlacesTold name p h asked None first →
    PlacesTold name p h asked None second → first ≡ second
telling_once one name p h asked placed first second was here there =
    let source = placed_source p h placed was in
    told_once one name p h asked None source.0 first second source.1 here there

bytes_once : OneOfAll → (program hosts : List ℕ) (asked : Option (List ℕ)) (p h : List ℕ)
    (first second : VerdictShape) → IsToml h → DueForBytes program hosts asked p h first →
    DueForBytes program hosts asked p h second → first ≡ second
bytes_once one program hosts asked p h first second toml here there =
    ⊎_elim
    (λ held. ⊎_elim
    (λ also. telling_once one.each program p h asked held.0 first second held.1 held.2 also.2)
    (λ stops. absurd (let no : give held.0 ≡ stop_with stops.0 =
    one.plans p h (given held.0) (stopped stops.0) held.1 stops.1 in cc))
    there)
    (λ stops. ⊎_elim
    (λ held. absurd (let no : stop_with stops.0 ≡ give held.0 =
    one.plans p h (stopped stops.0) (given held.0) stops.1 held.1 in cc))
    (λ also. let both : stop_with {X = PlacedSource} stops.0 ≡ stop_with also.0 =
    one.plans p h (stopped stops.0) (stopped also.0) stops.1 also.1 in
    let same : also.0 ≡ stops.0 = cc in
    refused_once one program hosts p h asked stops.0 first second toml stops.1 stops.2
    (subst (λ (refused : VerdictShape). ExplainsVerdict program hosts p h asked refused second) same also.2))
    there)
    here

-- ---- files that tell what they hold

absent_or_held : (holds : List ℕ → Option (List ℕ)) (program hosts p h : List ℕ) (place : ℕ) (file : List ℕ) →
    IsFirstAbsent (Some holds) (program ∷ hosts ∷ []) place file → Told (Some holds) program (Some p) →
    Told (Some holds) hosts (Some h) → ⊥
absent_or_held holds program hosts p h place file first p_told h_told =
    absent_not_held holds file first.absent
    (of_all (IsHeld (Some holds)) (program ∷ hosts ∷ []) place file
    (told_held holds program p p_told, (told_held holds hosts h h_told, tt)) first.here)

names_once : OneOfAll → (holds : List ℕ → Option (List ℕ)) (program hosts : List ℕ) (asked : Option (List ℕ))
    (number other : ℕ) (first second : VerdictShape) → ((h : List ℕ) → holds hosts ≡ Some h → IsToml h) →
    DueForNames (Some holds) program hosts asked number first →
    DueForNames (Some holds) program hosts asked other second → (number ≡ other) × (first ≡ second)
names_once one holds program hosts asked _ _ _ _ toml (absent place file here) (absent other second there) =
    let same = absent_once holds (program ∷ hosts ∷ []) place other file second here there in
    (ap (λ n. n + 1) same.0, ap no_such_file same.1)
names_once one holds program hosts asked _ _ _ _ toml (absent place file here) (loaded p h verdict p_told h_told due) =
    absurd (absent_or_held holds program hosts p h place file here p_told h_told)
names_once one holds program hosts asked _ _ _ _ toml (loaded p h verdict p_told h_told due) (absent place file there) =
    absurd (absent_or_held holds program hosts p h place file there p_told h_told)
names_once one holds program hosts asked _ _ _ _ toml (loaded p h first p_told h_told here)
    (loaded q i second q_told i_told there) =
    let program_same : q ≡ p = one_held holds program q p q_told p_told in
    let hosts_same : i ≡ h = one_held holds hosts i h i_told h_told in (
      refl,
      bytes_once one program hosts asked p h first second (toml h h_told) here
          (subst (λ (bytes : List ℕ). DueForBytes program hosts asked bytes h second) program_same
          (subst (λ (bytes : List ℕ). DueForBytes program hosts asked q bytes second) hosts_same there)),
    )

-- ---- words

-- words ask for one thing
record IsSameAsked (program hosts : List ℕ) (asked : Option (List ℕ)) (other file : List ℕ) (also : Option (List ℕ)) :
    Type 0 where
  program_same : other ≡ program
  hosts_same : file ≡ hosts
  asked_same : also ≡ asked

asked_once : (words : List (List ℕ)) (program hosts : List ℕ) (asked : Option (List ℕ)) (other file : List ℕ)
    (also : Option (List ℕ)) → AskFor words program hosts asked → AskFor words other file also →
    IsSameAsked program hosts asked other file also
asked_once words program hosts None other file None one two =
    let both : program ∷ hosts ∷ [] ≡ other ∷ file ∷ [] = sym one ∙ two in
    record { program_same = cc; hosts_same = cc; asked_same = refl }
asked_once words program hosts None other file (Some word) one two =
    let both : program ∷ hosts ∷ [] ≡ other ∷ file ∷ word ∷ [] = sym one ∙ two in absurd cc
asked_once words program hosts (Some word) other file None one two =
    let both : program ∷ hosts ∷ word ∷ [] ≡ other ∷ file ∷ [] = sym one ∙ two in absurd cc
asked_once words program hosts (Some word) other file (Some more) one two =
    let both : program ∷ hosts ∷ word ∷ [] ≡ other ∷ file ∷ more ∷ [] = sym one ∙ two in
    let same : more ≡ word = cc in record { program_same = cc; hosts_same = cc; asked_same = ap Some same }

-- words that ask are two or three
asks_few : (words : List (List ℕ)) (program hosts : List ℕ) (asked : Option (List ℕ)) → length words ≢ 2 →
    length words ≢ 3 → AskFor words program hosts asked → ⊥
asks_few words program hosts None two three is = two (ap length is)
asks_few words program hosts (Some word) two three is = three (ap length is)

pub due_once : OneOfAll → (words : List (List ℕ)) (holds : List ℕ → Option (List ℕ)) (number other : ℕ)
    (first second : VerdictShape) → HoldsToml words holds → Due words (Some holds) number first →
    Due words (Some holds) other second → (number ≡ other) × (first ≡ second)
due_once one words holds _ _ _ _ toml (no_words two three) (no_words also more) = (refl, refl)
due_once one words holds _ _ _ _ toml (no_words two three) (names program hosts asked number verdict asks due) =
    absurd (asks_few words program hosts asked two three asks)
due_once one words holds _ _ _ _ toml (names program hosts asked number verdict asks due) (no_words two three) =
    absurd (asks_few words program hosts asked two three asks)
due_once one words holds _ _ _ _ toml (names program hosts asked number first asks here)
    (names other file also place second asks_too there) =
    let same = asked_once words program hosts asked other file also asks asks_too in
    names_once one holds program hosts asked number place first second (λ h held. toml program hosts h asked asks held)
    here
    (subst (λ (name : List ℕ). DueForNames (Some holds) name hosts asked place second) same.program_same
    (subst (λ (name : List ℕ). DueForNames (Some holds) other name asked place second) same.hosts_same
    (subst (λ (parts : Option (List ℕ)). DueForNames (Some holds) other file parts place second) same.asked_same
    there)))

-- ---- what is due for words and for what the files did

-- for a file whose load failed its line is due
due_or_fault : (words : List (List ℕ)) (files : FilesChange) (verdict : VerdictShape) → IsDue words files verdict →
    IsDueOrFault (Due words) files verdict
due_or_fault words files verdict due =
    ⊎_elim (λ by_files. inl by_files) (λ fault. inr (fault.4.rose, fault.4.verdict_is)) due

pub answer_once : OneOfAll → (words : List (List ℕ)) (files : FilesChange) (holds : List ℕ → Option (List ℕ))
    (first second : VerdictShape) → HoldsToml words holds → files.held ≡ Some holds →
    files.faults_before < last_count → IsDue words files first → IsDue words files second → first ≡ second
answer_once one words files holds first second toml tells below here there =
    due_or_fault_once (Due words) files holds
    (λ number other former latter due also. due_once one words holds number other former latter toml due also) tells below
    first second (due_or_fault words files first here) (due_or_fault words files second there)

-- ---- the status of `check`

status_or : OneOfAll → (program hosts : List ℕ) (asked : Option (List ℕ)) (p h : List ℕ) (end : StageEnd PlacedSource)
    (verdict : VerdictShape) → PlacedSources p h end → DueForBytes program hosts asked p h verdict →
    IsStatusOr program asked (checked_status end) verdict
status_or one program hosts asked p h end verdict was due =
    ⊎_elim
    (λ held. subst (λ (e : StageEnd PlacedSource). IsStatusOr program asked (checked_status e) verdict)
    (one.plans p h (given held.0) end held.1 was)
    (let source = placed_source p h held.0 held.1 in
    placed_status one.each program p h asked source.0 verdict source.1 held.2))
    (λ stops. subst (λ (e : StageEnd PlacedSource). IsStatusOr program asked (checked_status e) verdict)
    (one.plans p h (stopped stops.0) end stops.1 was)
    (explained_status one.each program hosts p h asked stops.0 verdict stops.1 stops.2))
    due

pub same_status : OneOfAll → (program hosts p h : List ℕ) (end : StageEnd PlacedSource) (verdict : VerdictShape) →
    PlacedSources p h end → DueForBytes program hosts None p h verdict → verdict_status verdict ≡ checked_status end
same_status one program hosts p h end verdict was due = status_or one program hosts None p h end verdict was due

pub word_status : OneOfAll → (program hosts word p h : List ℕ) (end : StageEnd PlacedSource) (verdict : VerdictShape) →
    PlacedSources p h end → DueForBytes program hosts (Some word) p h verdict →
    (verdict_status verdict ≡ checked_status end) ⊎ (verdict ≡ no_part program word)
word_status one program hosts word p h end verdict was due =
    status_or one program hosts (Some word) p h end verdict was due
