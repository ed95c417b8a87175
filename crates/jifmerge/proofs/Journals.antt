-- Journals that stand for what was loaded, and what they are merged into.
use Rattle.std.proofs.Common.{◌≡◌, ◌∙◌, ℕ, ◌+◌, ◌<◌, List, [], ◌∷◌, length, refl, sym, ap, subst, inl, inr, ⊎_elim}
use Rattle.std.proofs.Common.{Option, Some, None, Bool, true, false, arith, map, Vec, Global}
use Rattle.std.proofs.Common.{◌++◌, get_or}
use Rattle.std.specs.Prelude.{◌⊎◌, nat_lt, if◌then◌else◌, take}
use Rattle.std.proofs.lemmas.Bool.Decides.{nat_tests}
use Rattle.std.proofs.lemmas.List.{take_more}
use Rattle.std.specs.List.{AllZip}
use Rattle.std.specs.Option.{option_map}
use Rattle.js_base.proofs.Lists.{zip_push}
use Rattle.js_base.specs.declared.limits.TheConstants.{SCRIPT_BYTES}
use Rattle.event_text.specs.declared.event.Event.{Event}
use Rattle.event_text.specs.Lines.{said_lines}
use Rattle.front_end.specs.declared.load.Loaded.{Loaded}
use Rattle.front_end.specs.declared.load.Loaded.TheVariants.{Bytes, TooLong}
use Rattle.front_end.specs.Loading.{IsLoaded}
use Rattle.host_code.specs.Code.{CodeShape}
use Rattle.net_world.specs.World.{WorldShape}
use Rattle.record_merge.specs.declared.journal.MergeError.{MergeError}
use Rattle.record_merge.specs.declared.journal.MergeError.TheVariants as error
use Rattle.record_merge.specs.Journals.{Fault, fault_of, first_bad, first_fault, bad_line, too_long, or_later}
use Rattle.record_merge.specs.Merging.{IsMerged, IsMergeRefusedFor}
use Rattle.record_merge.specs.Reading.{bytes_of}
use Rattle.jifmerge.specs.Merged.{StandsForJournal}

-- two journals are one, or both are too long
abbrev pub Alike : List ℕ → List ℕ → Type 0
Alike first second = (first ≡ second) ⊎ ((SCRIPT_BYTES < length first) × (SCRIPT_BYTES < length second))

-- why a journal that is too long is not read
long_fault : (code : CodeShape) (bytes : List ℕ) → SCRIPT_BYTES < length bytes → fault_of code bytes ≡ Some too_long
long_fault code bytes long =
    let test : nat_lt SCRIPT_BYTES (length bytes) ≡ true = grind (arith, nat_tests) in
    ap (λ (first : Bool).
    if first then Some too_long else option_map (λ number. bad_line number) (first_bad code (said_lines bytes))) test

alike_fault : (code : CodeShape) (first second : List ℕ) → Alike first second →
    fault_of code first ≡ fault_of code second
alike_fault code first second alike =
    ⊎_elim (λ same. ap (fault_of code) same)
    (λ long. long_fault code first long.0 ∙ sym (long_fault code second long.1)) alike

faults_same : (code : CodeShape) (number : ℕ) (firsts seconds : List (List ℕ)) → AllZip Alike firsts seconds →
    first_fault code number firsts ≡ first_fault code number seconds
faults_same code number [] [] all = refl
faults_same code number [] (second ∷ seconds) all = absurd all
faults_same code number (first ∷ firsts) [] all = absurd all
faults_same code number (first ∷ firsts) (second ∷ seconds) all =
    ap (λ (fault : Option Fault). or_later number fault (first_fault code (number + 1) firsts))
    (alike_fault code first second all.0)
    ∙ ap (or_later number (fault_of code second)) (faults_same code (number + 1) firsts seconds all.1)

-- a journal that is read is the other one
none_here : (number : ℕ) (fault : Option Fault) (later : Option (ℕ × Fault)) → or_later number fault later ≡ None →
    (fault ≡ None) × (later ≡ None)
none_here number None later is = (refl, is)
none_here number (Some fault) later is = let no : ⊥ = cc in absurd no

alike_read : (code : CodeShape) (first second : List ℕ) → Alike first second → fault_of code first ≡ None →
    first ≡ second
alike_read code first second alike reads =
    ⊎_elim (λ same. same)
    (λ long. absurd (let no : Some too_long ≡ None = sym (long_fault code first long.0) ∙ reads in cc))
    alike

journals_same : (code : CodeShape) (number : ℕ) (firsts seconds : List (List ℕ)) → AllZip Alike firsts seconds →
    first_fault code number firsts ≡ None → firsts ≡ seconds
journals_same code number [] [] all none = refl
journals_same code number [] (second ∷ seconds) all none = absurd all
journals_same code number (first ∷ firsts) [] all none = absurd all
journals_same code number (first ∷ firsts) (second ∷ seconds) all none =
    let parts = none_here number (fault_of code first) (first_fault code (number + 1) firsts) none in
    ap (λ (one : List ℕ). one ∷ firsts) (alike_read code first second all.0 parts.0)
    ∙ ap (λ (others : List (List ℕ)). second ∷ others) (journals_same code (number + 1) firsts seconds all.1 parts.1)

-- ---- what they are merged into

pub merged_as : (code : CodeShape) (world : WorldShape) (firsts seconds : List (List ℕ)) (events : List Event) →
    AllZip Alike firsts seconds → IsMerged code world firsts events → IsMerged code world seconds events
merged_as code world firsts seconds events all merged =
    subst (λ (journals : List (List ℕ)). IsMerged code world journals events)
    (journals_same code 0 firsts seconds all merged.0) merged

pub refused_as : (code : CodeShape) (world : WorldShape) (firsts seconds : List (List ℕ)) (why : MergeError) →
    AllZip Alike firsts seconds → IsMergeRefusedFor code world firsts why → IsMergeRefusedFor code world seconds why
refused_as code world firsts seconds error.OutOfMemory all refused = tt
refused_as code world firsts seconds (error.TooLong host) all refused =
    sym (faults_same code 0 firsts seconds all) ∙ refused
refused_as code world firsts seconds (error.BadLine host number) all refused =
    sym (faults_same code 0 firsts seconds all) ∙ refused
refused_as code world firsts seconds (error.NoMatch host number) all refused =
    subst (λ (journals : List (List ℕ)). IsMergeRefusedFor code world journals (error.NoMatch host number))
    (journals_same code 0 firsts seconds all refused.0) refused

-- ---- what was loaded

-- the bytes of these journals
abbrev pub AllStandFor : List Loaded → List (Vec ℕ Global) → Type 0
AllStandFor journals all = AllZip (λ journal (bytes : Vec ℕ Global). StandsForJournal journal bytes.items) journals all

-- one more journal
pub one_more_stands : (journals : List Loaded) (place : ℕ) (default : Loaded) (all : List (Vec ℕ Global))
    (bytes : Vec ℕ Global) → place < length journals → AllStandFor (take place journals) all →
    StandsForJournal (get_or journals place default) bytes.items →
    AllStandFor (take (place + 1) journals) (all ++ bytes ∷ [])
one_more_stands journals place default all bytes within so_far last =
    subst (λ (front : List Loaded). AllStandFor front (all ++ bytes ∷ []))
    (sym (take_more journals place default within))
    (zip_push (λ (journal : Loaded) (one : Vec ℕ Global). StandsForJournal journal one.items) (take place journals) all
    (get_or journals place default) bytes so_far last)

one_alike : (journal : Loaded) (held bytes : List ℕ) → IsLoaded SCRIPT_BYTES held journal →
    StandsForJournal journal bytes →
    Alike bytes held
one_alike (Bytes here) held bytes loaded stands = inl (stands ∙ loaded.0)
one_alike TooLong held bytes loaded stands = inr (stands, loaded)

pub all_alike : (journals : List Loaded) (held : List (List ℕ)) (all : List (Vec ℕ Global)) →
    AllZip (IsLoaded SCRIPT_BYTES) held journals → AllStandFor journals all → AllZip Alike (bytes_of all) held
all_alike [] [] [] loaded stand = tt
all_alike [] [] (bytes ∷ all) loaded stand = absurd stand
all_alike [] (one ∷ held) all loaded stand = absurd loaded
all_alike (journal ∷ journals) [] all loaded stand = absurd loaded
all_alike (journal ∷ journals) (one ∷ held) [] loaded stand = absurd stand
all_alike (journal ∷ journals) (one ∷ held) (bytes ∷ all) loaded stand =
    (one_alike journal one bytes.items loaded.0 stand.0, all_alike journals held all loaded.1 stand.1)
