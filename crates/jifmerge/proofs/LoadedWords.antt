-- The files of words that were loaded, and what they hold.
use Rattle.std.proofs.Common.{◌≡◌, ◌∙◌, ℕ, zero, suc, ◌+◌, ◌≤◌, ◌<◌, List, [], ◌∷◌, length, get_or, drop, Option, Some}
use Rattle.std.proofs.Common.{refl, sym, ap, subst, arith, String, Global, Result}
use Rattle.std.specs.Prelude.{◌++◌, map, string_bytes}
use Rattle.std.proofs.lemmas.List.{append_assoc, append-nil, length-map, map-append}
use Rattle.std.specs.List.{AllZip}
use Rattle.js_base.specs.declared.limits.TheConstants.{HOSTS_BYTES, PROGRAM_BYTES, SCRIPT_BYTES}
use Rattle.front_end.specs.declared.load.Asked.{Asked}
use Rattle.front_end.specs.declared.load.Loaded.{Loaded}
use Rattle.front_end.specs.declared.stop.Stop.{Stop}
use Rattle.front_end.specs.declared.verdict.Verdict.{Verdict}
use Rattle.front_end.specs.Loading.{EndsIn, IsLoaded}
use Rattle.front_end.specs.Loads.{Told}
use Rattle.front_end.proofs.LoadedFiles.{given_file}
use Rattle.front_end.proofs.Stops.{GivesAsked, names_asked}
use Rattle.jifmerge.specs.Due.{AreLoaded, DueForBytes, DueForContents, most_of, names_with_most}
use Rattle.jifmerge.proofs.Printed.{drop_past, left_cut}

-- ---- what was asked for

abbrev pub pairs_of : List Asked → List (List ℕ × ℕ)
pairs_of asked = map (λ (one : Asked). (one.name.now, one.most)) asked

-- one more file was asked for
pub pair_more : (words : List (String Global)) (place : ℕ) (word : String Global) (asked : List Asked) (one : Asked)
    (whole : List (List ℕ × ℕ)) → place < length words → word ≡ get_or words place word →
    one.name.now ≡ string_bytes word → one.most ≡ most_of place →
    pairs_of asked ++ names_with_most place (map string_bytes (drop place words)) ≡ whole →
    pairs_of (asked ++ one ∷ []) ++ names_with_most (place + 1) (map string_bytes (drop (place + 1) words)) ≡ whole
pair_more words place word asked one whole within is name most was =
    let rest = names_with_most (place + 1) (map string_bytes (drop (place + 1) words)) in
    let pair : pairs_of (one ∷ []) ≡ (string_bytes word, most_of place) ∷ [] =
    ap (λ (text : List ℕ). (text, one.most) ∷ []) name ∙ ap (λ (n : ℕ). (string_bytes word, n) ∷ []) most in
    ap (λ (pairs : List (List ℕ × ℕ)). pairs ++ rest)
    (map-append (λ (it : Asked). (it.name.now, it.most)) asked (one ∷ []))
    ∙ append_assoc (pairs_of asked) (pairs_of (one ∷ [])) rest
    ∙ ap (λ (pairs : List (List ℕ × ℕ)). pairs_of asked ++ (pairs ++ rest)) pair
    ∙ sym (ap (λ (left : List (String Global)). pairs_of asked ++ names_with_most place (map string_bytes left))
    (left_cut words place word word within is))
    ∙ was

-- all were asked for
pub pairs_end : (words : List (String Global)) (place : ℕ) (asked : List Asked) (whole : List (List ℕ × ℕ)) →
    length words ≤ place → pairs_of asked ++ names_with_most place (map string_bytes (drop place words)) ≡ whole →
    pairs_of asked ≡ whole
pairs_end words place asked whole past was =
    sym (append-nil (pairs_of asked))
    ∙ ap (λ (left : List (String Global)). pairs_of asked ++ names_with_most place (map string_bytes left))
    (sym (drop_past words place past))
    ∙ was

pub names_same : (place : ℕ) (words : List (List ℕ)) (asked : List Asked) →
    pairs_of asked ≡ names_with_most place words → names_asked asked ≡ words
names_same place [] [] is = refl
names_same place [] (one ∷ asked) is = let no : ⊥ = cc in absurd no
names_same place (word ∷ words) [] is = let no : ⊥ = cc in absurd no
names_same place (word ∷ words) (one ∷ asked) is =
    let pair : (one.name.now, one.most) ≡ (word, most_of place) = cc in
    let name : one.name.now ≡ word = ap (λ (it : List ℕ × ℕ). it.0) pair in
    let rest : pairs_of asked ≡ names_with_most (place + 1) words = cc in
    ap (λ (first : List ℕ). first ∷ names_asked asked) name
    ∙ ap (λ (others : List (List ℕ)). word ∷ others) (names_same (place + 1) words asked rest)

-- as many files were asked for as there are words
pub as_many_asked : (words : List (List ℕ)) (asked : List Asked) → pairs_of asked ≡ names_with_most 0 words →
    length asked ≡ length words
as_many_asked words asked is =
    sym (length-map asked (λ (one : Asked). one.name.now)) ∙ ap length (names_same 0 words asked is)

-- what the files of words hold, of which the first has this place
pub record HaveContents (held : Option (List ℕ → Option (List ℕ))) (place : ℕ) (words : List (List ℕ))
    (given : List Loaded) : Type 0 where
  pub bytes : List (List ℕ)
  pub told : AllZip (λ file content. Told held file (Some content)) words bytes
  pub loaded : AreLoaded place bytes given

pub contents_of : (held : Option (List ℕ → Option (List ℕ))) (place : ℕ) (words : List (List ℕ)) (asked : List Asked)
    (given : List Loaded) → pairs_of asked ≡ names_with_most place words → AllZip (GivesAsked held) asked given →
    HaveContents held place words given
contents_of held place [] [] [] is all = record { bytes = []; told = tt; loaded = tt }
contents_of held place [] [] (one ∷ given) is all = absurd all
contents_of held place [] (one ∷ asked) given is all = let no : ⊥ = cc in absurd no
contents_of held place (word ∷ words) [] given is all = let no : ⊥ = cc in absurd no
contents_of held place (word ∷ words) (one ∷ asked) [] is all = absurd all
contents_of held place (word ∷ words) (one ∷ asked) (first ∷ given) is all =
    let pair : (one.name.now, one.most) ≡ (word, most_of place) = cc in
    let name : one.name.now ≡ word = ap (λ (it : List ℕ × ℕ). it.0) pair in
    let most : one.most ≡ most_of place = ap (λ (it : List ℕ × ℕ). it.1) pair in
    let rest : pairs_of asked ≡ names_with_most (place + 1) words = cc in
    let here = given_file held one word (most_of place) first name most all.0 in
    let others = contents_of held (place + 1) words asked given rest all.1 in
    record {
      bytes = here.0 ∷ others.bytes;
      told = (here.1, others.told);
      loaded = (here.2, others.loaded);
    }

-- ---- words, and what was loaded for them

-- behind a program and a host file all are scripts
most_of_script : (place : ℕ) → 2 ≤ place → most_of place ≡ SCRIPT_BYTES
most_of_script zero behind = absurd (omega (arith, behind))
most_of_script (suc zero) behind = absurd (omega (arith, behind))
most_of_script (suc (suc place)) behind = refl

scripts_loaded : (place : ℕ) (bytes : List (List ℕ)) (loaded : List Loaded) → 2 ≤ place →
    AreLoaded place bytes loaded → AllZip (IsLoaded SCRIPT_BYTES) bytes loaded
scripts_loaded place [] [] behind all = tt
scripts_loaded place [] (one ∷ loaded) behind all = absurd all
scripts_loaded place (first ∷ bytes) [] behind all = absurd all
scripts_loaded place (first ∷ bytes) (one ∷ loaded) behind all = (
  subst (λ (most : ℕ). IsLoaded most first one) (most_of_script place behind) all.0,
  scripts_loaded (place + 1) bytes loaded (omega (arith, behind)) all.1,
)

pub zip_length : {X Y : Type 0} (R : X → Y → Type 0) (xs : List X) (ys : List Y) → AllZip R xs ys →
    length xs ≡ length ys
zip_length R [] [] all = refl
zip_length R [] (y ∷ ys) all = absurd all
zip_length R (x ∷ xs) [] all = absurd all
zip_length R (x ∷ xs) (y ∷ ys) all = ap suc (zip_length R xs ys all.1)

-- what words name, and what was loaded for them
pub record NameFiles (words : List (String Global)) (loaded : List Loaded) (text : List ℕ)
    (name : String Global) (names : List (String Global)) (program hosts start : Loaded) (journals : List Loaded)
    : Type 0 where
  pub text_is : text ≡ string_bytes name
  pub few : 4 ≤ length words
  pub count : length loaded ≡ length words
  pub name_is : name ≡ get_or words 2 name
  pub names_are : names ≡ drop 3 words
  pub program_is : program ≡ get_or loaded 0 program
  pub hosts_is : hosts ≡ get_or loaded 1 hosts
  pub start_is : start ≡ get_or loaded 2 start
  pub journals_are : journals ≡ drop 3 loaded

-- what is due for contents of these files is due for the words
pub contents_due : (words : List (String Global)) (bytes : List (List ℕ)) (loaded : List Loaded) (text : List ℕ)
    (name : String Global) (names : List (String Global)) (program hosts start : Loaded) (journals : List Loaded)
    (result : Result Verdict Stop) → NameFiles words loaded text name names program hosts start journals →
    AreLoaded 0 bytes loaded →
    ((p h s : List ℕ) (js : List (List ℕ)) → IsLoaded PROGRAM_BYTES p program → IsLoaded HOSTS_BYTES h hosts →
    IsLoaded SCRIPT_BYTES s start → AllZip (IsLoaded SCRIPT_BYTES) js journals →
    EndsIn (DueForContents text (map string_bytes names) p h s js) result) →
    EndsIn (DueForBytes (map string_bytes words) bytes) result
contents_due [] bytes loaded text name names program hosts start journals result files all due =
    absurd (omega (arith, files.few))
contents_due (a ∷ []) bytes loaded text name names program hosts start journals result files all due =
    absurd (omega (arith, files.few))
contents_due (a ∷ b ∷ []) bytes loaded text name names program hosts start journals result files all due =
    absurd (omega (arith, files.few))
contents_due (a ∷ b ∷ c ∷ words) bytes [] text name names program hosts start journals result files all due =
    absurd (omega (arith, files.count))
contents_due (a ∷ b ∷ c ∷ words) bytes (p ∷ []) text name names program hosts start journals result files all due =
    absurd (omega (arith, files.count))
contents_due (a ∷ b ∷ c ∷ words) bytes (p ∷ h ∷ []) text name names program hosts start journals result files all due =
    absurd (omega (arith, files.count))
contents_due (a ∷ b ∷ c ∷ words) [] (p ∷ h ∷ s ∷ js) text name names program hosts start journals result files all due =
    absurd all
contents_due (a ∷ b ∷ c ∷ words) (x ∷ []) (p ∷ h ∷ s ∷ js) text name names program hosts start journals result files all
    due = absurd all.1
contents_due (a ∷ b ∷ c ∷ words) (x ∷ y ∷ []) (p ∷ h ∷ s ∷ js) text name names program hosts start journals result files
    all due = absurd all.1.1
contents_due (a ∷ b ∷ c ∷ words) (x ∷ y ∷ z ∷ bytes) (p ∷ h ∷ s ∷ js) text name names program hosts start journals
    result files all due =
    let P : List ℕ → List (List ℕ) → Type 0 = λ first others. EndsIn (DueForContents first others x y z bytes) result in
    subst (λ (first : List ℕ). P first (map string_bytes words)) (files.text_is ∙ ap string_bytes files.name_is)
    (subst (λ (others : List (String Global)). P text (map string_bytes others)) files.names_are
    (due x y z bytes (subst (IsLoaded PROGRAM_BYTES x) (sym files.program_is) all.0)
    (subst (IsLoaded HOSTS_BYTES y) (sym files.hosts_is) all.1.0)
    (subst (IsLoaded SCRIPT_BYTES z) (sym files.start_is) all.1.1.0)
    (subst (AllZip (IsLoaded SCRIPT_BYTES) bytes) (sym files.journals_are)
    (scripts_loaded 3 bytes js (omega arith) all.1.1.1))))
