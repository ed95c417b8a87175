-- What is held in pairs of the program, by the place of the first pair that has the name.
use Rattle.std.proofs.Common.{◌≡◌, ◌≢◌, ℕ, ◌<◌, ◌≤◌, Bool, true, false, cond, List, [], ◌∷◌, ◌++◌, length, get_or, set}
use Rattle.std.proofs.Common.{Option, Some, None, refl, sym, ap, ◌∙◌, arith}
use Rattle.std.specs.Prelude.{position, IsSome, String, Vec, string_bytes, bytes_eq}
use Rattle.std.specs.List.{position_or_len}
use Rattle.std.specs.Option.{option_or}
use Rattle.std.specs.Cmp.{IsEquivalence}
use Rattle.std.specs.Cmp.Lexicographic.{nat_list_eq_equiv}
use Rattle.std.proofs.lemmas.Map.{lookup-set_value}
use Rattle.std.proofs.lemmas.Bool.{cond-true, cond-false, false_from_ne_true}
use Rattle.std.proofs.lemmas.Slice.Eq.{bytes_eq-Decides}
use Rattle.std.specs.Map.{set_value}
use Rattle.std.specs.declared.alloc.Global.{Global}
use Rattle.std.proofs.lemmas.Bool.Decides.{nat_tests}
use Rattle.js_base.specs.MemFiles.{named_bytes, held_in}

-- a pair of the program
abbrev pub NamedFile : Type 0
NamedFile = String Global × Vec ℕ Global

-- the pair has the name
abbrev pub has_name : List ℕ → NamedFile → Bool
has_name name file = bytes_eq name (string_bytes file.0)

-- the pair at the first place with the name gives the bytes
held_in-position : (name : List ℕ) (files : List NamedFile) (d : NamedFile) →
    position_or_len (has_name name) files < length files →
    held_in (named_bytes files) name ≡ Some (get_or files (position_or_len (has_name name) files) d).1.items
held_in-position name [] d found = absurd (omega arith)
held_in-position name (file ∷ files) d found = grind (arith, nat_tests, held_in-position name files d)

-- with no such place nothing is held
held_in-absent : (name : List ℕ) (files : List NamedFile) → length files ≤ position_or_len (has_name name) files →
    held_in (named_bytes files) name ≡ None
held_in-absent name [] absent = refl
held_in-absent name (file ∷ files) absent = grind (arith, nat_tests, held_in-absent name files)

-- the same by what `position` answers, which is a place or none
pub held_in-from_position : (name : List ℕ) (files : List NamedFile) (i : ℕ) (d : NamedFile) →
    Some i ≡ position (has_name name) files →
    (i ≡ position_or_len (has_name name) files) × (i < length files)
    × (held_in (named_bytes files) name ≡ Some (get_or files i d).1.items)
held_in-from_position name files i d found = grind (arith, nat_tests, held_in-position name files d)

pub held_in-from_no_position : (name : List ℕ) (files : List NamedFile) → None ≡ position (has_name name) files →
    held_in (named_bytes files) name ≡ None
held_in-from_no_position name files absent = grind (arith, nat_tests, held_in-absent name files)

-- ---- new bytes for the first pair that has the name

-- bytes_eq tells names apart, as an equivalence
names_equal : IsEquivalence bytes_eq
names_equal = nat_list_eq_equiv

-- names that differ
apart : (name other : List ℕ) → name ≢ other → bytes_eq name other ≡ false
apart name other differ = false_from_ne_true _ (λ e. differ ((bytes_eq-Decides name other).0 e))

-- the pairs after new bytes at that place
named_bytes-set : (name : List ℕ) (files : List NamedFile) (d : NamedFile) (bytes : Vec ℕ Global) →
    position_or_len (has_name name) files < length files →
    named_bytes (set files (position_or_len (has_name name) files)
    ((get_or files (position_or_len (has_name name) files) d).0, bytes)) ≡ set_value (bytes_eq name)
    (named_bytes files) bytes.items
named_bytes-set name [] d bytes found = absurd (omega arith)
named_bytes-set name (file ∷ files) d bytes found = grind (arith, nat_tests, named_bytes-set name files d bytes)

-- a look-up at any name after it, at that name, and at another
held_in-set : (name : List ℕ) (files : List NamedFile) (i : ℕ) (d : NamedFile) (bytes : Vec ℕ Global)
    (other : List ℕ) → Some i ≡ position (has_name name) files →
    held_in (named_bytes (set files i ((get_or files i d).0, bytes))) other ≡ cond (bytes_eq name other)
    (Some bytes.items) (held_in (named_bytes files) other)
held_in-set name files i d bytes other found =
    let place = held_in-from_position name files i d found in
    let fits : position_or_len (has_name name) files < length files = omega arith in
    let some : IsSome (held_in (named_bytes files) name) = rw place.2 refl in
    rw (place.0, named_bytes-set name files d bytes fits)
    (lookup-set_value names_equal (bytes_eq name) (λ x y. names_equal.congr name x y) other bytes.items
    (named_bytes files) some)

pub held_in-set_same : (name : List ℕ) (files : List NamedFile) (i : ℕ) (file : NamedFile) (bytes : Vec ℕ Global) →
    Some i ≡ position (has_name name) files → file ≡ get_or files i file →
    held_in (named_bytes (set files i (file.0, bytes))) name ≡ Some bytes.items
held_in-set_same name files i file bytes found is =
    let named : file.0 ≡ (get_or files i file).0 = ap (λ (f : NamedFile). f.0) is in
    rw named (held_in-set name files i file bytes name found ∙ cond-true _ _ _ (names_equal.refl name))

pub held_in-set_other : (name : List ℕ) (files : List NamedFile) (i : ℕ) (file : NamedFile) (bytes : Vec ℕ Global)
    (other : List ℕ) → Some i ≡ position (has_name name) files → file ≡ get_or files i file → other ≢ name →
    held_in (named_bytes (set files i (file.0, bytes))) other ≡ held_in (named_bytes files) other
held_in-set_other name files i file bytes other found is differ =
    let named : file.0 ≡ (get_or files i file).0 = ap (λ (f : NamedFile). f.0) is in
    rw named (held_in-set name files i file bytes other found
    ∙ cond-false _ _ _ (apart name other (λ e. differ (sym e))))

-- ---- a pair more

-- nothing in place of nothing
option_or-None : (found : Option (List ℕ)) → option_or found None ≡ found
option_or-None None = refl
option_or-None (Some bytes) = refl

-- a look-up at any name after it, at that name, and at another
held_in-push : (files : List NamedFile) (file : NamedFile) (other : List ℕ) →
    held_in (named_bytes (files ++ file ∷ [])) other ≡ option_or (held_in (named_bytes files) other)
    (cond (bytes_eq other (string_bytes file.0)) (Some file.1.items) None)
held_in-push [] file other = refl
held_in-push (f ∷ files) file other = grind (arith, nat_tests, held_in-push files file other)

pub held_in-push_same : (files : List NamedFile) (file : NamedFile) (name : List ℕ) →
    None ≡ position (has_name name) files → string_bytes file.0 ≡ name →
    held_in (named_bytes (files ++ file ∷ [])) name ≡ Some file.1.items
held_in-push_same files file name absent named =
    let none = held_in-from_no_position name files absent in
    let same : bytes_eq name (string_bytes file.0) ≡ true = rw named (names_equal.refl name) in
    rw (held_in-push files file name, none, same) refl

pub held_in-push_other : (files : List NamedFile) (file : NamedFile) (name other : List ℕ) →
    string_bytes file.0 ≡ name → other ≢ name →
    held_in (named_bytes (files ++ file ∷ [])) other ≡ held_in (named_bytes files) other
held_in-push_other files file name other named differ =
    let unlike : bytes_eq other (string_bytes file.0) ≡ false = rw named (apart other name differ) in
    rw (held_in-push files file other, unlike) (option_or-None (held_in (named_bytes files) other))
