-- Bad keys of a table, beside the entries that the code goes over.
use Rattle.std.proofs.Common.{◌≡◌, ◌⊎◌, ℕ, Bool, true, false, List, [], ◌∷◌, ◌++◌, ◌+◌, ◌<◌, length, get_or, drop, map}
use Rattle.std.proofs.Common.{Option, Some, None, is_none, option_map, Ordering, Less, Equal, Greater, String, Global}
use Rattle.std.proofs.Common.{string_bytes, nat_cmp, sym, subst, refl, ap, ◌∙◌, codes, inl, inr}
use Rattle.std.proofs.lemmas.Bool.{false≢true}
use Rattle.std.specs.Cmp.Lexicographic.{slice_cmp}
use Rattle.std.specs.List.{AllByRecursion, find, list_any}
use Rattle.std.specs.List.Sorted.{IsStrictlySortedBy}
use Rattle.std.specs.BTreeMap.{is_at}
use Rattle.std.specs.Map.{keys_of, lookup}
use Rattle.std.specs.Option.{option_map_or}
use Rattle.std.specs.Ordering.{match_ordering}
use Rattle.std.specs.Str.{bytes_eq}
use Rattle.std.specs.String.{string_cmp}
use Rattle.toml.specs.Data.{Data, Items, Members, get_member, as_table}
use Rattle.toml.specs.View.{view, members_view, items_view}
use Rattle.toml.specs.declared.value.Value.{Value}
use Rattle.toml.proofs.Views.{Entry, view-lookup}
use Rattle.host_decl.specs.declared.schema.TableKind.{TableKind}
use Rattle.host_decl.specs.declared.schema.TableKind.TheVariants.{File, Host, Link}
use Rattle.host_decl.specs.Schema.{is_unfit, is_bad, required_keys, HoldsUnfit, IsMissing, IsBadKey, IsSound, IsSoundAs}
use Rattle.host_decl.specs.Schema.{IsLeast, IsNotAfter, IsFirstBadKey, IsSoundFile, file_tables, items_at, tables_of}
use Rattle.host_decl.specs.Schema.{table_in, of_kind, with_first}
use Rattle.host_decl.proofs.Items.{selection_drop}
use Rattle.host_decl.proofs.Least.{equal_texts, IsAscending, IsIn, find_least, find_none}
use Rattle.host_decl.proofs.Least.{not_after_trans}

-- ---- the keys of the entries

abbrev pub key_bytes : List Entry → List (List ℕ)
key_bytes entries = map (λ entry. string_bytes entry.0) entries

all_below : (first : String Global) (entries : List Entry)
    → AllByRecursion (λ next. string_cmp first next ≡ Less) (keys_of entries)
    → AllByRecursion (λ next. slice_cmp nat_cmp (string_bytes first) next ≡ Less) (key_bytes entries)
all_below first [] all = tt
all_below first (entry ∷ entries) all = (all.0, all_below first entries all.1)

-- the keys of a map ascend by their bytes
pub ascending : (entries : List Entry) → IsStrictlySortedBy string_cmp (keys_of entries)
    → IsAscending (key_bytes entries)
unfolding IsStrictlySortedBy
ascending [] sorted = tt
ascending (entry ∷ entries) sorted = (all_below entry.0 entries sorted.0, ascending entries sorted.1)

held_at : (order : Ordering) (key : List ℕ) (entry : Entry) (entries : List Entry) (value : Data)
    → slice_cmp nat_cmp key (string_bytes entry.0) ≡ order
    → (get_member key (members_view entries) ≡ Some value → IsIn (key_bytes entries) key)
    → match_ordering order (get_member key (members_view entries)) (Some (view entry.1))
    (get_member key (members_view entries)) ≡ Some value
    → IsIn (key_bytes (entry ∷ entries)) key
held_at Less key entry entries value is later held = inr (later held)
held_at Equal key entry entries value is later held = inl (sym (equal_texts key (string_bytes entry.0) is))
held_at Greater key entry entries value is later held = inr (later held)

-- a key that is held is one of the entries
pub held_is_in : (key : List ℕ) (entries : List Entry) (value : Data)
    → get_member key (members_view entries) ≡ Some value → IsIn (key_bytes entries) key
held_is_in key [] value held = let clash : None ≡ Some value = held in cc
held_is_in key (entry ∷ entries) value held =
    held_at (slice_cmp nat_cmp key (string_bytes entry.0)) key entry entries value refl
    (held_is_in key entries value) held

-- ---- values that their keys may not hold

-- the key holds a value that it may not hold
abbrev pub holds_unfit : TableKind → Members → List ℕ → Bool
holds_unfit kind members key = option_map_or (is_unfit kind key) (get_member key members) false

unfit_is_held : (kind : TableKind) (key : List ℕ) (held : Option Data)
    → option_map_or (is_unfit kind key) held false ≡ true → (value : Data) × (held ≡ Some value)
unfit_is_held kind key None unfit = absurd (false≢true unfit)
unfit_is_held kind key (Some value) unfit = (value, refl)

pub unfit_is_in : (kind : TableKind) (entries : List Entry) (key : List ℕ)
    → HoldsUnfit kind (members_view entries) key → IsIn (key_bytes entries) key
unfit_is_in kind entries key unfit =
    let held = unfit_is_held kind key (get_member key (members_view entries)) unfit in
    held_is_in key entries held.0 held.1

pub least_unfit : (kind : TableKind) (entries : List Entry) (key : List ℕ)
    → IsStrictlySortedBy string_cmp (keys_of entries)
    → find (holds_unfit kind (members_view entries)) (key_bytes entries) ≡ Some key
    → IsLeast (HoldsUnfit kind (members_view entries)) key
least_unfit kind entries key sorted found =
    let is = find_least (holds_unfit kind (members_view entries)) (key_bytes entries) key
    (ascending entries sorted) found in
    record {
      holds = is.passes;
      least = λ other unfit. is.least other (unfit_is_in kind entries other unfit) unfit;
    }

pub none_unfit : (kind : TableKind) (entries : List Entry)
    → find (holds_unfit kind (members_view entries)) (key_bytes entries) ≡ None
    → (key : List ℕ) → ¬ HoldsUnfit kind (members_view entries) key
none_unfit kind entries none key = λ unfit.
    find_none (holds_unfit kind (members_view entries)) (key_bytes entries) none key
    (unfit_is_in kind entries key unfit) unfit

-- ---- missing keys

-- the key holds nothing
abbrev pub holds_nothing : Members → List ℕ → Bool
holds_nothing members key = is_none (get_member key members)

-- ---- bad keys

bad_cases : (kind : TableKind) (key : List ℕ) (held : Option Data) → is_bad kind key held ≡ true
    → (option_map_or (is_unfit kind key) held false ≡ true) ⊎
    ((held ≡ None) × (list_any (bytes_eq key) (required_keys kind) ≡ true))
bad_cases kind key None bad = inr (refl, bad)
bad_cases kind key (Some value) bad = inl bad

pub bad_is : (kind : TableKind) (members : Members) (key : List ℕ) → IsBadKey kind members key
    → HoldsUnfit kind members key ⊎ IsMissing kind members key
bad_is kind members key bad = bad_cases kind key (get_member key members) bad

unfit_case : (kind : TableKind) (key : List ℕ) (held : Option Data)
    → option_map_or (is_unfit kind key) held false ≡ true → is_bad kind key held ≡ true
unfit_case kind key None unfit = absurd (false≢true unfit)
unfit_case kind key (Some value) unfit = unfit

pub unfit_is_bad : (kind : TableKind) (members : Members) (key : List ℕ) → HoldsUnfit kind members key
    → IsBadKey kind members key
unfit_is_bad kind members key unfit = unfit_case kind key (get_member key members) unfit

missing_case : (kind : TableKind) (key : List ℕ) (held : Option Data) → held ≡ None
    → list_any (bytes_eq key) (required_keys kind) ≡ true → is_bad kind key held ≡ true
missing_case kind key None none required = required
missing_case kind key (Some value) none required = let clash : Some value ≡ None = none in cc

pub missing_is_bad : (kind : TableKind) (members : Members) (key : List ℕ) → IsMissing kind members key
    → IsBadKey kind members key
missing_is_bad kind members key missing = missing_case kind key (get_member key members) missing.0 missing.1

-- a turn of the loop over the entries
pub entry_is_held : (key : String Global) (value : Value) (entries : List Entry)
    → lookup (is_at (string_cmp key)) entries ≡ Some value
    → get_member (string_bytes key) (members_view entries) ≡ Some (view value)
entry_is_held key value entries found = sym (view-lookup (string_bytes key) entries) ∙ ap (option_map view) found

pub unfit_at : (kind : TableKind) (entries : List Entry) (key : List ℕ) (value : Data) (answer : Bool)
    → get_member key (members_view entries) ≡ Some value → is_unfit kind key value ≡ answer
    → holds_unfit kind (members_view entries) key ≡ answer
unfit_at kind entries key value answer held is = ap (λ found. option_map_or (is_unfit kind key) found false) held ∙ is

pub found_here : (test : List ℕ → Bool) (left rest : List Entry) (entry : Entry) → left ≡ entry ∷ rest
    → test (string_bytes entry.0) ≡ true → find test (key_bytes left) ≡ Some (string_bytes entry.0)
found_here test left rest entry is passes = rw is (rw passes refl)

pub passed_here : (test : List ℕ → Bool) (left rest : List Entry) (entry : Entry) → left ≡ entry ∷ rest
    → test (string_bytes entry.0) ≡ false → find test (key_bytes rest) ≡ find test (key_bytes left)
passed_here test left rest entry is fails = rw is (rw fails refl)

-- ---- the lesser of two keys

pub unfit_is_least : (kind : TableKind) (members : Members) (unfit missing : List ℕ)
    → IsLeast (HoldsUnfit kind members) unfit → IsLeast (IsMissing kind members) missing → IsNotAfter unfit missing
    → IsLeast (IsBadKey kind members) unfit
unfit_is_least kind members unfit missing first second before =
    record {
      holds = unfit_is_bad kind members unfit first.holds;
      least = λ other bad. elim (bad_is kind members other bad) [
        | inl also_unfit ↦ first.least other also_unfit
        | inr also_missing ↦ not_after_trans unfit missing other before (second.least other also_missing)
      ];
    }

pub missing_is_least : (kind : TableKind) (members : Members) (unfit missing : List ℕ)
    → IsLeast (HoldsUnfit kind members) unfit → IsLeast (IsMissing kind members) missing → IsNotAfter missing unfit
    → IsLeast (IsBadKey kind members) missing
missing_is_least kind members unfit missing first second before =
    record {
      holds = missing_is_bad kind members missing second.holds;
      least = λ other bad. elim (bad_is kind members other bad) [
        | inl also_unfit ↦ not_after_trans missing unfit other before (first.least other also_unfit)
        | inr also_missing ↦ second.least other also_missing
      ];
    }

-- ---- several tables

pub sound_then : (first rest : List (TableKind × Members)) (key : List ℕ) → AllByRecursion IsSoundAs first
    → IsFirstBadKey rest key → IsFirstBadKey (first ++ rest) key
sound_then [] rest key sound bad = bad
sound_then (next ∷ first) rest key sound bad = inr (sound.0, sound_then first rest key sound.1 bad)

pub bad_then : (first rest : List (TableKind × Members)) (key : List ℕ) → IsFirstBadKey first key
    → IsFirstBadKey (first ++ rest) key
bad_then [] rest key bad = absurd bad
bad_then (next ∷ first) rest key (inl here) = inl here
bad_then (next ∷ first) rest key (inr (sound, later)) = inr (sound, bad_then first rest key later)

pub all_sound : (kind : TableKind) (tables : List Members) → AllByRecursion (IsSound kind) tables
    → AllByRecursion IsSoundAs (of_kind kind tables)
all_sound kind [] sound = tt
all_sound kind (table ∷ tables) sound = (sound.0, all_sound kind tables sound.1)

pub sound_parts : (kind : TableKind) (tables : List Members) (rest : List (TableKind × Members))
    → AllByRecursion IsSoundAs (of_kind kind tables ++ rest)
    → AllByRecursion (IsSound kind) tables × AllByRecursion IsSoundAs rest
sound_parts kind [] rest sound = (tt, sound)
sound_parts kind (table ∷ tables) rest sound =
    let more = sound_parts kind tables rest sound.1 in ((sound.0, more.0), more.1)

pub sound_both : (first rest : List (TableKind × Members)) → AllByRecursion IsSoundAs first
    → AllByRecursion IsSoundAs rest → AllByRecursion IsSoundAs (first ++ rest)
sound_both [] rest one two = two
sound_both (next ∷ first) rest one two = (one.0, sound_both first rest one.1 two)

-- ---- the tables of a file

pub file_is_sound : (members : Members) → IsSound File members
    → AllByRecursion (IsSound Host) (tables_of (items_at (codes "host") members))
    → AllByRecursion (IsSound Link) (tables_of (items_at (codes "link") members)) → IsSoundFile members
file_is_sound members file hosts links = (
  file,
  sound_both _ _ (all_sound Host (tables_of (items_at (codes "host") members)) hosts)
      (all_sound Link (tables_of (items_at (codes "link") members)) links),
)

-- the items are those of the file's hosts, or of its links
pub host_key_is_first : (file : Members) (hosts : Items) (key : List ℕ) → hosts ≡ items_at (codes "host") file
    → IsSound File file
    → IsFirstBadKey (of_kind Host (tables_of hosts)) key → IsFirstBadKey (file_tables file) key
host_key_is_first file hosts key is sound bad =
    inr (
      sound,
      bad_then (of_kind Host (tables_of (items_at (codes "host") file))) _ key
          (subst (λ items. IsFirstBadKey (of_kind Host (tables_of items)) key) is bad),
    )

pub link_key_is_first : (file : Members) (hosts links : Items) (key : List ℕ) → hosts ≡ items_at (codes "host") file
    → links ≡ items_at (codes "link") file
    → IsSound File file → AllByRecursion (IsSound Host) (tables_of hosts)
    → IsFirstBadKey (of_kind Link (tables_of links)) key → IsFirstBadKey (file_tables file) key
link_key_is_first file hosts links key host_is link_is sound sound_hosts bad =
    inr (
      sound,
      sound_then (of_kind Host (tables_of (items_at (codes "host") file))) _ key
          (all_sound Host (tables_of (items_at (codes "host") file))
          (subst (λ items. AllByRecursion (IsSound Host) (tables_of items)) host_is sound_hosts))
          (subst (λ items. IsFirstBadKey (of_kind Link (tables_of items)) key) link_is bad),
    )

pub whole_file_is_sound : (file : Members) (hosts links : Items) → hosts ≡ items_at (codes "host") file
    → links ≡ items_at (codes "link") file
    → IsSound File file → AllByRecursion (IsSound Host) (tables_of hosts)
    → AllByRecursion (IsSound Link) (tables_of links) → IsSoundFile file
whole_file_is_sound file hosts links host_is link_is sound sound_hosts sound_links =
    file_is_sound file sound
    (subst (λ items. AllByRecursion (IsSound Host) (tables_of items)) host_is sound_hosts)
    (subst (λ items. AllByRecursion (IsSound Link) (tables_of items)) link_is sound_links)

pub sound_hosts : (members : Members) → IsSoundFile members
    → AllByRecursion (IsSound Host) (tables_of (items_at (codes "host") members))
sound_hosts members sound = (sound_parts Host (tables_of (items_at (codes "host") members)) _ sound.1).0

-- ---- the tables of an array, one after the other

bad_first : (kind : TableKind) (found : Option Members) (rest : List Members) (key : List ℕ)
    → IsFirstBadKey (of_kind kind (with_first found [])) key → IsFirstBadKey (of_kind kind (with_first found rest)) key
bad_first kind None rest key bad = absurd bad
bad_first kind (Some table) rest key (inl here) = inl here
bad_first kind (Some table) rest key (inr later) = absurd later.1

sound_first : (kind : TableKind) (found : Option Members) (rest : List Members)
    → AllByRecursion (IsSound kind) (with_first found []) → AllByRecursion (IsSound kind) rest
    → AllByRecursion (IsSound kind) (with_first found rest)
sound_first kind None rest sound more = more
sound_first kind (Some table) rest sound more = (sound.0, more)

bad_later : (kind : TableKind) (found : Option Members) (rest : List Members) (key : List ℕ)
    → AllByRecursion (IsSound kind) (with_first found []) → IsFirstBadKey (of_kind kind rest) key
    → IsFirstBadKey (of_kind kind (with_first found rest)) key
bad_later kind None rest key sound bad = bad
bad_later kind (Some table) rest key sound bad = inr (sound.0, bad)

tables_drop : (values : List Value) (place : ℕ) (value : Value) → place < length values
    → value ≡ get_or values place value
    → tables_of (items_view (drop place values)) ≡ with_first (as_table (view value))
    (tables_of (items_view (drop (place + 1) values)))
tables_drop values place value within is =
    selection_drop as_table values place value within
    ∙ ap (λ here. with_first (as_table (view here)) (tables_of (items_view (drop (place + 1) values)))) (sym is)

pub bad_here : (kind : TableKind) (values : List Value) (place : ℕ) (value : Value) (key : List ℕ)
    → place < length values → value ≡ get_or values place value
    → IsFirstBadKey (of_kind kind (table_in (view value))) key
    → IsFirstBadKey (of_kind kind (tables_of (items_view (drop place values)))) key
bad_here kind values place value key within is bad =
    subst (λ tables. IsFirstBadKey (of_kind kind tables) key) (sym (tables_drop values place value within is))
    (bad_first kind (as_table (view value)) _ key bad)

pub sound_here : (kind : TableKind) (values : List Value) (place : ℕ) (value : Value) → place < length values
    → value ≡ get_or values place value
    → AllByRecursion (IsSound kind) (table_in (view value))
    → AllByRecursion (IsSound kind) (tables_of (items_view (drop (place + 1) values)))
    → AllByRecursion (IsSound kind) (tables_of (items_view (drop place values)))
sound_here kind values place value within is sound more =
    subst (AllByRecursion (IsSound kind)) (sym (tables_drop values place value within is))
    (sound_first kind (as_table (view value)) _ sound more)

pub bad_after : (kind : TableKind) (values : List Value) (place : ℕ) (value : Value) (key : List ℕ)
    → place < length values → value ≡ get_or values place value
    → AllByRecursion (IsSound kind) (table_in (view value))
    → IsFirstBadKey (of_kind kind (tables_of (items_view (drop (place + 1) values)))) key
    → IsFirstBadKey (of_kind kind (tables_of (items_view (drop place values)))) key
bad_after kind values place value key within is sound bad =
    subst (λ tables. IsFirstBadKey (of_kind kind tables) key) (sym (tables_drop values place value within is))
    (bad_later kind (as_table (view value)) _ key sound bad)
