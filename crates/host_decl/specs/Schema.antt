-- Which keys the tables of a host file may have, which they must have, and the form of the value at each key. A text is
-- the list of its bytes, and a TOML document is read as its members.
use Rattle.std.specs.Prelude.{◌≡◌, ◌≢◌, ◌⊎◌, ℕ, Bool, true, false, not, ◌&&◌, ◌==◌, ◌*◌}
use Rattle.std.specs.Prelude.{if◌then◌else◌, List, [], ◌∷◌}
use Rattle.std.specs.Prelude.{◌++◌, map, length, IsTrue, Option, Some, None, is_some, codes}
use Rattle.std.specs.Option.{option_map_or}
use Rattle.std.specs.List.{AllByRecursion, list_all, list_any}
use Rattle.std.specs.Char.{is_ascii_hexdigit}
use Rattle.std.specs.Str.{bytes_eq}
use Rattle.std.specs.Ordering.{nat_cmp}
use Rattle.std.specs.Cmp.Lexicographic.{slice_cmp}
use Rattle.std.specs.declared.cmp.Ordering.TheVariants.{Greater}
use Rattle.toml.specs.Data.{Data, Items, no_items, item, Members, get_member, as_str, as_integer, as_array, as_table}
use Rattle.js_base.specs.Name.{is_name}
use Rattle.host_decl.specs.declared.key.TheConstants.{KEY_BYTES}
use Rattle.host_decl.specs.declared.schema.Form.{Form}
use Rattle.host_decl.specs.declared.schema.Form.TheVariants.{Name, Text, Key, Whole, Names, Pairs, Tables}
use Rattle.host_decl.specs.declared.schema.TableKind.{TableKind}
use Rattle.host_decl.specs.declared.schema.TableKind.TheVariants.{File, Host, Link}

-- ---- the forms of values

-- hexadecimal digits of either case, two for each byte of a key
abbrev pub is_key : List ℕ → Bool
is_key text = (length text == 2 * KEY_BYTES) && list_all is_ascii_hexdigit text

abbrev pub is_text : Data → Bool
is_text value = is_some (as_str value)

-- a text that passes the test
abbrev pub is_text_of : (List ℕ → Bool) → Data → Bool
is_text_of test value = option_map_or test (as_str value) false

-- each item passes the test
abbrev pub all_items : (Data → Bool) → Items → Bool
all_items test no_items = true
all_items test (item value items) = test value && all_items test items

-- an array of which each item passes the test
abbrev pub is_array_of : (Data → Bool) → Data → Bool
is_array_of test value = option_map_or (all_items test) (as_array value) false

-- exactly two texts
abbrev pub are_two_texts : Items → Bool
are_two_texts (item first (item second no_items)) = is_text first && is_text second
are_two_texts (item first (item second (item third items))) = false
are_two_texts (item first no_items) = false
are_two_texts no_items = false

abbrev pub is_pair : Data → Bool
is_pair value = option_map_or are_two_texts (as_array value) false

abbrev pub is_table : Data → Bool
is_table value = is_some (as_table value)

-- the value has the form
abbrev pub has_form : Form → Data → Bool
has_form Name value = is_text_of is_name value
has_form Text value = is_text value
has_form Key value = is_text_of is_key value
has_form Whole value = is_some (as_integer value)
has_form Names value = is_array_of (is_text_of is_name) value
has_form Pairs value = is_array_of is_pair value
has_form Tables value = is_array_of is_table value

-- ---- the keys of tables

-- the form of the value at a key, for each key that such a table may have
abbrev pub form_at : TableKind → List ℕ → Option Form
form_at File key =
    if bytes_eq key (codes "acts_for") then Some Pairs else
    (if bytes_eq key (codes "host") then Some Tables else
    (if bytes_eq key (codes "link") then Some Tables else
    (if bytes_eq key (codes "principals") then Some Names else None)))
form_at Host key =
    if bytes_eq key (codes "key") then Some Key else
    (if bytes_eq key (codes "label") then Some Text else
    (if bytes_eq key (codes "name") then Some Name else
    (if bytes_eq key (codes "path") then Some Text else None)))
form_at Link key =
    if bytes_eq key (codes "cost") then Some Whole else
    (if bytes_eq key (codes "from") then Some Text else
    (if bytes_eq key (codes "to") then Some Text else None))

-- the keys that such a table must have
abbrev pub required_keys : TableKind → List (List ℕ)
required_keys File = codes "principals" ∷ []
required_keys Host = codes "label" ∷ codes "name" ∷ []
required_keys Link = codes "cost" ∷ codes "from" ∷ codes "to" ∷ []

-- the key may not hold this value: the key is unknown, or the value of another form
abbrev pub is_unfit : TableKind → List ℕ → Data → Bool
is_unfit kind key value = not (option_map_or (λ form. has_form form value) (form_at kind key) false)

-- What the key holds in such a table is bad: a value that it may not hold, or nothing where it must hold something.
abbrev pub is_bad : TableKind → List ℕ → Option Data → Bool
is_bad kind key (Some value) = is_unfit kind key value
is_bad kind key None = list_any (bytes_eq key) (required_keys kind)

abbrev pub IsBadKey : TableKind → Members → List ℕ → Type 0
IsBadKey kind members key = IsTrue (is_bad kind key (get_member key members))

-- the two ways in which a key is bad
abbrev pub HoldsUnfit : TableKind → Members → List ℕ → Type 0
HoldsUnfit kind members key = IsTrue (option_map_or (is_unfit kind key) (get_member key members) false)

abbrev pub IsMissing : TableKind → Members → List ℕ → Type 0
IsMissing kind members key = (get_member key members ≡ None) × IsTrue (list_any (bytes_eq key) (required_keys kind))

-- no key of the table is bad
abbrev pub IsSound : TableKind → Members → Type 0
IsSound kind members = (key : List ℕ) → ¬ IsBadKey kind members key

abbrev pub IsSoundAs : TableKind × Members → Type 0
IsSoundAs next = IsSound next.0 next.1

-- in the order of bytes the first text does not come after the second
abbrev pub IsNotAfter : List ℕ → List ℕ → Type 0
IsNotAfter first second = slice_cmp nat_cmp first second ≢ Greater

-- a text of which this holds, and no such text comes before it
pub record IsLeast (P : List ℕ → Type 0) (text : List ℕ) : Type 0 where
  pub holds : P text
  pub least : (other : List ℕ) → P other → IsNotAfter text other

-- the least bad key of the first of the tables that has one
abbrev pub IsFirstBadKey : List (TableKind × Members) → List ℕ → Type 0
IsFirstBadKey [] key = ⊥
IsFirstBadKey (next ∷ rest) key =
    IsLeast (IsBadKey next.0 next.1) key ⊎ (IsSoundAs next × IsFirstBadKey rest key)

-- ---- the tables of a file

-- the items of an array, and none of another value
abbrev pub items_in : Data → Items
items_in value = option_map_or (λ items. items) (as_array value) no_items

-- the items of the array at a key
abbrev pub items_at : List ℕ → Members → Items
items_at key members = option_map_or items_in (get_member key members) no_items

-- a list with one more in front, where there is one
abbrev pub with_first : {A : Type 0} → Option A → List A → List A
with_first None list = list
with_first (Some first) list = first ∷ list

-- what those items are of which this gives something, in order
abbrev pub selection : {A : Type 0} → (Data → Option A) → Items → List A
selection choose no_items = []
selection choose (item value items) = with_first (choose value) (selection choose items)

-- the tables among the items
abbrev pub tables_of : Items → List Members
tables_of items = selection as_table items

-- the value itself, where it is a table
abbrev pub table_in : Data → List Members
table_in value = with_first (as_table value) []

-- the tables, each of this kind
abbrev pub of_kind : TableKind → List Members → List (TableKind × Members)
of_kind kind tables = map (λ members. (kind, members)) tables

-- all tables of a file: itself, its hosts, its links
abbrev pub file_tables : Members → List (TableKind × Members)
file_tables members =
    (File, members) ∷ of_kind Host (tables_of (items_at (codes "host") members))
    ++ of_kind Link (tables_of (items_at (codes "link") members))

abbrev pub IsSoundFile : Members → Type 0
IsSoundFile members = AllByRecursion IsSoundAs (file_tables members)
