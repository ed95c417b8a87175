-- What is found in a document whose keys and strings are texts.
use Rattle.std.proofs.Common.{ℕ, List, map, Option, Some, None, Ordering, Less, Equal, Greater, nat_cmp}
use Rattle.std.specs.Prelude.{⊤}
use Rattle.std.specs.Cmp.Lexicographic.{slice_cmp}
use Rattle.std.specs.List.{AllByRecursion}
use Rattle.std.specs.Option.{option_map_or, option_and_then}
use Rattle.std.specs.Ordering.{match_ordering}
use Rattle.toml.specs.Data.{Data, string, integer, float, boolean, datetime, array, table, Items, no_items, item}
use Rattle.toml.specs.Data.{Members}
use Rattle.toml.specs.Data.{no_members, member, get_member, as_str, as_array, as_table}
use Rattle.host_decl.specs.Draft.{or_empty, text_at, texts_of, pair_of, pairs_of}
use Rattle.host_decl.specs.Schema.{items_in, items_at, selection, with_first, tables_of}
use Rattle.host_decl.proofs.OwnedTexts.{IsText, no_text}

-- every key and every string is a text of at most so many bytes
abbrev mutual
  pub HasTexts : ℕ → Data → Type 0
  HasTexts most (string text) = IsText most text
  HasTexts most (integer value) = ⊤
  HasTexts most (float value) = ⊤
  HasTexts most (boolean value) = ⊤
  HasTexts most (datetime value) = ⊤
  HasTexts most (array items) = HaveTexts most items
  HasTexts most (table inner) = AreTexts most inner

  pub HaveTexts : ℕ → Items → Type 0
  HaveTexts most no_items = ⊤
  HaveTexts most (item value items) = HasTexts most value × HaveTexts most items

  pub AreTexts : ℕ → Members → Type 0
  AreTexts most no_members = ⊤
  AreTexts most (member key value members) = IsText most key × HasTexts most value × AreTexts most members

-- ---- what may be found

abbrev IfText : ℕ → Option (List ℕ) → Type 0
IfText most None = ⊤
IfText most (Some text) = IsText most text

abbrev IfValue : ℕ → Option Data → Type 0
IfValue most None = ⊤
IfValue most (Some value) = HasTexts most value

abbrev IfArray : ℕ → Option Items → Type 0
IfArray most None = ⊤
IfArray most (Some items) = HaveTexts most items

abbrev IfTable : ℕ → Option Members → Type 0
IfTable most None = ⊤
IfTable most (Some inner) = AreTexts most inner

as_text : (most : ℕ) (value : Data) → HasTexts most value → IfText most (as_str value)
as_text most (string text) has = has
as_text most (integer value) has = tt
as_text most (float value) has = tt
as_text most (boolean value) has = tt
as_text most (datetime value) has = tt
as_text most (array items) has = tt
as_text most (table inner) has = tt

as_items : (most : ℕ) (value : Data) → HasTexts most value → IfArray most (as_array value)
as_items most (string text) has = tt
as_items most (integer value) has = tt
as_items most (float value) has = tt
as_items most (boolean value) has = tt
as_items most (datetime value) has = tt
as_items most (array items) has = has
as_items most (table inner) has = tt

as_members : (most : ℕ) (value : Data) → HasTexts most value → IfTable most (as_table value)
as_members most (string text) has = tt
as_members most (integer value) has = tt
as_members most (float value) has = tt
as_members most (boolean value) has = tt
as_members most (datetime value) has = tt
as_members most (array items) has = tt
as_members most (table inner) has = has

-- ---- members

pub of_order : {X : Type 0} (P : X → Type 0) (order : Ordering) (less equal greater : X) → P less → P equal →
    P greater →
    P (match_ordering order less equal greater)
of_order P Less less equal greater one two three = one
of_order P Equal less equal greater one two three = two
of_order P Greater less equal greater one two three = three

found_member : (most : ℕ) (key : List ℕ) (members : Members) → AreTexts most members →
    IfValue most (get_member key members)
found_member most key no_members has = tt
found_member most key (member own value members) has =
    let rest = found_member most key members has.2 in
    of_order (IfValue most) (slice_cmp nat_cmp key own) (get_member key members) (Some value) (get_member key members)
    rest has.1 rest

text_in : (most : ℕ) (found : Option Data) → IfValue most found → IfText most (option_and_then as_str found)
text_in most None has = tt
text_in most (Some value) has = as_text most value has

pub or_empty_is : (most : ℕ) (found : Option (List ℕ)) → IfText most found → IsText most (or_empty found)
or_empty_is most None has = no_text most
or_empty_is most (Some text) has = has

-- the text at a key, and an empty one where there is none
pub text_found : (most : ℕ) (key : List ℕ) (members : Members) → AreTexts most members →
    IsText most (or_empty (text_at key members))
text_found most key members has =
    or_empty_is most (text_at key members)
    (text_in most (get_member key members) (found_member most key members has))

-- ---- items

in_array : (most : ℕ) (found : Option Items) → IfArray most found →
    HaveTexts most (option_map_or (λ items. items) found no_items)
in_array most None has = tt
in_array most (Some items) has = has

in_value : (most : ℕ) (found : Option Data) → IfValue most found →
    HaveTexts most (option_map_or items_in found no_items)
in_value most None has = tt
in_value most (Some value) has = in_array most (as_array value) (as_items most value has)

pub items_found : (most : ℕ) (key : List ℕ) (members : Members) → AreTexts most members →
    HaveTexts most (items_at key members)
items_found most key members has = in_value most (get_member key members) (found_member most key members has)

text_first : (most : ℕ) (found : Option (List ℕ)) (rest : List (List ℕ)) → IfText most found →
    AllByRecursion (IsText most) rest → AllByRecursion (IsText most) (with_first found rest)
text_first most None rest has all = all
text_first most (Some text) rest has all = (has, all)

pub texts_found : (most : ℕ) (items : Items) → HaveTexts most items → AllByRecursion (IsText most) (texts_of items)
texts_found most no_items has = tt
texts_found most (item value items) has =
    text_first most (as_str value) (texts_of items) (as_text most value has.0) (texts_found most items has.1)

table_first : (most : ℕ) (found : Option Members) (rest : List Members) → IfTable most found →
    AllByRecursion (AreTexts most) rest → AllByRecursion (AreTexts most) (with_first found rest)
table_first most None rest has all = all
table_first most (Some inner) rest has all = (has, all)

pub tables_found : (most : ℕ) (items : Items) → HaveTexts most items → AllByRecursion (AreTexts most) (tables_of items)
tables_found most no_items has = tt
tables_found most (item value items) has =
    table_first most (as_table value) (tables_of items) (as_members most value has.0) (tables_found most items has.1)

-- both names of a pair are texts
abbrev pub AreTwoTexts : ℕ → List ℕ × List ℕ → Type 0
AreTwoTexts most pair = IsText most pair.0 × IsText most pair.1

pair_is : (most : ℕ) (items : Items) → HaveTexts most items → AreTwoTexts most (pair_of items)
pair_is most no_items has = (no_text most, no_text most)
pair_is most (item first no_items) has = (no_text most, no_text most)
pair_is most (item first (item second items)) has = (
  or_empty_is most (as_str first) (as_text most first has.0),
  or_empty_is most (as_str second) (as_text most second has.1.0),
)

pair_first : (most : ℕ) (found : Option Items) (rest : List Items) → IfArray most found →
    AllByRecursion (AreTwoTexts most) (map pair_of rest) →
    AllByRecursion (AreTwoTexts most) (map pair_of (with_first found rest))
pair_first most None rest has all = all
pair_first most (Some items) rest has all = (pair_is most items has, all)

pub pairs_found : (most : ℕ) (items : Items) → HaveTexts most items →
    AllByRecursion (AreTwoTexts most) (pairs_of items)
pairs_found most no_items has = tt
pairs_found most (item value items) has =
    pair_first most (as_array value) (selection as_array items) (as_items most value has.0)
    (pairs_found most items has.1)
