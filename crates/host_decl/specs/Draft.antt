-- What a sound host file says, before names are looked up and labels are read.
use Rattle.std.specs.Prelude.{ℕ, ℤ, pos, ◌+◌, ◌*◌, List, [], ◌∷◌, ◌++◌, map, Option, Some, None}
use Rattle.std.specs.Prelude.{codes}
use Rattle.std.specs.Option.{option_map_or, option_and_then}
use Rattle.std.specs.Char.{digit_value}
use Rattle.sha2.specs.Sha256.{sha256}
use Rattle.toml.specs.Data.{Items, no_items, item, Members, get_member, as_str, as_integer, as_array}
use Rattle.host_decl.specs.Schema.{items_at, tables_of, selection}

-- a host: its name, the text of its label, the 32 bytes of its key, and the path of its socket
pub record HostDraftShape : Type 0 where
  pub name : List ℕ
  pub label : List ℕ
  pub key : List ℕ
  pub path : List ℕ

-- a link: the names of its hosts and its cost
pub record LinkDraftShape : Type 0 where
  pub from : List ℕ
  pub to : List ℕ
  pub cost : ℤ

pub record HostsDraftShape : Type 0 where
  pub names : List (List ℕ)
  pub pairs : List (List ℕ × List ℕ)
  pub hosts : List HostDraftShape
  pub links : List LinkDraftShape

-- the bytes that hexadecimal digits write, two digits a byte, the high one first
abbrev pub hex_bytes : List ℕ → List ℕ
hex_bytes [] = []
hex_bytes (digit ∷ []) = []
hex_bytes (high ∷ low ∷ rest) = (digit_value high * 16 + digit_value low) ∷ hex_bytes rest

-- the text at a key
abbrev pub text_at : List ℕ → Members → Option (List ℕ)
text_at key members = option_and_then as_str (get_member key members)

-- the text, and an empty one where there is none
abbrev pub or_empty : Option (List ℕ) → List ℕ
or_empty text = option_map_or (λ bytes. bytes) text []

-- the texts among the items
abbrev pub texts_of : Items → List (List ℕ)
texts_of items = selection as_str items

-- the first two items as texts
abbrev pub pair_of : Items → List ℕ × List ℕ
pair_of (item first (item second items)) = (or_empty (as_str first), or_empty (as_str second))
pair_of (item first no_items) = ([], [])
pair_of no_items = ([], [])

-- the pairs among the items
abbrev pub pairs_of : Items → List (List ℕ × List ℕ)
pairs_of items = map pair_of (selection as_array items)

-- The key of a host is what its digits write. Where none is written it is the SHA-256 digest of the name.
abbrev pub key_of : List ℕ → Option (List ℕ) → List ℕ
key_of name (Some digits) = hex_bytes digits
key_of name None = sha256 name

-- the path of a host: where none is written, its name and `.sock`
abbrev pub path_of : List ℕ → Option (List ℕ) → List ℕ
path_of name (Some path) = path
path_of name None = name ++ codes ".sock"

abbrev pub host_of : Members → HostDraftShape
host_of members =
    let name = or_empty (text_at (codes "name") members) in
    record {
      name = name;
      label = or_empty (text_at (codes "label") members);
      key = key_of name (text_at (codes "key") members);
      path = path_of name (text_at (codes "path") members);
    }

-- the whole number at a key, and 0 where there is none
abbrev pub whole_at : List ℕ → Members → ℤ
whole_at key members = option_map_or (λ number. number) (option_and_then as_integer (get_member key members)) (pos 0)

abbrev pub link_of : Members → LinkDraftShape
link_of members =
    record {
      from = or_empty (text_at (codes "from") members);
      to = or_empty (text_at (codes "to") members);
      cost = whole_at (codes "cost") members;
    }

abbrev pub draft_of : Members → HostsDraftShape
draft_of members =
    record {
      names = texts_of (items_at (codes "principals") members);
      pairs = pairs_of (items_at (codes "acts_for") members);
      hosts = map host_of (tables_of (items_at (codes "host") members));
      links = map link_of (tables_of (items_at (codes "link") members));
    }
