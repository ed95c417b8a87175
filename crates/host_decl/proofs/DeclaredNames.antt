-- The names of principals and hosts in a sound file are names.
use Rattle.std.proofs.Common.{◌≡◌, ℕ, Bool, true, false, not, List, [], ◌∷◌, map, Option, Some, None, String, Global}
use Rattle.std.proofs.Common.{All, string_bytes, codes, refl, sym, subst, ap, ◌∙◌}
use Rattle.std.proofs.lemmas.Bool.{and_parts, false≢true}
use Rattle.std.proofs.lemmas.List.{get_or-map, length-map}
use Rattle.std.specs.List.{AllByRecursion}
use Rattle.std.specs.Option.{option_map_or, option_and_then}
use Rattle.std.proofs.lemmas.List.Elements.{All-from_recursion}
use Rattle.js_base.specs.Name.{IsName, is_name}
use Rattle.toml.specs.Data.{Data, Items, no_items, item, Members, get_member, as_str, as_array}
use Rattle.host_decl.specs.declared.schema.TableKind.TheVariants.{File, Host}
use Rattle.host_decl.specs.Schema.{IsSound, IsSoundFile, tables_of, is_bad, all_items, is_text_of, items_in, items_at}
use Rattle.host_decl.specs.Schema.{selection, with_first}
use Rattle.host_decl.specs.declared.draft.HostsDraft.{HostsDraft}
use Rattle.host_decl.specs.Draft.{texts_of, or_empty, host_of, draft_of}
use Rattle.host_decl.specs.DraftView.{hosts_draft}
use Rattle.host_decl.specs.Meaning.{host_names}
use Rattle.host_decl.proofs.BadKeys.{sound_hosts}
use Rattle.host_decl.proofs.Meanings.{written_names}

one_more : (found : Option (List ℕ)) (rest : List (List ℕ)) → option_map_or is_name found false ≡ true
    → AllByRecursion IsName rest → AllByRecursion IsName (with_first found rest)
one_more None rest named all = absurd (false≢true named)
one_more (Some text) rest named all = (named, all)

named_items : (items : Items) → all_items (is_text_of is_name) items ≡ true
    → AllByRecursion IsName (selection as_str items)
named_items no_items all = tt
named_items (item value items) all =
    let parts = and_parts (is_text_of is_name value) (all_items (is_text_of is_name) items) all in
    one_more (as_str value) (selection as_str items) parts.0 (named_items items parts.1)

in_array : (found : Option Items) → option_map_or (all_items (is_text_of is_name)) found false ≡ true
    → AllByRecursion IsName (selection as_str (option_map_or (λ items. items) found no_items))
in_array None all = absurd (false≢true all)
in_array (Some items) all = named_items items all

pub true_from_not : (b : Bool) → (not b ≡ true → ⊥) → b ≡ true
true_from_not true sound = refl
true_from_not false sound = absurd (sound refl)

at_the_key : (held : Option Data) → (is_bad File (codes "principals") held ≡ true → ⊥)
    → AllByRecursion IsName (texts_of (option_map_or items_in held no_items))
at_the_key None sound = tt
at_the_key (Some value) sound = in_array (as_array value) (true_from_not _ sound)

each : (names : List (String Global)) → All IsName (map string_bytes names)
    → All (λ name. IsName (string_bytes name)) names
each names all place d within =
    subst IsName (get_or-map string_bytes names place d (string_bytes d) within)
    (all place (string_bytes d) (rw length-map within))

pub principal_names : (file : Members) → IsSound File file → All IsName (texts_of (items_at (codes "principals") file))
principal_names file sound =
    All-from_recursion IsName _ (at_the_key (get_member (codes "principals") file) (sound (codes "principals")))

pub names_are_names : (file : Members) (names : List (String Global)) → IsSound File file
    → map string_bytes names ≡ texts_of (items_at (codes "principals") file)
    → All (λ name. IsName (string_bytes name)) names
names_are_names file names sound are =
    each names (subst (All IsName) (sym are) (principal_names file sound))

-- ---- hosts

host_name : (found : Option (List ℕ)) → option_map_or is_name found false ≡ true → IsName (or_empty found)
host_name None named = absurd (false≢true named)
host_name (Some text) named = named

at_the_name : (held : Option Data) → (is_bad Host (codes "name") held ≡ true → ⊥)
    → IsName (or_empty (option_and_then as_str held))
at_the_name None sound = absurd (sound refl)
at_the_name (Some value) sound = host_name (as_str value) (true_from_not _ sound)

pub host_names_of : (tables : List Members) → AllByRecursion (IsSound Host) tables
    → AllByRecursion IsName (map (λ host. host.name) (map host_of tables))
host_names_of [] sound = tt
host_names_of (table ∷ tables) sound =
    (at_the_name (get_member (codes "name") table) (sound.0 (codes "name")), host_names_of tables sound.1)

pub host_names_are_names : (file : Members) (draft : HostsDraft) → IsSoundFile file
    → hosts_draft draft ≡ draft_of file → All IsName (map (λ host. string_bytes host.name) draft.hosts.items)
host_names_are_names file draft sound are =
    All-from_recursion IsName _ (subst (AllByRecursion IsName)
    (sym (written_names draft.hosts.items ∙ ap host_names are))
    (host_names_of (tables_of (items_at (codes "host") file)) (sound_hosts file sound)))
