-- The key of each host of a sound file is whole.
use Rattle.std.proofs.Common.{◌≡◌, ℕ, zero, suc, ◌*◌, true, false, List, [], ◌∷◌, length, map, Option, Some, None}
use Rattle.std.proofs.Common.{codes, ap, arith}
use Rattle.std.proofs.lemmas.Bool.{false≢true}
use Rattle.std.specs.List.{AllByRecursion}
use Rattle.std.specs.Option.{option_map_or, option_and_then}
use Rattle.sha2.proofs.Facts256.{length-sha256}
use Rattle.toml.specs.Data.{Data, Members, get_member, as_str}
use Rattle.host_decl.specs.declared.key.TheConstants.{KEY_BYTES}
use Rattle.host_decl.specs.declared.schema.TableKind.TheVariants.{Host}
use Rattle.host_decl.specs.Draft.{hex_bytes, host_of, key_of, or_empty, text_at}
use Rattle.host_decl.specs.Schema.{IsSound, is_bad, is_key}
use Rattle.host_decl.proofs.DeclaredNames.{true_from_not}
use Rattle.host_decl.proofs.HostRows.{HaveWholeKeys}
use Rattle.host_decl.proofs.Keys.{key_length}

length_hex : (digits : List ℕ) (count : ℕ) → length digits ≡ 2 * count → length (hex_bytes digits) ≡ count
length_hex [] count long = omega arith
length_hex (digit ∷ []) count long = absurd (omega arith)
length_hex (high ∷ low ∷ rest) zero long = absurd (omega arith)
length_hex (high ∷ low ∷ rest) (suc count) long = ap suc (length_hex rest count (omega arith))

of_found : (name : List ℕ) (found : Option (List ℕ)) → option_map_or is_key found false ≡ true
    → length (key_of name found) ≡ KEY_BYTES
of_found name None is = absurd (false≢true is)
of_found name (Some digits) is = length_hex digits KEY_BYTES (key_length digits is)

at_the_key : (name : List ℕ) (held : Option Data) → (is_bad Host (codes "key") held ≡ true → ⊥)
    → length (key_of name (option_and_then as_str held)) ≡ KEY_BYTES
at_the_key name None sound = length-sha256 name
at_the_key name (Some value) sound = of_found name (as_str value) (true_from_not _ sound)

pub keys_written : (tables : List Members) → AllByRecursion (IsSound Host) tables → HaveWholeKeys (map host_of tables)
keys_written [] sound = tt
keys_written (table ∷ tables) sound = (
  at_the_key (or_empty (text_at (codes "name") table)) (get_member (codes "key") table) (sound.0 (codes "key")),
  keys_written tables sound.1,
)
