use Rattle.std.proofs.Common.{ℕ, List, drop}
use Rattle.std.specs.List.{AllByRecursion}
use Rattle.toml.specs.View.{items_view}
use Rattle.host_decl.specs.Schema.{IsSound, IsFirstBadKey, tables_of, of_kind}
use Rattle.host_decl.proofs.schema.bad_key_among.Given as goal

abbrev pub invariant-loop-item : goal.invariant-loop-item
invariant-loop-item l =
    (AllByRecursion (IsSound l.kind) (tables_of (items_view (drop l.item-index l.items)))
    → AllByRecursion (IsSound l.kind) (tables_of (items_view l.items)))
    × ((key : List ℕ) → IsFirstBadKey (of_kind l.kind (tables_of (items_view (drop l.item-index l.items)))) key
    → IsFirstBadKey (of_kind l.kind (tables_of (items_view l.items))) key)
