use Rattle.std.proofs.Common.{ℕ, ◌+◌, ◌≤◌, List, drop}
use Rattle.std.specs.List.{AllByRecursion}
use Rattle.toml.specs.View.{items_view}
use Rattle.host_decl.specs.Schema.{IsSound, tables_of}
use Rattle.host_reasons.specs.declared.bad_key.KeyFault.{KeyFault}
use Rattle.host_reasons.specs.BadKeys.{IsBadAmong}
use Rattle.host_reasons.proofs.bad_key.found_among.Given as goal

abbrev pub invariant-loop-item : goal.invariant-loop-item
invariant-loop-item l =
    (AllByRecursion (IsSound l.kind) (tables_of (items_view (drop l.item-index l.items)))
    → AllByRecursion (IsSound l.kind) (tables_of (items_view l.items)))
    × ((number : ℕ) (key : List ℕ) (fault : KeyFault) →
    IsBadAmong l.kind (tables_of (items_view (drop l.item-index l.items))) number key fault →
    IsBadAmong l.kind (tables_of (items_view l.items)) (l.number + number) key fault)
    × (l.number ≤ l.item-index)
