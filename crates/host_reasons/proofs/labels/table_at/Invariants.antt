use Rattle.std.proofs.Common.{◌≡◌, drop, slice_get}
use Rattle.toml.specs.View.{items_view}
use Rattle.host_decl.specs.Schema.{tables_of}
use Rattle.host_reasons.proofs.labels.table_at.Given as goal

abbrev pub invariant-loop-item : goal.invariant-loop-item
invariant-loop-item l =
    slice_get (tables_of (items_view (drop l.item-index l.items))) l.left
    ≡ slice_get (tables_of (items_view l.items)) l.fn.number
