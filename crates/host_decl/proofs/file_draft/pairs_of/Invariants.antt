use Rattle.std.proofs.Common.{◌≡◌, ◌++◌, drop}
use Rattle.toml.specs.View.{items_view}
use Rattle.host_decl.specs.Draft.{pairs_of}
use Rattle.principals.specs.Declaring.{written_pairs}
use Rattle.host_decl.proofs.file_draft.pairs_of.Given as goal

abbrev pub invariant-loop-item : goal.invariant-loop-item
invariant-loop-item l =
    written_pairs l.pairs.items ++ pairs_of (items_view (drop l.item-index l.items)) ≡ pairs_of (items_view l.items)
