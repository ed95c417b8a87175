use Rattle.std.proofs.Common.{◌≡◌, ◌++◌, drop, map}
use Rattle.toml.specs.View.{items_view}
use Rattle.host_decl.specs.Schema.{tables_of}
use Rattle.host_decl.specs.Draft.{link_of}
use Rattle.host_decl.specs.DraftView.{link_draft}
use Rattle.host_decl.proofs.file_draft.links_of.Given as goal

abbrev pub invariant-loop-item : goal.invariant-loop-item
invariant-loop-item l =
    map link_draft l.links.items ++ map link_of (tables_of (items_view (drop l.item-index l.items))) ≡ map link_of
    (tables_of (items_view l.items))
