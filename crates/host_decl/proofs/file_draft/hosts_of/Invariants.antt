use Rattle.std.proofs.Common.{◌≡◌, ◌++◌, drop, map}
use Rattle.std.specs.List.{AllByRecursion}
use Rattle.toml.specs.View.{items_view}
use Rattle.host_decl.specs.declared.schema.TableKind.TheVariants.{Host}
use Rattle.host_decl.specs.Schema.{IsSound, tables_of}
use Rattle.host_decl.specs.Draft.{host_of}
use Rattle.host_decl.specs.DraftView.{host_draft}
use Rattle.host_decl.proofs.file_draft.hosts_of.Given as goal

abbrev pub invariant-loop-item : goal.invariant-loop-item
invariant-loop-item l =
    (map host_draft l.hosts.items ++ map host_of (tables_of (items_view (drop l.item-index l.items))) ≡ map host_of
    (tables_of (items_view l.items)))
    × AllByRecursion (IsSound Host) (tables_of (items_view (drop l.item-index l.items)))
