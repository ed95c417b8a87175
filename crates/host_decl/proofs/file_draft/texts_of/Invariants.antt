use Rattle.std.proofs.Common.{◌≡◌, ◌++◌, drop, map, string_bytes}
use Rattle.toml.specs.View.{items_view}
use Rattle.host_decl.specs.Draft.{texts_of}
use Rattle.host_decl.proofs.file_draft.texts_of.Given as goal

abbrev pub invariant-loop-item : goal.invariant-loop-item
invariant-loop-item l =
    map string_bytes l.texts.items ++ texts_of (items_view (drop l.item-index l.items)) ≡ texts_of (items_view l.items)
