use Rattle.std.proofs.Common.{◌≡◌, ◌++◌, map}
use Rattle.std.specs.List.{AllZip}
use Rattle.jif_tree.specs.Trees.{field_tree}
use Rattle.jif_grammar.specs.DraftShapes.{field_shape}
use Rattle.jif_resolve.specs.Resolved.{IsFieldFor}
use Rattle.jif_resolve.proofs.fields.fields_of.Given as goal

-- the fields so far, and those that are left
abbrev pub invariant-loop-draft : goal.invariant-loop-draft
invariant-loop-draft l = record {
  whole : l.yielded ++ l.draft-iterator.rest.items ≡ l.fn.drafts.items;
  made : AllZip (IsFieldFor l.principals) (map field_shape l.yielded) (map field_tree l.fields.items);
}
