use Rattle.jif_tree.specs.Trees.{field_tree}
use Rattle.jif_grammar.specs.DraftShapes.{FieldShape, field_shape}
use Rattle.jif_resolve.specs.Faults.{label_faults}
use Rattle.jif_resolve.specs.Resolved.{IsFieldFor}
use Rattle.jif_resolve.proofs.Cleanly.{goes_on, clean_next, zip_map_push}
use Rattle.jif_resolve.proofs.fields.fields_of.Goals as goal

pub loop-draft-init : goal.loop-draft-init
loop-draft-init c = rw c.new-fields.ensures.items (record {
  whole = c.into_iter-draft-iterator.ensures.into_iter_gives.0;
  made = tt;
})

pub field_of-requires : goal.field_of-requires
field_of-requires c =
    clean_next field_shape (λ (field : FieldShape). label_faults c.args.principals.now field.label) c.args.drafts.items
    c.loop-draft.yielded c.loop-draft.draft-iterator.rest.items c.next.new.self.rest.items c.in-Some.draft
    c.loop-draft.invariant.whole c.in-Some.ensures.steps.0 c.requires

pub loop-draft-preserved : goal.loop-draft-preserved
loop-draft-preserved c = rw c.in_ok-push.ensures.items (record {
  whole = goes_on c.args.drafts.items c.loop-draft.yielded c.loop-draft.draft-iterator.rest.items
      c.next.new.self.rest.items c.in-Some.draft c.loop-draft.invariant.whole c.in-Some.ensures.steps.0;
  made = zip_map_push field_shape field_tree (IsFieldFor c.args.principals.now) c.loop-draft.yielded
      c.loop-draft.fields.items c.in-Some.draft c.in_ok-field_of.field-0 c.loop-draft.invariant.made
      c.in_ok-field_of.ensures;
})
