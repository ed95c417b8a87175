use Rattle.explain_texts.proofs.DraftParts.{all_places}
use Rattle.explain_texts.proofs.written.draft_places.Goals as goal

pub returns : goal.returns
returns c =
    all_places c.args.draft.now _ _ _ _ _ _ _ _ c.deref.ensures.value c.deref-2.ensures.value c.deref-3.ensures.value
    c.deref-4.ensures.value c.in_ok-fields.ensures c.in_ok-methods.ensures c.in_ok-variables.ensures
    c.in_ok-statements.ensures
