use Rattle.std.proofs.Common.{◌∙◌, subst, sym, inl}
use Rattle.std.specs.Option.{option_map}
use Rattle.jif_grammar.specs.DraftShapes.{draft_shape}
use Rattle.explain_texts.specs.DraftPlaces.{places_shape}
use Rattle.explain_texts.specs.Told.{told_shape}
use Rattle.need_labels.specs.Labelled.{labelled_of}
use Rattle.front_end.specs.SourceShapes.{SourceModel, source_shape}
use Rattle.front_end.specs.Sources.{DraftAccepted}
use Rattle.front_end.specs.Stages.{given}
use Rattle.jifexplain.specs.Questions.{asked_shape}
use Rattle.jifexplain.proofs.PlacesAgain.{few_methods_read, few_read, verdict_is}
use Rattle.jifexplain.proofs.places.file_placed.Goals as goal

pub told_for-requires-clause-few : goal.told_for-requires-clause-few
told_for-requires-clause-few c =
    few_read c.args.file (draft_shape c.args.draft) _ c.in_ok-source.source c.source.view_is
    (c.limit_laws.ensures.kept c.requires.draft.list (draft_shape c.args.draft) c.requires.draft.parsed)
    c.in_ok-source.ensures

pub places_verdict-requires-clause-holding : goal.places_verdict-requires-clause-holding
places_verdict-requires-clause-holding c = record {
  labels = c.deref-2.ensures.value ∙ c.in_ok-labels.ensures;
  few = few_read c.args.file (draft_shape c.args.draft) _ c.in_ok-source.source c.source.view_is
      (c.limit_laws.ensures.kept c.requires.draft.list (draft_shape c.args.draft) c.requires.draft.parsed)
      c.in_ok-source.ensures;
  few_methods = few_methods_read (record { hosts = c.source.inside.hosts; checked = c.source.inside.checked })
      c.source.invariant.read;
  told = rw c.deref-3.ensures.value c.in_ok-told.ensures;
}

pub returns : goal.returns
returns c = λ p text_is.
    let question = c.args.question.now in
    let model : SourceModel = record { hosts = c.source.inside.hosts; checked = c.source.inside.checked } in
    inl (
      source_shape model,
      subst (λ (s : SourceModel). DraftAccepted c.args.file (draft_shape c.args.draft) (given (source_shape s)))
          (sym c.source.view_is) c.in_ok-source.ensures,
      verdict_is question.shown.name.now question.shown.text.now p (asked_shape question.asked) question.why
          c.args.tokens.now (draft_shape c.args.draft) (source_shape model) (option_map told_shape c.in_ok-head.head)
          (places_shape c.in_ok-places.places) (labelled_of c.source.inside.checked) _ text_is c.in_ok-head.ensures
          c.in_ok-places.ensures c.source.invariant.labelled c.in_ok-places_verdict.ensures,
    )
