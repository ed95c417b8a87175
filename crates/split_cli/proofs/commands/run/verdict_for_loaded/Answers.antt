use Rattle.std.proofs.Common.{[], ◌∷◌, ap, subst, inl, inr, List, map}
use Rattle.jif_tree.specs.declared.program.Field.{Field}
use Rattle.jif_tree.specs.Trees.{program_tree}
use Rattle.event_text.specs.Start.{program_form}
use Rattle.split_words.specs.Commands.{Run}
use Rattle.split_cli.specs.Due.{DueForBytes}
use Rattle.split_cli.specs.PlainRun.{DueForRun}
use Rattle.front_end.specs.SourceShapes.{SourceModel, source_shape}
use Rattle.front_end.specs.Sources.{Source, Sources}
use Rattle.front_end.specs.Stages.{given, stopped}
use Rattle.front_end.specs.Starting.{StartingValues}
use Rattle.front_end.proofs.Stages.{due_handed_on, due_stops, memory_ran_out, stops_weaker}
use Rattle.split_cli.proofs.commands.run.verdict_for_loaded.Goals as goal

pub returns-in_err-source : goal.returns-in_err-source
returns-in_err-source c = λ names others p h s loaded_p loaded_h loaded_s.
    due_handed_on (DueForBytes (Run names others c.args.name.now c.args.steps) (p ∷ h ∷ s ∷ []))
    c.in_err-source.field-0.0 c.from_residual.result c.from_residual.ensures
    (due_stops (Sources p h) (λ (source : Source). DueForRun c.args.name.now s c.args.steps source.tree)
    c.in_err-source.field-0.0 (c.in_err-source.ensures p h loaded_p loaded_h))

pub returns-in_err-store : goal.returns-in_err-store
returns-in_err-store c = λ names others p h s loaded_p loaded_h loaded_s.
    let program = c.source.inside.checked.program in
    let tree = ap (λ (source : SourceModel). program_tree source.checked.program) c.source.view_is in
    due_handed_on (DueForBytes (Run names others c.args.name.now c.args.steps) (p ∷ h ∷ s ∷ []))
    c.in_err-store.field-0.0 c.from_residual-in_err-store.result c.from_residual-in_err-store.ensures
    (stops_weaker (λ verdict. StartingValues c.args.name.now s (map program_form c.deref.result.now) (stopped verdict))
    (DueForBytes (Run names others c.args.name.now c.args.steps) (p ∷ h ∷ s ∷ [])) c.in_err-store.field-0.0
    (λ verdict stops. inl (
      source_shape c.in_ok-source.source,
      c.in_ok-source.ensures p h loaded_p loaded_h,
      (
        program,
        tree,
        inr (subst (λ (fields : List Field).
            StartingValues c.args.name.now s (map program_form fields) (stopped verdict)) c.deref.ensures.value stops),
      ),
    ))
    (c.in_err-store.ensures s loaded_s))

pub returns-in_err-run_from : goal.returns-in_err-run_from
returns-in_err-run_from c = λ names others p h s loaded_p loaded_h loaded_s.
    memory_ran_out (DueForBytes (Run names others c.args.name.now c.args.steps) (p ∷ h ∷ s ∷ []))
    c.from_residual-in_err-run_from.result c.from_residual-in_err-run_from.ensures

pub returns : goal.returns
returns c = λ names others p h s loaded_p loaded_h loaded_s.
    inl (
      source_shape c.in_ok-source.source,
      c.in_ok-source.ensures p h loaded_p loaded_h,
      (
        c.source.inside.checked.program,
        ap (λ (source : SourceModel). program_tree source.checked.program) c.source.view_is,
        inl (
          c.in_ok-store.store,
          subst (λ (fields : List Field).
              StartingValues c.args.name.now s (map program_form fields) (given c.in_ok-store.store)) c.deref.ensures.value
              (c.in_ok-store.ensures s loaded_s),
          c.in_ok-run_from.ensures,
        ),
      ),
    )
