use Rattle.std.proofs.Common.{◌≡◌, ◌∙◌, List, ap, inl, inr, map, subst}
use Rattle.std.specs.Prelude.{string_bytes}
use Rattle.event_text.specs.Start.{program_form}
use Rattle.jif_tree.specs.declared.program.Field.{Field}
use Rattle.jif_tree.specs.Trees.{ProgramTree, program_tree}
use Rattle.front_end.specs.PlacedShapes.{PlacedModel, placed_shape}
use Rattle.front_end.specs.SourceShapes.{SourceModel}
use Rattle.front_end.specs.Stages.{given, stopped}
use Rattle.front_end.specs.Starting.{StartingValues}
use Rattle.front_end.proofs.Stages.{due_handed_on, ends_weaker, stops_weaker}
use Rattle.jifmerge.specs.Merged.{DueForPlaced, DueForValues}
use Rattle.jifmerge.proofs.merged.verdict_for_placed.Goals as goal

pub returns-in_err-store : goal.returns-in_err-store
returns-in_err-store c = λ s js loaded_s loaded_js.
    let one = ap (λ (source : SourceModel). program_tree source.checked.program) c.source.view_is in
    let two = ap (λ (placed : PlacedModel). program_tree placed.source.checked.program) c.placed.view_is in
    let tree : program_tree c.source.inside.checked.program ≡ (placed_shape c.args.placed.now).source.tree = cc in
    due_handed_on
    (DueForPlaced c.args.name.now (map string_bytes c.args.names.now) s js (placed_shape c.args.placed.now))
    c.in_err-store.field-0.0 c.from_residual.result c.from_residual.ensures
    (stops_weaker (λ verdict. StartingValues c.args.name.now s (map program_form c.deref.result.now) (stopped verdict))
    (DueForPlaced c.args.name.now (map string_bytes c.args.names.now) s js (placed_shape c.args.placed.now))
    c.in_err-store.field-0.0
    (λ verdict stops. (
      c.source.inside.checked.program,
      tree,
      inr (subst (λ (fields : List Field).
          StartingValues c.args.name.now s (map program_form fields) (stopped verdict)) c.deref.ensures.value stops),
    ))
    (c.in_err-store.ensures s loaded_s))

pub returns : goal.returns
returns c = λ s js loaded_s loaded_js.
    let one = ap (λ (source : SourceModel). program_tree source.checked.program) c.source.view_is in
    let two = ap (λ (placed : PlacedModel). program_tree placed.source.checked.program) c.placed.view_is in
    let tree : program_tree c.source.inside.checked.program ≡ (placed_shape c.args.placed.now).source.tree = cc in
    ends_weaker
    (DueForValues (map string_bytes c.args.names.now) js (placed_shape c.args.placed.now) c.in_ok-store.store)
    (DueForPlaced c.args.name.now (map string_bytes c.args.names.now) s js (placed_shape c.args.placed.now))
    c.verdict_for_values.result
    (λ verdict due. (
      c.source.inside.checked.program,
      tree,
      inl (
        c.in_ok-store.store,
        subst (λ (fields : List Field).
            StartingValues c.args.name.now s (map program_form fields) (given c.in_ok-store.store))
            c.deref.ensures.value (c.in_ok-store.ensures s loaded_s),
        due,
      ),
    ))
    (c.verdict_for_values.ensures js loaded_js)
