use Rattle.std.proofs.Common.{[], ◌∙◌, ap, subst, inl, inr, List, map}
use Rattle.jif_tree.specs.declared.program.Field.{Field}
use Rattle.jif_tree.specs.Trees.{program_tree}
use Rattle.event_text.specs.Start.{program_form}
use Rattle.made_laws.specs.MadePrograms.{made_hosts, made_program}
use Rattle.split_cli.specs.Making.{DueForMade, DueForMake}
use Rattle.front_end.specs.PlacedShapes.{PlacedModel, placed_shape}
use Rattle.front_end.specs.PlacedSources.{PlacedSources}
use Rattle.front_end.specs.SourceShapes.{SourceModel}
use Rattle.front_end.specs.Stages.{given, stopped}
use Rattle.front_end.specs.Starting.{StartingValues}
use Rattle.front_end.proofs.Stages.{due_handed_on, due_stops, memory_ran_out, stops_weaker}
use Rattle.split_cli.proofs.commands.make.verdict_for_made.Goals as goal

pub returns-in_err-placed : goal.returns-in_err-placed
returns-in_err-placed c =
    due_handed_on (DueForMake c.args.statements) c.in_err-placed.field-0.0 c.from_residual.result
    c.from_residual.ensures
    (due_stops (PlacedSources (made_program c.args.statements) made_hosts) (DueForMade c.args.statements)
    c.in_err-placed.field-0.0
    (c.in_err-placed.ensures (made_program c.args.statements) made_hosts c.requires.program c.requires.hosts))

pub returns-in_err-store : goal.returns-in_err-store
returns-in_err-store c =
    let program = c.source.inside.checked.program in
    let tree = ap (λ (source : SourceModel). program_tree source.checked.program) c.source.view_is
    ∙ ap (λ (placed : PlacedModel). program_tree placed.source.checked.program) c.placed.view_is in
    due_handed_on (DueForMake c.args.statements) c.in_err-store.field-0.0 c.from_residual-in_err-store.result
    c.from_residual-in_err-store.ensures
    (stops_weaker (λ verdict. StartingValues [] [] (map program_form c.deref.result.now) (stopped verdict))
    (DueForMake c.args.statements) c.in_err-store.field-0.0
    (λ verdict stops. inl (
      placed_shape c.in_ok-placed.placed,
      c.in_ok-placed.ensures (made_program c.args.statements) made_hosts c.requires.program c.requires.hosts,
      (
        program,
        tree,
        inr (subst (λ (fields : List Field).
            StartingValues [] [] (map program_form fields) (stopped verdict)) c.deref.ensures.value stops),
      ),
    ))
    (c.in_err-store.ensures [] (rw c.new.ensures.bytes at c.as_loaded-start.ensures)))

pub returns-in_err-driven : goal.returns-in_err-driven
returns-in_err-driven c =
    memory_ran_out (DueForMake c.args.statements) c.from_residual-in_err-driven.result
    c.from_residual-in_err-driven.ensures

pub returns : goal.returns
returns c =
    inl (
      placed_shape c.in_ok-placed.placed,
      c.in_ok-placed.ensures (made_program c.args.statements) made_hosts c.requires.program c.requires.hosts,
      (
        c.source.inside.checked.program,
        ap (λ (source : SourceModel). program_tree source.checked.program) c.source.view_is
            ∙ ap (λ (placed : PlacedModel). program_tree placed.source.checked.program) c.placed.view_is,
        inl (
          c.in_ok-store.store,
          subst (λ (fields : List Field).
              StartingValues [] [] (map program_form fields) (given c.in_ok-store.store)) c.deref.ensures.value
              (c.in_ok-store.ensures [] (rw c.new.ensures.bytes at c.as_loaded-start.ensures)),
          c.in_ok-driven.ensures,
        ),
      ),
    )
