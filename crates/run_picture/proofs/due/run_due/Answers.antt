use Rattle.std.proofs.Common.{inl, inr}
use Rattle.front_end.specs.PlacedShapes.{placed_shape}
use Rattle.front_end.specs.PlacedSources.{PlacedSources}
use Rattle.front_end.specs.Stages.{given, stopped}
use Rattle.front_end.proofs.Stages.{due_handed_on, due_stops, ends_weaker, memory_ran_out, stops_weaker}
use Rattle.script_stages.specs.Scripts.{ScriptRead}
use Rattle.script_stages.proofs.ScriptReads.{script_of_program}
use Rattle.run_picture.specs.RunDue.{DueForChart, DueForChartOfEvents, DueForChartOfScript}
use Rattle.run_picture.proofs.due.run_due.Goals as goal

pub returns-in_err-placed : goal.returns-in_err-placed
returns-in_err-placed c = λ p h e loaded_p loaded_h loaded_e.
    due_handed_on (DueForChart c.args.name.now p h e) c.in_err-placed.field-0.0 c.from_residual.result
    c.from_residual.ensures
    (due_stops (PlacedSources p h) (DueForChartOfScript c.args.name.now e) c.in_err-placed.field-0.0
    (c.in_err-placed.ensures p h loaded_p loaded_h))

pub returns-in_err-code : goal.returns-in_err-code
returns-in_err-code c = λ p h e loaded_p loaded_h loaded_e.
    memory_ran_out (DueForChart c.args.name.now p h e) c.from_residual-in_err-code.result
    c.from_residual-in_err-code.ensures

pub returns-in_err-said : goal.returns-in_err-said
returns-in_err-said c = λ p h e loaded_p loaded_h loaded_e.
    let placed = placed_shape c.in_ok-placed.placed in
    due_handed_on (DueForChart c.args.name.now p h e) c.in_err-said.field-0.0 c.from_residual-in_err-said.result
    c.from_residual-in_err-said.ensures
    (stops_weaker (λ verdict. ScriptRead c.args.name.now e c.in_ok-code.code (stopped verdict))
    (DueForChart c.args.name.now p h e) c.in_err-said.field-0.0
    (λ verdict stops. inl (
      placed,
      c.in_ok-placed.ensures p h loaded_p loaded_h,
      inr (script_of_program c.args.name.now e placed c.in_ok-code.code (stopped verdict) c.in_ok-code.ensures stops),
    ))
    (c.in_err-said.ensures.read e loaded_e))

pub returns : goal.returns
returns c = λ p h e loaded_p loaded_h loaded_e.
    let placed = placed_shape c.in_ok-placed.placed in
    ends_weaker (DueForChartOfEvents c.args.name.now placed c.in_ok-said.said) (DueForChart c.args.name.now p h e)
    c.verdict_for_said.result
    (λ verdict due. inl (
      placed,
      c.in_ok-placed.ensures p h loaded_p loaded_h,
      inl (
        c.in_ok-said.said,
        script_of_program c.args.name.now e placed c.in_ok-code.code (given c.in_ok-said.said) c.in_ok-code.ensures
            (c.in_ok-said.ensures.read e loaded_e),
        due,
      ),
    ))
    c.verdict_for_said.ensures
