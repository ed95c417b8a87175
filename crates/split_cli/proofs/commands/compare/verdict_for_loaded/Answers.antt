use Rattle.std.proofs.Common.{[], ◌∷◌, inl, refl}
use Rattle.split_words.specs.Commands.{Compare}
use Rattle.run_comparison.specs.Compare.{DueForCompare, DueForReadScripts}
use Rattle.split_cli.specs.Due.{DueForBytes}
use Rattle.front_end.specs.PlacedShapes.{placed_shape}
use Rattle.front_end.specs.PlacedSources.{PlacedSources}
use Rattle.script_stages.specs.Scripts.{ScriptRead}
use Rattle.front_end.specs.Stages.{given, stopped}
use Rattle.run_comparison.proofs.CompareDue.{first_stops, second_stops, both_read}
use Rattle.script_stages.proofs.ScriptReads.{script_of_program}
use Rattle.front_end.proofs.Stages.{due_handed_on, due_stops, ends_weaker, memory_ran_out, stops_weaker}
use Rattle.split_cli.proofs.commands.compare.verdict_for_loaded.Goals as goal

pub returns-in_err-placed : goal.returns-in_err-placed
returns-in_err-placed c = λ names others p h s t loaded_p loaded_h loaded_s loaded_t.
    due_handed_on (DueForBytes (Compare names others c.args.name.now c.args.other_name.now) (p ∷ h ∷ s ∷ t ∷ []))
    c.in_err-placed.field-0.0 c.from_residual.result c.from_residual.ensures
    (due_stops (PlacedSources p h) (DueForCompare c.args.name.now s c.args.other_name.now t) c.in_err-placed.field-0.0
    (c.in_err-placed.ensures p h loaded_p loaded_h))

pub returns-in_err-code : goal.returns-in_err-code
returns-in_err-code c = λ names others p h s t loaded_p loaded_h loaded_s loaded_t.
    memory_ran_out (DueForBytes (Compare names others c.args.name.now c.args.other_name.now) (p ∷ h ∷ s ∷ t ∷ []))
    c.from_residual-in_err-code.result c.from_residual-in_err-code.ensures

pub returns-in_err-one : goal.returns-in_err-one
returns-in_err-one c = λ names others p h s t loaded_p loaded_h loaded_s loaded_t.
    let placed = placed_shape c.in_ok-placed.placed in
    due_handed_on (DueForBytes (Compare names others c.args.name.now c.args.other_name.now) (p ∷ h ∷ s ∷ t ∷ []))
    c.in_err-one.field-0.0 c.from_residual-in_err-one.result c.from_residual-in_err-one.ensures
    (stops_weaker (λ verdict. ScriptRead c.args.name.now s c.in_ok-code.code (stopped verdict))
    (DueForBytes (Compare names others c.args.name.now c.args.other_name.now) (p ∷ h ∷ s ∷ t ∷ []))
    c.in_err-one.field-0.0
    (λ verdict stops. inl (
      placed,
      c.in_ok-placed.ensures p h loaded_p loaded_h,
      first_stops c.args.name.now s c.args.other_name.now t placed c.in_ok-placed.placed.source.checked.program verdict
          refl
          (script_of_program c.args.name.now s placed c.in_ok-code.code (stopped verdict) c.in_ok-code.ensures stops),
    ))
    (c.in_err-one.ensures.read s loaded_s))

pub returns-in_err-other : goal.returns-in_err-other
returns-in_err-other c = λ names others p h s t loaded_p loaded_h loaded_s loaded_t.
    let placed = placed_shape c.in_ok-placed.placed in
    due_handed_on (DueForBytes (Compare names others c.args.name.now c.args.other_name.now) (p ∷ h ∷ s ∷ t ∷ []))
    c.in_err-other.field-0.0 c.from_residual-in_err-other.result c.from_residual-in_err-other.ensures
    (stops_weaker (λ verdict. ScriptRead c.args.other_name.now t c.in_ok-code.code (stopped verdict))
    (DueForBytes (Compare names others c.args.name.now c.args.other_name.now) (p ∷ h ∷ s ∷ t ∷ []))
    c.in_err-other.field-0.0
    (λ verdict stops. inl (
      placed,
      c.in_ok-placed.ensures p h loaded_p loaded_h,
      second_stops c.args.name.now s c.args.other_name.now t placed c.in_ok-placed.placed.source.checked.program
          c.in_ok-one.one verdict refl
          (script_of_program c.args.name.now s placed c.in_ok-code.code (given c.in_ok-one.one) c.in_ok-code.ensures
          (c.in_ok-one.ensures.read s loaded_s))
          (script_of_program c.args.other_name.now t placed c.in_ok-code.code (stopped verdict) c.in_ok-code.ensures
          stops),
    ))
    (c.in_err-other.ensures.read t loaded_t))

pub returns : goal.returns
returns c = λ names others p h s t loaded_p loaded_h loaded_s loaded_t.
    let placed = placed_shape c.in_ok-placed.placed in
    ends_weaker (DueForReadScripts placed c.args.name.now c.in_ok-one.one c.args.other_name.now c.in_ok-other.other)
    (DueForBytes (Compare names others c.args.name.now c.args.other_name.now) (p ∷ h ∷ s ∷ t ∷ []))
    c.verdict_for_said.result
    (λ verdict due. inl (
      placed,
      c.in_ok-placed.ensures p h loaded_p loaded_h,
      both_read c.args.name.now s c.args.other_name.now t placed c.in_ok-placed.placed.source.checked.program
          c.in_ok-one.one c.in_ok-other.other verdict refl
          (script_of_program c.args.name.now s placed c.in_ok-code.code (given c.in_ok-one.one) c.in_ok-code.ensures
          (c.in_ok-one.ensures.read s loaded_s))
          (script_of_program c.args.other_name.now t placed c.in_ok-code.code (given c.in_ok-other.other)
          c.in_ok-code.ensures (c.in_ok-other.ensures.read t loaded_t))
          due,
    ))
    c.verdict_for_said.ensures
