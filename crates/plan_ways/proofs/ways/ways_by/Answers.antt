use Rattle.std.proofs.Common.{ap, map, vec_items, ◌∙◌}
use Rattle.plan_ways.specs.Levels.{behind_calls}
use Rattle.plan_ways.specs.Whole.{known_shape}
use Rattle.plan_ways.proofs.Sheets.{sheets_same}
use Rattle.plan_ways.proofs.ways.ways_by.Goals as goal

pub returns : goal.returns
returns c =
    c.in_ok-found.ensures
    ∙ sheets_same c.args.code.now c.args.plan.now (known_shape c.args.known.now) _ _ _ _ _ c.deref-2.ensures.value
    c.deref-3.ensures.value
    (ap (map vec_items) c.deref-4.ensures.value ∙ c.in_ok-behind.ensures
    ∙ ap (behind_calls c.args.code.now) c.deref.ensures.value)
    (ap (map vec_items) c.deref-5.ensures.value ∙ c.in_ok-readers.ensures) c.deref-6.ensures.value
