use Rattle.std.proofs.Common.{map, ap, ◌∙◌}
use Rattle.jif_tree.specs.Trees.{program_tree}
use Rattle.statement_texts.specs.Texts.{statement_text_shape}
use Rattle.plan_ways.specs.Whole.{plan_ways_shape}
use Rattle.jifpicture.proofs.Sheets.{drawn_is}
use Rattle.jifpicture.proofs.picture.drawing.Goals as goal

pub returns : goal.returns
returns c =
    drawn_is (program_tree c.args.program.now) c.args.code.now c.args.plan.now c.args.principals.now c.args.cost _ _ _
    (plan_ways_shape c.in_ok-ways.ways) _ _
    (ap (map statement_text_shape) c.deref.ensures.value ∙ c.in_ok-texts.ensures)
    (c.deref-2.ensures.value ∙ c.in_ok-lines.ensures) (c.deref-3.ensures.value ∙ c.in_ok-released.ensures)
    c.in_ok-ways.ensures c.new-text.ensures.bytes c.in_ok-push_plan.ensures
