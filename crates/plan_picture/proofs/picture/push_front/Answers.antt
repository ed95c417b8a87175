use Rattle.std.specs.String.{string_bytes}
use Rattle.plan_picture.specs.Legend.{cells_text}
use Rattle.plan_picture.specs.Picture.{cost_text, first_text, front_text, ground_text, style_text}
use Rattle.plan_picture.proofs.Walks.{five_pieces}
use Rattle.plan_picture.proofs.picture.push_front.Goals as goal

pub returns : goal.returns
unfolding front_text
returns c =
    let width = c.args.width in
    five_pieces (string_bytes c.args.text.now) (first_text width c.args.height) style_text
    (ground_text width c.args.height) (cost_text c.args.cost) (cells_text width 0 c.args.signs.now) _ _ _ _ _
    c.in_ok-push_first.ensures c.in_ok-push_style.ensures c.in_ok-push_ground.ensures c.in_ok-push_cost.ensures
    c.in_ok-push_legend.ensures
