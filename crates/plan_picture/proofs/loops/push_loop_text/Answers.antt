use Rattle.std.proofs.Common.{◌+◌}
use Rattle.std.specs.String.{string_bytes}
use Rattle.plan_picture.specs.Legend.{bracket_text, bracket_tip}
use Rattle.plan_picture.specs.Loops.{factor_text, loop_title}
use Rattle.plan_picture.proofs.Walks.{four_pieces}
use Rattle.plan_picture.proofs.loops.push_loop_text.Goals as goal

pub returns : goal.returns
returns c =
    let x = c.args.x in
    let top = c.args.top in
    four_pieces (string_bytes c.args.text.now) (loop_title c.args.statement.0)
    (bracket_text (x + 12) c.args.middle (x + 4) (top + 17) (x + 8)) (bracket_tip (x + 15) (top + 17))
    (factor_text x (top + 9) c.args.depth) _ _ _ _ c.in_ok-push_loop_title.ensures c.in_ok-push_bracket.ensures
    c.in_ok-push_bracket_tip.ensures c.in_ok-push_factor.ensures
