use Rattle.std.proofs.Common.{◌+◌, ◌-◌}
use Rattle.std.specs.String.{string_bytes}
use Rattle.plan_picture.specs.Legend.{bracket_text, bracket_tip}
use Rattle.plan_picture.proofs.Walks.{two_pieces}
use Rattle.plan_picture.proofs.legend.push_loop_sample.Goals as goal

pub returns : goal.returns
returns c =
    two_pieces (string_bytes c.args.text.now)
    (bracket_text (c.args.x + 20) (c.args.y + 5) (c.args.x + 8) (c.args.y - 5) (c.args.x + 20))
    (bracket_tip (c.args.x + 26) (c.args.y - 5)) _ _
    (rw c.saturating_sub.ensures at c.in_ok-push_bracket.ensures)
    (rw c.saturating_sub-2.ensures at c.in_ok-push_bracket_tip.ensures)
