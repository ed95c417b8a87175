use Rattle.std.specs.Prelude.{codes}
use Rattle.std.specs.String.{string_bytes}
use Rattle.plan_picture.specs.Paths.{first_text, last_text, turn_text}
use Rattle.plan_picture.proofs.Walks.{five_pieces}
use Rattle.plan_picture.proofs.paths.push_path.Goals as goal

pub returns : goal.returns
returns c =
    five_pieces (string_bytes c.args.text.now) (codes "<path d='") (first_text c.args.stroke.now)
    (turn_text c.args.stroke.now) (last_text c.args.stroke.now) (codes "'/>") _ _ _ _ _ c.in_ok-push_str.ensures.bytes
    c.in_ok-push_first.ensures c.in_ok-push_turn.ensures c.in_ok-push_last.ensures c.in_ok-push_str-2.ensures.bytes
