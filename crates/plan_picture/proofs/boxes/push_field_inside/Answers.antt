use Rattle.std.specs.Prelude.{codes}
use Rattle.std.specs.String.{string_bytes}
use Rattle.plan_picture.specs.Boxes.{label_text}
use Rattle.plan_picture.specs.Texts.{small_letters, wide_letters}
use Rattle.plan_picture.proofs.Walks.{two_pieces}
use Rattle.plan_picture.proofs.boxes.push_field_inside.Goals as goal

pub returns : goal.returns
returns c =
    two_pieces (string_bytes c.args.text.now)
    (label_text (codes "b") 8 17 c.args.name.now (wide_letters c.args.width))
    (label_text (codes "s d") 8 32 c.args.label.now (small_letters c.args.width)) _ _
    (rw c.wide_letters.ensures.value at c.in_ok-push_label.ensures)
    (rw c.small_letters.ensures.value at c.in_ok-push_label-2.ensures)
