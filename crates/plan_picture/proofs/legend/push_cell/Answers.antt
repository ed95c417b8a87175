use Rattle.std.proofs.Common.{◌+◌}
use Rattle.std.specs.String.{string_bytes}
use Rattle.plan_picture.specs.Legend.{class_of, class_text, meaning_of, meaning_text, sample_of}
use Rattle.plan_picture.proofs.Walks.{three_pieces}
use Rattle.plan_picture.proofs.legend.push_cell.Goals as goal

pub returns : goal.returns
returns c =
    three_pieces (string_bytes c.args.text.now) (class_text (class_of c.args.sign))
    (sample_of c.args.sign c.args.x c.args.y)
    (meaning_text (c.args.x + 44) (c.args.y + 4) (meaning_of c.args.sign)) _ _ _
    (rw c.class_of.ensures at c.in_ok-push_class.ensures) c.in_ok-push_sample.ensures
    (rw c.meaning_of.ensures at c.in_ok-push_meaning.ensures)
