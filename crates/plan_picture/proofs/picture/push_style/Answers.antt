use Rattle.std.specs.Prelude.{codes}
use Rattle.std.specs.String.{string_bytes}
use Rattle.drawing_text.specs.declared.style.TheConstants.{STYLE}
use Rattle.plan_picture.proofs.Walks.{two_pieces}
use Rattle.plan_picture.proofs.picture.push_style.Goals as goal

pub returns : goal.returns
returns c =
    two_pieces (string_bytes c.args.text.now) (codes "<title>Where the parts of a program stand</title>\n")
    STYLE.now _ _
    c.in_ok-push_str.ensures.bytes c.in_ok-push_str-2.ensures.bytes
