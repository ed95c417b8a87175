use Rattle.std.specs.Prelude.{codes}
use Rattle.std.specs.String.{string_bytes}
use Rattle.jif_tree.specs.Trees.{program_tree}
use Rattle.plan_ways.specs.Tips.{tip_text}
use Rattle.plan_picture.proofs.Walks.{three_pieces}
use Rattle.plan_picture.proofs.paths.push_title.Goals as goal

pub returns : goal.returns
returns c =
    three_pieces (string_bytes c.args.text.now) (codes "<title>")
    (tip_text c.args.sheet.now.code.now (program_tree c.args.sheet.now.program.now) c.args.way.now)
    (codes "</title>") _ _ _ c.in_ok-push_str.ensures.bytes c.in_ok-push_tip.ensures c.in_ok-push_str-2.ensures.bytes
