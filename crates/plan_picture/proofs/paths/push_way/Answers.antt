use Rattle.std.specs.String.{string_bytes}
use Rattle.jif_tree.specs.Trees.{program_tree}
use Rattle.plan_ways.specs.Tips.{tip_text}
use Rattle.plan_picture.specs.Legend.{class_of_kind, class_text}
use Rattle.plan_picture.specs.Lines.{parts}
use Rattle.plan_picture.specs.Paths.{end_text, path_text, rider_text, stroke_of, title_text}
use Rattle.plan_picture.proofs.Walks.{five_pieces}
use Rattle.plan_picture.proofs.paths.push_way.Goals as goal

pub returns : goal.returns
returns c =
    let way = c.args.way.now in
    let route = c.args.route.now in
    five_pieces (string_bytes c.args.text.now) (class_text (class_of_kind way.kind))
    (title_text (tip_text c.args.sheet.now.code.now (program_tree c.args.sheet.now.program.now) way))
    (path_text (stroke_of (parts way.kind) route))
    (rider_text way.rides route) (end_text route) _ _ _ _ _
    (rw c.class_of_kind.ensures at c.in_ok-push_class.ensures) c.in_ok-push_title.ensures
    (rw c.parts.ensures at c.in_ok-push_stroke.ensures) c.in_ok-push_rider.ensures
    c.in_ok-push_end.ensures
