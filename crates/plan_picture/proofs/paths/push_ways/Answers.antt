use Rattle.std.proofs.Common.{refl}
use Rattle.plan_picture.specs.Paths.{route_on, way_text, ways_text}
use Rattle.plan_picture.specs.Sheets.{sheet_shape}
use Rattle.plan_picture.proofs.Walks.{piece_written}
use Rattle.plan_picture.proofs.paths.push_ways.Goals as goal

pub loop-way-preserved : goal.loop-way-preserved
loop-way-preserved c =
    piece_written (ways_text (sheet_shape c.args.sheet.now) c.args.grid.now)
    (λ way. way_text (sheet_shape c.args.sheet.now) way (route_on c.args.grid.now way)) (λ x xs. refl) c.args.ways.now
    c.loop-way.way-index _ _ _ _ _ c.loop-way-test.true refl c.loop-way.invariant
    (rw c.route_on-route.ensures.value at c.in_ok-push_way.ensures)
