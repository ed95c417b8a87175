use Rattle.std.proofs.Common.{◌<◌, arith, subst, sym}
use Rattle.run_sheet.proofs.LaneCounts.{AreBelow, left_below}
use Rattle.run_sheet.proofs.lanes.follow.Goals as goal

pub post-requires : goal.post-requires
post-requires c =
    let some : 1 < 18446744073709551616 = omega arith in
    subst (AreBelow 18446744073709551616) (sym c.leave.ensures)
    (left_below 18446744073709551616 c.args.counts.now c.args.row.now.what some c.requires)
