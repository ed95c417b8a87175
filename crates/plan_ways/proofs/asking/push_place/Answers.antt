use Rattle.std.proofs.Common.{sym}
use Rattle.plan_ways.specs.Ways.{sheet_shape}
use Rattle.plan_ways.proofs.PlaceWalks.{nothing_there, something_there}
use Rattle.plan_ways.proofs.asking.push_place.Goals as goal

pub returns-in_default : goal.returns-in_default
returns-in_default c =
    nothing_there (sheet_shape c.args.sheet.now) c.args.place _ _ (sym c.in_default.ensures)

pub returns : goal.returns
returns c =
    something_there (sheet_shape c.args.sheet.now) c.args.place _ _ _ _ _ _ (sym c.in-Some.ensures)
    c.asked_by.ensures c.in_ok-push_kept.ensures c.in_ok-push_given.ensures
