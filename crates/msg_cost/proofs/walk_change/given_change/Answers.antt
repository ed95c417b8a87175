use Rattle.std.proofs.Common.{◌≡◌, ◌∙◌, ap, sym, subst}
use Rattle.std.specs.Prelude.{Option, Some, None}
use Rattle.js_base.specs.declared.ids.StmtId.{StmtId}
use Rattle.msg_cost.specs.declared.walk_change.Ride.{Ride}
use Rattle.msg_cost.specs.Cost.{cost_of}
use Rattle.msg_cost.specs.Moves.{PlannedShape}
use Rattle.msg_cost.specs.Pieces.{gives_behind}
use Rattle.msg_cost.specs.PieceViews.{givens_of}
use Rattle.msg_cost.specs.Terms.{given_terms}
use Rattle.msg_cost.specs.Views.{seated_shape}
use Rattle.msg_cost.specs.Walks.{under}
use Rattle.msg_cost.proofs.Independent.{given_same}
use Rattle.msg_cost.proofs.Quiet.{quiet_moved}
use Rattle.msg_cost.proofs.WalkChanges.{same_changed, gives_stay}
use Rattle.msg_cost.proofs.walk_change.given_change.Goals as goal

pub returns-then-is_same_ride : goal.returns-then-is_same_ride
returns-then-is_same_ride c =
    let first = seated_shape c.args.before.now in
    let plan = (seated_shape c.args.after.now).plan in
    let walk = c.args.walk.now in
    let part : Option StmtId = Some c.args.statement in
    let gives = gives_behind first.needs part None (givens_of walk.block.now) c.args.place in
    let quiet = quiet_moved first plan c.args.statement c.requires.moved.stay in
    let stay = gives_stay first plan part None (givens_of walk.block.now) c.args.place quiet tt in
    let was = cost_of first.hosts
    (given_terms first walk.weight c.args.first.from gives c.args.first.to) in
    let Same : PlannedShape → Type 0 = λ shape. was
    ≡ cost_of first.hosts (given_terms shape walk.weight c.args.second.from gives c.args.second.to) in
    same_changed _ _ (subst Same (sym c.requires.moved.same)
    (ap (cost_of first.hosts)
    (given_same first plan walk.weight c.args.first.from gives c.args.first.to stay
    ∙ ap (λ (ride : Ride). given_terms (under first plan) walk.weight ride.from gives ride.to)
    (c.is_same_ride.ensures.0 c.if-is_same_ride.true))))
