use Rattle.std.proofs.Common.{drop, refl, sym, subst, arith}
use Rattle.need_labels.specs.Plan.{statement_host}
use Rattle.msg_cost.specs.Cost.{cost_of}
use Rattle.msg_cost.specs.Moves.{PlannedShape, on}
use Rattle.msg_cost.specs.Pieces.{gives_behind, walk_terms}
use Rattle.msg_cost.specs.PieceViews.{givens_of}
use Rattle.msg_cost.specs.Views.{seated_shape}
use Rattle.std.specs.Prelude.{Option, Some, None}
use Rattle.js_base.specs.declared.ids.StmtId.{StmtId}
use Rattle.msg_cost.specs.Walks.{IsChange}
use Rattle.msg_cost.proofs.WalkChanges.{rest_stays, whole_changed}
use Rattle.msg_cost.proofs.walk_change.moves_change.Goals as goal

pub stretch_change-requires-clause-rest : goal.stretch_change-requires-clause-rest
stretch_change-requires-clause-rest c =
    rest_stays c.args.statement (seated_shape c.args.before.now) (seated_shape c.args.after.now)
    c.args.walk.now.block.now c.places_around-places.result c.requires.moved c.places_around-places.ensures

pub returns : goal.returns
returns c =
    let first = seated_shape c.args.before.now in
    let second = seated_shape c.args.after.now in
    let walk = c.args.walk.now in
    let block = walk.block.now in
    let start = c.last_start-start.result in
    let part : Option StmtId = Some c.args.statement in
    let left = gives_behind first.needs part None (givens_of block) start.place in
    let changed = c.stretch_change.ensures in
    let Stretch : PlannedShape → Type 0 = λ shape. IsChange
    (cost_of first.hosts (walk_terms first part walk.weight start.spot left (givens_of (drop start.place block))))
    (cost_of first.hosts
    (walk_terms shape part walk.weight c.spot_after-spot.result left (givens_of (drop start.place block))))
    c.stretch_change.result in
    let Whole : PlannedShape → Type 0 = λ shape. IsChange
    (cost_of first.hosts
    (walk_terms first part walk.weight (on (statement_host first.plan walk.home)) None (givens_of block)))
    (cost_of first.hosts
    (walk_terms shape part walk.weight (on (statement_host second.plan walk.home)) None (givens_of block)))
    c.stretch_change.result in
    subst Whole (sym c.requires.moved.same)
    (whole_changed first second.plan c.args.statement walk.home walk.weight block c.same_to-most.result start.place
    start.spot c.spot_after-spot.result left c.stretch_change.result c.requires.moved.stay
    (λ other below. c.places_around-places.ensures.before other
    (let within = c.same_to-most.ensures.within in omega arith))
    c.same_to-most.ensures.home c.last_start-start.ensures.place
    (rw c.host_of-home.ensures at c.last_start-start.ensures.spot) c.last_start-start.ensures.alone
    c.spot_after-spot.ensures.first c.spot_after-spot.ensures.later refl
    (subst Stretch c.requires.moved.same changed))
