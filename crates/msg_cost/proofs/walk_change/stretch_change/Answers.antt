use Rattle.std.proofs.Common.{◌≡◌, ◌∙◌, ℕ, suc, drop, refl, ap, sym, subst, add-one, length, arith}
use Rattle.std.specs.Prelude.{Option, Some, None}
use Rattle.std.proofs.lemmas.List.{drop_all}
use Rattle.host_decl.specs.Hosts.{HostsShape}
use Rattle.js_base.specs.declared.ids.StmtId.{StmtId}
use Rattle.js_base.specs.declared.ids.VarId.{VarId}
use Rattle.msg_cost.specs.declared.walk_change.Change.{Change}
use Rattle.msg_cost.specs.Cost.{cost_of}
use Rattle.msg_cost.specs.Moves.{PlannedShape}
use Rattle.msg_cost.specs.Pieces.{gives_behind, walk_terms}
use Rattle.msg_cost.specs.PieceViews.{givens_of}
use Rattle.msg_cost.specs.Terms.{leave_terms, move_terms, given_terms}
use Rattle.msg_cost.specs.Views.{seated_shape, capped}
use Rattle.msg_cost.specs.Walks.{IsChange}
use Rattle.msg_cost.proofs.Quiet.{quiet_moved}
use Rattle.msg_cost.proofs.WalkChanges.{Progressed, starts, goes_on, ended, walk_step, walk_last, joined, same_later}
use Rattle.msg_cost.proofs.WalkChanges.{gives_stay, all_changed}
use Rattle.msg_cost.proofs.walk_change.stretch_change.Goals as goal

pub loop-place-init : goal.loop-place-init
loop-place-init c = record { so_far = starts _ _; within = c.requires.within }

pub loop-place-preserved : goal.loop-place-preserved
loop-place-preserved c =
    let first = seated_shape c.args.before.now in
    let second = seated_shape c.args.after.now in
    let part : Option StmtId = Some c.args.statement in
    let walk = c.args.walk.now in
    let block = walk.block.now in
    let place = c.loop-place.place in
    let left_at : ℕ → Option VarId = λ count. gives_behind first.needs part None (givens_of block) count in
    let left = left_at c.loop-place.place in
    let one = c.loop-place.first in
    let two = c.loop-place.second in
    let next = c.next_at-next.result in
    let next_then = c.next_at-then.result in
    let gives = left_at (suc place) in
    let hosts : second.hosts ≡ first.hosts = ap (λ (shape : PlannedShape). shape.hosts) c.requires.moved.same in
    let all = cost_of first.hosts
    (walk_terms first part walk.weight c.args.start.spot (left_at c.args.start.place)
    (givens_of (drop c.args.start.place block))) in
    let all_then = cost_of first.hosts
    (walk_terms second part walk.weight c.args.spot (left_at c.args.start.place)
    (givens_of (drop c.args.start.place block))) in
    let gives_then : gives ≡ gives_behind second.needs part None (givens_of block) (suc place) =
    sym (ap (λ (shape : PlannedShape). gives_behind shape.needs part None (givens_of block) (suc place))
    c.requires.moved.same) in
    let step = walk_step first first.hosts part walk.weight one next None left gives block place
    c.loop-place-test.true refl c.next_at-next.ensures in
    let step_then = walk_step second first.hosts part walk.weight two next_then None left gives block place
    c.loop-place-test.true gives_then c.next_at-then.ensures in
    let so_far = rw (step, step_then) at c.loop-place.invariant.so_far in
    let gave = rw (c.ride_between-one.ensures, c.ride_between-other.ensures) at c.given_change-gave.ensures in
    let given = goes_on all all_then _ _ _ _ c.loop-place.total c.given_change-gave.result so_far gave in
    let moves : Change = record { before = c.move_on.result; after = c.move_on-in-loop-place.result } in
    let gone = goes_on all all_then _ _ _ _ _ moves given
    (all_changed _ _ moves c.move_on.ensures
    (subst (λ (shape : HostsShape). c.move_on-in-loop-place.result
    ≡ capped (cost_of shape (move_terms walk.weight two next_then))) hosts c.move_on-in-loop-place.ensures)) in
    rw add-one (record {
      so_far = subst (λ (change : Change). Progressed all all_then
          (cost_of first.hosts (walk_terms first part walk.weight next gives (givens_of (drop (suc place) block))))
          (cost_of first.hosts (walk_terms second part walk.weight next_then gives
          (givens_of (drop (suc place) block)))) change)
          (sym (c.plus-total.ensures ∙ rw c.plus.ensures refl)) gone;
      within = let inside = c.loop-place-test.true in omega arith;
    })

pub returns-then-is_same_spot : goal.returns-then-is_same_spot
returns-then-is_same_spot c =
    let first = seated_shape c.args.before.now in
    let second = seated_shape c.args.after.now in
    let part : Option StmtId = Some c.args.statement in
    let walk = c.args.walk.now in
    let block = walk.block.now in
    let rest = drop c.loop-place.place block in
    let left = gives_behind first.needs part None (givens_of block) c.loop-place.place in
    let quiet = quiet_moved first second.plan c.args.statement c.requires.moved.stay in
    let Same : PlannedShape → Type 0 = λ shape.
    cost_of first.hosts (walk_terms first part walk.weight c.loop-place.first left (givens_of rest))
    ≡ cost_of first.hosts (walk_terms shape part walk.weight c.loop-place.second left (givens_of rest)) in
    ended _ _ _ _ c.loop-place.total c.loop-place.invariant.so_far
    (subst Same (sym c.requires.moved.same)
    (joined first second.plan part walk.weight c.loop-place.first c.loop-place.second left rest quiet
    (gives_stay first second.plan part None (givens_of block) c.loop-place.place quiet tt)
    (same_later first second.plan block c.args.same_from c.loop-place.place c.if-place-same_from.true c.requires.rest)
    (c.is_same_spot.ensures.0 c.if-is_same_spot.true)))

pub returns : goal.returns
returns c =
    let first = seated_shape c.args.before.now in
    let second = seated_shape c.args.after.now in
    let part : Option StmtId = Some c.args.statement in
    let walk = c.args.walk.now in
    let block = walk.block.now in
    let left_at : ℕ → Option VarId = λ count. gives_behind first.needs part None (givens_of block) count in
    let left = left_at c.loop-place.place in
    let one = c.loop-place.first in
    let two = c.loop-place.second in
    let rest = drop c.loop-place.place block in
    let done = drop_all c.loop-place.place block c.loop-place-test.false in
    let hosts : second.hosts ≡ first.hosts = ap (λ (shape : PlannedShape). shape.hosts) c.requires.moved.same in
    let all = cost_of first.hosts
    (walk_terms first part walk.weight c.args.start.spot (left_at c.args.start.place)
    (givens_of (drop c.args.start.place block))) in
    let all_then = cost_of first.hosts
    (walk_terms second part walk.weight c.args.spot (left_at c.args.start.place)
    (givens_of (drop c.args.start.place block))) in
    let last = walk_last first first.hosts part walk.weight one left rest done in
    let last_then = walk_last second first.hosts part walk.weight two left rest done in
    let so_far = rw (last, last_then) at c.loop-place.invariant.so_far in
    let at_end : length block ≡ c.loop-place.place =
    let most = c.loop-place.invariant.within in
    let past = c.loop-place-test.false in
    omega arith in
    let gave = subst (λ (count : ℕ). IsChange
    (cost_of first.hosts (given_terms first walk.weight one.host (left_at count) None))
    (cost_of first.hosts (given_terms second walk.weight two.host (left_at count) None)) c.given_change-gave-2.result)
    at_end (rw (c.no_ride-one.ensures, c.no_ride-other.ensures) at c.given_change-gave-2.ensures) in
    let given = goes_on all all_then _ _ _ _ c.loop-place.total c.given_change-gave-2.result so_far gave in
    let left_all = goes_on all all_then _ _ 0 0 _ (record { before = c.leave.result; after = c.leave-2.result }) given
    (all_changed _ _ (record { before = c.leave.result; after = c.leave-2.result }) c.leave.ensures
    (subst (λ (shape : HostsShape). c.leave-2.result ≡ capped (cost_of shape (leave_terms walk.weight two))) hosts
    c.leave-2.ensures)) in
    subst (λ (change : Change). IsChange all all_then change) (sym (c.plus-3.ensures ∙ rw c.plus-2.ensures refl))
    (ended all all_then 0 0 _ left_all refl)
