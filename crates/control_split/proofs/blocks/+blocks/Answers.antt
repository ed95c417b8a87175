use Rattle.std.proofs.Common.{◌≡◌, ◌∙◌, suc, List, ◌∷◌, Option, drop, ap, sym, subst}
use Rattle.std.proofs.Common.{◌+◌, OnOk, refl, add-one, arith}
use Rattle.js_base.specs.declared.ids.HostId.{HostId}
use Rattle.std.proofs.lemmas.List.{drop-map}
use Rattle.js_base.proofs.Lists.{next_of}
use Rattle.jif_tree.specs.declared.program.Stmt.{Stmt}
use Rattle.jif_tree.specs.declared.program.StmtKind.{StmtKind}
use Rattle.jif_tree.specs.Trees.{BlockTree, done, expr_tree, statement_tree, block_tree, tree_before, head_of}
use Rattle.jif_tree.proofs.StatementCounts.{part_counts, body_counts, both_counts}
use Rattle.msg_cost.proofs.Spots.{next_host}
use Rattle.msg_cost.specs.declared.spot.Spot.{Spot}
use Rattle.msg_cost.specs.Kept.{AreTrustedTo}
use Rattle.msg_cost.specs.Moves.{PlannedShape, next_spot, straight_to, carried_to}
use Rattle.msg_cost.specs.Views.{ids_of}
use Rattle.split_rules.specs.Walk.{Lane, lane_on, lane_at, with_riding, under_token, block_emissions}
use Rattle.control_split.specs.Ahead.{IsAhead}
use Rattle.control_split.specs.Own.{own_emissions}
use Rattle.control_split.specs.Places.{around_at, heading_at}
use Rattle.control_split.specs.Trace.{traced}
use Rattle.control_split.specs.Views.{walked_of, around_of, lane_of, riding_of}
use Rattle.control_split.proofs.Nesting.{branch_front_traced, branch_traced, loop_front_traced, loop_traced}
use Rattle.control_split.proofs.SizedBlocks.{sized_part, sized_guard, sized_first, sized_second, sized_loop_guard}
use Rattle.control_split.proofs.SizedBlocks.{sized_body, sized_args}
use Rattle.control_split.proofs.Stepping.{lane_spot, one_walked}
use Rattle.control_split.proofs.blocks.+blocks.Goals as goal

pub block-loop-place-preserved : goal.block-loop-place-preserved
block-loop-place-preserved t c =
    let walked = walked_of c.args.walk.now in
    let around = around_of c.args.around.now in
    let first = c.index-block-place.result in
    let rest = drop (suc c.loop-place.place) c.args.block.now in
    let next = c.loop-place.next in
    let lane = lane_of c.loop-place.lane in
    let left = next_of c.args.block.now c.loop-place.place first c.loop-place-test.true c.index-block-place.is in
    let ids = ap ids_of left in
    let spot = c.loop-place.invariant.2 first.id (ids_of rest) ids in
    let N : PlannedShape → Type 0 = λ planned.
    AreTrustedTo planned c.args.block.now (c.loop-place.place + 1 + 1) c.spot_at-behind.new.noted in
    let on = ap (λ (there : Spot). there.host) spot ∙ next_host walked.planned lane.spot first.id (ids_of rest) in
    let A : HostId → Type 0 = λ host. IsAhead walked.planned host (first.id ∷ ids_of rest) c.ahead_at-ahead.result in
    let ahead = subst A (sym on) (c.ahead_at-ahead.ensures first.id (ids_of rest) ids) in
    let moved = c.in_ok-lane.ensures.trace walked (first.id ∷ ids_of rest) ahead in
    let C : PlannedShape → Type 0 = λ planned. straight_to next c.spot_at-behind.result
    ≡ carried_to planned next (drop (c.loop-place.place + 1) (ids_of c.args.block.now)) in
    let carried : c.straight_to-carried.result ≡ carried_to walked.planned next (ids_of rest) =
    c.straight_to-carried.ensures ∙ subst C c.planned-planned.ensures c.spot_at-behind.ensures.carried
    ∙ ap (λ place. carried_to walked.planned next (drop place (ids_of c.args.block.now))) (add-one c.loop-place.place)
    ∙ ap (carried_to walked.planned next)
    (drop-map (λ (one : Stmt). one.id) (suc c.loop-place.place) c.args.block.now) in
    let own = c.in_ok-statement.ensures (under_token walked.planned next (ids_of rest))
    (c.left_behind-left.ensures first.id (ids_of rest) ids) in
    let O : Option HostId → Type 0 = λ to. c.statement.new.trace ≡ traced c.move_on.new.trace
    (own_emissions walked around
    c.move_on.new.trace.counts next.host (under_token walked.planned next (ids_of rest)) to (tree_before first done)) in
    let there = ap (λ one. with_riding one (riding_of c.rides_behind-lane.result)) c.in_ok-lane.ensures.lane
    ∙ ap (with_riding (lane_at c.loop-place.trace.counts lane next)) (c.rides_behind-lane.ensures (ids_of rest) carried)
    in
    let at : c.in_ok-lane.lane.spot ≡ next = ap (λ (one : Lane). one.spot) c.in_ok-lane.ensures.lane
    ∙ ap (λ it. (lane_at c.loop-place.trace.counts lane it).spot) spot
    ∙ lane_spot walked.planned c.loop-place.trace.counts lane first.id (ids_of rest) ∙ sym spot in
    let start = traced c.args.trace.now
    (block_emissions walked around c.args.trace.now.counts (lane_on c.args.home) (block_tree c.args.block.now)) in
    let P : List Stmt → Type 0 = λ statements. traced c.loop-place.trace
    (block_emissions walked around c.loop-place.trace.counts lane (block_tree statements)) ≡ start in (
      rw add-one (one_walked walked around start c.loop-place.trace c.move_on.new.trace c.statement.new.trace lane
          _ next first rest spot moved there (subst O carried own) (subst P left c.loop-place.invariant.0)),
      subst N c.planned-planned.ensures c.spot_at-behind.ensures.noted,
      λ statement others is.
          let F : PlannedShape → Type 0 = λ planned.
          c.spot_at-behind.result ≡ next_spot planned next statement others in
          subst F c.planned-planned.ensures (c.spot_at-behind.ensures.next statement others is)
          ∙ ap (λ it. next_spot walked.planned it statement others) (sym at),
    )

pub block-statement-requires : goal.block-statement-requires
block-statement-requires t c =
    let less = part_counts c.args.block.now c.loop-place.place c.index-block-place.result c.loop-place-test.true
    c.index-block-place.is in (
      omega (arith, c.decreases),
      sized_part c.args.block.now c.loop-place.place c.index-block-place.result c.loop-place-test.true
          c.index-block-place.is c.requires,
    )

pub branch-returns : goal.branch-returns
branch-returns t c others left =
    let walked = walked_of c.args.walk.now in
    let place = c.args.place.now in
    let around = around_at place in
    let guard = expr_tree c.args.guard.now in
    let start = c.args.trace.now in
    let named = rw (c.guarded-pc.ensures, left) at c.in_ok-entry.ensures in
    let pushed = rw c.entries-join.ensures at c.in_ok-instruction.ensures in
    let branched = rw (c.in_ok-nodes.ensures.value, c.branches-number.ensures) at c.in_ok-instruction-2.ensures in
    let front = branch_front_traced walked around place.host others place.statement guard start c.entry.new.self
    c.instruction.new.self c.value.new.trace c.instruction-2.new.self named pushed c.in_ok-nodes.ensures.trace
    branched in
    let one = rw c.guarded-pc.ensures at c.in_ok-block.ensures in
    let landed = rw (c.branches-number.ensures ∙ front.1) at c.in_ok-lands.ensures in
    let two = rw c.guarded-pc.ensures at c.in_ok-block-2.ensures in
    let stood = rw c.entries-join.ensures at c.in_ok-stands.ensures in
    branch_traced walked around place.host others (heading_at place) guard (block_tree c.args.yes.now)
    (block_tree c.args.no.now) start c.instruction-2.new.self c.block.new.trace c.lands.new.self c.block-2.new.trace
    c.stands.new.self front.0 one landed two stood

pub repeat-returns : goal.repeat-returns
repeat-returns t c others need =
    let walked = walked_of c.args.walk.now in
    let place = c.args.place.now in
    let around = around_at place in
    let guard = expr_tree c.args.guard.now in
    let start = c.args.trace.now in
    let here = c.place_on-here.ensures in
    let named = rw (c.guarded-pc.ensures, need) at c.in_ok-entry.ensures in
    let stood = rw c.entries-head.ensures at c.in_ok-stands.ensures in
    let reading = rw (here.host, here.label, here.statement, c.guarded-pc.ensures) at c.in_ok-nodes.ensures.trace in
    let branched = rw (
      c.in_ok-nodes.ensures.value,
      c.branches-number.ensures,
      here.host,
      here.label,
      here.statement,
      c.guarded-pc.ensures,
    ) at c.in_ok-instruction.ensures in
    let pushed = rw (c.entries-head.ensures, here.host, here.label, here.statement, c.guarded-pc.ensures)
    at c.in_ok-instruction-2.ensures in
    let front = loop_front_traced walked around place.host others place.statement guard start c.entry.new.self
    c.stands.new.self c.value.new.trace c.instruction.new.self c.instruction-2.new.self named stood reading branched
    pushed in
    let one = rw c.guarded-pc.ensures at c.in_ok-block.ensures in
    let landed = rw (c.branches-number.ensures ∙ front.1) at c.in_ok-lands.ensures in
    loop_traced walked around place.host others (heading_at place) guard (block_tree c.args.body.now) start
    c.instruction-2.new.self c.block.new.trace c.lands.new.self front.0 one landed

-- ---- statements

pub statement-branch-walk-requires : goal.statement-branch-walk-requires
statement-branch-walk-requires t c =
    let heading = head_of c.args.statement.now in
    let tree = tree_before c.args.statement.now done in
    let first = block_tree c.in-If.yes.items in
    let second = block_tree c.in-If.no.items in
    let guard = expr_tree c.in-If.guard in
    let tree_is = ap (λ (what : StmtKind). statement_tree what heading done) c.in-If.is
    ∙ c.tree_laws.ensures.branches c.in-If.guard c.in-If.yes c.in-If.no heading done in
    let less = both_counts heading first second tree tree_is in
    rw (c.deref.ensures.value, c.deref-in-If.ensures.value) (
      omega (arith, c.decreases, less),
      (
        sized_guard heading guard first second tree tree_is c.requires,
        (
          sized_first heading guard first second tree tree_is c.requires,
          sized_second heading guard first second tree tree_is c.requires,
        ),
      ),
    )

pub statement-repeat-requires : goal.statement-repeat-requires
statement-repeat-requires t c =
    let heading = head_of c.args.statement.now in
    let tree = tree_before c.args.statement.now done in
    let body = block_tree c.in-While.body.items in
    let guard = expr_tree c.in-While.guard in
    let tree_is = ap (λ (what : StmtKind). statement_tree what heading done) c.in-While.is
    ∙ c.tree_laws.ensures.loops c.in-While.guard c.in-While.body heading done in
    let less = body_counts heading body tree tree_is in
    rw c.deref-in-While.ensures.value (
      omega (arith, c.decreases, less),
      (
        sized_loop_guard heading guard body tree tree_is c.requires,
        sized_body heading guard body tree tree_is c.requires,
      ),
    )

pub statement-call-requires : goal.statement-call-requires
statement-call-requires t c =
    let heading = head_of c.args.statement.now in
    let tree_is = ap (λ (what : StmtKind). statement_tree what heading done) c.in-Call.is in
    rw c.deref-in-Call.ensures.value
    (sized_args (tree_before c.args.statement.now done) c.in-Call.args.items tree_is c.requires)

pub statement-returns-in-If : goal.statement-returns-in-If
statement-returns-in-If t c others left =
    let heading = head_of c.args.statement.now in
    let tree_is = ap (λ (what : StmtKind). statement_tree what heading done) c.in-If.is
    ∙ c.tree_laws.ensures.branches c.in-If.guard c.in-If.yes c.in-If.no heading done in
    let P : BlockTree → Type 0 = λ tree. OnOk c.branch-walk.result (c.branch-walk.new.trace
    ≡ traced c.args.trace.now (own_emissions (walked_of c.args.walk.now) (around_of c.args.around.now)
    c.args.trace.now.counts c.args.host others c.args.carried tree)) in
    subst P (sym tree_is)
    (rw (c.deref.ensures.value, c.deref-in-If.ensures.value) at (c.branch-walk.ensures others left))

pub statement-returns-in-While : goal.statement-returns-in-While
statement-returns-in-While t c others left =
    let heading = head_of c.args.statement.now in
    let tree_is = ap (λ (what : StmtKind). statement_tree what heading done) c.in-While.is
    ∙ c.tree_laws.ensures.loops c.in-While.guard c.in-While.body heading done in
    let P : BlockTree → Type 0 = λ tree. OnOk c.repeat.result (c.repeat.new.trace
    ≡ traced c.args.trace.now (own_emissions (walked_of c.args.walk.now) (around_of c.args.around.now)
    c.args.trace.now.counts c.args.host others c.args.carried tree)) in
    subst P (sym tree_is)
    (rw c.deref-in-While.ensures.value at (c.repeat.ensures others (rw (c.need_of.ensures, left) refl)))
