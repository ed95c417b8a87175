use Rattle.std.proofs.Common.{◌≡◌, ◌∙◌, ◌||◌, Bool, true, List, [], ap, sym}
use Rattle.std.specs.Prelude.{if◌then◌else◌}
use Rattle.js_base.specs.declared.ids.StmtId.{StmtId}
use Rattle.need_labels.specs.Plan.{statement_host}
use Rattle.msg_cost.specs.Cost.{cost_of}
use Rattle.msg_cost.specs.Pieces.{given_ids, is_moved, touches, carried_at}
use Rattle.msg_cost.specs.PieceViews.{givens_of}
use Rattle.msg_cost.specs.Terms.{forwards}
use Rattle.msg_cost.specs.Views.{seated_shape, capped}
use Rattle.msg_cost.proofs.Statements.{list_ids}
use Rattle.msg_cost.proofs.piece_cost.giving_cost.Goals as goal

pub returns-clause-cost : goal.returns-clause-cost
returns-clause-cost c =
    let planned = seated_shape c.args.planned.now in
    let walk = c.args.walk.now in
    let host = statement_host planned.plan c.args.statement in
    let is : touches planned.needs c.args.moved c.args.statement c.args.variable ≡ true =
    ap (λ (reads : Bool). is_moved c.args.moved c.args.statement || reads)
    (sym c.recent_readers-readers.ensures.readers.moved)
    ∙ sym c.is_touched.ensures ∙ c.if-not-is_touched.false in
    let variable = c.recent_readers-readers.ensures.readers.variable in
    (rw (c.host_of-host.ensures, c.carried_at-carried.ensures, variable) at c.forwards.ensures)
    ∙ ap (λ (ids : List StmtId). capped (cost_of planned.hosts
    (forwards planned walk.weight host c.args.variable (carried_at planned walk.home ids c.args.place))))
    (sym (list_ids walk.block.now))
    ∙ sym (ap (λ (test : Bool). capped (cost_of planned.hosts (if test
    then forwards planned walk.weight host c.args.variable
    (carried_at planned walk.home (given_ids (givens_of walk.block.now)) c.args.place) else []))) is)
