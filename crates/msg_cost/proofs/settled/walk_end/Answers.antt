use Rattle.std.proofs.Common.{List, ◌∙◌, ◌-◌, length, ap, arith}
use Rattle.js_base.specs.declared.ids.StmtId.{StmtId}
use Rattle.msg_cost.specs.Moves.{on, end_host}
use Rattle.msg_cost.specs.Views.{seated_shape}
use Rattle.msg_cost.proofs.SettledSpots.{settled_end}
use Rattle.msg_cost.proofs.Statements.{own_ids}
use Rattle.msg_cost.proofs.settled.walk_end.Goals as goal

pub returns-in-Some : goal.returns-in-Some
returns-in-Some c =
    c.end.ensures
    ∙ settled_end (seated_shape c.args.planned.now) c.args.home c.args.block.now (length c.args.block.now - 1)
    c.in-Some.spot (omega arith) c.in-Some.ensures

pub returns : goal.returns
returns c =
    c.block_end.ensures
    ∙ ap (λ (ids : List StmtId). end_host (seated_shape c.args.planned.now) (on c.args.home) ids)
    (own_ids c.args.block.now)
