use Rattle.std.proofs.Common.{◌∙◌, List, ap, sym, add-one}
use Rattle.std.proofs.lemmas.List.{drop_all}
use Rattle.js_base.specs.declared.ids.StmtId.{StmtId}
use Rattle.jif_tree.specs.declared.program.Stmt.{Stmt}
use Rattle.msg_cost.specs.Moves.{on, end_host}
use Rattle.msg_cost.specs.Views.{seated_shape, ids_of}
use Rattle.msg_cost.proofs.Between.{walked}
use Rattle.msg_cost.proofs.Statements.{own_ids}
use Rattle.msg_cost.proofs.tokens.block_end.Goals as goal

pub loop-place-preserved : goal.loop-place-preserved
loop-place-preserved c =
    let planned = seated_shape c.args.planned.now in
    rw add-one (
      c.loop-place.invariant.0
          ∙ walked planned c.args.block.now c.loop-place.place c.loop-place.spot c.next_spot-spot.result
          c.loop-place-test.true c.next_spot-spot.ensures.result,
      rw add-one at c.next_spot-spot.ensures.right,
    )

pub returns : goal.returns
returns c =
    let planned = seated_shape c.args.planned.now in
    c.end.ensures
    ∙ sym (ap (λ (ids : List StmtId). end_host planned (on c.args.home) ids) (own_ids c.args.block.now)
    ∙ c.loop-place.invariant.0
    ∙ ap (λ (left : List Stmt). end_host planned c.loop-place.spot (ids_of left))
    (drop_all c.loop-place.place c.args.block.now c.loop-place-test.false))
