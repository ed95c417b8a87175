use Rattle.std.proofs.Common.{◌-◌, ap, arith}
use Rattle.jif_tree.specs.declared.program.Stmt.{Stmt}
use Rattle.msg_cost.proofs.Ascending.{number_is, one_ascends, more_ascend}
use Rattle.msg_cost.proofs.around.is_ascending.Goals as goal

pub loop-place-init : goal.loop-place-init
loop-place-init c = one_ascends c.args.block.now

pub loop-place-preserved : goal.loop-place-preserved
loop-place-preserved c =
    let block = c.args.block.now in
    let place = c.loop-place.place in
    let read = ap (λ (one : Stmt). one.id.0) c.index-block-place.is in
    let read_before = ap (λ (one : Stmt). one.id.0) c.index-block-place-in-loop-place.is in
    let here = number_is block place c.index-block-place.result c.loop-place-test.true c.index-block-place.is in
    let before = number_is block (place - 1) c.index-block-place-in-loop-place.result (omega arith)
    c.index-block-place-in-loop-place.is in
    more_ascend block place (place - 1) (omega arith) (omega arith) c.loop-place.invariant

pub returns-then-block-place : goal.returns-then-block-place
returns-then-block-place c = (
  λ never. absurd (cc),
  λ ascends.
      let block = c.args.block.now in
      let place = c.loop-place.place in
      let read = ap (λ (one : Stmt). one.id.0) c.index-block-place.is in
      let read_before = ap (λ (one : Stmt). one.id.0) c.index-block-place-in-loop-place.is in
      let here = number_is block place c.index-block-place.result c.loop-place-test.true c.index-block-place.is in
      let before = number_is block (place - 1) c.index-block-place-in-loop-place.result (omega arith)
      c.index-block-place-in-loop-place.is in
      let less = ascends (place - 1) place (omega arith) c.loop-place-test.true in
      absurd (omega arith),
)
