use Rattle.std.proofs.Common.{◌≡◌, Bool, ap, sym, subst}
use Rattle.std.specs.Prelude.{Option, Some}
use Rattle.js_base.specs.declared.ids.StmtId.{StmtId}
use Rattle.msg_cost.specs.declared.walk_change.Change.{Change}
use Rattle.msg_cost.specs.Moves.{PlannedShape}
use Rattle.msg_cost.specs.Pieces.{walk, piece_cost}
use Rattle.msg_cost.specs.PieceViews.{givens_of}
use Rattle.msg_cost.specs.Views.{seated_shape}
use Rattle.msg_cost.specs.Walks.{IsChange}
use Rattle.msg_cost.proofs.Statements.{list_ids}
use Rattle.msg_cost.proofs.WalkChanges.{without_back, with_back}
use Rattle.msg_cost.proofs.walk_change.walk_change.Goals as goal

pub returns-then-not-walk : goal.returns-then-not-walk
returns-then-not-walk c =
    let first = seated_shape c.args.before.now in
    let second = seated_shape c.args.after.now in
    let part : Option StmtId = Some c.args.statement in
    let one = c.args.walk.now in
    let own = givens_of one.block.now in
    let moves = c.moves_change-moves.result in
    let hosts : second.hosts ≡ first.hosts = ap (λ (shape : PlannedShape). shape.hosts) c.requires.moved.same in
    let Changed : Bool → Type 0 = λ nested. IsChange (piece_cost first part (walk one.weight one.home nested own))
    (piece_cost second part (walk one.weight one.home nested own)) moves in
    subst Changed (sym c.if-not-walk.true)
    (without_back first second part one.weight one.home own moves hosts c.moves_change-moves.ensures)

pub returns : goal.returns
returns c =
    let first = seated_shape c.args.before.now in
    let second = seated_shape c.args.after.now in
    let part : Option StmtId = Some c.args.statement in
    let one = c.args.walk.now in
    let own = givens_of one.block.now in
    let hosts : second.hosts ≡ first.hosts = ap (λ (shape : PlannedShape). shape.hosts) c.requires.moved.same in
    let Changed : Bool → Type 0 = λ nested. IsChange (piece_cost first part (walk one.weight one.home nested own))
    (piece_cost second part (walk one.weight one.home nested own)) c.plus.result in
    subst Changed (sym c.if-not-walk.false)
    (with_back first second part one.weight one.home own c.moves_change-moves.result
    (record { before = c.way_back.result; after = c.way_back-2.result }) c.plus.result hosts
    c.moves_change-moves.ensures
    (rw (sym (list_ids one.block.now)) at c.way_back.ensures)
    (rw (sym (list_ids one.block.now)) at c.way_back-2.ensures)
    (ap (λ (change : Change). change.before) c.plus.ensures)
    (ap (λ (change : Change). change.after) c.plus.ensures))
