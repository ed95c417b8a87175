use Rattle.std.proofs.Common.{◌≡◌, ◌∙◌, ◌-◌, ◌<◌, ℕ, suc, length, ap, arith}
use Rattle.std.specs.Prelude.{Some, None}
use Rattle.msg_cost.specs.Pieces.{gives_behind}
use Rattle.msg_cost.specs.PieceViews.{givens_of}
use Rattle.msg_cost.proofs.WalkChanges.{gives_at}
use Rattle.msg_cost.proofs.walk_change.gives_behind.Goals as goal

pub returns : goal.returns
returns c =
    let place = c.args.place - 1 in
    let count : suc place ≡ c.args.place = omega arith in
    let within : place < length c.args.block.now = omega arith in
    c.untouched.ensures
    ∙ gives_at c.args.needs.now (Some c.args.moved) None c.args.block.now place c.index-block-place.result within
    c.index-block-place.is
    ∙ ap (λ (one : ℕ). gives_behind c.args.needs.now (Some c.args.moved) None (givens_of c.args.block.now) one) count
