use Rattle.std.proofs.Common.{◌≤◌, ◌∙◌, ◌+◌, length, List, ap, arith}
use Rattle.js_base.specs.declared.ids.StmtId.{StmtId}
use Rattle.split_rules.specs.Walk.{need_of, under_token}
use Rattle.control_split.specs.Views.{planned_in}
use Rattle.control_split.proofs.AheadOf.{noted_behind, others_behind}
use Rattle.control_split.proofs.needs.left_behind.Goals as goal

pub under_token-requires : goal.under_token-requires
under_token-requires c =
    let within : c.args.place + 1 ≤ length c.args.block.now = omega (arith, c.requires.within) in
    noted_behind (planned_in c.args.split.now) c.args.block.now c.args.needs.now (c.args.place + 1) _ within
    c.requires.needs

pub returns : goal.returns
returns c = λ statement others here.
    let planned = planned_in c.args.split.now in
    c.under_token.ensures
    ∙ ap (λ (left : List StmtId). need_of planned (under_token planned c.args.spot left))
    (others_behind c.args.block.now c.args.place statement others c.requires.within here)
