use Rattle.std.proofs.Common.{add-one}
use Rattle.split_rules.proofs.ToldRows.{instructions_more, instructions_all}
use Rattle.split_rules.proofs.releases.host_rows.Goals as goal

pub loop-instruction-preserved : goal.loop-instruction-preserved
loop-instruction-preserved c =
    rw add-one (instructions_more _ _ _ _ _ _ _ c.args.part.now c.loop-instruction.instruction-index
    c.instruction-item.result c.loop-instruction-test.true c.instruction-item.is c.in_ok-push.ensures.items
    c.in_ok-row_of.ensures.row c.in_ok-row_of.ensures.left c.loop-instruction.invariant)

pub returns : goal.returns
returns c =
    instructions_all _ _ _ _ c.args.part.now c.loop-instruction.instruction-index c.loop-instruction-test.false
    c.loop-instruction.invariant
