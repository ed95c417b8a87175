use Rattle.wire_msg.proofs.FaultLaws.{cause_in}
use Rattle.wire_msg.proofs.FrameLaws.{found_in, only_in}
use Rattle.wire_msg.proofs.reading.read.Goals as goal

pub returns-clause-found : goal.returns-clause-found
returns-clause-found c =
    found_in c.args.bytes.now c.frame_of.result (λ i. (c.type_inv.bytes i).fits) c.frame_of.ensures

pub returns-clause-only : goal.returns-clause-only
returns-clause-only c = only_in c.args.bytes.now c.frame_of.result c.frame_of.ensures

pub returns-clause-cause : goal.returns-clause-cause
returns-clause-cause c = cause_in c.args.bytes.now c.frame_of.result c.frame_of.ensures
