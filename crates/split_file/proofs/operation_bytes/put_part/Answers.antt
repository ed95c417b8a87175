use Rattle.std.proofs.Common.{arith}
use Rattle.split_file.specs.File.{IsRealInstruction}
use Rattle.split_file.specs.Spelling.{instruction_bytes}
use Rattle.split_file.proofs.Appends.{item_more}
use Rattle.split_file.proofs.operation_bytes.put_part.Goals as goal

pub loop-instruction-preserved : goal.loop-instruction-preserved
loop-instruction-preserved c =
    item_more instruction_bytes IsRealInstruction c.args.part.now c.loop-instruction.instruction-index
    c.instruction-item.result _ _ _ (omega arith) c.instruction-item.is
    c.loop-instruction.invariant c.in_ok-put_instruction.ensures.bytes c.in_ok-put_instruction.ensures.real
