use Rattle.std.proofs.Common.{take}
use Rattle.split_file.specs.File.{IsRealInstruction}
use Rattle.split_file.specs.Spelling.{instruction_bytes}
use Rattle.split_file.specs.Put.{ArePut}
use Rattle.split_file.proofs.operation_bytes.put_part.Given as goal

abbrev pub invariant-loop-instruction : goal.invariant-loop-instruction
invariant-loop-instruction l =
    ArePut instruction_bytes IsRealInstruction l.initial.out.items (take l.instruction-index l.part) l.out.items
