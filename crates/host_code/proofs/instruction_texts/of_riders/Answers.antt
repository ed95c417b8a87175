use Rattle.std.proofs.Common.{rules, append_assoc}
use Rattle.host_code.proofs.instruction_texts.of_riders.Goals as goal

pub returns : goal.returns
returns c = simp append_assoc (search rules)
