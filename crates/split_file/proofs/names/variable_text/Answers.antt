use Rattle.std.proofs.Common.{arith}
use Rattle.split_file.proofs.VariableNames.{variable_name_IsUtf8}
use Rattle.split_file.proofs.names.variable_text.Goals as goal

pub unwrap-text-requires : goal.unwrap-text-requires
unwrap-text-requires c = let text = variable_name_IsUtf8 c.args.name.now c.requires in grind arith
