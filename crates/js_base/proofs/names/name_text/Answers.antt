use Rattle.std.proofs.Common.{arith}
use Rattle.js_base.proofs.NameTexts.{name_IsUtf8}
use Rattle.js_base.proofs.names.name_text.Goals as goal

pub unwrap-text-requires : goal.unwrap-text-requires
unwrap-text-requires c = let text = name_IsUtf8 c.args.name.now c.requires in grind arith
