use Rattle.std.proofs.Common.{rules, append_assoc}
use Rattle.host_code.proofs.message_texts.rgoto_with_text.Goals as goal

pub returns : goal.returns
returns c = simp append_assoc (search rules)
