use Rattle.host_decl.proofs.Items.{too_few, too_many}
use Rattle.host_decl.proofs.schema.are_two_texts.Goals as goal

pub returns-in_default : goal.returns-in_default
returns-in_default c = too_few _ c.in_default.len_below

pub returns-in_default-2 : goal.returns-in_default-2
returns-in_default-2 c = too_many _ c.in_default.len_at_least
