use Rattle.need_labels.proofs.Backings.{label_backs}
use Rattle.need_labels.proofs.backing.variable_backing.Goals as goal

pub returns-in-Some : goal.returns-in-Some
returns-in-Some c = rw (c.in-Some.is, c.label_of.ensures) (label_backs _ _)
