use Rattle.split_rules.proofs.SoundSplit.{split_is_sound}
use Rattle.split_rules.proofs.Settling.{program_settled}
use Rattle.split_rules.proofs.TypedSplit.{split_is_typed}
use Rattle.split_rules.proofs.laws.split_laws.Goals as goal

pub returns : goal.returns
returns c = record { sound = split_is_sound; settled = program_settled; typed = split_is_typed }
