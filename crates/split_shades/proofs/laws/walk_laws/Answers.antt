use Rattle.split_shades.proofs.ShadedPrograms.{program_shaded}
use Rattle.split_shades.proofs.laws.walk_laws.Goals as goal

pub returns : goal.returns
returns c = record { shaded = program_shaded }
