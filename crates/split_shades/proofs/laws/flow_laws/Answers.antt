use Rattle.split_shades.proofs.FlowingPrograms.{program_flows}
use Rattle.split_shades.proofs.laws.flow_laws.Goals as goal

pub returns : goal.returns
returns c = record { flows = program_flows }
