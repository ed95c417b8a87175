use Rattle.jif_resolve.proofs.Authorities.{authorities}
use Rattle.jif_resolve.proofs.OneProgram.{one_program}
use Rattle.jif_resolve.proofs.Numbers.{statements_counted, sites_counted}
use Rattle.jif_resolve.proofs.ParametersInOrder.{params_rise}
use Rattle.jif_resolve.proofs.WellNumbered.{well_numbered}
use Rattle.jif_resolve.proofs.laws.program_laws.Goals as goal

pub returns : goal.returns
returns c = record {
  one_program = one_program;
  statements = statements_counted;
  sites = sites_counted;
  well_numbered = well_numbered;
  authorities = authorities;
  parameters = params_rise;
}
