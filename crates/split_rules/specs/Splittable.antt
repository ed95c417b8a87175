-- What is asked of a program, its hosts and a plan so that their code is sound. A program that was read, resolved and
-- checked, the hosts of a host file, and a plan of allowed places keep all of it, by the laws of the crates above.
use Rattle.std.specs.Prelude.{◌≡◌, ℕ, ◌<◌, ◌≤◌, All, length}
use Rattle.host_decl.specs.Hosts.{AreHosts}
use Rattle.jif_tree.specs.Numbering.{CountsFrom, site_numbers}
use Rattle.jif_tree.specs.Limits.{IsWithinLimits}
use Rattle.jif_tree.specs.Named.{AreNamed}
use Rattle.jif_tree.specs.WellNumbered.{IsWellNumbered}
use Rattle.host_code.specs.declared.code.TheConstants.{MOST_ITEMS}
use Rattle.need_labels.specs.Plan.{PlanShape}
use Rattle.split_rules.specs.Placed.{PlacedProgram}

-- each place is one of so many hosts
pub record StandsAmong (count : ℕ) (plan : PlanShape) : Type 0 where
  pub fields : All (λ host. host.0 < count) plan.fields
  pub statements : All (λ host. host.0 < count) plan.statements

pub record IsSplittable (placed : PlacedProgram) : Type 0 where
  pub are_hosts : AreHosts placed.hosts
  pub host_names : All (λ host. length host.name ≤ MOST_ITEMS) placed.hosts.hosts
  pub numbered : IsWellNumbered placed.labelled.program
  pub sites : CountsFrom 1 (site_numbers placed.labelled.program)
  pub named : AreNamed placed.labelled.program
  pub within : IsWithinLimits placed.labelled.program
  pub var_labels : length placed.labelled.var_labels ≡ length placed.labelled.program.vars
  pub stands : StandsAmong (length placed.hosts.hosts) placed.plan
