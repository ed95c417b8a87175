-- A program that was read and checked can be split, wherever it stands.
use Rattle.std.proofs.Common.{arith}
use Rattle.host_decl.specs.Hosts.{AreHosts}
use Rattle.need_labels.specs.Needs.{NeedsShape}
use Rattle.need_labels.specs.Plan.{PlanShape}
use Rattle.placement.specs.Placing.{HasHosts}
use Rattle.jif_tree.proofs.VariableCounts.{variable_count}
use Rattle.split_rules.specs.Splittable.{IsSplittable}
use Rattle.front_end.specs.PlacedSources.{labelled_source}
use Rattle.front_end.specs.Sources.{Source}
use Rattle.front_end.specs.ReadPrograms.{AreShort, IsReadProgram}

-- of a program with the labels that the label check finds, its parts are known by its tree
pub splittable : (source : Source) (needs : NeedsShape) (plan : PlanShape) → IsReadProgram source.tree →
    AreHosts source.file → AreShort source.file → HasHosts source.file plan →
    IsSplittable (record { labelled = labelled_source source; needs = needs; hosts = source.file; plan = plan })
splittable source needs plan read are_hosts short has = record {
  are_hosts = are_hosts;
  host_names = λ k d within. let few = short k d within in omega arith;
  numbered = read.numbered;
  sites = read.sites;
  named = read.named;
  within = read.within;
  var_labels = variable_count source.file.principals source.tree;
  stands = record { fields = has.fields; statements = has.statements };
}
