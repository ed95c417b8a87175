use Rattle.std.proofs.Common.{arith, refl}
use Rattle.jif_parse.proofs.counts.Counts.none.Goals as goal

pub returns : goal.returns
returns c = record {
  methods = refl;
  statements = refl;
  parameters = refl;
  variables = refl;
  nodes = refl;
  fields = refl;
  elements = refl;
  most_methods = omega arith;
  most_statements = omega arith;
  most_parameters = omega arith;
  most_variables = omega arith;
  most_nodes = omega arith;
  most_fields = omega arith;
  most_elements = omega arith;
  largest = omega arith;
}
