-- What has begun, within the limits.
use Rattle.std.proofs.Common.{◌≡◌, ℕ, ◌≤◌, None, arith}
use Rattle.std.proofs.lemmas.Bool.Decides.{nat_tests}
use Rattle.js_base.specs.declared.limits.TheConstants.{NESTING}
use Rattle.jif_grammar.specs.Marks.{Tally}
use Rattle.jif_grammar.specs.Verdicts.{excess}
use Rattle.jif_parse.specs.declared.counts.Counts.{Counts}
use Rattle.jif_parse.specs.Counting.{IsTally}

-- of the nesting nothing is said
pub any_nesting : (counts : Counts) (t : Tally) (nesting : ℕ) → IsTally counts t →
    IsTally counts (record t { nesting = nesting })
any_nesting counts t nesting h = record {
  methods = h.methods;
  statements = h.statements;
  parameters = h.parameters;
  variables = h.variables;
  nodes = h.nodes;
  fields = h.fields;
  elements = h.elements;
  most_methods = h.most_methods;
  most_statements = h.most_statements;
  most_parameters = h.most_parameters;
  most_variables = h.most_variables;
  most_nodes = h.most_nodes;
  most_fields = h.most_fields;
  most_elements = h.most_elements;
  largest = h.largest;
}

pub no_excess : (counts : Counts) (t : Tally) → IsTally counts t → t.nesting ≤ NESTING → excess t ≡ None
no_excess counts t h nested = grind (arith, nat_tests, h)
