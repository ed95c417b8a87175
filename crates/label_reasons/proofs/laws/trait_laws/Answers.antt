use Rattle.label_reasons.proofs.TraitTests.{has_join, fails_flow, flows_else}
use Rattle.label_reasons.proofs.laws.trait_laws.Goals as goal

pub returns : goal.returns
returns c = record {
  has_join = has_join c.label_laws.ensures.join_sets c.text_laws.ensures.trusts;
  fails_flow = fails_flow c.text_laws.ensures.trusts;
  flows_else = flows_else c.text_laws.ensures.trusts;
}
