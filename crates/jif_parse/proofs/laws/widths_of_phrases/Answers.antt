use Rattle.jif_parse.proofs.laws.widths_of_phrases.Goals as goal

pub returns : goal.returns
returns c = record {
  label = c.width_laws.ensures.labels;
  expr = c.width_laws.ensures.exprs;
  args = c.width_laws.ensures.args;
  optional_label = c.width_laws.ensures.optional_labels;
  block = c.width_laws.ensures.blocks;
  param = c.width_laws.ensures.one_param;
  params = c.width_laws.ensures.params;
  authority = c.width_laws.ensures.authority;
  head = c.width_laws.ensures.heads;
  item = c.width_laws.ensures.items;
}
