use Rattle.jif_grammar.proofs.Widths.{of_names_width, of_part_width, of_label_width, of_optional_label_width}
use Rattle.jif_grammar.proofs.Widths.{of_expr_width, of_args_width, of_block_width, of_param_width, of_params_width}
use Rattle.jif_grammar.proofs.Widths.{of_authority_width, of_head_width, of_item_width}
use Rattle.jif_grammar.proofs.laws.width_laws.Goals as goal

pub returns : goal.returns
returns c = record {
  names = of_names_width;
  parts = of_part_width;
  labels = of_label_width;
  optional_labels = of_optional_label_width;
  exprs = of_expr_width;
  args = of_args_width;
  blocks = of_block_width;
  one_param = of_param_width;
  params = of_params_width;
  authority = of_authority_width;
  heads = of_head_width;
  items = of_item_width;
}
