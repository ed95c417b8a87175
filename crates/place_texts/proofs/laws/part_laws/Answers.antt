use Rattle.place_texts.proofs.PartReasons.{all_within, fields_same, meant_within, statements_same, unheld_within}
use Rattle.place_texts.proofs.laws.part_laws.Goals as goal

pub returns : goal.returns
returns c = record {
  fields = fields_same;
  statements = statements_same;
  all = all_within;
  meant = meant_within;
  unheld = unheld_within;
}
