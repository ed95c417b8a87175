use Rattle.need_labels.proofs.OneNeeds.{needs_once, need_lengths}
use Rattle.need_labels.proofs.Ordered.{uses_ordered, use_numbered}
use Rattle.need_labels.proofs.Readers.{readers_read}
use Rattle.need_labels.proofs.SomeNeeds.{some_needs}
use Rattle.need_labels.proofs.laws.need_laws.Goals as goal

pub returns : goal.returns
returns c = record {
  one_needs = needs_once;
  some_needs = some_needs;
  lengths = need_lengths;
  in_order = uses_ordered;
  by_number = use_numbered;
  readers = readers_read;
}
