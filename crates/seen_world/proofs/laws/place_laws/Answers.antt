use Rattle.seen_world.proofs.SeenPlaces.{block_seen, block_under, entry_seen, own_entry, own_field, named_open}
use Rattle.seen_world.proofs.laws.place_laws.Goals as goal

pub returns : goal.returns
returns c = record {
  block = block_seen;
  level = block_under;
  entries = entry_seen;
  own_entries = own_entry;
  own_fields = own_field;
  named = named_open;
}
