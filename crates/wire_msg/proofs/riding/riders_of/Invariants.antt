use Rattle.std.proofs.Common.{◌≡◌, ◌-◌, [], length}
use Rattle.byte_format.specs.Reader.{items_at}
use Rattle.wire_msg.specs.Reading.{rider_at}
use Rattle.wire_msg.proofs.riding.riders_of.Given as goal

abbrev pub invariant-loop-number : goal.invariant-loop-number
invariant-loop-number l = record {
  read : items_at (λ _. rider_at) l.riders (l.count - l.number) l.rest
      ≡ items_at (λ _. rider_at) [] l.count l.bytes;
  count : length l.riders ≡ l.number;
}
