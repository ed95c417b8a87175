use Rattle.std.proofs.Common.{◌≡◌, ◌-◌, [], length}
use Rattle.host_code.specs.CodeParts.{shape_of}
use Rattle.byte_format.specs.Reader.{items_at}
use Rattle.split_file.specs.Reading.{next_part_at}
use Rattle.split_file.proofs.instructions.parts_of.Given as goal

abbrev pub invariant-loop-host : goal.invariant-loop-host
invariant-loop-host l = record {
  read : items_at (next_part_at l.version (shape_of l.code)) l.parts.items (l.count - l.host) l.rest
      ≡ items_at (next_part_at l.version (shape_of l.code)) [] l.count l.bytes;
  count : length l.parts.items ≡ l.host;
}
