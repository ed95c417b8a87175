use Rattle.std.proofs.Common.{◌≡◌, ◌-◌, ◌≤◌, [], length}
use Rattle.host_code.specs.CodeParts.{shape_of}
use Rattle.host_code.specs.Sound.{temporaries_at}
use Rattle.byte_format.specs.Reader.{items_at}
use Rattle.split_file.specs.Reading.{next_instruction_at}
use Rattle.split_file.proofs.instructions.instructions_of.Given as goal

abbrev pub invariant-loop-number : goal.invariant-loop-number
invariant-loop-number l = record {
  read : items_at (next_instruction_at l.version (shape_of l.code) l.me l.places) l.instructions.items
      (l.places - l.number) l.rest
      ≡ items_at (next_instruction_at l.version (shape_of l.code) l.me l.places) [] l.places l.bytes;
  count : length l.instructions.items ≡ l.number;
  temporaries : l.temporaries ≡ temporaries_at l.code.entries.items l.me l.instructions.items l.number;
  few : l.temporaries ≤ l.number;
}
