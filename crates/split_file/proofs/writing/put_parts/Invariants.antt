use Rattle.std.proofs.Common.{◌≡◌, ◌++◌, take}
use Rattle.std.specs.Prelude.{All}
use Rattle.std.specs.List.{flat_map}
use Rattle.split_file.specs.File.{IsRealInstruction}
use Rattle.split_file.specs.Spelling.{part_bytes}
use Rattle.split_file.proofs.writing.put_parts.Given as goal

abbrev pub invariant-loop-host : goal.invariant-loop-host
invariant-loop-host l = record {
  bytes : l.out.items ≡ l.initial.out.items ++ flat_map part_bytes (take l.host l.code.parts);
  real : All (All IsRealInstruction) (take l.host l.code.parts);
}
