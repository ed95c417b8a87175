use Rattle.std.proofs.Common.{◌≡◌, take}
use Rattle.std.specs.List.{flat_map}
use Rattle.std.specs.String.{string_bytes}
use Rattle.text_places.specs.Excerpts.{below_byte}
use Rattle.text_places.proofs.excerpts.below.Given as goal

abbrev pub invariant-loop-byte : goal.invariant-loop-byte
invariant-loop-byte l = string_bytes l.below ≡ flat_map below_byte (take l.byte-index l.bytes)
