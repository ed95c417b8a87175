use Rattle.std.proofs.Common.{◌≡◌, map, take}
use Rattle.text_places.specs.Excerpts.{shown_byte}
use Rattle.text_places.proofs.excerpts.shown.Given as goal

abbrev pub invariant-loop-byte : goal.invariant-loop-byte
invariant-loop-byte l = l.safe.items ≡ map shown_byte (take l.byte-index l.bytes)
