use Rattle.std.proofs.Common.{◌≡◌, [], take}
use Rattle.text_places.specs.Excerpts.{front_from}
use Rattle.text_places.proofs.excerpts.line_front.Given as goal

-- the line so far is that of the bytes so far
abbrev pub invariant-loop-byte : goal.invariant-loop-byte
invariant-loop-byte l = l.line.items ≡ front_from [] (take l.byte-index l.front)
