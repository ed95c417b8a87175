use Rattle.std.proofs.Common.{◌≡◌, ◌*◌, ◌++◌, length, take, drop}
use Rattle.host_decl.specs.Draft.{hex_bytes}
use Rattle.host_decl.proofs.key.key_of_digits.Given as goal

abbrev pub invariant-loop-place : goal.invariant-loop-place
invariant-loop-place l =
    (length l.key ≡ 32) × (take l.place l.key ++ hex_bytes (drop (2 * l.place) l.digits) ≡ hex_bytes l.digits)
