-- The bytes that hexadecimal digits write.
use Rattle.std.proofs.Common.{◌≡◌, ℕ, ◌+◌, ◌*◌, ◌<◌, List, ◌∷◌, ◌++◌, length, get_or, take, drop, set, IsTrue, refl}
use Rattle.std.proofs.Common.{sym, ap, ◌∙◌, arith, append_assoc}
use Rattle.std.proofs.lemmas.Bool.Decides.{nat_tests}
use Rattle.std.proofs.lemmas.List.{drop_more, take_more_set}
use Rattle.std.specs.Char.{digit_value}
use Rattle.host_decl.specs.Schema.{is_key}
use Rattle.host_decl.specs.Draft.{hex_bytes}

pub key_length : (text : List ℕ) → IsTrue (is_key text) → length text ≡ 64
key_length text is = grind (arith, nat_tests)

two_more : (digits : List ℕ) (place : ℕ) → place + 1 < length digits
    → hex_bytes (drop place digits) ≡
    (digit_value (get_or digits place 0) * 16 + digit_value (get_or digits (place + 1) 0)) ∷ hex_bytes
    (drop (place + 1 + 1) digits)
two_more digits place within = rw (drop_more digits place 0 (omega arith), drop_more digits (place + 1) 0 within) refl

-- a turn of the loop over the bytes of a key
pub byte_more : (digits key : List ℕ) (place byte : ℕ) → place < length key → 2 * place + 1 < length digits
    → byte ≡ digit_value (get_or digits (2 * place) 0) * 16 + digit_value (get_or digits (2 * place + 1) 0)
    → take place key ++ hex_bytes (drop (2 * place) digits) ≡ hex_bytes digits
    → take (place + 1) (set key place byte) ++ hex_bytes (drop (2 * (place + 1)) digits) ≡ hex_bytes digits
byte_more digits key place byte within also is before =
    let places : 2 * place + 1 + 1 ≡ 2 * (place + 1) = omega arith in
    let turn : hex_bytes (drop (2 * place) digits) ≡ byte ∷ hex_bytes (drop (2 * (place + 1)) digits) =
    rw (is, ← places) (two_more digits (2 * place) also) in
    rw (take_more_set key place byte within, append_assoc) (ap (λ bytes. take place key ++ bytes) (sym turn) ∙ before)
