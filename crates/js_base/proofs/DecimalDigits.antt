-- Numbers that are written in decimal digits, digit by digit.
use Rattle.std.proofs.Common.{◌≡◌, ℕ, ◌+◌, ◌-◌, ◌*◌, ◌<◌, ◌≤◌, get_or, true, List, length, take, sym, ◌∙◌, arith}
use Rattle.std.specs.List.{list_all}
use Rattle.std.specs.Char.{is_ascii_digit}
use Rattle.std.specs.Int.{is_in_range}
use Rattle.std.specs.Str.Parse.{digits_value}
use Rattle.std.proofs.lemmas.Bool.{true_from_ne_false, false≢true}
use Rattle.std.proofs.lemmas.Bool.Decides.{nat_tests}
use Rattle.std.proofs.lemmas.Int.Digits.{digits_value_more}
use Rattle.std.proofs.lemmas.List.Folds.{list_all_at}
use Rattle.std.proofs.lemmas.Str.{digit_value_digit}
use Rattle.std.proofs.lemmas.Str.Parse.{digits_value-take-le}

in_range : (low high c : ℕ) → is_in_range low high c ≡ true → (low ≤ c) × (c ≤ high)
in_range low high c e = grind (arith, nat_tests)

digit_at : (digits : List ℕ) (i : ℕ) → list_all is_ascii_digit digits ≡ true → i < length digits →
    is_ascii_digit (get_or digits i 0) ≡ true
digit_at digits i all lt =
    true_from_ne_false _ (λ no. false≢true (sym (list_all_at is_ascii_digit digits i 0 lt no) ∙ all))

-- what one more digit makes of the number
pub digits_value-next : (digits : List ℕ) (i value : ℕ) → list_all is_ascii_digit digits ≡ true →
    i < length digits → value ≡ digits_value 10 (take i digits) →
    digits_value 10 (take (i + 1) digits) ≡ value * 10 + (get_or digits i 0 - 48)
digits_value-next digits i value all lt e =
    let range = in_range 48 57 (get_or digits i 0) (digit_at digits i all lt) in
    let digit = digit_value_digit (get_or digits i 0) range in
    let more = digits_value_more 10 digits i lt in
    omega arith

-- and it is no more than that of all digits
pub digits_value-at_least : (digits : List ℕ) (i value : ℕ) → list_all is_ascii_digit digits ≡ true →
    i < length digits → value ≡ digits_value 10 (take i digits) →
    value * 10 + (get_or digits i 0 - 48) ≤ digits_value 10 digits
digits_value-at_least digits i value all lt e =
    omega (arith, digits_value-next digits i value all lt e, digits_value-take-le 10 digits (i + 1) (omega arith))
