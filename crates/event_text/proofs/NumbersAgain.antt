-- A number that is printed is read as that number.
use Rattle.std.proofs.Common.{◌≡◌, ◌<◌, ◌-◌, ◌^◌, ◌==◌, ◌||◌, ◌&&◌, not, ℕ, zero, suc, ℤ, pos, negsuc}
use Rattle.std.proofs.Common.{true, false, List, [], ◌∷◌, length, Some, refl, ap, ◌∙◌}
use Rattle.std.proofs.Common.{arith}
use Rattle.std.specs.Prelude.{FitsSigned, nat_lt, nat_le, slice_index}
use Rattle.std.specs.Char.{is_ascii_digit}
use Rattle.std.specs.Fmt.{decimal, signed_decimal}
use Rattle.std.specs.Int.{w64}
use Rattle.std.specs.List.{list_all}
use Rattle.std.specs.Str.Parse.{AllDigits, digits_value}
use Rattle.std.proofs.lemmas.Bool.{and_from}
use Rattle.std.proofs.lemmas.Bool.Decides.{nat_tests}
use Rattle.std.proofs.lemmas.Fmt.{decimal_is_IsNumeral, first_decimal, decimal_digit}
use Rattle.std.proofs.lemmas.Str.Parse.{digit_from_value}
use Rattle.event_text.specs.Numbers.{is_plain_number, number_of, not_below_zero, below_zero, signed_of}

pub all_digits : (text : List ℕ) → AllDigits 10 text → list_all is_ascii_digit text ≡ true
all_digits [] all = refl
all_digits (byte ∷ text) all =
    let here = digit_from_value byte all.0 in
    and_from (is_ascii_digit byte) (list_all is_ascii_digit text) (grind (arith, nat_tests)) (all_digits text all.1)

plain_front : (text : List ℕ) → 0 < length text → AllDigits 10 text →
    (not (length text == 0) && list_all is_ascii_digit text) ≡ true
plain_front text some all =
    and_from (not (length text == 0)) (list_all is_ascii_digit text) (grind (arith, nat_tests)) (all_digits text all)

plain_again : (n : ℕ) → n < 2 ^ 64 → is_plain_number (decimal n) ≡ true
plain_again zero small = rw (decimal_digit 0 (omega arith)) refl
plain_again (suc n) small =
    let numeral = (decimal_is_IsNumeral (suc n) small).0 in
    let first = first_decimal (suc n) (omega arith) small in
    let lead : (length (decimal (suc n)) == 1 || not (slice_index (decimal (suc n)) 0 == 48)) ≡ true =
    grind (arith, nat_tests) in
    and_from (not (length (decimal (suc n)) == 0) && list_all is_ascii_digit (decimal (suc n)))
    (length (decimal (suc n)) == 1 || not (slice_index (decimal (suc n)) 0 == 48))
    (plain_front (decimal (suc n)) numeral.0 numeral.1) lead

pub number_again : (n : ℕ) → n < 2 ^ 64 → number_of (decimal n) ≡ Some n
number_again n small =
    let value : digits_value 10 (decimal n) ≡ n = (decimal_is_IsNumeral n small).1 in
    let fits : nat_lt n (2 ^ 64) ≡ true = grind (arith, nat_tests) in
    rw (plain_again n small, value, fits) refl

-- a number that begins with no sign
no_sign : (text : List ℕ) → 0 < length text → AllDigits 10 text → signed_of text ≡ not_below_zero (number_of text)
no_sign [] some all = absurd (omega arith)
no_sign (byte ∷ text) some all =
    let here = digit_from_value byte all.0 in
    let other : (byte == 45) ≡ false = grind (arith, nat_tests) in
    rw other refl

pub signed_again : (value : ℤ) → FitsSigned w64 value → signed_of (signed_decimal value) ≡ Some value
signed_again (pos n) fits =
    let least : n < 2 ^ 63 = omega (arith, fits.sfits) in
    let small : n < 2 ^ 64 = omega (arith, least) in
    let numeral = (decimal_is_IsNumeral n small).0 in
    let test : nat_lt n (2 ^ 63) ≡ true = grind (arith, nat_tests) in
    no_sign (decimal n) numeral.0 numeral.1 ∙ ap not_below_zero (number_again n small) ∙ rw test refl
signed_again (negsuc n) fits =
    let least : n < 2 ^ 63 = omega (arith, fits.sfits) in
    let small : suc n < 2 ^ 64 = omega (arith, least) in
    let test : nat_le (suc n) (2 ^ 63) ≡ true = grind (arith, nat_tests) in
    let some : nat_lt 0 (suc n) ≡ true = grind (arith, nat_tests) in
    let back : suc n - 1 ≡ n = omega arith in
    ap below_zero (number_again (suc n) small) ∙ rw (some, test, back) refl
