-- A number that was read is printed as it was written.
use Rattle.std.proofs.Common.{◌≡◌, ◌<◌, ◌-◌, ◌^◌, ◌==◌, ◌&&◌, ℕ, suc, ℤ, pos, negsuc, true}
use Rattle.std.proofs.Common.{List, [], ◌∷◌, Option, Some, None, refl, ap, sym, ◌∙◌, inl, inr}
use Rattle.std.proofs.Common.{arith}
use Rattle.std.specs.Prelude.{nat_lt, nat_le}
use Rattle.std.specs.List.{list_all}
use Rattle.std.specs.Char.{is_ascii_digit}
use Rattle.std.specs.Fmt.{decimal, signed_decimal}
use Rattle.std.specs.Str.Parse.{digits_value}
use Rattle.std.proofs.lemmas.Bool.{and_parts, and_from}
use Rattle.std.proofs.lemmas.Bool.Decides.{nat_tests}
use Rattle.std.proofs.lemmas.Fmt.{decimal-digits_value}
use Rattle.std.proofs.lemmas.Str.Parse.{IsDigitsTest, numerals_by_value}
use Rattle.event_text.specs.Numbers.{is_plain_number, number_of, not_below_zero, below_zero, signed_of}
use Rattle.event_text.proofs.MadeParts.{either_made}

tells_digits : IsDigitsTest (λ digits. list_all is_ascii_digit digits ≡ true)
tells_digits = record {
  empty = refl;
  parts = λ c cs is. let both = and_parts (is_ascii_digit c) (list_all is_ascii_digit cs) is in
      (grind (arith, nat_tests), both.1);
  more = λ c cs range rest. and_from (is_ascii_digit c) (list_all is_ascii_digit cs) (grind (arith, nat_tests)) rest;
}

-- digits without a leading 0 are what is printed of their value
plain_text : (word : List ℕ) → is_plain_number word ≡ true → digits_value 10 word < 2 ^ 64 →
    decimal (digits_value 10 word) ≡ word
plain_text word plain small =
    let (front, back) = and_parts _ _ plain in
    let (some, digits) = and_parts _ _ front in
    decimal-digits_value (numerals_by_value _ tells_digits) word digits
    (grind (arith, nat_tests)) (λ zero_first. grind (arith, nat_tests)) small

pub number_text : (word : List ℕ) (number : ℕ) → number_of word ≡ Some number → decimal number ≡ word
number_text word number is =
    elim (either_made (is_plain_number word && nat_lt (digits_value 10 word) (2 ^ 64)) _ None number is) [
      | inl (holds, same) ↦
          let (plain, small) = and_parts _ _ holds in
          let value : digits_value 10 word ≡ number = cc in
          ap decimal (sym value) ∙ plain_text word plain (grind (arith, nat_tests))
      | inr (fails, none) ↦ absurd cc
    ]

above_text : (word : List ℕ) (size : Option ℕ) (value : ℤ) → number_of word ≡ size → not_below_zero size ≡ Some value →
    signed_decimal value ≡ word
above_text word None value read is = absurd cc
above_text word (Some size) value read is =
    elim (either_made (nat_lt size (2 ^ 63)) (Some (pos size)) None value is) [
      | inl (holds, same) ↦
          let one : pos size ≡ value = cc in
          ap signed_decimal (sym one) ∙ number_text word size read
      | inr (fails, none) ↦ absurd cc
    ]

below_text : (digits : List ℕ) (size : Option ℕ) (value : ℤ) → number_of digits ≡ size → below_zero size ≡ Some value →
    signed_decimal value ≡ 45 ∷ digits
below_text digits None value read is = absurd cc
below_text digits (Some size) value read is =
    elim (either_made (nat_lt 0 size && nat_le size (2 ^ 63)) (Some (negsuc (size - 1))) None value is) [
      | inl (holds, same) ↦
          let one : negsuc (size - 1) ≡ value = cc in
          let some : suc (size - 1) ≡ size = grind (arith, nat_tests) in
          ap signed_decimal (sym one) ∙ ap (λ n. 45 ∷ decimal n) some ∙ ap (λ ds. 45 ∷ ds)
          (number_text digits size read)
      | inr (fails, none) ↦ absurd cc
    ]

pub signed_text : (word : List ℕ) (value : ℤ) → signed_of word ≡ Some value → signed_decimal value ≡ word
signed_text [] value is = absurd cc
signed_text (byte ∷ digits) value is =
    elim (either_made (byte == 45) _ _ value is) [
      | inl (holds, made) ↦
          let same : 45 ≡ byte = grind (arith, nat_tests) in
          below_text digits (number_of digits) value refl made ∙ ap (λ b. b ∷ digits) same
      | inr (fails, made) ↦ above_text (byte ∷ digits) (number_of (byte ∷ digits)) value refl made
    ]
