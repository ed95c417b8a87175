-- Numbers of steps, in decimal digits.
use Rattle.std.proofs.Common.{◌≡◌, ◌≢◌, ℕ, zero, suc, ◌<◌, ◌≤◌, ◌^◌, List, length, get_or, sym, ap, ◌∙◌}
use Rattle.std.proofs.Common.{arith, subst, Option, Some, None, Result, Ok, Err}
use Rattle.std.specs.Prelude.{IfNone}
use Rattle.std.specs.Result.{OkIff, result_ok}
use Rattle.std.specs.Fmt.{decimal}
use Rattle.std.specs.Str.Parse.{AllDigits, digits_value, ParsesUnsigned}
use Rattle.std.proofs.lemmas.Str.Parse.{IsNumeralModel, numerals_by_value, tells_digits, parse_plain, digit_at}
use Rattle.std.proofs.lemmas.Fmt.{decimal_nonempty, first_decimal, digits_decimal, decimal-digits_value, parse-decimal}
use Rattle.std.proofs.lemmas.Fmt.{decimal_digit, decimal_injective}
use Rattle.front_end.specs.declared.step_counts.TheConstants.{STEPS}
use Rattle.front_end.specs.StepCounts.{BeginsWithCount, IsStepCount}

pub own : IsNumeralModel (AllDigits 10) (digits_value 10)
own = numerals_by_value (AllDigits 10) tells_digits

pub small : (steps : ℕ) → IsStepCount steps → steps < 2 ^ 64
small steps is = omega (arith, is.most)

-- what writes a number of steps begins with such a digit
pub begins : (steps : ℕ) (word : List ℕ) → IsStepCount steps → word ≡ decimal steps → BeginsWithCount word
begins steps word is same =
    let few = small steps is in
    let first = first_decimal steps (omega (arith, is.least)) few in
    let digit = digit_at (decimal steps) 0 (digits_decimal own steps few) (decimal_nonempty steps few) in
    subst BeginsWithCount (sym same) (record { least = omega (arith, first); most = omega (arith, digit) })

-- a number of steps is written in one way
pub same_steps : (n m : ℕ) → IsStepCount n → IsStepCount m → decimal n ≡ decimal m → n ≡ m
same_steps n m one two same = decimal_injective n m (small n one) (small m two) same

-- a number that was read is written so
pub written : {E : Type 0} (word : List ℕ) (r : Result ℕ E) (steps : ℕ) → ParsesUnsigned 64 10 word r →
    BeginsWithCount word → r ≡ Ok steps → word ≡ decimal steps
written {E} word r steps reads first is =
    let sign : get_or word 0 0 ≢ 43 = omega (arith, first.least) in
    let plain = parse_plain own 64 word r reads sign in
    let at = subst (λ (s : Result ℕ E).
    OkIff s (AllDigits 10 word × (0 < length word) × (digits_value 10 word < 2 ^ 64))
    (digits_value 10 word)) is plain in
    sym (ap decimal at.1 ∙ decimal-digits_value own word at.0.0 at.0.1
    (λ (none : get_or word 0 0 ≡ 48). absurd (omega (arith, first.least, none))) at.0.2)

-- and is not 0
pub positive : (word : List ℕ) (steps : ℕ) → BeginsWithCount word → word ≡ decimal steps → 1 ≤ steps
positive word zero first is =
    let zero_is : get_or word 0 0 ≡ 48 =
    ap (λ (ds : List ℕ). get_or ds 0 0) (is ∙ decimal_digit 0 (omega arith)) in
    absurd (omega (arith, first.least, zero_is))
positive word (suc n) first is = omega arith

-- ---- results

pub ok_from : {E : Type 0} (r : Result ℕ E) (steps : ℕ) → Some steps ≡ result_ok r → r ≡ Ok steps
ok_from (Ok n) steps is = cc
ok_from (Err e) steps is = cc

-- no number of steps was written where none was read
pub none_read : {E : Type 0} (word : List ℕ) (r : Result ℕ E) → ParsesUnsigned 64 10 word r → None ≡ result_ok r →
    (steps : ℕ) → IsStepCount steps → word ≢ decimal steps
none_read {E} word r reads none steps is same =
    let few = small steps is in
    let read = parse-decimal 64 steps word r few few same reads in
    let both : None ≡ Some steps = none ∙ ap (λ (s : Result ℕ E). result_ok s) read in
    let never : ⊥ = cc in never

-- and where too many were read
pub many_read : {E : Type 0} (word : List ℕ) (r : Result ℕ E) (many : ℕ) → ParsesUnsigned 64 10 word r →
    r ≡ Ok many → STEPS < many → (steps : ℕ) → IsStepCount steps → word ≢ decimal steps
many_read {E} word r many reads was more steps is same =
    let few = small steps is in
    let read = parse-decimal 64 steps word r few few same reads in
    let equal : many ≡ steps = let both = sym was ∙ read in cc in
    let never : ⊥ = omega (arith, is.most) in never

pub where_none : {T : Type 0} (found : Option T) (P : Type 0) → P → IfNone found P
where_none None P is = is
where_none (Some n) P is = tt
