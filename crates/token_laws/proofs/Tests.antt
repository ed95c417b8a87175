-- What tests of numbers and parts of tests tell.
use Rattle.std.proofs.Common.{◌≡◌, ◌≢◌, ◌<◌, ◌≤◌, ℕ, Bool, true, false, Option, Some, None, refl, arith}
use Rattle.std.specs.Prelude.{◌==◌, ◌&&◌, IsSome}
use Rattle.std.proofs.lemmas.Bool.Decides.{nat_tests}
use Rattle.token_laws.proofs.Counting.{one_if}

pub parts_same : (a b : Bool) → (a && b) ≡ true → (a ≡ true) × (b ≡ true)
parts_same true true is = (refl, refl)
parts_same true false is = absurd (cc)
parts_same false b is = absurd (cc)

pub both : (a b : Bool) → a ≡ true → b ≡ true → (a && b) ≡ true
both true b first second = second
both false b first second = absurd (cc)

pub number_same : (one other : ℕ) → (one == other) ≡ true → one ≡ other
number_same one other is = grind (arith, nat_tests)

pub itself : (n : ℕ) → (n == n) ≡ true
itself n = grind (arith, nat_tests)

pub different : (one other : ℕ) → one ≢ other → (one == other) ≡ false
different one other apart = grind (arith, nat_tests)

pub either_way : (one other : ℕ) → (one == other) ≡ (other == one)
either_way one other = grind (arith, nat_tests)

pub one_at_most : (b : Bool) → one_if b ≤ 1
one_at_most true = omega arith
one_at_most false = omega arith

pub some_true : (b : Bool) → 0 < one_if b → b ≡ true
some_true true more = refl
some_true false more = absurd (omega arith)

pub some_found : {X : Type 0} (found : Option X) → IsSome found → (x : X) × (found ≡ Some x)
some_found None is = absurd (cc)
some_found (Some x) is = (x, refl)
