-- A count that is raised.
use Rattle.std.proofs.Common.{◌≡◌, ◌<◌, ◌+◌, ◌⊎◌, ◌-◌, ◌^◌, ℕ, inl, inr, refl, arith}
use Rattle.std.specs.Prelude.{Bool, true, false, nat_lt, min}
use Rattle.std.proofs.lemmas.Bool.{ltb-true, ltb-false}
use Rattle.js_base.specs.Counts.{Rose}

pub rose_one : (old new : ℕ) → new ≡ min (old + 1) 18446744073709551615 → Rose old new
rose_one old new is = by_case (nat_lt old 18446744073709551615) refl
  where
    by_case : (b : Bool) → nat_lt old 18446744073709551615 ≡ b → Rose old new
    by_case true less = inl (omega (arith, is, ltb-true old 18446744073709551615 less))
    by_case false last = inr (omega (arith, is, ltb-false old 18446744073709551615 last))
