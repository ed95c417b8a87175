-- Values at the end of some room, where the one that was made last stands first.
use Rattle.std.proofs.Common.{◌≡◌, ℕ, zero, suc, ◌+◌, ◌<◌, ℤ, pos, List, [], ◌∷◌, get_or, drop, length, refl, ap, arith}
use Rattle.std.proofs.Common.{add-one}
use Rattle.std.specs.Prelude.{slice_set}
use Rattle.js_base.specs.declared.binary_operator.BinOp.{BinOp}
use Rattle.jif_tree.specs.Operators.{binary_value}
use Rattle.host_core.specs.Values.{after_binary}

-- a binary operator leaves fewer than two values as they are
pub binary_of_few : (op : BinOp) (values : List ℤ) → length values < 2 → values ≡ after_binary op values
binary_of_few op [] few = refl
binary_of_few op (right ∷ []) few = refl
binary_of_few op (right ∷ left ∷ values) few = absurd (omega arith)

-- and puts its value in the place of the second
put_at : (op : BinOp) (room : List ℤ) (first : ℕ) (value d : ℤ) → suc first < length room →
    value ≡ binary_value op (get_or room (suc first) d) (get_or room first d) →
    drop (suc first) (slice_set room (suc first) value) ≡ after_binary op (drop first room)
put_at op [] first value d lt is = absurd (omega arith)
put_at op (right ∷ []) zero value d lt is = absurd (omega arith)
put_at op (right ∷ left ∷ room) zero value d lt is = ap (λ v. v ∷ room) is
put_at op (x ∷ room) (suc first) value d lt is = put_at op room first value d (omega arith) is

pub binary_at : (op : BinOp) (room : List ℤ) (first : ℕ) (value left right : ℤ) → first + 1 < length room →
    left ≡ get_or room (first + 1) (pos 0) → right ≡ get_or room first (pos 0) →
    value ≡ binary_value op left right →
    drop (first + 1) (slice_set room (first + 1) value) ≡ after_binary op (drop first room)
binary_at op room first value left right =
    rw add-one (λ lt at second is. put_at op room first value (pos 0) lt (rw (← at, ← second) is))
