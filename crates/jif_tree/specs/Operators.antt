-- The values of operators on signed numbers of 64 bits. No operator fails, and both sides of each are evaluated.
use Rattle.std.specs.Prelude.{Bool, not, ◌&&◌, ◌||◌, if◌then◌else◌, ℤ, pos, ◌+ℤ◌, ◌-ℤ◌}
use Rattle.std.specs.Prelude.{◌*ℤ◌, neg_ℤ}
use Rattle.std.specs.Prelude.{int_lt, int_le, int_rem}
use Rattle.std.specs.Int.{int_wrap, int_wrapping_div, w64}
use Rattle.std.specs.Ordering.{int_eq}
use Rattle.js_base.specs.declared.binary_operator.BinOp.{BinOp}
use Rattle.js_base.specs.declared.binary_operator.BinOp.TheVariants as op

-- 1 for true and 0 for false
abbrev pub number_of : Bool → ℤ
number_of truth = if truth then pos 1 else pos 0

-- every number but 0 counts as true
abbrev pub is_true : ℤ → Bool
is_true value = not (int_eq value (pos 0))

-- The quotient, towards zero. It is 0 where the divisor is 0, and the least number divided by -1 is the least number.
abbrev pub quotient : ℤ → ℤ → ℤ
quotient left right = if int_eq right (pos 0) then pos 0 else int_wrapping_div w64 left right

-- what the division leaves, with the sign of the dividend, and 0 where the divisor is 0
abbrev pub remainder : ℤ → ℤ → ℤ
remainder left right = if int_eq right (pos 0) then pos 0 else int_rem left right

-- the value of a binary operator; sums, differences and products wrap
abbrev pub binary_value : BinOp → ℤ → ℤ → ℤ
binary_value op.Or left right = number_of (is_true left || is_true right)
binary_value op.And left right = number_of (is_true left && is_true right)
binary_value op.Equal left right = number_of (int_eq left right)
binary_value op.NotEqual left right = number_of (not (int_eq left right))
binary_value op.Less left right = number_of (int_lt left right)
binary_value op.LessEqual left right = number_of (int_le left right)
binary_value op.Greater left right = number_of (int_lt right left)
binary_value op.GreaterEqual left right = number_of (int_le right left)
binary_value op.Add left right = int_wrap w64 (left +ℤ right)
binary_value op.Subtract left right = int_wrap w64 (left -ℤ right)
binary_value op.Multiply left right = int_wrap w64 (left *ℤ right)
binary_value op.Divide left right = quotient left right
binary_value op.Remainder left right = remainder left right

-- the value of `-`, which wraps
abbrev pub negation : ℤ → ℤ
negation value = int_wrap w64 (neg_ℤ value)

-- the value of `!`
abbrev pub inversion : ℤ → ℤ
inversion value = number_of (int_eq value (pos 0))
