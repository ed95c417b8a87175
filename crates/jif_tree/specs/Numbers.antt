-- Programs whose numbers have 64 bits.
use Rattle.std.specs.Prelude.{ℤ, All, ⊤}
use Rattle.std.specs.List.{AllByRecursion}
use Rattle.std.specs.Int.{w64}
use mir.Val.{SFits}
use Rattle.jif_tree.specs.Trees.{ExprTree, number, local, scalar, element, inverted, negated, binary, declassified}
use Rattle.jif_tree.specs.Trees.{endorsed, BlockTree, done, set_local, set_field, set_element, branch, loop}
use Rattle.jif_tree.specs.Trees.{call, give_back, ProgramTree}

-- a number of 64 bits, with a sign
abbrev pub IsNumber : ℤ → Type 0
IsNumber value = SFits w64 value

abbrev pub ExprHasNumbers : ExprTree → Type 0
ExprHasNumbers (number value) = IsNumber value
ExprHasNumbers (local x) = ⊤
ExprHasNumbers (scalar field) = ⊤
ExprHasNumbers (element field index) = ExprHasNumbers index
ExprHasNumbers (inverted operand) = ExprHasNumbers operand
ExprHasNumbers (negated operand) = ExprHasNumbers operand
ExprHasNumbers (binary operator left right) = ExprHasNumbers left × ExprHasNumbers right
ExprHasNumbers (declassified operand label) = ExprHasNumbers operand
ExprHasNumbers (endorsed operand label) = ExprHasNumbers operand

abbrev pub BlockHasNumbers : BlockTree → Type 0
BlockHasNumbers done = ⊤
BlockHasNumbers (set_local heading variable value rest) = ExprHasNumbers value × BlockHasNumbers rest
BlockHasNumbers (set_field heading field value rest) = ExprHasNumbers value × BlockHasNumbers rest
BlockHasNumbers (set_element heading field index value rest) =
    ExprHasNumbers index × ExprHasNumbers value × BlockHasNumbers rest
BlockHasNumbers (branch heading guard first second rest) =
    ExprHasNumbers guard × BlockHasNumbers first × BlockHasNumbers second × BlockHasNumbers rest
BlockHasNumbers (loop heading guard body rest) = ExprHasNumbers guard × BlockHasNumbers body × BlockHasNumbers rest
BlockHasNumbers (call heading site method arguments into rest) =
    AllByRecursion ExprHasNumbers arguments × BlockHasNumbers rest
BlockHasNumbers (give_back heading value rest) = ExprHasNumbers value × BlockHasNumbers rest

-- the literals of a program, and the starting values of its fields
pub record HasNumbers (program : ProgramTree) : Type 0 where
  pub fields : All (λ field. IsNumber field.first) program.fields
  pub methods : All (λ method. BlockHasNumbers method.body) program.methods
