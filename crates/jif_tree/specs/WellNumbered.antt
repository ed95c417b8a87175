-- Programs in which each number stands for something of the right kind.
use Rattle.std.specs.Prelude.{◌≡◌, ℕ, suc, Bool, true, false, List, [], ◌∷◌, length, Option, Some}
use Rattle.std.specs.Prelude.{None, slice_get, ⊤}
use Rattle.std.specs.List.{AllByRecursion}
use Rattle.js_base.specs.declared.ids.FieldId.{FieldId}
use Rattle.js_base.specs.declared.ids.VarId.{VarId}
use Rattle.js_base.specs.declared.ids.MethodId.{MethodId}
use Rattle.jif_tree.specs.Trees.{ExprTree, number, local, scalar, element, inverted, negated, binary, declassified}
use Rattle.jif_tree.specs.Trees.{endorsed, BlockTree, done, set_local, set_field, set_element, branch, loop}
use Rattle.jif_tree.specs.Trees.{call, give_back, FieldTree, VarTree, MethodTree, ProgramTree}

abbrev pub is_some : {X : Type 0} → Option X → Bool
is_some None = false
is_some (Some x) = true

-- the field is there, and is an array or a plain one
abbrev pub HasField : ProgramTree → Bool → FieldId → Type 0
HasField program array field =
    (tree : FieldTree) × (slice_get program.fields field.0 ≡ Some tree) × (tree.array ≡ array)

-- the variable is there, and is one of the method
abbrev pub HasVariable : ProgramTree → MethodId → VarId → Type 0
HasVariable program method variable =
    (tree : VarTree) × (slice_get program.vars variable.0 ≡ Some tree) × (tree.method ≡ method)

abbrev pub HasOptionalVariable : ProgramTree → MethodId → Option VarId → Type 0
HasOptionalVariable program method None = ⊤
HasOptionalVariable program method (Some variable) = HasVariable program method variable

-- the method is there, and has so many parameters, and a result or none
abbrev pub HasMethod : ProgramTree → ℕ → Bool → MethodId → Type 0
HasMethod program params gives method =
    (tree : MethodTree) × (slice_get program.methods method.0 ≡ Some tree) × (length tree.params ≡ params)
    × (is_some tree.result ≡ gives)

-- an expression in a method
abbrev pub IsExprIn : ProgramTree → MethodId → ExprTree → Type 0
IsExprIn program method (number value) = ⊤
IsExprIn program method (local variable) = HasVariable program method variable
IsExprIn program method (scalar field) = HasField program false field
IsExprIn program method (element field index) = HasField program true field × IsExprIn program method index
IsExprIn program method (inverted operand) = IsExprIn program method operand
IsExprIn program method (negated operand) = IsExprIn program method operand
IsExprIn program method (binary operator left right) = IsExprIn program method left × IsExprIn program method right
IsExprIn program method (declassified inner label) = IsExprIn program method inner
IsExprIn program method (endorsed inner label) = IsExprIn program method inner

-- Statements in a method that has a result or none. A call has as many arguments as the method has parameters, and its
-- result is kept exactly where there is one.
abbrev pub IsBlockIn : ProgramTree → MethodId → Bool → BlockTree → Type 0
IsBlockIn program method gives done = ⊤
IsBlockIn program method gives (set_local heading variable value rest) =
    HasVariable program method variable × IsExprIn program method value × IsBlockIn program method gives rest
IsBlockIn program method gives (set_field heading field value rest) =
    HasField program false field × IsExprIn program method value × IsBlockIn program method gives rest
IsBlockIn program method gives (set_element heading field index value rest) =
    HasField program true field × IsExprIn program method index × IsExprIn program method value
    × IsBlockIn program method gives rest
IsBlockIn program method gives (branch heading guard first second rest) =
    IsExprIn program method guard × IsBlockIn program method gives first × IsBlockIn program method gives second
    × IsBlockIn program method gives rest
IsBlockIn program method gives (loop heading guard body rest) =
    IsExprIn program method guard × IsBlockIn program method gives body × IsBlockIn program method gives rest
IsBlockIn program method gives (call heading site called args into rest) =
    HasMethod program (length args) (is_some into) called × AllByRecursion (IsExprIn program method) args
    × HasOptionalVariable program method into × IsBlockIn program method gives rest
IsBlockIn program method gives (give_back heading value rest) =
    (gives ≡ true) × IsExprIn program method value × IsBlockIn program method gives rest

-- the method of this number
pub record IsMethodIn (program : ProgramTree) (method : MethodId) (tree : MethodTree) : Type 0 where
  pub params : AllByRecursion (HasVariable program method) tree.params
  pub result : HasOptionalVariable program method tree.result
  pub body : IsBlockIn program method (is_some tree.result) tree.body

-- methods of which the first has this number
abbrev pub AreMethodsIn : ProgramTree → ℕ → List MethodTree → Type 0
AreMethodsIn program first [] = ⊤
AreMethodsIn program first (method ∷ methods) =
    IsMethodIn program (record { 0 = first }) method × AreMethodsIn program (suc first) methods

-- every number stands for something of the right kind, and `main` has no parameters and no result
pub record IsWellNumbered (program : ProgramTree) : Type 0 where
  pub methods : AreMethodsIn program 0 program.methods
  pub main : HasMethod program 0 false program.main
