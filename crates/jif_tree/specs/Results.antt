-- Results of methods: that they are given back, and that no expression reads them.
--
-- What becomes of results is asked of the program. Methods give results back at their end only, nothing else reads a
-- result, and the numbers of parameters rise. These are laws of `jif_resolve`, and conditions of `IsSet`. So no proof
-- on worlds goes back to a draft.
use Rattle.std.specs.Prelude.{◌≡◌, ◌≢◌, ℕ, ⊤, Some, slice_get}
use Rattle.std.specs.List.{AllByRecursion}
use Rattle.js_base.specs.declared.ids.VarId.{VarId}
use Rattle.jif_tree.specs.Trees.{ExprTree, number, local, scalar, element, inverted, negated, binary, declassified}
use Rattle.jif_tree.specs.Trees.{endorsed, BlockTree, done, set_local, set_field, set_element, branch, loop}
use Rattle.jif_tree.specs.Trees.{call, give_back, MethodTree, ProgramTree}

-- the last statement of a block gives a value back
abbrev pub GivesBack : BlockTree → Type 0
GivesBack done = ⊥
GivesBack (set_local heading x value rest) = GivesBack rest
GivesBack (set_field heading field value rest) = GivesBack rest
GivesBack (set_element heading field index value rest) = GivesBack rest
GivesBack (branch heading guard first second rest) = GivesBack rest
GivesBack (loop heading guard inner rest) = GivesBack rest
GivesBack (call heading site method arguments into rest) = GivesBack rest
GivesBack (give_back heading value rest) = rest ≡ done

-- each method with a result gives it back at its end
abbrev pub AreGivenBack : ProgramTree → Type 0
AreGivenBack program = (place : ℕ) (method : MethodTree) (result : VarId) →
    slice_get program.methods place ≡ Some method → method.result ≡ Some result → GivesBack method.body

-- a variable is the result of no method
abbrev pub IsNoResult : ProgramTree → VarId → Type 0
IsNoResult program x = (place : ℕ) (method : MethodTree) → slice_get program.methods place ≡ Some method →
    method.result ≢ Some x

-- an expression reads no result
abbrev pub ReadsNoResult : ProgramTree → ExprTree → Type 0
ReadsNoResult program (number value) = ⊤
ReadsNoResult program (local x) = IsNoResult program x
ReadsNoResult program (scalar field) = ⊤
ReadsNoResult program (element field index) = ReadsNoResult program index
ReadsNoResult program (inverted operand) = ReadsNoResult program operand
ReadsNoResult program (negated operand) = ReadsNoResult program operand
ReadsNoResult program (binary operator left right) = ReadsNoResult program left × ReadsNoResult program right
ReadsNoResult program (declassified operand label) = ReadsNoResult program operand
ReadsNoResult program (endorsed operand label) = ReadsNoResult program operand

-- nor does any expression of a block, and of the blocks in it
abbrev pub BlockReadsNoResult : ProgramTree → BlockTree → Type 0
BlockReadsNoResult program done = ⊤
BlockReadsNoResult program (set_local heading x value rest) =
    ReadsNoResult program value × BlockReadsNoResult program rest
BlockReadsNoResult program (set_field heading field value rest) =
    ReadsNoResult program value × BlockReadsNoResult program rest
BlockReadsNoResult program (set_element heading field index value rest) =
    ReadsNoResult program index × ReadsNoResult program value × BlockReadsNoResult program rest
BlockReadsNoResult program (branch heading guard first second rest) =
    ReadsNoResult program guard × BlockReadsNoResult program first × BlockReadsNoResult program second
    × BlockReadsNoResult program rest
BlockReadsNoResult program (loop heading guard inner rest) =
    ReadsNoResult program guard × BlockReadsNoResult program inner × BlockReadsNoResult program rest
BlockReadsNoResult program (call heading site method arguments into rest) =
    AllByRecursion (ReadsNoResult program) arguments × BlockReadsNoResult program rest
BlockReadsNoResult program (give_back heading value rest) =
    ReadsNoResult program value × BlockReadsNoResult program rest

abbrev pub AreUnread : ProgramTree → Type 0
AreUnread program = (place : ℕ) (method : MethodTree) → slice_get program.methods place ≡ Some method →
    BlockReadsNoResult program method.body
