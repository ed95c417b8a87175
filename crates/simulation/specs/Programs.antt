-- What is known of the parameters of a program's methods.
use Rattle.std.specs.Prelude.{◌≡◌, ℕ, ◌<◌, Some, slice_get}
use Rattle.js_base.specs.declared.ids.VarId.{VarId}
use Rattle.jif_tree.specs.Trees.{MethodTree, ProgramTree}

-- the parameters of each method have numbers that rise
abbrev pub AreParamsInOrder : ProgramTree → Type 0
AreParamsInOrder program = (place first second : ℕ) (method : MethodTree) (x y : VarId) →
    slice_get program.methods place ≡ Some method → slice_get method.params first ≡ Some x →
    slice_get method.params second ≡ Some y → first < second → x.0 < y.0
