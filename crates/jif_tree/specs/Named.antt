-- Programs whose fields, variables and methods have names.
use Rattle.std.specs.Prelude.{◌≡◌, ℕ, ◌<◌, ◌≤◌, ◌⊎◌, List, All, length, codes}
use Rattle.js_base.specs.Name.{IsName}
use Rattle.js_base.specs.declared.limits.TheConstants.{PROGRAM_BYTES}
use Rattle.jif_tree.specs.Trees.{VarTree, ProgramTree}

-- a name that the text of a program can hold
pub record IsNameInText (text : List ℕ) : Type 0 where
  pub name : IsName text
  pub short : length text ≤ PROGRAM_BYTES

-- a variable of a method
pub record IsNamedVariable (program : ProgramTree) (variable : VarTree) : Type 0 where
  pub name : IsNameInText variable.name ⊎ (variable.name ≡ codes "return")
  pub method : variable.method.0 < length program.methods

pub record AreNamed (program : ProgramTree) : Type 0 where
  pub fields : All (λ field. IsNameInText field.name) program.fields
  pub variables : All (IsNamedVariable program) program.vars
  pub methods : All (λ method. IsNameInText method.name) program.methods
