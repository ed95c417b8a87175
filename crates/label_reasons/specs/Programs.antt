-- Programs whose labels are labels over the declared principals, and whose variables have labels where they are read.
use Rattle.std.specs.Prelude.{All}
use Rattle.principals.specs.ActsFor.{Declared, IsDeclared, AreDeclared}
use Rattle.label_lattice.specs.Over.{IsLabelOver}
use Rattle.jif_tree.specs.Trees.{MethodTree, ProgramTree}
use Rattle.jif_tree.specs.LabelRules.{declared_labels}
use Rattle.jif_tree.specs.ValueLabels.{AreAllValuesLabelled}
use Rattle.jif_tree.specs.WrittenLabels.{written_in_block, label_of_variable}

-- what is written in a method
pub record IsMethodOver (principals : Declared) (method : MethodTree) : Type 0 where
  pub begin : IsLabelOver principals method.begin
  pub body : All (IsLabelOver principals) (written_in_block method.body)
  pub authority : AreDeclared principals method.authority

-- what names are resolved to
pub record IsProgramOver (principals : Declared) (program : ProgramTree) : Type 0 where
  pub declared : IsDeclared principals
  pub fields : All (λ field. IsLabelOver principals field.label) program.fields
  pub variables : All (λ variable. All (IsLabelOver principals) (label_of_variable variable.label)) program.vars
  pub methods : All (IsMethodOver principals) program.methods
  pub values : AreAllValuesLabelled principals program (declared_labels program) program.methods
