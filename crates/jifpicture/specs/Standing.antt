-- Which fields and statements the rows of a picture show.
use Rattle.std.specs.Prelude.{◌≡◌, ℕ, Option, Some, None}
use Rattle.jif_tree.specs.Trees.{FieldTree}
use Rattle.host_code.specs.Code.{CodeFieldShape}
use Rattle.plan_picture.specs.declared.rows.Row.{Row}
use Rattle.plan_picture.specs.declared.rows.Standing.{Standing}
use Rattle.plan_picture.specs.declared.rows.Standing.TheVariants as standing

abbrev pub field_standing : Standing → Option ℕ
field_standing (standing.OfField field) = Some field.0
field_standing other = None

abbrev pub statement_standing : Standing → Option ℕ
statement_standing (standing.OfStatement statement) = Some statement.0
statement_standing other = None

-- the number of the field in a row, where it shows one
abbrev pub field_in : Row → Option ℕ
field_in row = field_standing row.standing

-- the number of the statement in a row, where it shows one
abbrev pub statement_in : Row → Option ℕ
statement_in row = statement_standing row.standing

-- what the box of a field says of it is what the program declares
pub record IsDeclaredAs (field : FieldTree) (shown : CodeFieldShape) : Type 0 where
  pub name : shown.name ≡ field.name
  pub array : shown.array ≡ field.array
  pub size : shown.size ≡ field.size
  pub first : shown.first ≡ field.first
