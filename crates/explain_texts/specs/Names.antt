-- How the parts of a program are named. A part that is not there has an empty name.
use Rattle.std.specs.Prelude.{ℕ, ◌-◌, Bool, false, ◌==◌, nat_le, if◌then◌else◌, List, [], ◌++◌, codes, count_by}
use Rattle.std.specs.Prelude.{Option, Some, None, slice_get, unwrap_or}
use Rattle.std.specs.List.{list_any}
use Rattle.std.specs.Option.{option_map}
use Rattle.js_base.specs.declared.ids.FieldId.{FieldId}
use Rattle.js_base.specs.declared.ids.VarId.{VarId}
use Rattle.js_base.specs.declared.ids.MethodId.{MethodId}
use Rattle.js_base.specs.declared.ids.StmtId.{StmtId}
use Rattle.principals.specs.ActsFor.{Declared}
use Rattle.jif_tree.specs.Trees.{FieldTree, VarTree, MethodTree, ProgramTree}

-- whoever is not declared is the outsider, who stands for all that are not
abbrev pub principal_name : Declared → ℕ → List ℕ
principal_name principals number = unwrap_or (slice_get principals.names number) (codes "outsiders")

abbrev pub field_name : ProgramTree → FieldId → List ℕ
field_name tree field = unwrap_or (option_map (λ one. one.name) (slice_get tree.fields field.0)) []

abbrev pub variable_name : ProgramTree → VarId → List ℕ
variable_name tree x = unwrap_or (option_map (λ one. one.name) (slice_get tree.vars x.0)) []

abbrev pub method_name : ProgramTree → MethodId → List ℕ
method_name tree method = unwrap_or (option_map (λ one. one.name) (slice_get tree.methods method.0)) []

-- a field or an array
abbrev pub kind_of_field : Option FieldTree → List ℕ
kind_of_field None = []
kind_of_field (Some field) = if field.array then codes "array " else codes "field "

-- ---- variables

abbrev pub is_result : Option VarId → VarId → Bool
is_result None x = false
is_result (Some other) x = other.0 == x.0

abbrev pub is_param : List VarId → VarId → Bool
is_param params x = list_any (λ other. other.0 == x.0) params

-- A variable of this name: a local behind these words, `parameter X of M`, or `the result of M`.
abbrev pub words_in : (front : List ℕ) → VarId → (name : List ℕ) → Option MethodTree → List ℕ
words_in front x name None = front ++ name
words_in front x name (Some method) =
    if is_result method.result x
    then codes "the result of " ++ method.name
    else (if is_param method.params x
    then codes "parameter " ++ (name ++ (codes " of " ++ method.name))
    else front ++ name)

abbrev pub words_of : ProgramTree → (front : List ℕ) → VarId → Option VarTree → List ℕ
words_of tree front x None = []
words_of tree front x (Some var) = words_in front x var.name (slice_get tree.methods var.method.0)

abbrev pub variable_words : ProgramTree → (front : List ℕ) → VarId → List ℕ
variable_words tree front x = words_of tree front x (slice_get tree.vars x.0)

-- ---- the method of a statement

abbrev pub name_at : ProgramTree → ℕ → List ℕ
name_at tree place = unwrap_or (option_map (λ one. one.name) (slice_get tree.methods place)) []

-- how many methods have a head that is not behind it
abbrev pub heads_before : ProgramTree → StmtId → ℕ
heads_before tree statement = count_by (λ method. nat_le method.head.0 statement.0) tree.methods

-- the last of these, since heads are numbered in order
abbrev pub method_around : ProgramTree → StmtId → List ℕ
method_around tree statement = name_at tree (heads_before tree statement - 1)
