-- How programs are printed: the fields, and then the methods, each statement on a line of its own. Lines are not
-- indented, so that the text is short.
--
-- A local is printed as declared where it is assigned first. The tree of a program does not say which assignment
-- declares a local. The printer keeps a number above those of the variables so far, and a local whose number is not
-- below it is new. The number is taken from the variables that are gone over and not counted, so that it cannot
-- overflow for any program.
--
-- Fields are printed before methods. The tree has them in two lists, and names are known in the whole program, so their
-- order does not matter.
use Rattle.std.specs.Prelude.{ℕ, zero, suc, pos, ℤ, Bool, true, false, if◌then◌else◌, List, [], ◌∷◌, ◌++◌, codes}
use Rattle.std.specs.Prelude.{Option, Some, None}
use Rattle.std.specs.Bool.{nat_lt}
use Rattle.std.specs.Fmt.{decimal, signed_decimal}
use Rattle.std.specs.List.{join_by, flat_map}
use Rattle.js_base.specs.declared.ids.VarId.{VarId}
use Rattle.js_base.specs.declared.ids.PrincipalId.{PrincipalId}
use Rattle.principals.specs.ActsFor.{Declared}
use Rattle.label_lattice.specs.declared.label.Label.{Label}
use Rattle.label_lattice.specs.Printed.{printed_label}
use Rattle.jif_tree.specs.Trees.{BlockTree, done, set_local, set_field, set_element, branch, loop, call, give_back}
use Rattle.jif_tree.specs.Trees.{FieldTree, MethodTree, ProgramTree}
use Rattle.jif_parse.specs.PrintedNames.{Naming, field_name, variable_name, variable_label, method_name}
use Rattle.jif_parse.specs.PrintedNames.{principal_name}
use Rattle.jif_parse.specs.PrintedExprs.{expr_text}

-- ---- declarations

-- A local is declared where it is assigned first. `seen` is above the numbers of the variables so far, so this is where
-- the number of a variable is not below it.
abbrev pub seen_after : ℕ → VarId → ℕ
seen_after seen variable = if nat_lt variable.0 seen then seen else suc variable.0

abbrev pub seen_after_all : ℕ → List VarId → ℕ
seen_after_all seen [] = seen
seen_after_all seen (variable ∷ variables) = seen_after_all (seen_after seen variable) variables

abbrev pub optional_label_text : Declared → Option Label → List ℕ
optional_label_text principals None = []
optional_label_text principals (Some label) = printed_label principals label

-- `int` with the label of a variable, where it has one, and its name
abbrev pub declared_text : Naming → VarId → List ℕ
declared_text naming variable =
    codes "int" ++ optional_label_text naming.principals (variable_label naming variable) ++ codes " "
    ++ variable_name naming variable

-- a variable that is assigned to
abbrev pub assigned_text : Naming → ℕ → VarId → List ℕ
assigned_text naming seen variable =
    if nat_lt variable.0 seen then variable_name naming variable else declared_text naming variable

-- ---- statements

-- above the numbers of the variables behind a block
abbrev pub seen_behind : ℕ → BlockTree → ℕ
seen_behind seen done = seen
seen_behind seen (set_local heading variable value rest) = seen_behind (seen_after seen variable) rest
seen_behind seen (set_field heading field value rest) = seen_behind seen rest
seen_behind seen (set_element heading field index value rest) = seen_behind seen rest
seen_behind seen (branch heading guard first second rest) =
    seen_behind (seen_behind (seen_behind seen first) second) rest
seen_behind seen (loop heading guard body rest) = seen_behind (seen_behind seen body) rest
seen_behind seen (call heading site method args into rest) = seen_behind seen rest
seen_behind seen (give_back heading value rest) = seen_behind seen rest

-- where the result of a call is kept
abbrev pub into_text : Naming → Option VarId → List ℕ
into_text naming None = []
into_text naming (Some variable) = variable_name naming variable ++ codes " = "

abbrev pub is_done : BlockTree → Bool
is_done done = true
is_done block = false

-- nothing where there is no statement in it
abbrev pub else_text : Bool → List ℕ → List ℕ
else_text true block = []
else_text false block = codes " else {\n" ++ block ++ codes "}"

abbrev pub block_text : Naming → ℕ → BlockTree → List ℕ
block_text naming seen done = []
block_text naming seen (set_local heading variable value rest) =
    assigned_text naming seen variable ++ codes " = " ++ expr_text naming value ++ codes ";\n"
    ++ block_text naming (seen_after seen variable) rest
block_text naming seen (set_field heading field value rest) =
    field_name naming field ++ codes " = " ++ expr_text naming value ++ codes ";\n" ++ block_text naming seen rest
block_text naming seen (set_element heading field index value rest) =
    field_name naming field ++ codes "[" ++ expr_text naming index ++ codes "] = " ++ expr_text naming value
    ++ codes ";\n" ++ block_text naming seen rest
block_text naming seen (branch heading guard first second rest) =
    codes "if (" ++ expr_text naming guard ++ codes ") {\n" ++ block_text naming seen first ++ codes "}"
    ++ else_text (is_done second) (block_text naming (seen_behind seen first) second) ++ codes "\n"
    ++ block_text naming (seen_behind (seen_behind seen first) second) rest
block_text naming seen (loop heading guard body rest) =
    codes "while (" ++ expr_text naming guard ++ codes ") {\n" ++ block_text naming seen body ++ codes "}\n"
    ++ block_text naming (seen_behind seen body) rest
block_text naming seen (call heading site method args into rest) =
    into_text naming into ++ method_name naming method ++ codes "(" ++ join_by (expr_text naming) (codes ", ") args
    ++ codes ");\n" ++ block_text naming seen rest
block_text naming seen (give_back heading value rest) =
    codes "return " ++ expr_text naming value ++ codes ";\n" ++ block_text naming seen rest

-- ---- fields

-- an array has its size, and a plain field its first value, where that is not 0
abbrev pub field_end_text : Bool → ℕ → ℤ → List ℕ
field_end_text true size first = codes "[" ++ decimal size ++ codes "]"
field_end_text false size (pos zero) = []
field_end_text false size first = codes " = " ++ signed_decimal first

abbrev pub field_text : Declared → FieldTree → List ℕ
field_text principals field =
    codes "int" ++ printed_label principals field.label ++ codes " " ++ field.name
    ++ field_end_text field.array field.size field.first ++ codes ";\n"

-- ---- methods

abbrev pub kind_text : Naming → Option VarId → List ℕ
kind_text naming None = codes "void"
kind_text naming (Some result) =
    codes "int" ++ optional_label_text naming.principals (variable_label naming result)

abbrev pub authority_text : Naming → List PrincipalId → List ℕ
authority_text naming [] = []
authority_text naming (first ∷ others) =
    codes " where authority(" ++ join_by (principal_name naming) (codes ", ") (first ∷ others) ++ codes ")"

abbrev pub seen_in : ℕ → MethodTree → ℕ
seen_in seen method = seen_after_all seen method.params

abbrev pub seen_after_result : ℕ → Option VarId → ℕ
seen_after_result seen None = seen
seen_after_result seen (Some result) = seen_after seen result

abbrev pub seen_after_method : ℕ → MethodTree → ℕ
seen_after_method seen method = seen_after_result (seen_behind (seen_in seen method) method.body) method.result

abbrev pub method_text : Naming → ℕ → MethodTree → List ℕ
method_text naming seen method =
    kind_text naming method.result ++ codes " " ++ method.name ++ printed_label naming.principals method.begin
    ++ codes "(" ++ join_by (declared_text naming) (codes ", ") method.params ++ codes ")"
    ++ authority_text naming method.authority ++ codes " {\n" ++ block_text naming (seen_in seen method) method.body
    ++ codes "}\n"

abbrev pub methods_text : Naming → ℕ → List MethodTree → List ℕ
methods_text naming seen [] = []
methods_text naming seen (method ∷ methods) =
    method_text naming seen method ++ methods_text naming (seen_after_method seen method) methods

-- ---- programs

abbrev pub printed_program : Declared → ProgramTree → List ℕ
printed_program principals program =
    flat_map (field_text principals) program.fields
    ++ methods_text (record { principals = principals; program = program }) 0 program.methods
