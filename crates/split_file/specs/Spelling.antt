-- The bytes of a split file: one spelling for each code.
use Rattle.std.specs.Prelude.{ℕ, Bool, false, true, if◌then◌else◌, List, [], ◌∷◌, ◌++◌, length, codes}
use Rattle.std.specs.List.{flat_map, concat, list_any}
use Rattle.std.specs.Int.{w16, to_be_bytes}
use Rattle.js_base.specs.declared.binary_operator.BinOp.{BinOp}
use Rattle.js_base.specs.declared.binary_operator.BinOp.TheVariants as binary
use Rattle.js_base.specs.declared.ids.HostId.{HostId}
use Rattle.js_base.specs.declared.ids.VarId.{VarId}
use Rattle.label_lattice.specs.declared.label.Label.{Label}
use Rattle.host_code.specs.declared.code.Entry.{Entry}
use Rattle.host_code.specs.declared.instruction.Instr.{Instr}
use Rattle.host_code.specs.declared.instruction.Op.{Op}
use Rattle.host_code.specs.declared.instruction.Op.TheVariants as op
use Rattle.host_code.specs.declared.code_expr.Node.{Node}
use Rattle.host_code.specs.declared.code_expr.Node.TheVariants as node
use Rattle.host_code.specs.Code.{CodeShape, CodeHostShape, CodeFieldShape, CodeVariableShape}
use Rattle.byte_format.specs.Numbers.{number_bytes, word_bytes, integer_bytes}
use Rattle.byte_format.specs.Lists.{list_bytes}

-- ---- texts

-- how many bytes it has, and the bytes
abbrev pub text_bytes : List ℕ → List ℕ
text_bytes text = number_bytes (length text) ++ text

-- ---- what a code is made of, but for its instructions

-- a word for each owner, and the word of who trusts
abbrev pub label_bytes : Label → List ℕ
label_bytes label = flat_map word_bytes label.rows ++ word_bytes label.trust

abbrev pub host_id_bytes : HostId → List ℕ
host_id_bytes host = host.0 ∷ []

abbrev pub host_bytes : CodeHostShape → List ℕ
host_bytes host = text_bytes host.name ++ label_bytes host.label

abbrev pub flag_bytes : Bool → List ℕ
flag_bytes false = 0 ∷ []
flag_bytes true = 1 ∷ []

abbrev pub field_bytes : CodeFieldShape → List ℕ
field_bytes field = concat
    (text_bytes field.name ∷ number_bytes field.label ∷ number_bytes field.size ∷ flag_bytes field.array
    ∷ integer_bytes field.first ∷ host_id_bytes field.host ∷ [])

abbrev pub variable_bytes : CodeVariableShape → List ℕ
variable_bytes variable = text_bytes variable.name ++ number_bytes variable.label

abbrev pub entry_bytes : Entry → List ℕ
entry_bytes entry = concat
    (host_id_bytes entry.host ∷ number_bytes entry.at ∷ number_bytes entry.label ∷ word_bytes entry.need ∷ [])

-- ---- expressions

abbrev pub operator_byte : BinOp → ℕ
operator_byte binary.Or = 6
operator_byte binary.And = 7
operator_byte binary.Equal = 8
operator_byte binary.NotEqual = 9
operator_byte binary.Less = 10
operator_byte binary.LessEqual = 11
operator_byte binary.Greater = 12
operator_byte binary.GreaterEqual = 13
operator_byte binary.Add = 14
operator_byte binary.Subtract = 15
operator_byte binary.Multiply = 16
operator_byte binary.Divide = 17
operator_byte binary.Remainder = 18

abbrev pub node_bytes : Node → List ℕ
node_bytes (node.Number n) = 1 ∷ integer_bytes n
node_bytes (node.Var variable) = 2 ∷ number_bytes variable.0
node_bytes (node.Temp temporary) = 3 ∷ number_bytes temporary
node_bytes node.Not = 4 ∷ []
node_bytes node.Negate = 5 ∷ []
node_bytes (node.Binary operator) = operator_byte operator ∷ []

-- the nodes in postfix order
abbrev pub expression_bytes : List Node → List ℕ
expression_bytes nodes = list_bytes node_bytes nodes

-- ---- instructions

-- the variables whose values ride
abbrev pub riders_bytes : List VarId → List ℕ
riders_bytes riders = list_bytes (λ variable. number_bytes variable.0) riders

-- the number of the operation, and its operands in order
abbrev pub operation_bytes : Op → List ℕ
operation_bytes (op.Read field index) = 1 ∷ (number_bytes field.0 ++ expression_bytes index)
operation_bytes (op.Let variable value) = 2 ∷ (number_bytes variable.0 ++ expression_bytes value)
operation_bytes (op.Put field index value) =
    3 ∷ (number_bytes field.0 ++ (expression_bytes index ++ expression_bytes value))
operation_bytes (op.Send variable to) = 4 ∷ (number_bytes variable.0 ++ host_id_bytes to)
operation_bytes (op.Frame site) = 5 ∷ number_bytes site.0
operation_bytes (op.Arg variable value) = 6 ∷ (number_bytes variable.0 ++ expression_bytes value)
operation_bytes (op.Pass variable to) = 7 ∷ (number_bytes variable.0 ++ host_id_bytes to)
operation_bytes (op.Push entry) = 8 ∷ number_bytes entry.0
operation_bytes (op.Ask entry on) = 9 ∷ (number_bytes entry.0 ++ host_id_bytes on)
operation_bytes (op.Go entry on) = 10 ∷ (number_bytes entry.0 ++ host_id_bytes on)
operation_bytes (op.Call entry on) = 11 ∷ (number_bytes entry.0 ++ host_id_bytes on)
operation_bytes (op.Ret variable value) = 12 ∷ (number_bytes variable.0 ++ expression_bytes value)
operation_bytes op.Back = 13 ∷ []
operation_bytes (op.Branch guard target) = 14 ∷ (expression_bytes guard ++ number_bytes target)
operation_bytes (op.GoWith entry on riders) =
    15 ∷ (number_bytes entry.0 ++ (host_id_bytes on ++ riders_bytes riders))
operation_bytes (op.CallWith entry on riders) =
    16 ∷ (number_bytes entry.0 ++ (host_id_bytes on ++ riders_bytes riders))

abbrev pub instruction_bytes : Instr → List ℕ
instruction_bytes instruction = concat
    (number_bytes instruction.label ∷ number_bytes instruction.statement.0 ∷ operation_bytes instruction.op ∷ [])

-- the instructions of one host
abbrev pub part_bytes : List Instr → List ℕ
part_bytes part = list_bytes instruction_bytes part

-- ---- the file

-- how every split file begins
abbrev pub magic : List ℕ
magic = codes "JIFSPLIT"

-- values ride with the operation
abbrev pub has_riders : Op → Bool
has_riders (op.GoWith entry on riders) = true
has_riders (op.CallWith entry on riders) = true
has_riders _ = false

abbrev pub any_ride : List Instr → Bool
any_ride part = list_any (λ one. has_riders one.op) part

-- the version of a code's file: 2 where values ride with some instruction, and else 1
abbrev pub version_of : CodeShape → ℕ
version_of code = if list_any any_ride code.parts then 2 else 1

abbrev pub table_bytes : CodeShape → List ℕ
table_bytes code = concat
    (list_bytes host_bytes code.hosts ∷ list_bytes label_bytes code.labels ∷ list_bytes field_bytes code.fields
    ∷ list_bytes variable_bytes code.variables ∷ [])

-- where threads and calls start
abbrev pub start_bytes : CodeShape → List ℕ
start_bytes code = concat
    (list_bytes entry_bytes code.entries ∷ list_bytes host_id_bytes code.sites ∷ host_id_bytes code.root
    ∷ number_bytes code.main.0 ∷ [])

-- The bytes of a code behind some version. The parts have no count of their own, since there is one for each host.
abbrev pub file_as : ℕ → CodeShape → List ℕ
file_as version code = concat
    (magic ∷ to_be_bytes w16 version ∷ table_bytes code ∷ start_bytes code ∷ flat_map part_bytes code.parts ∷ [])

-- the file of a code
unfoldable pub split_file : CodeShape → List ℕ
split_file code = file_as (version_of code) code
