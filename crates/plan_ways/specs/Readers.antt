-- Which statement of a host reads a variable first: one whose instructions there have it in an expression.
use Rattle.std.specs.Prelude.{ℕ, List, [], ◌∷◌, length, map, Option, Some, None, replicate, slice_get}
use Rattle.std.specs.List.{range_with_len}
use Rattle.js_base.specs.declared.ids.HostId.{HostId}
use Rattle.js_base.specs.declared.ids.StmtId.{StmtId}
use Rattle.js_base.specs.declared.ids.VarId.{VarId}
use Rattle.host_code.specs.Code.{CodeShape, part_of}
use Rattle.host_code.specs.declared.code_expr.Node.{Node}
use Rattle.host_code.specs.declared.code_expr.Node.TheVariants as node
use Rattle.host_code.specs.declared.instruction.Instr.{Instr}
use Rattle.host_code.specs.declared.instruction.Op.{Op}
use Rattle.host_code.specs.declared.instruction.Op.TheVariants as op
use Rattle.plan_ways.specs.Tables.{noted}
use Rattle.plan_ways.specs.declared.ends.WayEnd.{WayEnd}
use Rattle.plan_ways.specs.declared.ends.WayEnd.TheVariants as end

-- the first statement that reads a variable stays
abbrev pub with_node : List (Option StmtId) → StmtId → Node → List (Option StmtId)
with_node table statement (node.Var variable) = noted table variable.0 statement
with_node table statement other = table

abbrev pub with_nodes : List (Option StmtId) → StmtId → List Node → List (Option StmtId)
with_nodes table statement [] = table
with_nodes table statement (one ∷ others) = with_nodes (with_node table statement one) statement others

abbrev pub with_operation : List (Option StmtId) → StmtId → Op → List (Option StmtId)
with_operation table statement (op.Read field index) = with_nodes table statement index
with_operation table statement (op.Let variable value) = with_nodes table statement value
with_operation table statement (op.Put field index value) =
    with_nodes (with_nodes table statement index) statement value
with_operation table statement (op.Arg variable value) = with_nodes table statement value
with_operation table statement (op.Ret variable value) = with_nodes table statement value
with_operation table statement (op.Branch guard target) = with_nodes table statement guard
with_operation table statement other = table

abbrev pub with_instruction : List (Option StmtId) → Instr → List (Option StmtId)
with_instruction table instruction = with_operation table instruction.statement instruction.op

abbrev pub with_part : List (Option StmtId) → List Instr → List (Option StmtId)
with_part table [] = table
with_part table (instruction ∷ others) = with_part (with_instruction table instruction) others

-- for each variable the statement of the host that reads it first
abbrev pub readers_on : CodeShape → HostId → List (Option StmtId)
readers_on code host = with_part (replicate (length code.variables) None) (part_of code host)

abbrev pub readers_by_number : CodeShape → ℕ → List (Option StmtId)
readers_by_number code number = readers_on code (record { 0 = number })

abbrev pub readers_of : CodeShape → List (List (Option StmtId))
readers_of code = map (readers_by_number code) (range_with_len 0 (length code.hosts))

abbrev pub reader_end : HostId → Option (Option StmtId) → WayEnd
reader_end host (Some (Some statement)) = end.Statement statement
reader_end host (Some None) = end.Host host
reader_end host None = end.Host host

abbrev pub reader_in : List (Option StmtId) → HostId → VarId → WayEnd
reader_in table host variable = reader_end host (slice_get table variable.0)

abbrev pub reader_by : Option (List (Option StmtId)) → HostId → VarId → WayEnd
reader_by None host variable = end.Host host
reader_by (Some table) host variable = reader_in table host variable

-- where a host takes a variable: at the statement that reads it first, at the host's name where none does
abbrev pub reader_on : List (List (Option StmtId)) → HostId → VarId → WayEnd
reader_on readers host variable = reader_by (slice_get readers host.0) host variable
