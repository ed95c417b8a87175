-- What instructions release by the statements of the program alone, with no plan: in one pass over the instructions of
-- a host. The instructions that evaluate expressions of a statement stand in a row there, in the order in which the
-- expressions are evaluated, and nothing else of another statement stands between them.
use Rattle.std.specs.Prelude.{ℕ, ◌+◌, Bool, true, false, if◌then◌else◌, List, [], ◌∷◌, ◌++◌, map, sum}
use Rattle.std.specs.Prelude.{Option, Some, None, unwrap_or, slice_get}
use Rattle.std.specs.List.{flat_map, range_with_len}
use denote.Ref.{Bor}
use Rattle.js_base.specs.declared.ids.StmtId.{StmtId}
use Rattle.jif_tree.specs.declared.program.Stmt.{Stmt}
use Rattle.jif_tree.specs.Sizes.{expr_nodes}
use Rattle.jif_tree.specs.Trees.{ExprTree, BlockTree, done, set_local, set_field, set_element, branch, loop, call}
use Rattle.jif_tree.specs.Trees.{give_back, ProgramTree, tree_before}
use Rattle.host_code.specs.declared.code_expr.Node.{Node}
use Rattle.host_code.specs.Code.{CodeShape, part_of}
use Rattle.host_code.specs.declared.instruction.Instr.{Instr}
use Rattle.host_code.specs.declared.instruction.Op.{Op}
use Rattle.host_code.specs.declared.instruction.Op.TheVariants as op
use Rattle.split_rules.specs.Expressions.{ElementReading, reads_in, readings_of, released_by}
use Rattle.split_rules.specs.Positions.{all_statements}

-- ---- statements

-- by their numbers, where the head of a method is a statement that does nothing
abbrev pub statements_in : ProgramTree → List BlockTree
statements_in program = flat_map (λ method. done ∷ all_statements method.body) program.methods

abbrev pub statement_at : List BlockTree → StmtId → BlockTree
statement_at statements id = unwrap_or (slice_get statements id.0) done

-- the same of the code's statements, where a head has none
abbrev pub shown : Option (Bor Stmt) → BlockTree
shown None = done
shown (Some statement) = tree_before statement.now done

-- the nodes of a statement's own expressions
abbrev pub statement_nodes : BlockTree → ℕ
statement_nodes done = 0
statement_nodes (set_local heading x value rest) = expr_nodes value
statement_nodes (set_field heading field value rest) = expr_nodes value
statement_nodes (set_element heading field index value rest) = expr_nodes index + expr_nodes value
statement_nodes (branch heading guard first second rest) = expr_nodes guard
statement_nodes (loop heading guard inner rest) = expr_nodes guard
statement_nodes (call heading site method arguments into rest) = sum (map expr_nodes arguments)
statement_nodes (give_back heading value rest) = expr_nodes value

-- ---- rows

-- what reads release, one after another
abbrev pub read_rows : List ElementReading → List (List (List Node))
read_rows readings = map (λ reading. reading.released) readings

-- what the reads of an expression release, and what is released where its value is used
abbrev pub value_rows : ExprTree → List (List (List Node))
value_rows value = read_rows (readings_of 0 value) ++ released_by 0 value ∷ []

-- the same of an index and a value that are used together
abbrev pub element_rows : ExprTree → ExprTree → List (List (List Node))
element_rows index value =
    read_rows (readings_of 0 index ++ readings_of (reads_in index) value)
    ++ (released_by 0 index ++ released_by (reads_in index) value) ∷ []

-- what the instructions release, in their order, that evaluate expressions of the statement
abbrev pub statement_rows : BlockTree → List (List (List Node))
statement_rows done = []
statement_rows (set_local heading x value rest) = value_rows value
statement_rows (set_field heading field value rest) = value_rows value
statement_rows (set_element heading field index value rest) = element_rows index value
statement_rows (branch heading guard first second rest) = value_rows guard
statement_rows (loop heading guard inner rest) = value_rows guard
statement_rows (call heading site method arguments into rest) = flat_map value_rows arguments
statement_rows (give_back heading value rest) = value_rows value

-- ---- instructions

abbrev pub is_assignment : BlockTree → Bool
is_assignment (set_local heading x value rest) = true
is_assignment other = false

-- Whether an instruction for the statement evaluates one of its expressions. The one that keeps a result does not.
abbrev pub evaluates : BlockTree → Op → Bool
evaluates statement (op.Read field index) = true
evaluates statement (op.Let x value) = is_assignment statement
evaluates statement (op.Put field index value) = true
evaluates statement (op.Arg x value) = true
evaluates statement (op.Ret x value) = true
evaluates statement (op.Branch guard target) = true
evaluates statement other = false

-- the rows of a statement of which some are left, all of them where none are
abbrev pub rows_for : List (List (List Node)) → BlockTree → List (List (List Node))
rows_for [] statement = statement_rows statement
rows_for (row ∷ rows) statement = row ∷ rows

abbrev pub first_row : List (List (List Node)) → List (List Node)
first_row [] = []
first_row (row ∷ rows) = row

abbrev pub other_rows : List (List (List Node)) → List (List (List Node))
other_rows [] = []
other_rows (row ∷ rows) = rows

-- the row of an instruction, where these rows are left, and what is left behind it
abbrev pub row_of : List BlockTree → List (List (List Node)) → Instr → List (List Node)
row_of statements left one =
    let statement = statement_at statements one.statement in
    if evaluates statement one.op then first_row (rows_for left statement) else []

abbrev pub left_behind : List BlockTree → List (List (List Node)) → Instr → List (List (List Node))
left_behind statements left one =
    let statement = statement_at statements one.statement in
    if evaluates statement one.op then other_rows (rows_for left statement) else left

-- the rows of the instructions of a host, before which these are left
abbrev pub rows_told : List BlockTree → List (List (List Node)) → List Instr → List (List (List Node))
rows_told statements left [] = []
rows_told statements left (one ∷ others) =
    row_of statements left one ∷ rows_told statements (left_behind statements left one) others

-- those of the first hosts of a code, so many
abbrev pub parts_told : List BlockTree → CodeShape → ℕ → List (List (List (List Node)))
parts_told statements code count =
    map (λ number. rows_told statements [] (part_of code (record { 0 = number }))) (range_with_len 0 count)
