-- What is known at a place of split code, as a typed assembly language knows the types of its registers (Morrisett,
-- Walker, Crary and Glew): whose token is held there, what is still due under it, and what was read and set on the way.
--
-- Positions hold the statements that are due. A position lists what is due as trees of single statements, and not by
-- their numbers. So the law of an instruction compares it with the statement itself, and no lookup of a number comes
-- between. The next position is given by the law, and not chosen: `typing_laws` say that it is one.
use Rattle.std.specs.Prelude.{◌≡◌, ℕ, Bool, ◌&&◌, nat_eq, pos, List, [], ◌∷◌, ◌++◌, map, Option, Some, if◌then◌else◌}
use Rattle.std.specs.Prelude.{◌⊎◌, Any, IsSomeAnd}
use Rattle.js_base.specs.declared.ids.HostId.{HostId}
use Rattle.js_base.specs.declared.ids.FieldId.{FieldId}
use Rattle.js_base.specs.declared.ids.VarId.{VarId}
use Rattle.js_base.specs.declared.ids.StmtId.{StmtId}
use Rattle.js_base.specs.declared.ids.MethodId.{MethodId}
use Rattle.jif_tree.specs.Trees.{ExprTree, number, local, scalar, element, inverted, negated, binary, declassified}
use Rattle.jif_tree.specs.Trees.{endorsed, BlockTree, done, set_local, set_field, set_element, branch, loop, call}
use Rattle.jif_tree.specs.Trees.{give_back, ProgramTree}
use Rattle.jif_tree.specs.LabelRules.{result_of, method_at}
use Rattle.need_labels.specs.Plan.{statement_host}
use Rattle.msg_cost.specs.Moves.{PlannedShape, is_same}
use Rattle.split_rules.specs.Walk.{other_readers}

-- ---- statements one by one

-- the statements of a block, each with nothing behind it
abbrev pub statements_of : BlockTree → List BlockTree
statements_of done = []
statements_of (set_local heading x value rest) = set_local heading x value done ∷ statements_of rest
statements_of (set_field heading field value rest) = set_field heading field value done ∷ statements_of rest
statements_of (set_element heading field index value rest) =
    set_element heading field index value done ∷ statements_of rest
statements_of (branch heading guard first second rest) =
    branch heading guard first second done ∷ statements_of rest
statements_of (loop heading guard body rest) = loop heading guard body done ∷ statements_of rest
statements_of (call heading site method arguments into rest) =
    call heading site method arguments into done ∷ statements_of rest
statements_of (give_back heading value rest) = give_back heading value done ∷ statements_of rest

-- the statements of a block and of the blocks in it, each with nothing behind it
abbrev pub all_statements : BlockTree → List BlockTree
all_statements done = []
all_statements (set_local heading x value rest) = set_local heading x value done ∷ all_statements rest
all_statements (set_field heading field value rest) = set_field heading field value done ∷ all_statements rest
all_statements (set_element heading field index value rest) =
    set_element heading field index value done ∷ all_statements rest
all_statements (branch heading guard first second rest) =
    branch heading guard first second done
    ∷ all_statements first ++ (all_statements second ++ all_statements rest)
all_statements (loop heading guard inner rest) =
    loop heading guard inner done ∷ all_statements inner ++ all_statements rest
all_statements (call heading site method arguments into rest) =
    call heading site method arguments into done ∷ all_statements rest
all_statements (give_back heading value rest) = give_back heading value done ∷ all_statements rest

-- it is one of the statements of a method
abbrev pub IsStatementOfMethod : ProgramTree → MethodId → BlockTree → Type 0
IsStatementOfMethod program method statement =
    IsSomeAnd (method_at program method) (λ tree. Any (λ one. one ≡ statement) (all_statements tree.body))

-- it is one of the statements of the program
abbrev pub IsOf : ProgramTree → BlockTree → Type 0
IsOf program statement = (method : MethodId) × IsStatementOfMethod program method statement

-- the number of a statement, 0 where there is none
abbrev pub number_of : BlockTree → StmtId
number_of done = record { 0 = 0 }
number_of (set_local heading x value rest) = heading.id
number_of (set_field heading field value rest) = heading.id
number_of (set_element heading field index value rest) = heading.id
number_of (branch heading guard first second rest) = heading.id
number_of (loop heading guard body rest) = heading.id
number_of (call heading site method arguments into rest) = heading.id
number_of (give_back heading value rest) = heading.id

-- whether a statement stands on a host
abbrev pub is_on : PlannedShape → HostId → BlockTree → Bool
is_on planned host statement = is_same (statement_host planned.plan (number_of statement)) host

-- the statements in a row on a host with which these begin, and those behind them
abbrev pub row_of : PlannedShape → HostId → List BlockTree → List BlockTree
row_of planned host [] = []
row_of planned host (statement ∷ others) =
    if is_on planned host statement then statement ∷ row_of planned host others else []

abbrev pub past_row : PlannedShape → HostId → List BlockTree → List BlockTree
past_row planned host [] = []
past_row planned host (statement ∷ others) =
    if is_on planned host statement then past_row planned host others else statement ∷ others

-- ---- what is due

pub data DueWork : Type 0 where
  -- a statement
  run : BlockTree → DueWork
  -- the result of a call, which has come back and is still to be kept
  keep : BlockTree → DueWork

abbrev pub statement_due : DueWork → BlockTree
statement_due (run statement) = statement
statement_due (keep statement) = statement

-- the numbers of the statements for which something is due
abbrev pub due_numbers : List DueWork → List StmtId
due_numbers due = map (λ item. number_of (statement_due item)) due

-- what is due where a block begins
abbrev pub all_due : BlockTree → List DueWork
all_due block = map run (statements_of block)

-- what is due behind a call, before what follows it
abbrev pub kept_due : PlannedShape → BlockTree → List DueWork
kept_due planned (call heading site method arguments into rest) =
    kept (result_of (method_at planned.program method)) into
  where
    kept : Option VarId → Option VarId → List DueWork
    kept (Some result) (Some variable) = keep (call heading site method arguments into rest) ∷ []
    kept result variable = []
kept_due planned other = []

-- ---- positions

pub data Level : Type 0 where
  -- the token with which the body of a method was entered
  body : MethodId → Level
  -- the token of the entry of a number, which was pushed for the same call
  under : ℕ → Level

-- the element of a field that was read, by its index, which is 0 for a plain field
pub record FieldRead : Type 0 where
  pub field : FieldId
  pub index : ExprTree

-- what an expression reads, in the order of its temporaries
abbrev pub field_reads : ExprTree → List FieldRead
field_reads (number value) = []
field_reads (local x) = []
field_reads (scalar field) = record { field = field; index = number (pos 0) } ∷ []
field_reads (element field index) = field_reads index ++ record { field = field; index = index } ∷ []
field_reads (inverted operand) = field_reads operand
field_reads (negated operand) = field_reads operand
field_reads (binary operator left right) = field_reads left ++ field_reads right
field_reads (declassified operand label) = field_reads operand
field_reads (endorsed operand label) = field_reads operand

-- what a statement reads before it does what it is for; a call reads each argument by itself
abbrev pub own_reads : BlockTree → List FieldRead
own_reads done = []
own_reads (set_local heading x value rest) = field_reads value
own_reads (set_field heading field value rest) = field_reads value
own_reads (set_element heading field index value rest) = field_reads index ++ field_reads value
own_reads (branch heading guard first second rest) = field_reads guard
own_reads (loop heading guard inner rest) = field_reads guard
own_reads (call heading site method arguments into rest) = []
own_reads (give_back heading value rest) = field_reads value

-- a parameter and its argument
pub record Argument : Type 0 where
  pub param : VarId
  pub value : ExprTree

pub data Calling : Type 0 where
  no_call : Calling
  -- there is a new frame for a call, with the parameters that are set in it, and those that are still to be set
  arguing : BlockTree → List Argument → List Argument → Calling
  -- the entry behind a call is pushed, and what is due is due of the called method
  entering : BlockTree → Calling

-- the parameters in order, each with its argument
abbrev pub arguments_of : List VarId → List ExprTree → List Argument
arguments_of params [] = []
arguments_of [] (value ∷ values) = []
arguments_of (param ∷ params) (value ∷ values) =
    record { param = param; value = value } ∷ arguments_of params values

-- what is read for what comes next, of a statement or of the next argument
abbrev pub reads_due : Calling → BlockTree → List FieldRead
reads_due no_call statement = own_reads statement
reads_due (arguing called set (next ∷ left)) statement = field_reads next.value
reads_due other statement = []

-- A variable that a host has still to be sent, of the new frame while a call is made, otherwise of the frame, and the
-- statement that gave it its value.
pub record Forward : Type 0 where
  pub variable : VarId
  pub host : HostId
  pub source : BlockTree

pub record Position : Type 0 where
  pub level : Level
  pub due : List DueWork
  -- what the temporaries hold
  pub reads : List FieldRead
  pub calling : Calling
  pub forwards : List Forward

-- where nothing was read, no call is made, and nothing has to be sent
abbrev pub calm : Level → List DueWork → Position
calm level due = record { level = level; due = due; reads = []; calling = no_call; forwards = [] }

-- An entry: the position where it stands, and a word of those who have to trust whoever enters.
pub record Entrance : Type 0 where
  pub position : Position
  pub need : ℕ

abbrev pub with_reads : Position → List FieldRead → Position
with_reads here reads = record {
  level = here.level;
  due = here.due;
  reads = reads;
  calling = here.calling;
  forwards = here.forwards;
}

abbrev pub with_forwards : Position → List Forward → Position
with_forwards here forwards = record {
  level = here.level;
  due = here.due;
  reads = here.reads;
  calling = here.calling;
  forwards = forwards;
}

-- the variable for all other hosts with a statement that reads it
abbrev pub forwards_of : PlannedShape → HostId → BlockTree → VarId → List Forward
forwards_of planned me source x =
    map (λ host. record { variable = x; host = host; source = source }) (other_readers planned me x)

-- a variable has still to be sent to a host
abbrev pub IsOut : List Forward → VarId → HostId → Type 0
IsOut [] x host = ⊥
IsOut (forward ∷ out) x host = ((forward.variable ≡ x) × (forward.host ≡ host)) ⊎ IsOut out x host

-- without the first forward of this variable to this host
abbrev pub without_forward : VarId → HostId → List Forward → List Forward
without_forward x to [] = []
without_forward x to (forward ∷ others) =
    if nat_eq forward.variable.0 x.0 && is_same forward.host to then others else forward ∷ without_forward x to others
