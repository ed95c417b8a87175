-- The cost of a program as a sum over pieces, each of which depends on the hosts of few parts.
--
-- What a statement gives to a variable is told to all others that read it, but for the host to which its value rides.
-- That host depends on the walk over the block, and the rest on the hosts of the statement and of the readers. So what
-- is given depends on a moved statement in two ways. Where the statement is the one that gives or one that reads, what
-- is given is a piece of its own. Elsewhere it is counted in the walk over the block. So the pieces are counted for a
-- statement that may be moved, and come to the cost of the program for each.
use Rattle.std.specs.Prelude.{ℕ, zero, suc, Bool, true, false, ◌||◌, nat_eq, if◌then◌else◌, List, [], ◌∷◌, ◌++◌}
use Rattle.std.specs.Prelude.{Option, Some, None, sum_by, map, drop, slice_get, unwrap_or}
use Rattle.std.specs.List.{flat_map, list_any}
use Rattle.js_base.specs.declared.ids.FieldId.{FieldId}
use Rattle.js_base.specs.declared.ids.HostId.{HostId}
use Rattle.js_base.specs.declared.ids.MethodId.{MethodId}
use Rattle.js_base.specs.declared.ids.StmtId.{StmtId}
use Rattle.js_base.specs.declared.ids.VarId.{VarId}
use Rattle.jif_tree.specs.Trees.{ExprTree, number, local, scalar, element, inverted, negated, binary, declassified}
use Rattle.jif_tree.specs.Trees.{endorsed, BlockTree, done, set_local, set_field, set_element, branch, loop}
use Rattle.jif_tree.specs.Trees.{call, give_back, MethodTree, ProgramTree}
use Rattle.jif_tree.specs.LabelRules.{method_at, params_of}
use Rattle.need_labels.specs.Needs.{NeedsShape}
use Rattle.need_labels.specs.Plan.{field_host, statement_host}
use Rattle.msg_cost.specs.declared.spot.Spot.{Spot}
use Rattle.msg_cost.specs.Cost.{cost_of}
use Rattle.msg_cost.specs.Moves.{PlannedShape, on, next_spot, straight_to, carried_to, end_host, called_home}
use Rattle.msg_cost.specs.Moves.{called_end}
use Rattle.msg_cost.specs.Terms.{Term, message, exchange, inside, leave_terms, move_terms, forwards, given_terms}
use Rattle.msg_cost.specs.Walks.{spot_behind}

-- a statement of a block, and the variable to which it gives a value, if there is one
pub record Given : Type 0 where
  pub id : StmtId
  pub gives : Option VarId

abbrev pub given_ids : List Given → List StmtId
given_ids own = map (λ given. given.id) own

pub data CostPiece : Type 0 where
  -- a statement reads or writes a field
  access : ℕ → StmtId → FieldId → CostPiece
  -- a statement gives a variable a value, at a place of these statements, which begin on the host of another one
  giving : ℕ → StmtId → VarId → StmtId → List Given → ℕ → CostPiece
  -- a call of a method gives a parameter a value
  passing : ℕ → StmtId → MethodId → VarId → CostPiece
  -- a statement calls a method, and may keep its result
  calling : ℕ → StmtId → MethodId → Bool → CostPiece
  -- the token goes over the statements of a block that begins on the host of a statement, and behind a nested block it
  -- comes back there
  walk : ℕ → StmtId → Bool → List Given → CostPiece
  -- the method at which the program began is done
  ending : MethodId → CostPiece

-- ---- what a moved statement touches

-- whether a statement is the moved one
abbrev pub is_moved : Option StmtId → StmtId → Bool
is_moved None id = false
is_moved (Some moved) id = nat_eq id.0 moved.0

-- whether the moved statement reads a variable
abbrev pub moved_reads : NeedsShape → Option StmtId → VarId → Bool
moved_reads needs None x = false
moved_reads needs (Some moved) x =
    list_any (λ reader. nat_eq reader.0 moved.0) (unwrap_or (slice_get needs.readers x.0) [])

-- it touches what a statement gives to a variable where it is that statement, or reads the variable
abbrev pub touches : NeedsShape → Option StmtId → StmtId → VarId → Bool
touches needs moved id x = is_moved moved id || moved_reads needs moved x

-- the variable to which a statement gives a value that the moved one does not touch
abbrev pub untouched : NeedsShape → Option StmtId → Given → Option VarId
untouched needs moved given = left given.gives
  where
    left : Option VarId → Option VarId
    left None = None
    left (Some x) = if touches needs moved given.id x then None else Some x

-- ---- the terms of a piece

-- The moves over statements from a spot on, with what they give. What the statement before them gives is still to be
-- counted at the spot.
abbrev pub walk_terms : PlannedShape → Option StmtId → ℕ → Spot → Option VarId → List Given → List Term
walk_terms planned moved weight spot gives [] =
    given_terms planned weight spot.host gives None ++ leave_terms weight spot
walk_terms planned moved weight spot gives (given ∷ others) =
    let next = next_spot planned spot given.id (given_ids others) in
    (given_terms planned weight spot.host gives (straight_to spot next) ++ move_terms weight spot next)
    ++ walk_terms planned moved weight next (untouched planned.needs moved given) others

-- what is still to be counted behind so many statements of what the last one of them gives
abbrev pub gives_behind : NeedsShape → Option StmtId → Option VarId → List Given → ℕ → Option VarId
gives_behind needs moved gives own zero = gives
gives_behind needs moved gives [] (suc count) = gives
gives_behind needs moved gives (given ∷ others) (suc count) =
    gives_behind needs moved (untouched needs moved given) others count

-- the host to which a value rides that is given at a place of statements that begin on a host
abbrev pub carried_at : PlannedShape → StmtId → List StmtId → ℕ → Option HostId
carried_at planned home own place =
    carried_to planned (spot_behind planned (on (statement_host planned.plan home)) own (suc place))
    (drop (suc place) own)

abbrev pub piece_terms : PlannedShape → Option StmtId → CostPiece → List Term
piece_terms planned moved (access weight statement field) =
    exchange weight (statement_host planned.plan statement) (field_host planned.plan field) ∷ []
piece_terms planned moved (giving weight statement x home own place) =
    if touches planned.needs moved statement x
    then forwards planned weight (statement_host planned.plan statement) x
    (carried_at planned home (given_ids own) place)
    else []
piece_terms planned moved (passing weight statement method x) =
    forwards planned weight (statement_host planned.plan statement) x
    (Some (called_home planned (method_at planned.program method)))
piece_terms planned moved (calling weight statement method kept) =
    let host = statement_host planned.plan statement in
    let called = method_at planned.program method in
    (message weight host (called_home planned called) ∷ message weight (called_end planned called) host ∷ [])
    ++ (if kept then exchange weight (called_end planned called) host ∷ [] else [])
piece_terms planned moved (walk weight home nested own) =
    let host = statement_host planned.plan home in
    walk_terms planned moved weight (on host) None own
    ++ (if nested then message weight (end_host planned (on host) (given_ids own)) host ∷ [] else [])
piece_terms planned moved (ending method) =
    let called = method_at planned.program method in
    message 1 (called_end planned called) (called_home planned called) ∷ []

abbrev pub piece_cost : PlannedShape → Option StmtId → CostPiece → ℕ
piece_cost planned moved piece = cost_of planned.hosts (piece_terms planned moved piece)

abbrev pub pieces_cost : PlannedShape → Option StmtId → List CostPiece → ℕ
pieces_cost planned moved pieces = sum_by (piece_cost planned moved) pieces

abbrev pub is_walk : CostPiece → Bool
is_walk (walk weight home nested own) = true
is_walk other = false

-- what a piece costs that is a walk, and nothing for any other
abbrev pub walk_cost : PlannedShape → Option StmtId → CostPiece → ℕ
walk_cost planned moved piece = if is_walk piece then piece_cost planned moved piece else 0

abbrev pub walks_cost : PlannedShape → Option StmtId → List CostPiece → ℕ
walks_cost planned moved pieces = sum_by (walk_cost planned moved) pieces

-- what a piece costs that is no walk, and nothing for a walk
abbrev pub other_cost : PlannedShape → Option StmtId → CostPiece → ℕ
other_cost planned moved piece = if is_walk piece then 0 else piece_cost planned moved piece

abbrev pub others_cost : PlannedShape → Option StmtId → List CostPiece → ℕ
others_cost planned moved pieces = sum_by (other_cost planned moved) pieces

-- ---- the statements of a block

-- those of the block itself, each with what it gives
abbrev pub given_statements : BlockTree → List Given
given_statements done = []
given_statements (set_local heading x value rest) = record { id = heading.id; gives = Some x } ∷ given_statements rest
given_statements (set_field heading field value rest) = record { id = heading.id; gives = None } ∷ given_statements rest
given_statements (set_element heading field index value rest) =
    record { id = heading.id; gives = None } ∷ given_statements rest
given_statements (branch heading guard first second rest) =
    record { id = heading.id; gives = None } ∷ given_statements rest
given_statements (loop heading guard body rest) = record { id = heading.id; gives = None } ∷ given_statements rest
given_statements (call heading site method arguments into rest) =
    record { id = heading.id; gives = into } ∷ given_statements rest
given_statements (give_back heading value rest) = record { id = heading.id; gives = None } ∷ given_statements rest

-- ---- the pieces of a program

-- the fields that an expression reads
abbrev pub expr_pieces : ℕ → StmtId → ExprTree → List CostPiece
expr_pieces weight id (number value) = []
expr_pieces weight id (local x) = []
expr_pieces weight id (scalar field) = access weight id field ∷ []
expr_pieces weight id (element field index) = expr_pieces weight id index ++ access weight id field ∷ []
expr_pieces weight id (inverted operand) = expr_pieces weight id operand
expr_pieces weight id (negated operand) = expr_pieces weight id operand
expr_pieces weight id (binary operator left right) = expr_pieces weight id left ++ expr_pieces weight id right
expr_pieces weight id (declassified operand label) = expr_pieces weight id operand
expr_pieces weight id (endorsed operand label) = expr_pieces weight id operand

-- arguments, each with the parameter that gets it
abbrev pub argument_pieces : ℕ → StmtId → MethodId → List VarId → List ExprTree → List CostPiece
argument_pieces weight id method params [] = []
argument_pieces weight id method [] (argument ∷ others) =
    expr_pieces weight id argument ++ argument_pieces weight id method [] others
argument_pieces weight id method (param ∷ params) (argument ∷ others) =
    (expr_pieces weight id argument ++ passing weight id method param ∷ [])
    ++ argument_pieces weight id method params others

abbrev pub is_kept : Option VarId → Bool
is_kept None = false
is_kept (Some x) = true

abbrev pub call_pieces : ProgramTree → ℕ → StmtId → MethodId → List ExprTree → Option VarId → List CostPiece
call_pieces program weight id method arguments into =
    argument_pieces weight id method (params_of (method_at program method)) arguments
    ++ calling weight id method (is_kept into) ∷ []

-- what a statement gives that stands at a place of a block
abbrev pub given_pieces : ℕ → StmtId → Option VarId → StmtId → List Given → ℕ → List CostPiece
given_pieces weight id None home own place = []
given_pieces weight id (Some x) home own place = giving weight id x home own place ∷ []

-- The pieces of the statements from a place of a block on, without the walk over them. The block begins on the host of
-- a statement, and these are all its statements.
abbrev pub block_pieces : ProgramTree → ℕ → StmtId → List Given → ℕ → BlockTree → List CostPiece
block_pieces program weight home own place done = []
block_pieces program weight home own place (set_local heading x value rest) =
    (expr_pieces weight heading.id value ++ giving weight heading.id x home own place ∷ [])
    ++ block_pieces program weight home own (suc place) rest
block_pieces program weight home own place (set_field heading field value rest) =
    (expr_pieces weight heading.id value ++ access weight heading.id field ∷ [])
    ++ block_pieces program weight home own (suc place) rest
block_pieces program weight home own place (set_element heading field index value rest) =
    (expr_pieces weight heading.id index ++ expr_pieces weight heading.id value
    ++ access weight heading.id field ∷ []) ++ block_pieces program weight home own (suc place) rest
block_pieces program weight home own place (branch heading guard first second rest) =
    (expr_pieces weight heading.id guard
    ++ (walk weight heading.id true (given_statements first)
    ∷ block_pieces program weight heading.id (given_statements first) 0 first)
    ++ (walk weight heading.id true (given_statements second)
    ∷ block_pieces program weight heading.id (given_statements second) 0 second))
    ++ block_pieces program weight home own (suc place) rest
block_pieces program weight home own place (loop heading guard body rest) =
    (expr_pieces (inside weight) heading.id guard
    ++ (walk (inside weight) heading.id true (given_statements body)
    ∷ block_pieces program (inside weight) heading.id (given_statements body) 0 body))
    ++ block_pieces program weight home own (suc place) rest
block_pieces program weight home own place (call heading site method arguments into rest) =
    (call_pieces program weight heading.id method arguments into
    ++ given_pieces weight heading.id into home own place) ++ block_pieces program weight home own (suc place) rest
block_pieces program weight home own place (give_back heading value rest) =
    expr_pieces weight heading.id value ++ block_pieces program weight home own (suc place) rest

abbrev pub method_pieces : ProgramTree → MethodTree → List CostPiece
method_pieces program method =
    walk 1 method.head false (given_statements method.body)
    ∷ block_pieces program 1 method.head (given_statements method.body) 0 method.body

abbrev pub program_pieces : ProgramTree → List CostPiece
program_pieces program = flat_map (method_pieces program) program.methods ++ ending program.main ∷ []
