-- The messages that a program costs under a plan, as terms: each goes one way or there and back, and has a weight that
-- says how often it may be sent.
--
-- The cost is a sum of terms. A block gives a list of terms, each with a weight, two hosts, and whether an answer comes
-- back. A value that rides with the token has no term of its own.
use Rattle.std.specs.Prelude.{ℕ, ◌*◌, ◌^◌, min, Bool, ◌&&◌, not, nat_eq, if◌then◌else◌}
use Rattle.std.specs.Prelude.{List, [], ◌∷◌, ◌++◌, map, filter, length, Option, Some, None, slice_get, unwrap_or}
use Rattle.std.specs.List.{flat_map, list_any, range_with_len}
use Rattle.js_base.specs.declared.ids.HostId.{HostId}
use Rattle.js_base.specs.declared.ids.VarId.{VarId}
use Rattle.jif_tree.specs.Trees.{ExprTree, number, local, scalar, element, inverted, negated, binary, declassified}
use Rattle.jif_tree.specs.Trees.{endorsed, BlockTree, done, set_local, set_field, set_element, branch, loop}
use Rattle.jif_tree.specs.Trees.{call, give_back, MethodTree}
use Rattle.jif_tree.specs.LabelRules.{method_at, params_of}
use Rattle.need_labels.specs.Plan.{field_host, statement_host}
use Rattle.msg_cost.specs.declared.spot.Spot.{Spot}
use Rattle.msg_cost.specs.declared.weight.TheConstants.{LOOP_DEPTH}
use Rattle.msg_cost.specs.Moves.{PlannedShape, is_same, on, end_of, next_spot, carried_to, is_to, own_statements}
use Rattle.msg_cost.specs.Moves.{block_end, home_of, called_home, called_end}

pub data Way : Type 0 where
  one_way : Way
  round_trip : Way

pub record Term : Type 0 where
  pub weight : ℕ
  pub way : Way
  pub from : HostId
  pub to : HostId

abbrev pub message : ℕ → HostId → HostId → Term
message weight from to = record { weight = weight; way = one_way; from = from; to = to }

-- a question and its answer, or a change and its receipt
abbrev pub exchange : ℕ → HostId → HostId → Term
exchange weight from to = record { weight = weight; way = round_trip; from = from; to = to }

-- Inside a loop all weighs eight times as much as beside it, except that loops in more than so many others add nothing.
abbrev pub inside : ℕ → ℕ
inside weight = min (8 * weight) (8 ^ LOOP_DEPTH)

-- ---- moves

-- a segment gives back the token that it was lent
abbrev pub leave_terms : ℕ → Spot → List Term
leave_terms weight spot = given spot.back
  where
    given : Option HostId → List Term
    given None = []
    given (Some back) = message weight spot.host back ∷ []

-- the token comes to a spot, after the host that is to get it back was told
abbrev pub enter_terms : ℕ → HostId → Spot → List Term
enter_terms weight from spot =
    if is_same from spot.host then [] else told spot.back ++ message weight from spot.host ∷ []
  where
    told : Option HostId → List Term
    told None = []
    told (Some back) = exchange weight from back ∷ []

-- from a spot to the next, which may be the same
abbrev pub move_terms : ℕ → Spot → Spot → List Term
move_terms weight spot next =
    if is_same spot.host next.host then [] else leave_terms weight spot ++ enter_terms weight (end_of spot) next

-- ---- values

-- what a host reads of others for an expression, from the left and inner before outer
abbrev pub expr_terms : PlannedShape → ℕ → HostId → ExprTree → List Term
expr_terms planned weight host (number value) = []
expr_terms planned weight host (local x) = []
expr_terms planned weight host (scalar field) = exchange weight host (field_host planned.plan field) ∷ []
expr_terms planned weight host (element field index) =
    expr_terms planned weight host index ++ exchange weight host (field_host planned.plan field) ∷ []
expr_terms planned weight host (inverted operand) = expr_terms planned weight host operand
expr_terms planned weight host (negated operand) = expr_terms planned weight host operand
expr_terms planned weight host (binary operator left right) =
    expr_terms planned weight host left ++ expr_terms planned weight host right
expr_terms planned weight host (declassified operand label) = expr_terms planned weight host operand
expr_terms planned weight host (endorsed operand label) = expr_terms planned weight host operand

-- whether a statement on the host of this number reads the variable
abbrev pub reads_on : PlannedShape → VarId → ℕ → Bool
reads_on planned x host =
    list_any (λ statement. nat_eq (statement_host planned.plan statement).0 host)
    (unwrap_or (slice_get planned.needs.readers x.0) [])

-- whether the host of this number is another one, on which a statement reads the variable
abbrev pub is_other_reader : PlannedShape → HostId → VarId → ℕ → Bool
is_other_reader planned host x other = not (nat_eq other host.0) && reads_on planned x other

-- whether the host of this number is sent the variable's value: it is another one that reads the variable, and the
-- value does not ride to it
abbrev pub is_told : PlannedShape → HostId → VarId → Option HostId → ℕ → Bool
is_told planned host x carried other = is_other_reader planned host x other && not (is_to carried other)

-- a host that gives a variable a value sends it to each other host that reads the variable, but for the one to which
-- the value rides
abbrev pub forwards : PlannedShape → ℕ → HostId → VarId → Option HostId → List Term
forwards planned weight host x carried =
    map (λ other. exchange weight host (record { 0 = other }))
    (filter (is_told planned host x carried) (range_with_len 0 (length planned.hosts.hosts)))

-- the same where it gives a value to a variable at all
abbrev pub given_terms : PlannedShape → ℕ → HostId → Option VarId → Option HostId → List Term
given_terms planned weight host None carried = []
given_terms planned weight host (Some x) carried = forwards planned weight host x carried

-- ---- statements

-- arguments, each with the parameter that gets it, whose values ride to the home of the method
abbrev pub argument_terms : PlannedShape → ℕ → HostId → HostId → List VarId → List ExprTree → List Term
argument_terms planned weight host home params [] = []
argument_terms planned weight host home [] (argument ∷ others) =
    expr_terms planned weight host argument ++ argument_terms planned weight host home [] others
argument_terms planned weight host home (param ∷ params) (argument ∷ others) =
    (expr_terms planned weight host argument ++ forwards planned weight host param (Some home))
    ++ argument_terms planned weight host home params others

-- a result that is kept, from the host on which the method ended
abbrev pub result_terms : ℕ → HostId → HostId → Option VarId → List Term
result_terms weight host end None = []
result_terms weight host end (Some x) = exchange weight end host ∷ []

abbrev pub call_terms : PlannedShape → ℕ → HostId → Option MethodTree → List ExprTree → Option VarId → List Term
call_terms planned weight host called arguments into =
    argument_terms planned weight host (called_home planned called) (params_of called) arguments
    ++ (message weight host (called_home planned called) ∷ message weight (called_end planned called) host ∷ [])
    ++ result_terms weight host (called_end planned called) into

-- The statements of a block, from a spot on. Behind a nested block the host of its branch or loop gets the token back.
abbrev pub block_terms : PlannedShape → ℕ → Spot → BlockTree → List Term
block_terms planned weight spot done = leave_terms weight spot
block_terms planned weight spot (set_local heading x value rest) =
    let host = statement_host planned.plan heading.id in
    let next = next_spot planned spot heading.id (own_statements rest) in
    move_terms weight spot next
    ++ (expr_terms planned weight host value
    ++ forwards planned weight host x (carried_to planned next (own_statements rest)))
    ++ block_terms planned weight next rest
block_terms planned weight spot (set_field heading field value rest) =
    let host = statement_host planned.plan heading.id in
    let next = next_spot planned spot heading.id (own_statements rest) in
    move_terms weight spot next
    ++ (expr_terms planned weight host value ++ exchange weight host (field_host planned.plan field) ∷ [])
    ++ block_terms planned weight next rest
block_terms planned weight spot (set_element heading field index value rest) =
    let host = statement_host planned.plan heading.id in
    let next = next_spot planned spot heading.id (own_statements rest) in
    move_terms weight spot next
    ++ (expr_terms planned weight host index ++ expr_terms planned weight host value
    ++ exchange weight host (field_host planned.plan field) ∷ [])
    ++ block_terms planned weight next rest
block_terms planned weight spot (branch heading guard first second rest) =
    let host = statement_host planned.plan heading.id in
    let next = next_spot planned spot heading.id (own_statements rest) in
    move_terms weight spot next
    ++ (expr_terms planned weight host guard
    ++ (block_terms planned weight (on host) first ++ message weight (block_end planned host first) host ∷ [])
    ++ (block_terms planned weight (on host) second ++ message weight (block_end planned host second) host ∷ []))
    ++ block_terms planned weight next rest
block_terms planned weight spot (loop heading guard body rest) =
    let host = statement_host planned.plan heading.id in
    let next = next_spot planned spot heading.id (own_statements rest) in
    let deeper = inside weight in
    move_terms weight spot next
    ++ (expr_terms planned deeper host guard
    ++ (block_terms planned deeper (on host) body ++ message deeper (block_end planned host body) host ∷ []))
    ++ block_terms planned weight next rest
block_terms planned weight spot (call heading site method arguments into rest) =
    let host = statement_host planned.plan heading.id in
    let next = next_spot planned spot heading.id (own_statements rest) in
    move_terms weight spot next
    ++ (call_terms planned weight host (method_at planned.program method) arguments into
    ++ given_terms planned weight host into (carried_to planned next (own_statements rest)))
    ++ block_terms planned weight next rest
block_terms planned weight spot (give_back heading value rest) =
    let host = statement_host planned.plan heading.id in
    let next = next_spot planned spot heading.id (own_statements rest) in
    move_terms weight spot next
    ++ expr_terms planned weight host value
    ++ block_terms planned weight next rest

-- what the first statement of a block costs on its host, but for what it gives
abbrev pub own_terms : PlannedShape → ℕ → BlockTree → List Term
own_terms planned weight done = []
own_terms planned weight (set_local heading x value rest) =
    expr_terms planned weight (statement_host planned.plan heading.id) value
own_terms planned weight (set_field heading field value rest) =
    let host = statement_host planned.plan heading.id in
    expr_terms planned weight host value ++ exchange weight host (field_host planned.plan field) ∷ []
own_terms planned weight (set_element heading field index value rest) =
    let host = statement_host planned.plan heading.id in
    expr_terms planned weight host index ++ expr_terms planned weight host value
    ++ exchange weight host (field_host planned.plan field) ∷ []
own_terms planned weight (branch heading guard first second rest) =
    let host = statement_host planned.plan heading.id in
    expr_terms planned weight host guard
    ++ (block_terms planned weight (on host) first ++ message weight (block_end planned host first) host ∷ [])
    ++ (block_terms planned weight (on host) second ++ message weight (block_end planned host second) host ∷ [])
own_terms planned weight (loop heading guard body rest) =
    let host = statement_host planned.plan heading.id in
    let deeper = inside weight in
    expr_terms planned deeper host guard
    ++ (block_terms planned deeper (on host) body ++ message deeper (block_end planned host body) host ∷ [])
own_terms planned weight (call heading site method arguments into rest) =
    let host = statement_host planned.plan heading.id in
    call_terms planned weight host (method_at planned.program method) arguments into
own_terms planned weight (give_back heading value rest) =
    expr_terms planned weight (statement_host planned.plan heading.id) value

-- ---- programs

abbrev pub method_terms : PlannedShape → MethodTree → List Term
method_terms planned method = block_terms planned 1 (on (home_of planned method)) method.body

-- the bodies of all methods, and the end of `main`, whose home gets the token back
abbrev pub program_terms : PlannedShape → List Term
program_terms planned =
    let main = method_at planned.program planned.program.main in
    flat_map (method_terms planned) planned.program.methods
    ++ message 1 (called_end planned main) (called_home planned main) ∷ []
