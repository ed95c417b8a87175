-- How much programs within the limits cost at most.
use Rattle.std.proofs.Common.{◌≡◌, ℕ, zero, suc, ◌+◌, ◌*◌, ◌^◌, ◌≤◌, ◌<◌, Bool, true, false, cond, ◌⊎◌, inl, inr}
use Rattle.std.proofs.Common.{List, [], ◌∷◌, ◌++◌, map, filter, length, get_or, eqb, ◌≢◌, refl, ap, subst}
use Rattle.std.proofs.Common.{length-append, lit≤, arith}
use Rattle.std.proofs.Math.Nat.{mul-le-mul}
use Rattle.std.proofs.lemmas.Bool.Decides.{leb_tells, eqb_tells}
use Rattle.std.proofs.lemmas.List.{length-map, get_or_past}
use Rattle.std.proofs.lemmas.List.Elements.{All-nil, All-cons, All-head, All-tail}
use Rattle.std.proofs.lemmas.List.FromFn.{length-range_with_len}
use Rattle.std.proofs.lemmas.List.Sums.{sum_by-cons}
use Rattle.std.specs.Prelude.{All, Option, Some, None, slice_get, sum}
use Rattle.std.specs.List.{flat_map, range_with_len}
use Rattle.js_base.specs.declared.ids.HostId.{HostId}
use Rattle.js_base.specs.declared.ids.VarId.{VarId}
use Rattle.js_base.specs.declared.limits.TheConstants.{EXPRESSION_NODES, PARAMETERS}
use Rattle.host_decl.specs.Hosts.{HostShape, HostsShape, AreHosts, cost_at}
use Rattle.jif_tree.specs.LabelRules.{method_at, params_of}
use Rattle.jif_tree.specs.Numbering.{block_statements}
use Rattle.jif_tree.specs.Trees.{ExprTree, number, local, scalar, element, inverted, negated, binary, declassified}
use Rattle.jif_tree.specs.Trees.{endorsed, BlockTree, done, set_local, set_field, set_element, branch, loop}
use Rattle.jif_tree.specs.Trees.{call, give_back, MethodTree, ProgramTree}
use Rattle.jif_tree.specs.Limits.{IsWithinLimits}
use Rattle.jif_tree.specs.Sizes.{expr_nodes, block_nodes}
use Rattle.need_labels.specs.Plan.{field_host, statement_host}
use Rattle.msg_cost.specs.declared.spot.Spot.{Spot}
use Rattle.msg_cost.specs.Cost.{cost_of}
use Rattle.msg_cost.specs.Moves.{PlannedShape, link_cost, is_same, on, end_of, next_spot, own_statements, block_end}
use Rattle.msg_cost.specs.Moves.{home_of, called_home, called_end, carried_to}
use Rattle.msg_cost.specs.Terms.{Term, message, exchange, inside, leave_terms, enter_terms, move_terms, expr_terms}
use Rattle.msg_cost.specs.Terms.{forwards, argument_terms, result_terms, call_terms, block_terms, method_terms}
use Rattle.msg_cost.specs.Terms.{program_terms, is_told, given_terms}
use Rattle.msg_cost.proofs.Sums.{cost-append}

-- the largest weight, and the cost of an exchange of this weight over the costliest links
abbrev most_weight : ℕ
most_weight = 262144

abbrev most : ℕ
most = 524288000

-- ---- links and messages

pub decided : (a b : ℕ) → (a < b) ⊎ (b ≤ a)
decided a b = elim (leb_tells b a) [ inl less ↦ inr less.1 | inr more ↦ inl more.1 ]

pub no_row : (hosts : HostsShape) → AreHosts hosts → (from to : HostId) → length hosts.hosts ≤ from.0 →
    link_cost hosts from to ≡ 0
no_row hosts sound from to past =
    let rows = sound.table.rows in
    ap (λ row. get_or row to.0 0) (get_or_past hosts.costs from.0 [] (omega arith))

no_column : (hosts : HostsShape) → AreHosts hosts → (from to : HostId) → from.0 < length hosts.hosts →
    length hosts.hosts ≤ to.0 → link_cost hosts from to ≡ 0
no_column hosts sound from to within past =
    let rows = sound.table.rows in
    let columns = sound.table.columns from.0 [] (omega arith) in
    get_or_past (get_or hosts.costs from.0 []) to.0 0 (omega arith)

link_small : (hosts : HostsShape) → AreHosts hosts → (from to : HostId) → link_cost hosts from to ≤ 1000
link_small hosts sound from to =
    small (decided from.0 (length hosts.hosts)) (decided to.0 (length hosts.hosts)) (eqb_tells from.0 to.0)
  where
    small : (from.0 < length hosts.hosts) ⊎ (length hosts.hosts ≤ from.0) →
        (to.0 < length hosts.hosts) ⊎ (length hosts.hosts ≤ to.0) →
        ((eqb from.0 to.0 ≡ true) × (from.0 ≡ to.0)) ⊎ ((eqb from.0 to.0 ≡ false) × (from.0 ≢ to.0)) →
        link_cost hosts from to ≤ 1000
    small (inr past) other same = omega (arith, no_row hosts sound from to past)
    small (inl within) (inr past) same = omega (arith, no_column hosts sound from to within past)
    small (inl within) (inl also) (inl same) =
        let P : ℕ → Type 0 = λ one. cost_at hosts.costs from.0 one ≡ 0 in
        omega (arith, subst P same.1 (sound.table.own from.0 within))
    small (inl within) (inl also) (inr apart) = (sound.table.others from.0 to.0 within also apart.1).1

message_small : (hosts : HostsShape) → AreHosts hosts → (weight : ℕ) → weight ≤ most_weight → (from to : HostId) →
    cost_of hosts (message weight from to ∷ []) ≤ most
message_small hosts sound weight light from to =
    let link = link_small hosts sound from to in
    let product : weight * link_cost hosts from to ≤ most_weight * 1000 = mul-le-mul light link in
    omega arith

pub exchange_small : (hosts : HostsShape) → AreHosts hosts → (weight : ℕ) → weight ≤ most_weight → (from to : HostId) →
    cost_of hosts (exchange weight from to ∷ []) ≤ most
exchange_small hosts sound weight light from to =
    let there = link_small hosts sound from to in
    let back = link_small hosts sound to from in
    let both : link_cost hosts from to + link_cost hosts to from ≤ 2000 = omega arith in
    let product : weight * (link_cost hosts from to + link_cost hosts to from) ≤ most_weight * 2000 =
    mul-le-mul light both in
    omega arith

-- ---- values

pub cost-cons : (hosts : HostsShape) (term : Term) (others : List Term) →
    cost_of hosts (term ∷ others) ≡ cost_of hosts (term ∷ []) + cost_of hosts others
cost-cons hosts term others = cost-append hosts (term ∷ []) others

expr_small : (planned : PlannedShape) → AreHosts planned.hosts → (weight : ℕ) → weight ≤ most_weight → (host : HostId)
    (expr : ExprTree) → cost_of planned.hosts (expr_terms planned weight host expr) ≤ expr_nodes expr * most
expr_small planned sound weight light host (number value) = omega arith
expr_small planned sound weight light host (local x) = omega arith
expr_small planned sound weight light host (scalar field) =
    let read = exchange_small planned.hosts sound weight light host (field_host planned.plan field) in
    omega arith
expr_small planned sound weight light host (element field index) =
    let read = exchange_small planned.hosts sound weight light host (field_host planned.plan field) in
    let inner = expr_small planned sound weight light host index in
    let sum_is = cost-append planned.hosts (expr_terms planned weight host index)
    (exchange weight host (field_host planned.plan field) ∷ []) in
    omega arith
expr_small planned sound weight light host (inverted operand) =
    let inner = expr_small planned sound weight light host operand in omega arith
expr_small planned sound weight light host (negated operand) =
    let inner = expr_small planned sound weight light host operand in omega arith
expr_small planned sound weight light host (binary operator left right) =
    let first = expr_small planned sound weight light host left in
    let second = expr_small planned sound weight light host right in
    let sum_is = cost-append planned.hosts (expr_terms planned weight host left)
    (expr_terms planned weight host right) in
    omega arith
expr_small planned sound weight light host (declassified operand label) =
    let inner = expr_small planned sound weight light host operand in omega arith
expr_small planned sound weight light host (endorsed operand label) =
    let inner = expr_small planned sound weight light host operand in omega arith

abbrev sent : ℕ → HostId → List ℕ → List Term
sent weight host others = map (λ other. exchange weight host (record { 0 = other })) others

one_sent : (hosts : HostsShape) → AreHosts hosts → (weight : ℕ) → weight ≤ most_weight → (host : HostId) (other : ℕ)
    (others : List ℕ) (goes : Bool) →
    cost_of hosts (sent weight host (cond goes (other ∷ others) others))
    ≤ most + cost_of hosts (sent weight host others)
one_sent hosts sound weight light host other others true =
    let one = exchange_small hosts sound weight light host (record { 0 = other }) in
    let sum_is = cost-cons hosts (exchange weight host (record { 0 = other })) (sent weight host others) in
    omega arith
one_sent hosts sound weight light host other others false = omega arith

sent_small : (hosts : HostsShape) → AreHosts hosts → (weight : ℕ) → weight ≤ most_weight → (host : HostId)
    (goes : ℕ → Bool) (others : List ℕ) →
    cost_of hosts (sent weight host (filter goes others)) ≤ length others * most
sent_small hosts sound weight light host goes [] = omega arith
sent_small hosts sound weight light host goes (other ∷ others) =
    let rest = sent_small hosts sound weight light host goes others in
    let one = one_sent hosts sound weight light host other (filter goes others) (goes other) in
    omega arith

forwards_small : (planned : PlannedShape) → AreHosts planned.hosts → (weight : ℕ) → weight ≤ most_weight →
    (host : HostId) (x : VarId) (carried : Option HostId) →
    cost_of planned.hosts (forwards planned weight host x carried) ≤ 16 * most
forwards_small planned sound weight light host x carried =
    let hosts = range_with_len 0 (length planned.hosts.hosts) in
    let many = length-range_with_len 0 (length planned.hosts.hosts) in
    let named = length-map planned.hosts.hosts (λ (one : HostShape). one.name) in
    let few = sound.names.few in
    let all = sent_small planned.hosts sound weight light host (is_told planned host x carried) hosts in
    omega arith

given_small : (planned : PlannedShape) → AreHosts planned.hosts → (weight : ℕ) → weight ≤ most_weight →
    (host : HostId) (gives : Option VarId) (carried : Option HostId) →
    cost_of planned.hosts (given_terms planned weight host gives carried) ≤ 16 * most
given_small planned sound weight light host None carried = omega arith
given_small planned sound weight light host (Some x) carried = forwards_small planned sound weight light host x carried

-- ---- moves

leave_small : (hosts : HostsShape) → AreHosts hosts → (weight : ℕ) → weight ≤ most_weight → (from : HostId)
    (back : Option HostId) → cost_of hosts (leave_terms weight (record { host = from; back = back })) ≤ most
leave_small hosts sound weight light from None = omega arith
leave_small hosts sound weight light from (Some back) = message_small hosts sound weight light from back

enter_small : (hosts : HostsShape) → AreHosts hosts → (weight : ℕ) → weight ≤ most_weight → (from host : HostId)
    (back : Option HostId) (same : Bool) → is_same from host ≡ same →
    cost_of hosts (enter_terms weight from (record { host = host; back = back })) ≤ 2 * most
enter_small hosts sound weight light from host back true is = rw is (omega arith)
enter_small hosts sound weight light from host None false is =
    let there = message_small hosts sound weight light from host in
    rw is (omega arith)
enter_small hosts sound weight light from host (Some back) false is =
    let there = message_small hosts sound weight light from host in
    let told = exchange_small hosts sound weight light from back in
    let sum_is = cost-cons hosts (exchange weight from back) (message weight from host ∷ []) in
    rw is (omega arith)

move_small : (hosts : HostsShape) → AreHosts hosts → (weight : ℕ) → weight ≤ most_weight → (spot next : Spot)
    (same : Bool) → is_same spot.host next.host ≡ same → cost_of hosts (move_terms weight spot next) ≤ 3 * most
move_small hosts sound weight light spot next true is = rw is (omega arith)
move_small hosts sound weight light spot next false is =
    let left = leave_small hosts sound weight light spot.host spot.back in
    let entered = enter_small hosts sound weight light (end_of spot) next.host next.back
    (is_same (end_of spot) next.host) refl in
    let sum_is = cost-append hosts (leave_terms weight spot) (enter_terms weight (end_of spot) next) in
    rw is (omega arith)

-- ---- calls

nodes-cons : (argument : ExprTree) (others : List ExprTree) →
    sum (map expr_nodes (argument ∷ others)) ≡ expr_nodes argument + sum (map expr_nodes others)
nodes-cons argument others = sum_by-cons (λ nodes. nodes) (expr_nodes argument) (map expr_nodes others)

arguments_small : (planned : PlannedShape) → AreHosts planned.hosts → (weight : ℕ) → weight ≤ most_weight →
    (host home : HostId) (params : List VarId) (arguments : List ExprTree) →
    cost_of planned.hosts (argument_terms planned weight host home params arguments)
    ≤ sum (map expr_nodes arguments) * most + length params * (16 * most)
arguments_small planned sound weight light host home params [] = omega arith
arguments_small planned sound weight light host home [] (argument ∷ others) =
    let one = expr_small planned sound weight light host argument in
    let rest = arguments_small planned sound weight light host home [] others in
    let sum_is = cost-append planned.hosts (expr_terms planned weight host argument)
    (argument_terms planned weight host home [] others) in
    let nodes = nodes-cons argument others in
    omega arith
arguments_small planned sound weight light host home (param ∷ params) (argument ∷ others) =
    let one = expr_small planned sound weight light host argument in
    let sent_on = forwards_small planned sound weight light host param (Some home) in
    let rest = arguments_small planned sound weight light host home params others in
    let first_is = cost-append planned.hosts (expr_terms planned weight host argument)
    (forwards planned weight host param (Some home)) in
    let sum_is = cost-append planned.hosts
    (expr_terms planned weight host argument ++ forwards planned weight host param (Some home))
    (argument_terms planned weight host home params others) in
    let nodes = nodes-cons argument others in
    omega arith

result_small : (planned : PlannedShape) → AreHosts planned.hosts → (weight : ℕ) → weight ≤ most_weight →
    (host end : HostId) (into : Option VarId) → cost_of planned.hosts (result_terms weight host end into) ≤ most
result_small planned sound weight light host end None = omega arith
result_small planned sound weight light host end (Some x) =
    exchange_small planned.hosts sound weight light end host

params_few : (program : ProgramTree) →
    All (λ (method : MethodTree). length method.params ≤ PARAMETERS) program.methods →
    (called : Option MethodTree) → ((method : MethodTree) → called ≡ Some method → length method.params ≤ PARAMETERS) →
    length (params_of called) ≤ 8
params_few program all None each = omega arith
params_few program all (Some method) each = each method refl

each_few : (methods : List MethodTree) → All (λ (method : MethodTree). length method.params ≤ PARAMETERS) methods →
    (place : ℕ) (method : MethodTree) → slice_get methods place ≡ Some method → length method.params ≤ PARAMETERS
each_few [] all place method is = absurd (not_some method is)
  where
    not_some : (one : MethodTree) → None ≡ Some one → ⊥
    not_some one same = cc
each_few (first ∷ others) all zero method is =
    let same : first ≡ method = cc in
    let P : MethodTree → Type 0 = λ one. length one.params ≤ PARAMETERS in
    subst P same (All-head P first others all)
each_few (first ∷ others) all (suc place) method is =
    let P : MethodTree → Type 0 = λ one. length one.params ≤ PARAMETERS in
    each_few others (All-tail P first others all) place method is

call_small : (planned : PlannedShape) → AreHosts planned.hosts →
    All (λ (method : MethodTree). length method.params ≤ PARAMETERS) planned.program.methods →
    (weight : ℕ) → weight ≤ most_weight → (host : HostId) (place : ℕ) (arguments : List ExprTree)
    (into : Option VarId) →
    cost_of planned.hosts
    (call_terms planned weight host (slice_get planned.program.methods place) arguments into)
    ≤ sum (map expr_nodes arguments) * most + 131 * most
call_small planned sound few weight light host place arguments into =
    let called = slice_get planned.program.methods place in
    let home = called_home planned called in
    let end = called_end planned called in
    let given = argument_terms planned weight host home (params_of called) arguments in
    let params = params_few planned.program few called (each_few planned.program.methods few place) in
    let given_small = arguments_small planned sound weight light host home (params_of called) arguments in
    let begins = message_small planned.hosts sound weight light host home in
    let ends = message_small planned.hosts sound weight light end host in
    let kept = result_small planned sound weight light host end into in
    let first_is = cost-append planned.hosts given (message weight host home ∷ message weight end host ∷ []) in
    let ends_is = cost-cons planned.hosts (message weight host home) (message weight end host ∷ []) in
    let sum_is = cost-append planned.hosts (given ++ (message weight host home ∷ message weight end host ∷ []))
    (result_terms weight host end into) in
    omega arith

-- ---- blocks

pub all_left : {X : Type 0} (P : X → Type 0) (xs ys : List X) → All P (xs ++ ys) → All P xs
all_left P [] ys all = All-nil P
all_left P (x ∷ xs) ys all =
    All-cons P x xs (All-head P x (xs ++ ys) all) (all_left P xs ys (All-tail P x (xs ++ ys) all))

pub all_right : {X : Type 0} (P : X → Type 0) (xs ys : List X) → All P (xs ++ ys) → All P ys
all_right P [] ys all = all
all_right P (x ∷ xs) ys all = all_right P xs ys (All-tail P x (xs ++ ys) all)

abbrev IsFew : ℕ → Type 0
IsFew nodes = nodes ≤ EXPRESSION_NODES

step_small : (hosts : HostsShape) (move own rest : List Term) (count : ℕ) → cost_of hosts move ≤ 3 * most →
    cost_of hosts own ≤ 500 * most → cost_of hosts rest ≤ count * (512 * most) + most →
    cost_of hosts (move ++ own ++ rest) ≤ suc count * (512 * most) + most
step_small hosts move own rest count move_small own_small rest_small =
    let first_is = cost-append hosts move own in
    let sum_is = cost-append hosts (move ++ own) rest in
    omega arith

nested_small : (hosts : HostsShape) → AreHosts hosts → (weight : ℕ) → weight ≤ most_weight → (body : List Term)
    (end host : HostId) (count : ℕ) → cost_of hosts body ≤ count * (512 * most) + most →
    cost_of hosts (body ++ message weight end host ∷ []) ≤ count * (512 * most) + 2 * most
nested_small hosts sound weight light body end host count small =
    let back = message_small hosts sound weight light end host in
    let sum_is = cost-append hosts body (message weight end host ∷ []) in
    omega arith

branch_small : (hosts : HostsShape) (move guard first second rest : List Term) (one two count : ℕ) →
    cost_of hosts move ≤ 3 * most → cost_of hosts guard ≤ 256 * most →
    cost_of hosts first ≤ one * (512 * most) + 2 * most → cost_of hosts second ≤ two * (512 * most) + 2 * most →
    cost_of hosts rest ≤ count * (512 * most) + most →
    cost_of hosts (move ++ (guard ++ first ++ second) ++ rest) ≤ suc (one + two + count) * (512 * most) + most
branch_small hosts move guard first second rest one two count is_move is_guard is_first is_second is_rest =
    let guard_is = cost-append hosts guard first in
    let inner_is = cost-append hosts (guard ++ first) second in
    let first_is = cost-append hosts move (guard ++ first ++ second) in
    let sum_is = cost-append hosts (move ++ (guard ++ first ++ second)) rest in
    omega arith

loop_small : (hosts : HostsShape) (move guard body rest : List Term) (one count : ℕ) →
    cost_of hosts move ≤ 3 * most → cost_of hosts guard ≤ 256 * most →
    cost_of hosts body ≤ one * (512 * most) + 2 * most → cost_of hosts rest ≤ count * (512 * most) + most →
    cost_of hosts (move ++ (guard ++ body) ++ rest) ≤ suc (one + count) * (512 * most) + most
loop_small hosts move guard body rest one count is_move is_guard is_body is_rest =
    let guard_is = cost-append hosts guard body in
    let first_is = cost-append hosts move (guard ++ body) in
    let sum_is = cost-append hosts (move ++ (guard ++ body)) rest in
    omega arith

moved : (planned : PlannedShape) → AreHosts planned.hosts → (weight : ℕ) → weight ≤ most_weight → (spot next : Spot) →
    cost_of planned.hosts (move_terms weight spot next) ≤ 3 * most
moved planned sound weight light spot next =
    move_small planned.hosts sound weight light spot next (is_same spot.host next.host) refl

inside_light : (weight : ℕ) → inside weight ≤ most_weight
inside_light weight = omega arith

block_small : (planned : PlannedShape) → AreHosts planned.hosts →
    All (λ (method : MethodTree). length method.params ≤ PARAMETERS) planned.program.methods →
    (block : BlockTree) → All IsFew (block_nodes block) → (weight : ℕ) → weight ≤ most_weight → (spot : Spot) →
    cost_of planned.hosts (block_terms planned weight spot block)
    ≤ length (block_statements block) * (512 * most) + most
block_small planned sound few done nodes weight light spot =
    let left = leave_small planned.hosts sound weight light spot.host spot.back in
    omega arith
block_small planned sound few (set_local heading x value rest) nodes weight light spot =
    let host = statement_host planned.plan heading.id in
    let next = next_spot planned spot heading.id (own_statements rest) in
    let carried = carried_to planned next (own_statements rest) in
    let own = expr_terms planned weight host value ++ forwards planned weight host x carried in
    let here = All-head IsFew (expr_nodes value) (block_nodes rest) nodes in
    let read = expr_small planned sound weight light host value in
    let sent_on = forwards_small planned sound weight light host x carried in
    let sum_is = cost-append planned.hosts (expr_terms planned weight host value)
    (forwards planned weight host x carried) in
    step_small planned.hosts (move_terms weight spot next) own (block_terms planned weight next rest)
    (length (block_statements rest)) (moved planned sound weight light spot next) (omega arith)
    (block_small planned sound few rest (All-tail IsFew (expr_nodes value) (block_nodes rest) nodes) weight light next)
block_small planned sound few (set_field heading field value rest) nodes weight light spot =
    let host = statement_host planned.plan heading.id in
    let next = next_spot planned spot heading.id (own_statements rest) in
    let write = exchange weight host (field_host planned.plan field) in
    let own = expr_terms planned weight host value ++ write ∷ [] in
    let here = All-head IsFew (expr_nodes value) (block_nodes rest) nodes in
    let read = expr_small planned sound weight light host value in
    let written = exchange_small planned.hosts sound weight light host (field_host planned.plan field) in
    let sum_is = cost-append planned.hosts (expr_terms planned weight host value) (write ∷ []) in
    step_small planned.hosts (move_terms weight spot next) own (block_terms planned weight next rest)
    (length (block_statements rest)) (moved planned sound weight light spot next) (omega arith)
    (block_small planned sound few rest (All-tail IsFew (expr_nodes value) (block_nodes rest) nodes) weight light next)
block_small planned sound few (set_element heading field index value rest) nodes weight light spot =
    let host = statement_host planned.plan heading.id in
    let next = next_spot planned spot heading.id (own_statements rest) in
    let write = exchange weight host (field_host planned.plan field) in
    let index_terms = expr_terms planned weight host index in
    let value_terms = expr_terms planned weight host value in
    let own = index_terms ++ value_terms ++ write ∷ [] in
    let many = expr_nodes index + expr_nodes value in
    let here = All-head IsFew many (block_nodes rest) nodes in
    let index_read = expr_small planned sound weight light host index in
    let read = expr_small planned sound weight light host value in
    let written = exchange_small planned.hosts sound weight light host (field_host planned.plan field) in
    let first_is = cost-append planned.hosts index_terms value_terms in
    let sum_is = cost-append planned.hosts (index_terms ++ value_terms) (write ∷ []) in
    step_small planned.hosts (move_terms weight spot next) own (block_terms planned weight next rest)
    (length (block_statements rest)) (moved planned sound weight light spot next) (omega arith)
    (block_small planned sound few rest (All-tail IsFew many (block_nodes rest) nodes) weight light next)
block_small planned sound few (branch heading guard first second rest) nodes weight light spot =
    let host = statement_host planned.plan heading.id in
    let next = next_spot planned spot heading.id (own_statements rest) in
    let inner = block_nodes first ++ block_nodes second ++ block_nodes rest in
    let here = All-head IsFew (expr_nodes guard) inner nodes in
    let others = All-tail IsFew (expr_nodes guard) inner nodes in
    let both = all_left IsFew (block_nodes first ++ block_nodes second) (block_nodes rest) others in
    let read = expr_small planned sound weight light host guard in
    let first_terms = block_terms planned weight (on host) first in
    let second_terms = block_terms planned weight (on host) second in
    let one = nested_small planned.hosts sound weight light first_terms (block_end planned host first) host
    (length (block_statements first))
    (block_small planned sound few first (all_left IsFew (block_nodes first) (block_nodes second) both) weight light
    (on host)) in
    let two = nested_small planned.hosts sound weight light second_terms (block_end planned host second) host
    (length (block_statements second))
    (block_small planned sound few second (all_right IsFew (block_nodes first) (block_nodes second) both) weight light
    (on host)) in
    let all = branch_small planned.hosts (move_terms weight spot next) (expr_terms planned weight host guard)
    (first_terms ++ message weight (block_end planned host first) host ∷ [])
    (second_terms ++ message weight (block_end planned host second) host ∷ [])
    (block_terms planned weight next rest)
    (length (block_statements first)) (length (block_statements second)) (length (block_statements rest))
    (moved planned sound weight light spot next) (omega arith) one two
    (block_small planned sound few rest
    (all_right IsFew (block_nodes first ++ block_nodes second) (block_nodes rest) others) weight light next) in
    let long = length-append (block_statements first) (block_statements second) in
    let longer = length-append (block_statements first ++ block_statements second) (block_statements rest) in
    omega arith
block_small planned sound few (loop heading guard body rest) nodes weight light spot =
    let host = statement_host planned.plan heading.id in
    let next = next_spot planned spot heading.id (own_statements rest) in
    let deeper = inside_light weight in
    let inner = block_nodes body ++ block_nodes rest in
    let here = All-head IsFew (expr_nodes guard) inner nodes in
    let others = All-tail IsFew (expr_nodes guard) inner nodes in
    let read = expr_small planned sound (inside weight) deeper host guard in
    let body_terms = block_terms planned (inside weight) (on host) body in
    let one = nested_small planned.hosts sound (inside weight) deeper body_terms (block_end planned host body) host
    (length (block_statements body))
    (block_small planned sound few body (all_left IsFew (block_nodes body) (block_nodes rest) others) (inside weight)
    deeper (on host)) in
    let all = loop_small planned.hosts (move_terms weight spot next) (expr_terms planned (inside weight) host guard)
    (body_terms ++ message (inside weight) (block_end planned host body) host ∷ [])
    (block_terms planned weight next rest) (length (block_statements body)) (length (block_statements rest))
    (moved planned sound weight light spot next) (omega arith) one
    (block_small planned sound few rest (all_right IsFew (block_nodes body) (block_nodes rest) others) weight light
    next) in
    let long = length-append (block_statements body) (block_statements rest) in
    omega arith
block_small planned sound few (call heading site method arguments into rest) nodes weight light spot =
    let host = statement_host planned.plan heading.id in
    let next = next_spot planned spot heading.id (own_statements rest) in
    let carried = carried_to planned next (own_statements rest) in
    let calling = call_terms planned weight host (method_at planned.program method) arguments into in
    let own = calling ++ given_terms planned weight host into carried in
    let many = sum (map expr_nodes arguments) in
    let here = All-head IsFew many (block_nodes rest) nodes in
    let called = call_small planned sound few weight light host method.0 arguments into in
    let sent_on = given_small planned sound weight light host into carried in
    let sum_is = cost-append planned.hosts calling (given_terms planned weight host into carried) in
    step_small planned.hosts (move_terms weight spot next) own (block_terms planned weight next rest)
    (length (block_statements rest)) (moved planned sound weight light spot next) (omega arith)
    (block_small planned sound few rest (All-tail IsFew many (block_nodes rest) nodes) weight light next)
block_small planned sound few (give_back heading value rest) nodes weight light spot =
    let host = statement_host planned.plan heading.id in
    let next = next_spot planned spot heading.id (own_statements rest) in
    let here = All-head IsFew (expr_nodes value) (block_nodes rest) nodes in
    let read = expr_small planned sound weight light host value in
    step_small planned.hosts (move_terms weight spot next) (expr_terms planned weight host value)
    (block_terms planned weight next rest) (length (block_statements rest))
    (moved planned sound weight light spot next) (omega arith)
    (block_small planned sound few rest (All-tail IsFew (expr_nodes value) (block_nodes rest) nodes) weight light next)

-- ---- programs

abbrev method_nodes : MethodTree → List ℕ
method_nodes method = block_nodes method.body

abbrev numbers_of : MethodTree → List ℕ
numbers_of method = method.head.0 ∷ block_statements method.body

methods_small : (planned : PlannedShape) → AreHosts planned.hosts →
    All (λ (method : MethodTree). length method.params ≤ PARAMETERS) planned.program.methods →
    (methods : List MethodTree) → All IsFew (flat_map method_nodes methods) →
    cost_of planned.hosts (flat_map (method_terms planned) methods)
    ≤ length (flat_map numbers_of methods) * (512 * most)
methods_small planned sound few [] nodes = omega arith
methods_small planned sound few (method ∷ methods) nodes =
    let here = all_left IsFew (method_nodes method) (flat_map method_nodes methods) nodes in
    let others = all_right IsFew (method_nodes method) (flat_map method_nodes methods) nodes in
    let body = block_small planned sound few method.body here 1 (lit≤ tt) (on (home_of planned method)) in
    let rest = methods_small planned sound few methods others in
    let sum_is = cost-append planned.hosts (method_terms planned method) (flat_map (method_terms planned) methods) in
    let long = length-append (numbers_of method) (flat_map numbers_of methods) in
    omega arith

-- the cost of a program within the limits fits a number of 64 bits, also with a sign
pub program_small : (planned : PlannedShape) → AreHosts planned.hosts → IsWithinLimits planned.program →
    cost_of planned.hosts (program_terms planned) < 2 ^ 62
program_small planned sound sized =
    let main = method_at planned.program planned.program.main in
    let all = methods_small planned sound sized.params planned.program.methods sized.nodes in
    let last = message_small planned.hosts sound 1 (lit≤ tt) (called_end planned main) (called_home planned main) in
    let sum_is = cost-append planned.hosts (flat_map (method_terms planned) planned.program.methods)
    (message 1 (called_end planned main) (called_home planned main) ∷ []) in
    let few = sized.statements in
    omega arith
