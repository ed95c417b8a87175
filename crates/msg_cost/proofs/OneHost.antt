-- Where one host has everything, nothing is sent.
use Rattle.std.proofs.Common.{◌≡◌, ◌≢◌, ◌∙◌, ℕ, zero, suc, ◌+◌, ◌*◌, ◌<◌, Bool, true, false, cond, inl, inr}
use Rattle.std.proofs.Common.{List, [], ◌∷◌, ◌++◌, map, filter, length, get_or, nat_eq, refl, ap, sym, subst}
use Rattle.std.proofs.Common.{eqb-true, arith}
use Rattle.std.proofs.lemmas.Bool.Decides.{eqb_tells}
use Rattle.std.proofs.lemmas.List.Elements.{All-head, All-tail, All-nil}
use Rattle.std.proofs.lemmas.List.Folds.{Any-from_list_any}
use Rattle.std.specs.Prelude.{All, Option, Some, None, slice_get, unwrap_or}
use Rattle.std.specs.List.{AllByRecursion, flat_map, range_with_len}
use Rattle.js_base.specs.declared.ids.FieldId.{FieldId}
use Rattle.js_base.specs.declared.ids.HostId.{HostId}
use Rattle.js_base.specs.declared.ids.MethodId.{MethodId}
use Rattle.js_base.specs.declared.ids.StmtId.{StmtId}
use Rattle.js_base.specs.declared.ids.VarId.{VarId}
use Rattle.host_decl.specs.Hosts.{HostsShape, AreHosts}
use Rattle.jif_tree.specs.LabelRules.{method_at, params_of}
use Rattle.jif_tree.specs.Numbering.{block_statements}
use Rattle.jif_tree.specs.Trees.{ExprTree, number, local, scalar, element, inverted, negated, binary, declassified}
use Rattle.jif_tree.specs.Trees.{endorsed, BlockTree, done, set_local, set_field, set_element, branch, loop}
use Rattle.jif_tree.specs.Trees.{call, give_back, MethodTree}
use Rattle.jif_tree.specs.WellNumbered.{HasField, HasMethod, IsExprIn, IsBlockIn, AreMethodsIn, is_some}
use Rattle.jif_tree.specs.WellNumbered.{IsWellNumbered}
use Rattle.need_labels.specs.Plan.{field_host, statement_host}
use Rattle.msg_cost.specs.declared.spot.Spot.{Spot}
use Rattle.msg_cost.specs.Cost.{cost_of}
use Rattle.msg_cost.specs.CostLaws.{StandsOn}
use Rattle.msg_cost.specs.Moves.{PlannedShape, link_cost, on, end_host, next_spot, own_statements, block_end}
use Rattle.msg_cost.specs.Moves.{called_home, called_end, carried_to}
use Rattle.msg_cost.specs.Terms.{Term, message, exchange, inside, move_terms, expr_terms, reads_on, forwards}
use Rattle.msg_cost.specs.Terms.{is_other_reader, is_told, given_terms}
use Rattle.msg_cost.specs.Terms.{argument_terms, result_terms, call_terms, block_terms, method_terms, program_terms}
use Rattle.msg_cost.proofs.Bounds.{decided, no_row, all_left, all_right}
use Rattle.msg_cost.proofs.Forwards.{not_reading, the_sender, none_told}
use Rattle.msg_cost.proofs.Sums.{cost-append}
use Rattle.msg_cost.proofs.Walks.{stays, unmoved}

-- ---- messages of a host to itself

own_link : (hosts : HostsShape) → AreHosts hosts → (host : HostId) → link_cost hosts host host ≡ 0
own_link hosts sound host =
    elim (decided host.0 (length hosts.hosts)) [
      | inl within ↦ sound.table.own host.0 within
      | inr past ↦ no_row hosts sound host host past
    ]

none_sent : (weight link : ℕ) → link ≡ 0 → 0 + weight * link ≡ 0
none_sent weight link none = rw none (omega arith)

message_none : (hosts : HostsShape) → AreHosts hosts → (weight : ℕ) (host : HostId) →
    cost_of hosts (message weight host host ∷ []) ≡ 0
message_none hosts sound weight host = none_sent weight (link_cost hosts host host) (own_link hosts sound host)

exchange_none : (hosts : HostsShape) → AreHosts hosts → (weight : ℕ) (host : HostId) →
    cost_of hosts (exchange weight host host ∷ []) ≡ 0
exchange_none hosts sound weight host =
    let none = own_link hosts sound host in
    none_sent weight (link_cost hosts host host + link_cost hosts host host) (omega arith)

both_none : (hosts : HostsShape) (first second : List Term) → cost_of hosts first ≡ 0 → cost_of hosts second ≡ 0 →
    cost_of hosts (first ++ second) ≡ 0
both_none hosts first second one two = let sum_is = cost-append hosts first second in omega arith

-- ---- values

inside_list : {X : Type 0} (xs : List X) (place : ℕ) (x : X) → slice_get xs place ≡ Some x → place < length xs
inside_list [] place x is = absurd (not_some x is)
  where
    not_some : {X : Type 0} (one : X) → None ≡ Some one → ⊥
    not_some one same = cc
inside_list (first ∷ others) zero x is = omega arith
inside_list (first ∷ others) (suc place) x is = let so = inside_list others place x is in omega arith

field_none : (planned : PlannedShape) → AreHosts planned.hosts → (host : HostId) → StandsOn planned host →
    (array : Bool) (field : FieldId) → HasField planned.program array field → (weight : ℕ) →
    cost_of planned.hosts (exchange weight host (field_host planned.plan field) ∷ []) ≡ 0
field_none planned sound host stands array field there weight =
    let P : HostId → Type 0 = λ one. cost_of planned.hosts (exchange weight host one ∷ []) ≡ 0 in
    let within = inside_list planned.program.fields field.0 there.0 there.1 in
    subst P (sym (stands.fields field within)) (exchange_none planned.hosts sound weight host)

expr_none : (planned : PlannedShape) → AreHosts planned.hosts → (host : HostId) → StandsOn planned host →
    (method : MethodId) (expr : ExprTree) → IsExprIn planned.program method expr → (weight : ℕ) →
    cost_of planned.hosts (expr_terms planned weight host expr) ≡ 0
expr_none planned sound host stands method (number value) there weight = refl
expr_none planned sound host stands method (local x) there weight = refl
expr_none planned sound host stands method (scalar field) there weight =
    field_none planned sound host stands false field there weight
expr_none planned sound host stands method (element field index) there weight =
    both_none planned.hosts (expr_terms planned weight host index)
    (exchange weight host (field_host planned.plan field) ∷ [])
    (expr_none planned sound host stands method index there.1 weight)
    (field_none planned sound host stands true field there.0 weight)
expr_none planned sound host stands method (inverted operand) there weight =
    expr_none planned sound host stands method operand there weight
expr_none planned sound host stands method (negated operand) there weight =
    expr_none planned sound host stands method operand there weight
expr_none planned sound host stands method (binary operator left right) there weight =
    both_none planned.hosts (expr_terms planned weight host left) (expr_terms planned weight host right)
    (expr_none planned sound host stands method left there.0 weight)
    (expr_none planned sound host stands method right there.1 weight)
expr_none planned sound host stands method (declassified operand label) there weight =
    expr_none planned sound host stands method operand there weight
expr_none planned sound host stands method (endorsed operand label) there weight =
    expr_none planned sound host stands method operand there weight

all_of_row : (P : StmtId → Type 0) (rows : List (List StmtId)) → All (All P) rows → (place : ℕ) →
    All P (unwrap_or (slice_get rows place) [])
all_of_row P [] all place = All-nil P
all_of_row P (row ∷ rows) all zero = All-head (All P) row rows all
all_of_row P (row ∷ rows) all (suc place) = all_of_row P rows (All-tail (All P) row rows all) place

no_other_reads : (planned : PlannedShape) (host : HostId) → StandsOn planned host → (x : VarId) (other : ℕ) →
    other ≢ host.0 → reads_on planned x other ≡ true → ⊥
no_other_reads planned host stands x other apart reads =
    let rows = unwrap_or (slice_get planned.needs.readers x.0) [] in
    let found = Any-from_list_any (λ (statement : StmtId). nat_eq (statement_host planned.plan statement).0 other) rows
    reads in
    let P : StmtId → Type 0 = λ statement. statement_host planned.plan statement ≡ host in
    let here : statement_host planned.plan (get_or rows found.0 found.1) ≡ host =
    all_of_row P planned.needs.readers stands.readers x.0 found.0 found.1 found.2 in
    let there = eqb-true (statement_host planned.plan found.1).0 other found.4 in
    let same = ap (λ (one : StmtId). (statement_host planned.plan one).0) found.3 in
    apart (sym there ∙ sym same ∙ ap (λ (one : HostId). one.0) here)

gets_nothing : (planned : PlannedShape) (host : HostId) → StandsOn planned host → (x : VarId) (other : ℕ) →
    is_other_reader planned host x other ≡ false
gets_nothing planned host stands x other =
    elim (eqb_tells other host.0) [
      | inl same ↦ the_sender planned host x other same.1
      | inr apart ↦ not_reading planned host x other (no_other_reads planned host stands x other apart.1)
    ]

none_pass : (test : ℕ → Bool) → ((one : ℕ) → test one ≡ false) → (xs : List ℕ) → filter test xs ≡ []
none_pass test none [] = refl
none_pass test none (x ∷ xs) = ap (λ b. cond b (x ∷ filter test xs) (filter test xs)) (none x) ∙ none_pass test none xs

forwards_none : (planned : PlannedShape) (host : HostId) → StandsOn planned host → (x : VarId)
    (carried : Option HostId) (weight : ℕ) → cost_of planned.hosts (forwards planned weight host x carried) ≡ 0
forwards_none planned host stands x carried weight =
    let send : ℕ → Term = λ other. exchange weight host (record { 0 = other }) in
    ap (λ others. cost_of planned.hosts (map send others))
    (none_pass (is_told planned host x carried)
    (λ other. none_told planned host x carried other (gets_nothing planned host stands x other))
    (range_with_len 0 (length planned.hosts.hosts)))

given_none : (planned : PlannedShape) (host : HostId) → StandsOn planned host → (gives : Option VarId)
    (carried : Option HostId) (weight : ℕ) → cost_of planned.hosts (given_terms planned weight host gives carried) ≡ 0
given_none planned host stands None carried weight = refl
given_none planned host stands (Some x) carried weight = forwards_none planned host stands x carried weight

-- ---- calls

arguments_none : (planned : PlannedShape) → AreHosts planned.hosts → (host : HostId) → StandsOn planned host →
    (method : MethodId) (home : HostId) (params : List VarId) (arguments : List ExprTree) →
    AllByRecursion (IsExprIn planned.program method) arguments → (weight : ℕ) →
    cost_of planned.hosts (argument_terms planned weight host home params arguments) ≡ 0
arguments_none planned sound host stands method home params [] there weight = refl
arguments_none planned sound host stands method home [] (argument ∷ others) there weight =
    both_none planned.hosts (expr_terms planned weight host argument)
    (argument_terms planned weight host home [] others)
    (expr_none planned sound host stands method argument there.0 weight)
    (arguments_none planned sound host stands method home [] others there.1 weight)
arguments_none planned sound host stands method home (param ∷ params) (argument ∷ others) there weight =
    both_none planned.hosts (expr_terms planned weight host argument ++ forwards planned weight host param (Some home))
    (argument_terms planned weight host home params others)
    (both_none planned.hosts (expr_terms planned weight host argument) (forwards planned weight host param (Some home))
    (expr_none planned sound host stands method argument there.0 weight)
    (forwards_none planned host stands param (Some home) weight))
    (arguments_none planned sound host stands method home params others there.1 weight)

result_none : (planned : PlannedShape) → AreHosts planned.hosts → (host : HostId) (into : Option VarId) (weight : ℕ) →
    cost_of planned.hosts (result_terms weight host host into) ≡ 0
result_none planned sound host None weight = refl
result_none planned sound host (Some x) weight = exchange_none planned.hosts sound weight host

abbrev IsOn : PlannedShape → HostId → ℕ → Type 0
IsOn planned host place = statement_host planned.plan (record { 0 = place }) ≡ host

-- ---- where blocks and methods end

next_on : (planned : PlannedShape) (host : HostId) (id : StmtId) (others : List StmtId) →
    statement_host planned.plan id ≡ host → next_spot planned (on host) id others ≡ on host
next_on planned host id others here =
    let P : HostId → Type 0 = λ one. next_spot planned (on one) id others ≡ on one in
    subst P here (stays planned id others)

step_end : (planned : PlannedShape) (host : HostId) (id : StmtId) (others : List StmtId) →
    statement_host planned.plan id ≡ host → end_host planned (on host) others ≡ host →
    end_host planned (next_spot planned (on host) id others) others ≡ host
step_end planned host id others here end_is =
    ap (λ spot. end_host planned spot others) (next_on planned host id others here) ∙ end_is

own_end : (planned : PlannedShape) (host : HostId) (block : BlockTree) →
    All (IsOn planned host) (block_statements block) → end_host planned (on host) (own_statements block) ≡ host
own_end planned host done all = refl
own_end planned host (set_local heading x value rest) all =
    let P = IsOn planned host in
    step_end planned host heading.id (own_statements rest)
    (All-head P heading.id.0 (block_statements rest) all)
    (own_end planned host rest (All-tail P heading.id.0 (block_statements rest) all))
own_end planned host (set_field heading field value rest) all =
    let P = IsOn planned host in
    step_end planned host heading.id (own_statements rest)
    (All-head P heading.id.0 (block_statements rest) all)
    (own_end planned host rest (All-tail P heading.id.0 (block_statements rest) all))
own_end planned host (set_element heading field index value rest) all =
    let P = IsOn planned host in
    step_end planned host heading.id (own_statements rest)
    (All-head P heading.id.0 (block_statements rest) all)
    (own_end planned host rest (All-tail P heading.id.0 (block_statements rest) all))
own_end planned host (branch heading guard first second rest) all =
    let P = IsOn planned host in
    let inner = block_statements first ++ block_statements second in
    step_end planned host heading.id (own_statements rest)
    (All-head P heading.id.0 (inner ++ block_statements rest) all)
    (own_end planned host rest (all_right P inner (block_statements rest)
    (All-tail P heading.id.0 (inner ++ block_statements rest) all)))
own_end planned host (loop heading guard body rest) all =
    let P = IsOn planned host in
    step_end planned host heading.id (own_statements rest)
    (All-head P heading.id.0 (block_statements body ++ block_statements rest) all)
    (own_end planned host rest (all_right P (block_statements body) (block_statements rest)
    (All-tail P heading.id.0 (block_statements body ++ block_statements rest) all)))
own_end planned host (call heading site method arguments into rest) all =
    let P = IsOn planned host in
    step_end planned host heading.id (own_statements rest)
    (All-head P heading.id.0 (block_statements rest) all)
    (own_end planned host rest (All-tail P heading.id.0 (block_statements rest) all))
own_end planned host (give_back heading value rest) all =
    let P = IsOn planned host in
    step_end planned host heading.id (own_statements rest)
    (All-head P heading.id.0 (block_statements rest) all)
    (own_end planned host rest (All-tail P heading.id.0 (block_statements rest) all))

abbrev numbers_of : MethodTree → List ℕ
numbers_of method = method.head.0 ∷ block_statements method.body

method_on : (planned : PlannedShape) (host : HostId) (methods : List MethodTree) →
    All (IsOn planned host) (flat_map numbers_of methods) → (place : ℕ) (method : MethodTree) →
    slice_get methods place ≡ Some method → All (IsOn planned host) (numbers_of method)
method_on planned host [] all place method is = absurd (not_some method is)
  where
    not_some : (one : MethodTree) → None ≡ Some one → ⊥
    not_some one same = cc
method_on planned host (first ∷ others) all zero method is =
    let same : first ≡ method = cc in
    let P : MethodTree → Type 0 = λ one. All (IsOn planned host) (numbers_of one) in
    subst P same (all_left (IsOn planned host) (numbers_of first) (flat_map numbers_of others) all)
method_on planned host (first ∷ others) all (suc place) method is =
    method_on planned host others (all_right (IsOn planned host) (numbers_of first) (flat_map numbers_of others) all)
    place method is

home_on : (planned : PlannedShape) (host : HostId) → StandsOn planned host → (params : ℕ) (gives : Bool)
    (method : MethodId) → HasMethod planned.program params gives method →
    called_home planned (method_at planned.program method) ≡ host
home_on planned host stands params gives method there =
    let numbers = method_on planned host planned.program.methods stands.statements method.0 there.0 there.1 in
    ap (λ called. called_home planned called) there.1
    ∙ All-head (IsOn planned host) there.0.head.0 (block_statements there.0.body) numbers

end_on : (planned : PlannedShape) (host : HostId) → StandsOn planned host → (params : ℕ) (gives : Bool)
    (method : MethodId) → HasMethod planned.program params gives method →
    called_end planned (method_at planned.program method) ≡ host
end_on planned host stands params gives method there =
    let numbers = method_on planned host planned.program.methods stands.statements method.0 there.0 there.1 in
    let home = All-head (IsOn planned host) there.0.head.0 (block_statements there.0.body) numbers in
    ap (λ called. called_end planned called) there.1
    ∙ ap (λ (one : HostId). end_host planned (on one) (own_statements there.0.body)) home
    ∙ own_end planned host there.0.body
    (All-tail (IsOn planned host) there.0.head.0 (block_statements there.0.body) numbers)

call_none : (planned : PlannedShape) → AreHosts planned.hosts → (host : HostId) → StandsOn planned host →
    (method called : MethodId) (arguments : List ExprTree) (into : Option VarId) →
    HasMethod planned.program (length arguments) (is_some into) called →
    AllByRecursion (IsExprIn planned.program method) arguments → (weight : ℕ) →
    cost_of planned.hosts (call_terms planned weight host (method_at planned.program called) arguments into) ≡ 0
call_none planned sound host stands method called arguments into there all weight =
    let tree = method_at planned.program called in
    let given = argument_terms planned weight host (called_home planned tree) (params_of tree) arguments in
    let P : HostId → Type 0 = λ home. cost_of planned.hosts (message weight host home ∷ []) ≡ 0 in
    let Q : HostId → Type 0 = λ end. cost_of planned.hosts (message weight end host ∷ []) ≡ 0 in
    let R : HostId → Type 0 = λ end. cost_of planned.hosts (result_terms weight host end into) ≡ 0 in
    let home_is = home_on planned host stands (length arguments) (is_some into) called there in
    let end_is = end_on planned host stands (length arguments) (is_some into) called there in
    let alone = message_none planned.hosts sound weight host in
    both_none planned.hosts
    (given ++ (message weight host (called_home planned tree) ∷ message weight (called_end planned tree) host ∷ []))
    (result_terms weight host (called_end planned tree) into)
    (both_none planned.hosts given
    (message weight host (called_home planned tree) ∷ message weight (called_end planned tree) host ∷ [])
    (arguments_none planned sound host stands method (called_home planned tree) (params_of tree) arguments all weight)
    (both_none planned.hosts (message weight host (called_home planned tree) ∷ [])
    (message weight (called_end planned tree) host ∷ []) (subst P (sym home_is) alone) (subst Q (sym end_is) alone)))
    (subst R (sym end_is) (result_none planned sound host into weight))

-- ---- blocks

-- a statement that costs nothing on the host, and those after it
step_none : (planned : PlannedShape) (host : HostId) (id : StmtId) (own : HostId → List Term) (weight : ℕ)
    (rest : BlockTree) → statement_host planned.plan id ≡ host → cost_of planned.hosts (own host) ≡ 0 →
    cost_of planned.hosts (block_terms planned weight (on host) rest) ≡ 0 →
    cost_of planned.hosts (move_terms weight (on host) (next_spot planned (on host) id (own_statements rest))
    ++ own (statement_host planned.plan id)
    ++ block_terms planned weight (next_spot planned (on host) id (own_statements rest)) rest) ≡ 0
step_none planned host id own weight rest here none after =
    let P : Spot → Type 0 = λ next. cost_of planned.hosts (move_terms weight (on host) next
    ++ own (statement_host planned.plan id) ++ block_terms planned weight next rest) ≡ 0 in
    let Q : HostId → Type 0 = λ one. cost_of planned.hosts (move_terms weight (on host) (on host)
    ++ own one ++ block_terms planned weight (on host) rest) ≡ 0 in
    let R : List Term → Type 0 = λ moves. cost_of planned.hosts (moves
    ++ own host ++ block_terms planned weight (on host) rest) ≡ 0 in
    subst P (sym (next_on planned host id (own_statements rest) here))
    (subst Q (sym here) (subst R (sym (unmoved weight host))
    (both_none planned.hosts (own host) (block_terms planned weight (on host) rest) none after)))

nested_none : (planned : PlannedShape) → AreHosts planned.hosts → (host : HostId) (weight : ℕ) (block : BlockTree) →
    All (IsOn planned host) (block_statements block) →
    cost_of planned.hosts (block_terms planned weight (on host) block) ≡ 0 →
    cost_of planned.hosts
    (block_terms planned weight (on host) block ++ message weight (block_end planned host block) host ∷ []) ≡ 0
nested_none planned sound host weight block all none =
    let P : HostId → Type 0 = λ end. cost_of planned.hosts (message weight end host ∷ []) ≡ 0 in
    both_none planned.hosts (block_terms planned weight (on host) block)
    (message weight (block_end planned host block) host ∷ []) none
    (subst P (sym (own_end planned host block all)) (message_none planned.hosts sound weight host))

block_none : (planned : PlannedShape) → AreHosts planned.hosts → (host : HostId) → StandsOn planned host →
    (method : MethodId) (gives : Bool) (block : BlockTree) → IsBlockIn planned.program method gives block →
    All (IsOn planned host) (block_statements block) → (weight : ℕ) →
    cost_of planned.hosts (block_terms planned weight (on host) block) ≡ 0
block_none planned sound host stands method gives done there all weight = refl
block_none planned sound host stands method gives (set_local heading x value rest) there all weight =
    let P = IsOn planned host in
    let carried = carried_to planned (next_spot planned (on host) heading.id (own_statements rest))
    (own_statements rest) in
    step_none planned host heading.id
    (λ one. expr_terms planned weight one value ++ forwards planned weight one x carried) weight rest
    (All-head P heading.id.0 (block_statements rest) all)
    (both_none planned.hosts (expr_terms planned weight host value) (forwards planned weight host x carried)
    (expr_none planned sound host stands method value there.1 weight)
    (forwards_none planned host stands x carried weight))
    (block_none planned sound host stands method gives rest there.2
    (All-tail P heading.id.0 (block_statements rest) all) weight)
block_none planned sound host stands method gives (set_field heading field value rest) there all weight =
    let P = IsOn planned host in
    step_none planned host heading.id
    (λ one. expr_terms planned weight one value ++ exchange weight one (field_host planned.plan field) ∷ []) weight rest
    (All-head P heading.id.0 (block_statements rest) all)
    (both_none planned.hosts (expr_terms planned weight host value)
    (exchange weight host (field_host planned.plan field) ∷ [])
    (expr_none planned sound host stands method value there.1 weight)
    (field_none planned sound host stands false field there.0 weight))
    (block_none planned sound host stands method gives rest there.2
    (All-tail P heading.id.0 (block_statements rest) all) weight)
block_none planned sound host stands method gives (set_element heading field index value rest) there all weight =
    let P = IsOn planned host in
    step_none planned host heading.id
    (λ one. expr_terms planned weight one index ++ expr_terms planned weight one value
    ++ exchange weight one (field_host planned.plan field) ∷ []) weight rest
    (All-head P heading.id.0 (block_statements rest) all)
    (both_none planned.hosts (expr_terms planned weight host index ++ expr_terms planned weight host value)
    (exchange weight host (field_host planned.plan field) ∷ [])
    (both_none planned.hosts (expr_terms planned weight host index) (expr_terms planned weight host value)
    (expr_none planned sound host stands method index there.1 weight)
    (expr_none planned sound host stands method value there.2 weight))
    (field_none planned sound host stands true field there.0 weight))
    (block_none planned sound host stands method gives rest there.3
    (All-tail P heading.id.0 (block_statements rest) all) weight)
block_none planned sound host stands method gives (branch heading guard first second rest) there all weight =
    let P = IsOn planned host in
    let inner = block_statements first ++ block_statements second in
    let others = All-tail P heading.id.0 (inner ++ block_statements rest) all in
    let both = all_left P inner (block_statements rest) others in
    let in_first = all_left P (block_statements first) (block_statements second) both in
    let in_second = all_right P (block_statements first) (block_statements second) both in
    let first_terms = block_terms planned weight (on host) first
    ++ message weight (block_end planned host first) host ∷ [] in
    let second_terms = block_terms planned weight (on host) second
    ++ message weight (block_end planned host second) host ∷ [] in
    step_none planned host heading.id
    (λ one. expr_terms planned weight one guard
    ++ (block_terms planned weight (on one) first ++ message weight (block_end planned one first) one ∷ [])
    ++ (block_terms planned weight (on one) second ++ message weight (block_end planned one second) one ∷ []))
    weight rest
    (All-head P heading.id.0 (inner ++ block_statements rest) all)
    (both_none planned.hosts (expr_terms planned weight host guard ++ first_terms) second_terms
    (both_none planned.hosts (expr_terms planned weight host guard) first_terms
    (expr_none planned sound host stands method guard there.0 weight)
    (nested_none planned sound host weight first in_first
    (block_none planned sound host stands method gives first there.1 in_first weight)))
    (nested_none planned sound host weight second in_second
    (block_none planned sound host stands method gives second there.2 in_second weight)))
    (block_none planned sound host stands method gives rest there.3
    (all_right P inner (block_statements rest) others) weight)
block_none planned sound host stands method gives (loop heading guard body rest) there all weight =
    let P = IsOn planned host in
    let deeper = inside weight in
    let others = All-tail P heading.id.0 (block_statements body ++ block_statements rest) all in
    let in_body = all_left P (block_statements body) (block_statements rest) others in
    step_none planned host heading.id
    (λ one. expr_terms planned deeper one guard
    ++ (block_terms planned deeper (on one) body ++ message deeper (block_end planned one body) one ∷ [])) weight rest
    (All-head P heading.id.0 (block_statements body ++ block_statements rest) all)
    (both_none planned.hosts (expr_terms planned deeper host guard)
    (block_terms planned deeper (on host) body ++ message deeper (block_end planned host body) host ∷ [])
    (expr_none planned sound host stands method guard there.0 deeper)
    (nested_none planned sound host deeper body in_body
    (block_none planned sound host stands method gives body there.1 in_body deeper)))
    (block_none planned sound host stands method gives rest there.2
    (all_right P (block_statements body) (block_statements rest) others) weight)
block_none planned sound host stands method gives (call heading site called arguments into rest) there all weight =
    let P = IsOn planned host in
    let carried = carried_to planned (next_spot planned (on host) heading.id (own_statements rest))
    (own_statements rest) in
    step_none planned host heading.id
    (λ one. call_terms planned weight one (method_at planned.program called) arguments into
    ++ given_terms planned weight one into carried) weight rest
    (All-head P heading.id.0 (block_statements rest) all)
    (both_none planned.hosts (call_terms planned weight host (method_at planned.program called) arguments into)
    (given_terms planned weight host into carried)
    (call_none planned sound host stands method called arguments into there.0 there.1 weight)
    (given_none planned host stands into carried weight))
    (block_none planned sound host stands method gives rest there.3
    (All-tail P heading.id.0 (block_statements rest) all) weight)
block_none planned sound host stands method gives (give_back heading value rest) there all weight =
    let P = IsOn planned host in
    step_none planned host heading.id (λ one. expr_terms planned weight one value) weight rest
    (All-head P heading.id.0 (block_statements rest) all)
    (expr_none planned sound host stands method value there.1 weight)
    (block_none planned sound host stands method gives rest there.2
    (All-tail P heading.id.0 (block_statements rest) all) weight)

-- ---- programs

methods_none : (planned : PlannedShape) → AreHosts planned.hosts → (host : HostId) → StandsOn planned host →
    (methods : List MethodTree) (place : ℕ) → AreMethodsIn planned.program place methods →
    All (IsOn planned host) (flat_map numbers_of methods) →
    cost_of planned.hosts (flat_map (method_terms planned) methods) ≡ 0
methods_none planned sound host stands [] place there all = refl
methods_none planned sound host stands (method ∷ methods) place there all =
    let P = IsOn planned host in
    let here = all_left P (numbers_of method) (flat_map numbers_of methods) all in
    let home = All-head P method.head.0 (block_statements method.body) here in
    let Q : HostId → Type 0 = λ one. cost_of planned.hosts (block_terms planned 1 (on one) method.body) ≡ 0 in
    both_none planned.hosts (method_terms planned method) (flat_map (method_terms planned) methods)
    (subst Q (sym home) (block_none planned sound host stands (record { 0 = place }) (is_some method.result) method.body
    there.0.body (All-tail P method.head.0 (block_statements method.body) here) 1))
    (methods_none planned sound host stands methods (suc place) there.1
    (all_right P (numbers_of method) (flat_map numbers_of methods) all))

pub program_none : (planned : PlannedShape) → AreHosts planned.hosts → IsWellNumbered planned.program →
    (host : HostId) → StandsOn planned host → cost_of planned.hosts (program_terms planned) ≡ 0
program_none planned sound numbered host stands =
    let main = method_at planned.program planned.program.main in
    let P : HostId → Type 0 = λ end. cost_of planned.hosts (message 1 end (called_home planned main) ∷ []) ≡ 0 in
    let Q : HostId → Type 0 = λ home. cost_of planned.hosts (message 1 host home ∷ []) ≡ 0 in
    both_none planned.hosts (flat_map (method_terms planned) planned.program.methods)
    (message 1 (called_end planned main) (called_home planned main) ∷ [])
    (methods_none planned sound host stands planned.program.methods 0 numbered.methods stands.statements)
    (subst P (sym (end_on planned host stands 0 false planned.program.main numbered.main))
    (subst Q (sym (home_on planned host stands 0 false planned.program.main numbered.main))
    (message_none planned.hosts sound 1 host)))
