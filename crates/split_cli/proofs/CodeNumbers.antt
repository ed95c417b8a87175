-- The numbers that the code of a split program names are those of the program, so they have 64 bits.
use Rattle.std.proofs.Common.{◌≡◌, ◌∙◌, ℕ, suc, ◌+◌, List, [], ◌∷◌, ◌++◌, map, length, Option, Some, None}
use Rattle.std.proofs.Common.{slice_get, refl, ap, subst, pos}
use Rattle.std.specs.Prelude.{⊤, unwrap_or}
use Rattle.std.specs.List.{AllByRecursion, range_with_len}
use Rattle.std.proofs.lemmas.List.Elements.{All-nil, All-cons, All-append, All-push, recursion_from_All}
use Rattle.js_base.specs.declared.ids.HostId.{HostId}
use Rattle.js_base.specs.declared.ids.MethodId.{MethodId}
use Rattle.js_base.specs.declared.ids.SiteId.{SiteId}
use Rattle.js_base.specs.declared.ids.StmtId.{StmtId}
use Rattle.js_base.specs.declared.ids.VarId.{VarId}
use Rattle.principals.specs.ActsFor.{Declared}
use Rattle.label_lattice.specs.declared.label.Label.{Label}
use Rattle.jif_tree.specs.LabelRules.{method_at, params_of, result_of}
use Rattle.jif_tree.specs.Numbers.{ExprHasNumbers, BlockHasNumbers, HasNumbers}
use Rattle.jif_tree.specs.Trees.{ExprTree, number, local, scalar, element, inverted, negated, binary, declassified}
use Rattle.jif_tree.specs.Trees.{endorsed, Heading, BlockTree, done, set_local, set_field, set_element, branch, loop}
use Rattle.jif_tree.specs.Trees.{call, give_back, MethodTree}
use Rattle.host_code.specs.declared.code_expr.Node.{Node}
use Rattle.host_code.specs.declared.code_expr.Node.TheVariants as node
use Rattle.host_code.specs.declared.instruction.Instr.{Instr}
use Rattle.host_code.specs.declared.instruction.Op.{Op}
use Rattle.host_code.specs.declared.instruction.Op.TheVariants as op
use Rattle.need_labels.specs.Labelled.{Labelled}
use Rattle.msg_cost.specs.declared.spot.Spot.{Spot}
use Rattle.msg_cost.specs.Moves.{PlannedShape, is_same, end_of, next_spot, carried_to, own_statements, home_of}
use Rattle.msg_cost.specs.Moves.{called_home}
use Rattle.split_rules.specs.Placed.{PlacedProgram, planned_from}
use Rattle.split_rules.specs.Emissions.{Emission, instruction, entry, stands, lands, Counts, counts_after}
use Rattle.split_rules.specs.Expressions.{ElementReading, reads_in, nodes_of, readings_of, first_element}
use Rattle.split_rules.specs.SplitCode.{emitted_on, landed, placed_instruction, part_on, code_labels, split_code}
use Rattle.split_rules.specs.Walk.{Walked, Around, Lane, lane_on, entry_id, under_token, emitted, push_or_ask}
use Rattle.split_rules.specs.Walk.{expr_emissions, read_emissions, told_readers, leave_emissions, go_with, call_with}
use Rattle.split_rules.specs.Walk.{riding_params}
use Rattle.split_rules.specs.Walk.{enter_emissions, move_emissions, end_emissions, argument_emissions, kept_emissions}
use Rattle.split_rules.specs.Walk.{call_emissions, result_emissions, block_emissions, walked_in, method_entry}
use Rattle.split_rules.specs.Walk.{method_emissions, methods_emissions, halt_entries, program_emissions}
use Rattle.split_rules.proofs.BackedLabels.{all_both, all_second}
use Rattle.split_rules.proofs.Places.{found}
use Rattle.split_rules.proofs.SoundInstructions.{mapped}
use Rattle.split_rules.proofs.WalkedBlocks.{branch_front, branch_own, loop_front, loop_own, inside_of}
use Rattle.split_rules.proofs.WalkedCalls.{nothing_there}
use Rattle.split_rules.proofs.WalkedMoves.{one_of_two}
use Rattle.token_laws.specs.Numbers.{NodeHasNumber, HaveNumbers, OperationHasNumbers, CodeHasNumbers}
use Rattle.token_laws.proofs.ValueNumbers.{zero_fits}

-- ---- expressions

one_node : (one : Node) → NodeHasNumber one → HaveNumbers (one ∷ [])
one_node one small = All-cons NodeHasNumber one [] small (All-nil NodeHasNumber)

nodes_have : (first : ℕ) (value : ExprTree) → ExprHasNumbers value → HaveNumbers (nodes_of first value)
nodes_have first (number value) small = one_node (node.Number value) small
nodes_have first (local x) small = one_node (node.Var x) tt
nodes_have first (scalar field) small = one_node (node.Temp first) tt
nodes_have first (element field index) small = one_node (node.Temp (first + reads_in index)) tt
nodes_have first (inverted operand) small =
    All-push NodeHasNumber (nodes_of first operand) node.Not (nodes_have first operand small) tt
nodes_have first (negated operand) small =
    All-push NodeHasNumber (nodes_of first operand) node.Negate (nodes_have first operand small) tt
nodes_have first (binary operator left right) small =
    let second = first + reads_in left in
    All-push NodeHasNumber (nodes_of first left ++ nodes_of second right) (node.Binary operator)
    (All-append NodeHasNumber (nodes_of first left) (nodes_of second right) (nodes_have first left small.0)
    (nodes_have second right small.1)) tt
nodes_have first (declassified operand label) small = nodes_have first operand small
nodes_have first (endorsed operand label) small = nodes_have first operand small

first_has : HaveNumbers first_element
first_has = one_node (node.Number (pos 0)) zero_fits

abbrev ReadingHasNumbers : ElementReading → Type 0
ReadingHasNumbers reading = HaveNumbers reading.index

readings_have : (first : ℕ) (value : ExprTree) → ExprHasNumbers value →
    AllByRecursion ReadingHasNumbers (readings_of first value)
readings_have first (number value) small = tt
readings_have first (local x) small = tt
readings_have first (scalar field) small = (first_has, tt)
readings_have first (element field index) small =
    all_both ReadingHasNumbers (readings_of first index) _ (readings_have first index small)
    (nodes_have first index small, tt)
readings_have first (inverted operand) small = readings_have first operand small
readings_have first (negated operand) small = readings_have first operand small
readings_have first (binary operator left right) small =
    all_both ReadingHasNumbers (readings_of first left) _ (readings_have first left small.0)
    (readings_have (first + reads_in left) right small.1)
readings_have first (declassified operand label) small = readings_have first operand small
readings_have first (endorsed operand label) small = readings_have first operand small

-- ---- emissions

abbrev EmissionHasNumbers : Emission → Type 0
EmissionHasNumbers (instruction one) = OperationHasNumbers one.op
EmissionHasNumbers (entry named) = ⊤
EmissionHasNumbers (stands on at) = ⊤
EmissionHasNumbers (lands on at) = ⊤

abbrev EmitNumbers : List Emission → Type 0
EmitNumbers emissions = AllByRecursion EmissionHasNumbers emissions

both : (xs ys : List Emission) → EmitNumbers xs → EmitNumbers ys → EmitNumbers (xs ++ ys)
both xs ys one two = all_both EmissionHasNumbers xs ys one two

reads_have : (host : HostId) (pc : Label) (statement : StmtId) (readings : List ElementReading) →
    AllByRecursion ReadingHasNumbers readings → EmitNumbers (read_emissions host pc statement readings)
reads_have host pc statement [] small = tt
reads_have host pc statement (reading ∷ readings) small =
    (small.0, reads_have host pc statement readings small.1)

expr_has : (host : HostId) (pc : Label) (statement : StmtId) (first : ℕ) (value : ExprTree) → ExprHasNumbers value →
    EmitNumbers (expr_emissions host pc statement first value)
expr_has host pc statement first value small =
    reads_have host pc statement (readings_of first value) (readings_have first value small)

sends_have : (host : HostId) (pc : Label) (statement : StmtId) (x : VarId) (others : List HostId) →
    EmitNumbers (map (λ other. emitted host pc statement (op.Send x other)) others)
sends_have host pc statement x [] = tt
sends_have host pc statement x (other ∷ others) = (tt, sends_have host pc statement x others)

passes_have : (host : HostId) (pc : Label) (statement : StmtId) (x : VarId) (others : List HostId) →
    EmitNumbers (map (λ other. emitted host pc statement (op.Pass x other)) others)
passes_have host pc statement x [] = tt
passes_have host pc statement x (other ∷ others) = (tt, passes_have host pc statement x others)

-- ---- moves

leaves_then : (around : Around) (lane : Lane) (more : List Emission) → EmitNumbers more →
    EmitNumbers (leave_emissions around lane ++ more)
leaves_then around lane more small = by lane.spot.host lane.spot.back lane.return_entry lane.riding
  where
    by : (host : HostId) (back : Option HostId) (place : ℕ) (riding : List VarId) →
        let spot : Spot = record { host = host; back = back } in
        EmitNumbers (leave_emissions around (record { spot = spot; return_entry = place; riding = riding }) ++ more)
    by host None place riding = small
    by host (Some back) place riding = (tt, (tt, small))

push_has : (from host : HostId) (place : ℕ) → OperationHasNumbers (push_or_ask from host place)
push_has from host place =
    one_of_two OperationHasNumbers (is_same from host) (op.Push (entry_id place)) (op.Ask (entry_id place) host) tt tt

go_has : (riders : List VarId) (place : ℕ) (host : HostId) →
    OperationHasNumbers (go_with riders (entry_id place) host)
go_has [] place host = tt
go_has (x ∷ riders) place host = tt

enters_have : (walked : Walked) (around : Around) (counts : Counts) (from : HostId) (riders : List VarId)
    (host : HostId) (back : Option HostId) (statements : List StmtId) →
    EmitNumbers (enter_emissions walked around counts from riders (record { host = host; back = back }) statements)
enters_have walked around counts from riders host None statements =
    one_of_two EmitNumbers (is_same from host) [] _ tt (tt, (go_has riders counts.entries host, (tt, tt)))
enters_have walked around counts from riders host (Some back) statements =
    one_of_two EmitNumbers (is_same from host) [] _ tt
    (tt, (tt, (push_has from back counts.entries, (go_has riders (counts.entries + 1) host, (tt, tt)))))

moves_have : (walked : Walked) (around : Around) (counts : Counts) (lane : Lane) (next : Spot)
    (statements : List StmtId) → EmitNumbers (move_emissions walked around counts lane next statements)
moves_have walked around counts lane next statements =
    one_of_two EmitNumbers (is_same lane.spot.host next.host) [] _ tt
    (leaves_then around lane (enter_emissions walked around counts (end_of lane.spot) lane.riding next statements)
    (enters_have walked around counts (end_of lane.spot) lane.riding next.host next.back statements))

end_has : (around : Around) (lane : Lane) → EmitNumbers (end_emissions around lane)
end_has around lane = leaves_then around lane _ (tt, tt)

-- ---- calls

arguments_have : (walked : Walked) (host home : HostId) (pc : Label) (statement : StmtId) (params : List VarId)
    (arguments : List ExprTree) → AllByRecursion ExprHasNumbers arguments →
    EmitNumbers (argument_emissions walked host home pc statement params arguments)
arguments_have walked host home pc statement params [] small = tt
arguments_have walked host home pc statement [] (argument ∷ others) small = tt
arguments_have walked host home pc statement (param ∷ params) (argument ∷ others) small =
    both _ _
    (both (expr_emissions host pc statement 0 argument) _ (expr_has host pc statement 0 argument small.0) (
      nodes_have 0 argument small.0,
      passes_have host pc statement param (told_readers walked.planned host param (Some home)),
    ))
    (arguments_have walked host home pc statement params others small.1)

kept_has : (walked : Walked) (host : HostId) (pc : Label) (statement : StmtId) (result into : Option VarId)
    (carried : Option HostId) → EmitNumbers (kept_emissions walked host pc statement result into carried)
kept_has walked host pc statement (Some result) (Some into) carried =
    (one_node (node.Var result) tt, sends_have host pc statement into (told_readers walked.planned host into carried))
kept_has walked host pc statement (Some result) None carried = tt
kept_has walked host pc statement None (Some into) carried = tt
kept_has walked host pc statement None None carried = tt

called_has : (riders : List VarId) (place : ℕ) (home : HostId) →
    OperationHasNumbers (call_with riders (entry_id place) home)
called_has [] place home = tt
called_has (x ∷ riders) place home = tt

call_has : (walked : Walked) (counts : Counts) (host : HostId) (pc : Label) (statement : StmtId) (site : SiteId)
    (method : MethodId) (arguments : List ExprTree) (into : Option VarId) (carried : Option HostId)
    (left : List StmtId) → AllByRecursion ExprHasNumbers arguments →
    EmitNumbers (call_emissions walked counts host pc statement site method arguments into carried left)
call_has walked counts host pc statement site method arguments into carried left small =
    let called = method_at walked.labelled.program method in
    let params = params_of called in
    let home = called_home walked.planned called in
    let kept = kept_has walked host pc statement (result_of called) into carried in (
      tt,
      (
        tt,
        both (argument_emissions walked host home pc statement params arguments) _
            (arguments_have walked host home pc statement params arguments small) (
              tt,
              (
                called_has (riding_params walked.planned host home params arguments) (suc method.0) home,
                (tt, kept),
              ),
            ),
      ),
    )

answer_has : (walked : Walked) (host : HostId) (pc : Label) (statement : StmtId) (value : ExprTree) →
    ExprHasNumbers value → EmitNumbers (result_emissions walked host pc statement value)
answer_has walked host pc statement value small = by walked.setting.result refl
  where
    by : (result : Option VarId) → walked.setting.result ≡ result →
        EmitNumbers (result_emissions walked host pc statement value)
    by None is = rw is tt
    by (Some result) is = rw is (nodes_have 0 value small, tt)

-- ---- blocks

three : (one two more : List Emission) → EmitNumbers one → EmitNumbers two → EmitNumbers more →
    EmitNumbers (one ++ two ++ more)
three one two more first second third = both (one ++ two) more (both one two first second) third

branch_has : (walked : Walked) (around : Around) (heading : Heading) (guard : ExprTree) (next : Spot)
    (others : List StmtId) (first second : Counts → List Emission) (here : Counts) → ExprHasNumbers guard →
    ((it : Counts) → EmitNumbers (first it)) → ((it : Counts) → EmitNumbers (second it)) →
    EmitNumbers (branch_own (branch_front walked around here heading guard next others) here next.host first second)
branch_has walked around heading guard next others first second here small one two =
    let front = branch_front walked around here heading guard next others in
    let middle = first (counts_after here front) in
    let between = lands next.host here.branches ∷ [] in
    let last = second (counts_after here (front ++ middle ++ between)) in
    let begins : EmitNumbers front = (
      tt,
      (
        tt,
        both (expr_emissions next.host around.pc heading.id 0 guard) _
            (expr_has next.host around.pc heading.id 0 guard small) (nodes_have 0 guard small, tt),
      ),
    ) in
    both (front ++ middle ++ between ++ last) (stands next.host here.entries ∷ [])
    (both (front ++ middle ++ between) last
    (three front middle between begins (one (counts_after here front)) (tt, tt))
    (two (counts_after here (front ++ middle ++ between)))) (tt, tt)

loop_has : (walked : Walked) (around : Around) (heading : Heading) (guard : ExprTree) (next : Spot)
    (others : List StmtId) (body : Counts → List Emission) (here : Counts) → ExprHasNumbers guard →
    ((it : Counts) → EmitNumbers (body it)) →
    EmitNumbers (loop_own (loop_front walked around here heading guard next others) here next.host body)
loop_has walked around heading guard next others body here small inner =
    let pc = (inside_of walked around heading guard).pc in
    let front = loop_front walked around here heading guard next others in
    let begins : EmitNumbers front = (
      tt,
      (
        tt,
        both (expr_emissions next.host pc heading.id 0 guard) _ (expr_has next.host pc heading.id 0 guard small)
            (nodes_have 0 guard small, (tt, tt)),
      ),
    ) in
    three front (body (counts_after here front)) (lands next.host here.branches ∷ []) begins
    (inner (counts_after here front)) (tt, tt)

block_has : (walked : Walked) (around : Around) (block : BlockTree) → BlockHasNumbers block → (counts : Counts)
    (lane : Lane) → EmitNumbers (block_emissions walked around counts lane block)
block_has walked around done small counts lane = end_has around lane
block_has walked around (set_local heading x value rest) small counts lane =
    let others = own_statements rest in
    let next = next_spot walked.planned lane.spot heading.id others in
    let host = next.host in
    let pc = around.pc in
    three _ _ _ (moves_have walked around counts lane next (heading.id ∷ others))
    (both (expr_emissions host pc heading.id 0 value) _ (expr_has host pc heading.id 0 value small.0) (
      nodes_have 0 value small.0,
      sends_have host pc heading.id x (told_readers walked.planned host x (carried_to walked.planned next others)),
    ))
    (block_has walked around rest small.1 _ _)
block_has walked around (set_field heading field value rest) small counts lane =
    let others = own_statements rest in
    let next = next_spot walked.planned lane.spot heading.id others in
    let host = next.host in
    let pc = around.pc in
    three _ _ _ (moves_have walked around counts lane next (heading.id ∷ others))
    (both (expr_emissions host pc heading.id 0 value) _ (expr_has host pc heading.id 0 value small.0)
    ((first_has, nodes_have 0 value small.0), tt)) (block_has walked around rest small.1 _ _)
block_has walked around (set_element heading field index value rest) small counts lane =
    let others = own_statements rest in
    let next = next_spot walked.planned lane.spot heading.id others in
    let host = next.host in
    let pc = around.pc in
    three _ _ _ (moves_have walked around counts lane next (heading.id ∷ others))
    (three (expr_emissions host pc heading.id 0 index) (expr_emissions host pc heading.id (reads_in index) value) _
    (expr_has host pc heading.id 0 index small.0) (expr_has host pc heading.id (reads_in index) value small.1)
    ((nodes_have 0 index small.0, nodes_have (reads_in index) value small.1), tt))
    (block_has walked around rest small.2 _ _)
block_has walked around (branch heading guard first second rest) small counts lane =
    let others = own_statements rest in
    let next = next_spot walked.planned lane.spot heading.id others in
    let inside = inside_of walked around heading guard in
    let moved = move_emissions walked around counts lane next (heading.id ∷ others) in
    let here = counts_after counts moved in
    let one : Counts → List Emission = λ it. block_emissions walked inside it (lane_on next.host) first in
    let two : Counts → List Emission = λ it. block_emissions walked inside it (lane_on next.host) second in
    let own = branch_own (branch_front walked around here heading guard next others) here next.host one two in
    three moved own _ (moves_have walked around counts lane next (heading.id ∷ others))
    (branch_has walked around heading guard next others one two here small.0
    (λ it. block_has walked inside first small.1 it (lane_on next.host))
    (λ it. block_has walked inside second small.2 it (lane_on next.host)))
    (block_has walked around rest small.3 _ _)
block_has walked around (loop heading guard inner rest) small counts lane =
    let others = own_statements rest in
    let next = next_spot walked.planned lane.spot heading.id others in
    let inside = inside_of walked around heading guard in
    let moved = move_emissions walked around counts lane next (heading.id ∷ others) in
    let here = counts_after counts moved in
    let one : Counts → List Emission = λ it. block_emissions walked inside it (lane_on next.host) inner in
    let own = loop_own (loop_front walked around here heading guard next others) here next.host one in
    three moved own _ (moves_have walked around counts lane next (heading.id ∷ others))
    (loop_has walked around heading guard next others one here small.0
    (λ it. block_has walked inside inner small.1 it (lane_on next.host)))
    (block_has walked around rest small.2 _ _)
block_has walked around (call heading site method arguments into rest) small counts lane =
    let others = own_statements rest in
    let next = next_spot walked.planned lane.spot heading.id others in
    let moved = move_emissions walked around counts lane next (heading.id ∷ others) in
    let left = under_token walked.planned next others in
    three moved _ _ (moves_have walked around counts lane next (heading.id ∷ others))
    (call_has walked (counts_after counts moved) next.host around.pc heading.id site method arguments into
    (carried_to walked.planned next others) left small.0)
    (block_has walked around rest small.1 _ _)
block_has walked around (give_back heading value rest) small counts lane =
    let others = own_statements rest in
    let next = next_spot walked.planned lane.spot heading.id others in
    let host = next.host in
    let pc = around.pc in
    three _ _ _ (moves_have walked around counts lane next (heading.id ∷ others))
    (both (expr_emissions host pc heading.id 0 value) _ (expr_has host pc heading.id 0 value small.0)
    (answer_has walked host pc heading.id value small.0)) (block_has walked around rest small.1 _ _)

-- ---- programs

methods_have : (principals : Declared) (labelled : Labelled) (planned : PlannedShape) (place : ℕ)
    (methods : List MethodTree) → AllByRecursion (λ method. BlockHasNumbers method.body) methods → (counts : Counts) →
    EmitNumbers (methods_emissions principals labelled planned counts place methods)
methods_have principals labelled planned place [] small counts = tt
methods_have principals labelled planned place (method ∷ methods) small counts =
    let first = method_emissions principals labelled planned counts place method in
    let own : EmitNumbers first = (
      tt,
      block_has (walked_in principals labelled planned method) (record { owner = method.head; pc = method.begin })
          method.body small.0 counts (lane_on (home_of planned method)),
    ) in
    both first _ own
    (methods_have principals labelled planned (suc place) methods small.1 (counts_after counts first))

entries_have : (planned : PlannedShape) (methods : List MethodTree) → EmitNumbers (map (method_entry planned) methods)
entries_have planned [] = tt
entries_have planned (method ∷ methods) = (tt, entries_have planned methods)

halts_have : (planned : PlannedShape) (main : Option MethodTree) → EmitNumbers (halt_entries planned main)
halts_have planned None = tt
halts_have planned (Some main) = (tt, (tt, tt))

program_has : (placed : PlacedProgram) → HasNumbers placed.labelled.program →
    EmitNumbers (program_emissions placed)
program_has placed small =
    let planned = planned_from placed in
    let program = placed.labelled.program in
    both _ _
    (both (halt_entries planned (method_at program program.main)) (map (method_entry planned) program.methods)
    (halts_have planned (method_at program program.main)) (entries_have planned program.methods))
    (methods_have placed.hosts.principals placed.labelled planned 0 program.methods
    (recursion_from_All (λ method. BlockHasNumbers method.body) program.methods small.methods) _)

-- ---- code

landed_has : (host : HostId) (emissions : List Emission) (what : Op) → OperationHasNumbers what →
    OperationHasNumbers (landed host emissions what)
landed_has host emissions (op.Branch guard target) small = small
landed_has host emissions other small = small

-- the code of a program whose numbers have 64 bits
pub code_has : (placed : PlacedProgram) →
    HasNumbers placed.labelled.program → CodeHasNumbers (split_code placed)
code_has placed small = λ host at there is. by host at there (slice_get parts host.0) refl is
  where
    all : List Emission
    all = program_emissions placed

    labels : List Label
    labels = code_labels placed.labelled all

    part : ℕ → List Instr
    part place = part_on labels all (record { 0 = place })

    parts : List (List Instr)
    parts = map part (range_with_len 0 (length placed.hosts.hosts))

    by : (host : HostId) (at : ℕ) (there : Instr) (own : Option (List Instr)) → slice_get parts host.0 ≡ own →
        slice_get (unwrap_or own []) at ≡ Some there → OperationHasNumbers there.op
    by host at there None is has = absurd (nothing_there at there has)
    by host at there (Some own) is has =
        let (own_place, within, made) = mapped part (range_with_len 0 (length placed.hosts.hosts)) host.0 own is in
        let me : HostId = record { 0 = own_place } in
        let (one, emits, same) = mapped (placed_instruction labels all) (emitted_on me all) at there
        (ap (λ list. slice_get list at) made ∙ has) in
        let so = found me all at one emits in
        let numbers = subst EmitNumbers so.is
        (program_has placed small) in
        subst (λ (it : Instr). OperationHasNumbers it.op) same
        (landed_has one.host all one.op (all_second EmissionHasNumbers so.before _ numbers).0)
