-- One pass over the instructions of a host tells what those of blocks, methods and programs release.
use Rattle.std.proofs.Common.{◌≡◌, ◌∙◌, ℕ, suc, ◌+◌, Bool, true, false, List, [], ◌∷◌, ◌++◌, map, refl, ap, sym, subst}
use Rattle.std.proofs.Common.{append_assoc, length, arith, cond}
use Rattle.std.proofs.lemmas.List.{map-append}
use Rattle.std.proofs.lemmas.List.Concat.{flat_map-cons}
use Rattle.std.specs.List.{AllByRecursion, flat_map}
use Rattle.std.specs.Prelude.{Option, Some, None}
use Rattle.js_base.specs.declared.ids.FieldId.{FieldId}
use Rattle.js_base.specs.declared.ids.HostId.{HostId}
use Rattle.js_base.specs.declared.ids.MethodId.{MethodId}
use Rattle.js_base.specs.declared.ids.SiteId.{SiteId}
use Rattle.js_base.specs.declared.ids.StmtId.{StmtId}
use Rattle.js_base.specs.declared.ids.VarId.{VarId}
use Rattle.principals.specs.ActsFor.{Declared}
use Rattle.label_lattice.specs.declared.label.Label.{Label}
use Rattle.jif_tree.specs.LabelRules.{method_at, params_of, result_of}
use Rattle.jif_tree.specs.Trees.{ExprTree, Heading, BlockTree, done, set_local, set_field, set_element, branch, loop}
use Rattle.jif_tree.specs.Trees.{call, give_back, MethodTree, ProgramTree}
use Rattle.jif_tree.specs.WellNumbered.{IsBlockIn, AreMethodsIn, HasMethod, is_some}
use Rattle.host_code.specs.declared.code_expr.Node.{Node}
use Rattle.host_code.specs.declared.code_expr.Node.TheVariants as node
use Rattle.host_code.specs.declared.instruction.Op.{Op}
use Rattle.host_code.specs.declared.instruction.Op.TheVariants as op
use Rattle.need_labels.specs.Labelled.{Labelled}
use Rattle.msg_cost.specs.declared.spot.Spot.{Spot}
use Rattle.msg_cost.specs.Moves.{PlannedShape, is_same, end_of, next_spot, own_statements, home_of, called_home}
use Rattle.msg_cost.specs.Moves.{carried_to}
use Rattle.split_rules.specs.Emissions.{Emission, entry, stands, lands, Counts, counts_after, NamedEntry}
use Rattle.split_rules.specs.Expressions.{ElementReading, reads_in, nodes_of, readings_of, first_element, released_by}
use Rattle.split_rules.specs.Placed.{PlacedProgram, planned_from}
use Rattle.split_rules.specs.Positions.{all_statements, number_of}
use Rattle.split_rules.specs.ReleaseRows.{read_rows, value_rows, statement_at, statement_rows, evaluates, is_assignment}
use Rattle.split_rules.specs.SplitCode.{landed}
use Rattle.split_rules.specs.Walk.{Walked, Around, Lane, lane_on, under_token, emitted, releasing, entry_id}
use Rattle.split_rules.specs.Walk.{push_or_ask, read_emissions, expr_emissions, told_readers, leave_emissions}
use Rattle.split_rules.specs.Walk.{enter_emissions, send_emissions, pass_emissions, go_with, call_with, riding_params}
use Rattle.split_rules.specs.Walk.{move_emissions, end_emissions, argument_emissions, kept_emissions, call_emissions}
use Rattle.split_rules.specs.Walk.{result_emissions, block_emissions, walked_in, method_emissions, methods_emissions}
use Rattle.split_rules.specs.Walk.{halt_entries, method_entry, program_emissions}
use Rattle.split_rules.proofs.BackedLabels.{all_first, all_second}
use Rattle.split_rules.proofs.ReleasedRows.{Pass, Evaluates, Tells, tells_on, tells_none, tells_then, tells_plain}
use Rattle.split_rules.proofs.ReleasedRows.{rows_on, no_rows_on, tells_one, tells_first, tells_reads, tells_group}
use Rattle.split_rules.proofs.ReleasedRows.{tells_begun, tells_all}
use Rattle.split_rules.proofs.WalkedMoves.{one_of_two}
use Rattle.split_rules.proofs.WalkedBlocks.{inside_of, branch_front, branch_own, loop_front, loop_own}

-- the pass finds the statement by its number
abbrev pub IsThere : Pass → BlockTree → Type 0
IsThere pass statement = statement_at pass.statements (number_of statement) ≡ statement

-- ---- what evaluates nothing

named_tells : (pass : Pass) (left : List (List (List Node))) (named : NamedEntry) →
    Tells pass left (entry named ∷ []) left
named_tells pass left named = record { rows = λ more. refl }

stands_tells : (pass : Pass) (left : List (List (List Node))) (host : HostId) (number : ℕ) →
    Tells pass left (stands host number ∷ []) left
stands_tells pass left host number = record { rows = λ more. refl }

lands_tells : (pass : Pass) (left : List (List (List Node))) (host : HostId) (number : ℕ) →
    Tells pass left (lands host number ∷ []) left
lands_tells pass left host number = record { rows = λ more. refl }

mapped_tells : {X : Type 0} (pass : Pass) (left : List (List (List Node))) (make : X → Emission) →
    ((x : X) → Tells pass left (make x ∷ []) left) → (xs : List X) → Tells pass left (map make xs) left
mapped_tells pass left make each [] = tells_none pass left
mapped_tells pass left make each (x ∷ xs) = tells_then pass (each x) (mapped_tells pass left make each xs)

sends_tell : (pass : Pass) (left : List (List (List Node))) (planned : PlannedShape) (host : HostId) (label : Label)
    (id : StmtId) (x : VarId) (carried : Option HostId) →
    Tells pass left (send_emissions planned host label id x carried) left
sends_tell pass left planned host label id x carried =
    mapped_tells pass left (λ other. emitted host label id (op.Send x other))
    (λ other. tells_plain pass left _ refl refl) (told_readers planned host x carried)

passes_tell : (pass : Pass) (left : List (List (List Node))) (planned : PlannedShape) (host : HostId) (label : Label)
    (id : StmtId) (x : VarId) (carried : Option HostId) →
    Tells pass left (pass_emissions planned host label id x carried) left
passes_tell pass left planned host label id x carried =
    mapped_tells pass left (λ other. emitted host label id (op.Pass x other))
    (λ other. tells_plain pass left _ refl refl) (told_readers planned host x carried)

-- ---- moves

go_plain : (statement : BlockTree) (host : HostId) (all : List Emission) (riders : List VarId) (there : ℕ)
    (on : HostId) → evaluates statement (landed host all (go_with riders (entry_id there) on)) ≡ false
go_plain statement host all [] there on = refl
go_plain statement host all (x ∷ riders) there on = refl

call_plain : (statement : BlockTree) (host : HostId) (all : List Emission) (riders : List VarId) (there : ℕ)
    (on : HostId) → evaluates statement (landed host all (call_with riders (entry_id there) on)) ≡ false
call_plain statement host all [] there on = refl
call_plain statement host all (x ∷ riders) there on = refl

push_plain : (statement : BlockTree) (on : HostId) (all : List Emission) (from host : HostId) (number : ℕ) →
    evaluates statement (landed on all (push_or_ask from host number)) ≡ false
push_plain statement on all from host number =
    one_of_two (λ (what : Op). evaluates statement (landed on all what) ≡ false) (is_same from host)
    (op.Push (entry_id number)) (op.Ask (entry_id number) host) refl refl

leave_tells : (pass : Pass) (around : Around) (lane : Lane) → Tells pass [] (leave_emissions around lane) []
leave_tells pass around lane = by lane.spot.host lane.spot.back lane.return_entry lane.riding
  where
    by : (host : HostId) (back : Option HostId) (place : ℕ) (riding : List VarId) →
        let spot : Spot = record { host = host; back = back } in
        Tells pass [] (leave_emissions around (record { spot = spot; return_entry = place; riding = riding })) []
    by host None place riding = tells_none pass []
    by host (Some back) place riding =
        tells_then pass (tells_plain pass [] _ refl refl) (stands_tells pass [] back place)

enter_tells : (pass : Pass) (walked : Walked) (around : Around) (counts : Counts) (from : HostId)
    (riders : List VarId) (host : HostId) (back : Option HostId) (statements : List StmtId) →
    Tells pass [] (enter_emissions walked around counts from riders (record { host = host; back = back }) statements) []
enter_tells pass walked around counts from riders host None statements =
    one_of_two (λ (xs : List Emission). Tells pass [] xs []) (is_same from host) [] _ (tells_none pass [])
    (tells_then pass (named_tells pass [] _)
    (tells_then pass (tells_plain pass [] _ (go_plain _ from pass.all riders counts.entries host) refl)
    (stands_tells pass [] host counts.entries)))
enter_tells pass walked around counts from riders host (Some back) statements =
    one_of_two (λ (xs : List Emission). Tells pass [] xs []) (is_same from host) [] _ (tells_none pass [])
    (tells_then pass (named_tells pass [] _) (tells_then pass (named_tells pass [] _)
    (tells_then pass (tells_plain pass [] _ (push_plain _ from pass.all from back counts.entries) refl)
    (tells_then pass (tells_plain pass [] _ (go_plain _ from pass.all riders (counts.entries + 1) host) refl)
    (stands_tells pass [] host (counts.entries + 1))))))

move_tells : (pass : Pass) (walked : Walked) (around : Around) (counts : Counts) (lane : Lane) (next : Spot)
    (statements : List StmtId) → Tells pass [] (move_emissions walked around counts lane next statements) []
move_tells pass walked around counts lane next statements =
    one_of_two (λ (xs : List Emission). Tells pass [] xs []) (is_same lane.spot.host next.host) [] _
    (tells_none pass []) (tells_on pass (leave_tells pass around lane)
    (enter_tells pass walked around counts (end_of lane.spot) lane.riding next.host next.back statements))

end_tells : (pass : Pass) (around : Around) (lane : Lane) → Tells pass [] (end_emissions around lane) []
end_tells pass around lane = tells_on pass (leave_tells pass around lane) (tells_plain pass [] _ refl refl)

-- ---- calls

-- the rows of arguments, one argument apart
first_apart : (argument : ExprTree) (others : List ExprTree) → flat_map value_rows (argument ∷ others)
    ≡ read_rows (readings_of 0 argument) ++ released_by 0 argument ∷ flat_map value_rows others
first_apart argument others =
    flat_map-cons value_rows argument others
    ∙ append_assoc (read_rows (readings_of 0 argument)) (released_by 0 argument ∷ []) (flat_map value_rows others)

arguments_tell : (pass : Pass) (walked : Walked) (host home : HostId) (label : Label) (id : StmtId)
    (params : List VarId) (arguments : List ExprTree) → length params ≡ length arguments →
    Tells pass (rows_on pass host (flat_map value_rows arguments))
    (argument_emissions walked host home label id params arguments) []
arguments_tell pass walked host home label id [] [] many =
    let P : List (List (List Node)) → Type 0 = λ left. Tells pass left [] [] in
    subst P (sym (no_rows_on pass host)) (tells_none pass [])
arguments_tell pass walked host home label id (param ∷ params) [] many = absurd (omega (arith, many))
arguments_tell pass walked host home label id [] (argument ∷ others) many = absurd (omega (arith, many))
arguments_tell pass walked host home label id (param ∷ params) (argument ∷ others) many =
    let rows = flat_map value_rows others in
    let own = expr_emissions host label id 0 argument
    ++ releasing host label id (op.Arg param (nodes_of 0 argument)) (released_by 0 argument)
    ∷ pass_emissions walked.planned host label id param (Some home) in
    let P : List (List (List Node)) → Type 0 = λ all. Tells pass (rows_on pass host all) own (rows_on pass host rows) in
    tells_on pass (subst P (sym (first_apart argument others))
    (tells_group pass host label id (readings_of 0 argument) (op.Arg param (nodes_of 0 argument))
    (released_by 0 argument) rows _ refl
    (passes_tell pass (rows_on pass host rows) walked.planned host label id param (Some home))))
    (arguments_tell pass walked host home label id params others (omega (arith, many)))

-- the first of them finds all rows of the call
arguments_begin : (pass : Pass) (walked : Walked) (host home : HostId) (label : Label) (id : StmtId)
    (params : List VarId) (arguments : List ExprTree) → length params ≡ length arguments →
    statement_rows (statement_at pass.statements id) ≡ flat_map value_rows arguments →
    Tells pass [] (argument_emissions walked host home label id params arguments) []
arguments_begin pass walked host home label id [] [] many rows_are = tells_none pass []
arguments_begin pass walked host home label id (param ∷ params) [] many rows_are = absurd (omega (arith, many))
arguments_begin pass walked host home label id [] (argument ∷ others) many rows_are = absurd (omega (arith, many))
arguments_begin pass walked host home label id (param ∷ params) (argument ∷ others) many rows_are =
    let reads = expr_emissions host label id 0 argument in
    let handed = releasing host label id (op.Arg param (nodes_of 0 argument)) (released_by 0 argument)
    ∷ pass_emissions walked.planned host label id param (Some home) in
    let rest = argument_emissions walked host home label id params others in
    let shape : (reads ++ handed) ++ rest ≡ reads ++ (handed ++ rest) = append_assoc reads handed rest in
    let P : List Emission → Type 0 = λ xs. Tells pass [] xs [] in
    let Q : List Emission → Type 0 = λ xs.
    Tells pass (rows_on pass host (statement_rows (statement_at pass.statements id))) xs [] in
    let R : List (List (List Node)) → Type 0 = λ all. Tells pass (rows_on pass host all)
    (argument_emissions walked host home label id (param ∷ params) (argument ∷ others)) [] in
    let whole = subst R (sym rows_are)
    (arguments_tell pass walked host home label id (param ∷ params) (argument ∷ others) many) in
    subst P (sym shape) (tells_begun pass host label id (readings_of 0 argument) (op.Arg param (nodes_of 0 argument))
    (released_by 0 argument) _ refl (subst Q shape whole))

kept_tells : (pass : Pass) (walked : Walked) (host : HostId) (label : Label) (id : StmtId)
    (result into : Option VarId) (carried : Option HostId) →
    is_assignment (statement_at pass.statements id) ≡ false →
    Tells pass [] (kept_emissions walked host label id result into carried) []
kept_tells pass walked host label id (Some result) (Some into) carried none =
    tells_then pass (tells_plain pass [] _ none refl)
    (sends_tell pass [] walked.planned host label id into carried)
kept_tells pass walked host label id (Some result) None carried none = tells_none pass []
kept_tells pass walked host label id None (Some into) carried none = tells_none pass []
kept_tells pass walked host label id None None carried none = tells_none pass []

call_tells : (pass : Pass) (walked : Walked) (counts : Counts) (host : HostId) (label : Label) (heading : Heading)
    (site : SiteId) (method : MethodId) (arguments : List ExprTree) (into : Option VarId) (carried : Option HostId)
    (left : List StmtId) → IsThere pass (call heading site method arguments into done) →
    length (params_of (method_at walked.labelled.program method)) ≡ length arguments →
    Tells pass [] (call_emissions walked counts host label heading.id site method arguments into carried left) []
call_tells pass walked counts host label heading site method arguments into carried left there many =
    let called = method_at walked.labelled.program method in
    let home = called_home walked.planned called in
    tells_then pass (named_tells pass [] _) (tells_then pass (tells_plain pass [] _ refl refl)
    (tells_on pass
    (arguments_begin pass walked host home label heading.id (params_of called) arguments many (ap statement_rows there))
    (tells_then pass (tells_plain pass [] _ refl refl)
    (tells_then pass (tells_plain pass [] _ (call_plain _ host pass.all _ (suc method.0) home) refl)
    (tells_then pass (stands_tells pass [] host counts.entries)
    (kept_tells pass walked host label heading.id (result_of called) into carried (ap is_assignment there)))))))

-- ---- statements

-- a statement that is moved to, and what follows it
statement_tells : (pass : Pass) (walked : Walked) (around : Around) (counts : Counts) (lane : Lane)
    (statement : StmtId) (others : List StmtId) (own rest : List Emission) → Tells pass [] own [] →
    Tells pass [] rest [] →
    let next = next_spot walked.planned lane.spot statement others in
    Tells pass [] (move_emissions walked around counts lane next (statement ∷ others) ++ own ++ rest) []
statement_tells pass walked around counts lane statement others own rest owns follows =
    let next = next_spot walked.planned lane.spot statement others in
    tells_on pass (tells_on pass (move_tells pass walked around counts lane next (statement ∷ others)) owns) follows

-- the reads of an index and of a value stand in a row
element_tells : (pass : Pass) (host : HostId) (label : Label) (heading : Heading) (field : FieldId)
    (index value : ExprTree) → IsThere pass (set_element heading field index value done) →
    Tells pass [] (expr_emissions host label heading.id 0 index
    ++ expr_emissions host label heading.id (reads_in index) value
    ++ releasing host label heading.id (op.Put field (nodes_of 0 index) (nodes_of (reads_in index) value))
    (released_by 0 index ++ released_by (reads_in index) value) ∷ []) []
element_tells pass host label heading field index value there =
    let one = readings_of 0 index in
    let two = readings_of (reads_in index) value in
    let what = op.Put field (nodes_of 0 index) (nodes_of (reads_in index) value) in
    let released = released_by 0 index ++ released_by (reads_in index) value in
    let P : List Emission → Type 0 = λ xs.
    Tells pass [] (xs ++ releasing host label heading.id what released ∷ []) [] in
    subst P (map-append (λ (reading : ElementReading). releasing host label heading.id
    (op.Read reading.field reading.index)
    reading.released) one two)
    (tells_all pass host label heading.id (one ++ two) what released [] refl (ap statement_rows there)
    (tells_none pass []))

some_result : (found : Option VarId) → is_some found ≡ true → (x : VarId) × (found ≡ Some x)
some_result None is = absurd cc
some_result (Some x) is = (x, refl)

result_kept : (walked : Walked) (host : HostId) (label : Label) (statement : StmtId) (value : ExprTree)
    (kept : VarId) → walked.setting.result ≡ Some kept →
    result_emissions walked host label statement value
    ≡ releasing host label statement (op.Ret kept (nodes_of 0 value)) (released_by 0 value) ∷ []
result_kept walked host label statement value kept is = rw is refl

answer_tells : (pass : Pass) (walked : Walked) (host : HostId) (label : Label) (heading : Heading)
    (value : ExprTree) → IsThere pass (give_back heading value done) → is_some walked.setting.result ≡ true →
    Tells pass [] (expr_emissions host label heading.id 0 value ++ result_emissions walked host label heading.id value)
    []
answer_tells pass walked host label heading value there gives =
    let found = some_result walked.setting.result gives in
    let kept = result_kept walked host label heading.id value found.0 found.1 in
    let P : List Emission → Type 0 = λ xs. Tells pass [] (expr_emissions host label heading.id 0 value ++ xs) [] in
    subst P (sym kept) (tells_all pass host label heading.id (readings_of 0 value) (op.Ret found.0 (nodes_of 0 value))
    (released_by 0 value) [] refl (ap statement_rows there) (tells_none pass []))

branch_tells : (pass : Pass) (walked : Walked) (around : Around) (heading : Heading) (guard : ExprTree)
    (one two : BlockTree) → IsThere pass (branch heading guard one two done) → (next : Spot) (others : List StmtId)
    (first second : Counts → List Emission) (here : Counts) → ((it : Counts) → Tells pass [] (first it) []) →
    ((it : Counts) → Tells pass [] (second it) []) →
    Tells pass [] (branch_own (branch_front walked around here heading guard next others) here next.host first second)
    []
branch_tells pass walked around heading guard one two there next others first second here first_tells second_tells =
    tells_on pass (tells_on pass (tells_on pass (tells_on pass
    (tells_then pass (named_tells pass [] _) (tells_then pass (tells_plain pass [] _ refl refl)
    (tells_all pass next.host around.pc heading.id (readings_of 0 guard)
    (op.Branch (nodes_of 0 guard) here.branches) (released_by 0 guard) [] refl (ap statement_rows there)
    (tells_none pass []))))
    (first_tells _)) (lands_tells pass [] next.host here.branches)) (second_tells _))
    (stands_tells pass [] next.host here.entries)

loop_tells : (pass : Pass) (walked : Walked) (around : Around) (heading : Heading) (guard : ExprTree)
    (inner : BlockTree) → IsThere pass (loop heading guard inner done) → (next : Spot) (others : List StmtId)
    (body : Counts → List Emission) (here : Counts) → ((it : Counts) → Tells pass [] (body it) []) →
    Tells pass [] (loop_own (loop_front walked around here heading guard next others) here next.host body) []
loop_tells pass walked around heading guard inner there next others body here body_tells =
    let pc = (inside_of walked around heading guard).pc in
    tells_on pass (tells_on pass
    (tells_then pass (named_tells pass [] _) (tells_then pass (stands_tells pass [] next.host here.entries)
    (tells_all pass next.host pc heading.id (readings_of 0 guard) (op.Branch (nodes_of 0 guard) here.branches)
    (released_by 0 guard) _ refl (ap statement_rows there) (tells_plain pass [] _ refl refl))))
    (body_tells _)) (lands_tells pass [] next.host here.branches)

-- ---- blocks

as_many : (program : ProgramTree) (method : MethodId) (many : ℕ) (gives : Bool) →
    HasMethod program many gives method → length (params_of (method_at program method)) ≡ many
as_many program method many gives has = ap (λ found. length (params_of found)) has.1 ∙ has.2

block_tells : (pass : Pass) (walked : Walked) (method : MethodId) (gives : Bool) →
    is_some walked.setting.result ≡ gives → (block : BlockTree) →
    IsBlockIn walked.labelled.program method gives block → AllByRecursion (IsThere pass) (all_statements block) →
    (around : Around) (counts : Counts) (lane : Lane) →
    Tells pass [] (block_emissions walked around counts lane block) []
block_tells pass walked method gives is done numbered there around counts lane = end_tells pass around lane
block_tells pass walked method gives is (set_local heading x value rest) numbered there around counts lane =
    let others = own_statements rest in
    let next = next_spot walked.planned lane.spot heading.id others in
    statement_tells pass walked around counts lane heading.id others _ _
    (tells_all pass next.host around.pc heading.id (readings_of 0 value) (op.Let x (nodes_of 0 value))
    (released_by 0 value) _ (ap is_assignment there.0) (ap statement_rows there.0)
    (sends_tell pass [] walked.planned next.host around.pc heading.id x (carried_to walked.planned next others)))
    (block_tells pass walked method gives is rest numbered.2 there.1 around _ _)
block_tells pass walked method gives is (set_field heading field value rest) numbered there around counts lane =
    let others = own_statements rest in
    let next = next_spot walked.planned lane.spot heading.id others in
    statement_tells pass walked around counts lane heading.id others _ _
    (tells_all pass next.host around.pc heading.id (readings_of 0 value)
    (op.Put field first_element (nodes_of 0 value)) (released_by 0 value) [] refl (ap statement_rows there.0)
    (tells_none pass []))
    (block_tells pass walked method gives is rest numbered.2 there.1 around _ _)
block_tells pass walked method gives is (set_element heading field index value rest) numbered there around counts lane =
    let others = own_statements rest in
    let next = next_spot walked.planned lane.spot heading.id others in
    statement_tells pass walked around counts lane heading.id others _ _
    (element_tells pass next.host around.pc heading field index value there.0)
    (block_tells pass walked method gives is rest numbered.3 there.1 around _ _)
block_tells pass walked method gives is (branch heading guard first second rest) numbered there around counts lane =
    let others = own_statements rest in
    let next = next_spot walked.planned lane.spot heading.id others in
    let inside = inside_of walked around heading guard in
    let here = counts_after counts (move_emissions walked around counts lane next (heading.id ∷ others)) in
    let P = IsThere pass in
    let firsts = all_first P (all_statements first) (all_statements second ++ all_statements rest) there.1 in
    let behind = all_second P (all_statements first) (all_statements second ++ all_statements rest) there.1 in
    let seconds = all_first P (all_statements second) (all_statements rest) behind in
    let rests = all_second P (all_statements second) (all_statements rest) behind in
    statement_tells pass walked around counts lane heading.id others _ _
    (branch_tells pass walked around heading guard first second there.0 next others
    (λ it. block_emissions walked inside it (lane_on next.host) first)
    (λ it. block_emissions walked inside it (lane_on next.host) second) here
    (λ it. block_tells pass walked method gives is first numbered.1 firsts inside it (lane_on next.host))
    (λ it. block_tells pass walked method gives is second numbered.2 seconds inside it (lane_on next.host)))
    (block_tells pass walked method gives is rest numbered.3 rests around _ _)
block_tells pass walked method gives is (loop heading guard inner rest) numbered there around counts lane =
    let others = own_statements rest in
    let next = next_spot walked.planned lane.spot heading.id others in
    let inside = inside_of walked around heading guard in
    let here = counts_after counts (move_emissions walked around counts lane next (heading.id ∷ others)) in
    let P = IsThere pass in
    let inners = all_first P (all_statements inner) (all_statements rest) there.1 in
    let rests = all_second P (all_statements inner) (all_statements rest) there.1 in
    statement_tells pass walked around counts lane heading.id others _ _
    (loop_tells pass walked around heading guard inner there.0 next others
    (λ it. block_emissions walked inside it (lane_on next.host) inner) here
    (λ it. block_tells pass walked method gives is inner numbered.1 inners inside it (lane_on next.host)))
    (block_tells pass walked method gives is rest numbered.2 rests around _ _)
block_tells pass walked method gives is (call heading site called arguments into rest) numbered there around counts
    lane =
    let others = own_statements rest in
    let next = next_spot walked.planned lane.spot heading.id others in
    let here = counts_after counts (move_emissions walked around counts lane next (heading.id ∷ others)) in
    statement_tells pass walked around counts lane heading.id others _ _
    (call_tells pass walked here next.host around.pc heading site called arguments into
    (carried_to walked.planned next others) (under_token walked.planned next others) there.0
    (as_many walked.labelled.program called (length arguments) (is_some into) numbered.0))
    (block_tells pass walked method gives is rest numbered.3 there.1 around _ _)
block_tells pass walked method gives is (give_back heading value rest) numbered there around counts lane =
    let others = own_statements rest in
    let next = next_spot walked.planned lane.spot heading.id others in
    statement_tells pass walked around counts lane heading.id others _ _
    (answer_tells pass walked next.host around.pc heading value there.0 (is ∙ numbered.0))
    (block_tells pass walked method gives is rest numbered.2 there.1 around _ _)

-- ---- methods

-- the pass finds all statements of the method
abbrev pub AreThere : Pass → MethodTree → Type 0
AreThere pass method = AllByRecursion (IsThere pass) (all_statements method.body)

pub methods_tell : (pass : Pass) (principals : Declared) (labelled : Labelled) (planned : PlannedShape) (place : ℕ)
    (methods : List MethodTree) → AreMethodsIn labelled.program place methods →
    AllByRecursion (AreThere pass) methods → (counts : Counts) →
    Tells pass [] (methods_emissions principals labelled planned counts place methods) []
methods_tell pass principals labelled planned place [] numbered there counts = tells_none pass []
methods_tell pass principals labelled planned place (method ∷ methods) numbered there counts =
    let walked = walked_in principals labelled planned method in
    let own = method_emissions principals labelled planned counts place method in
    tells_on pass (tells_then pass (stands_tells pass [] (home_of planned method) (suc place))
    (block_tells pass walked (record { 0 = place }) (is_some method.result) refl method.body numbered.0.body there.0
    (record { owner = method.head; pc = method.begin }) counts (lane_on (home_of planned method))))
    (methods_tell pass principals labelled planned (suc place) methods numbered.1 there.1 (counts_after counts own))

front_tells : (pass : Pass) (planned : PlannedShape) (main : Option MethodTree) (methods : List MethodTree) →
    Tells pass [] (halt_entries planned main ++ map (method_entry planned) methods) []
front_tells pass planned main methods =
    tells_on pass (by main) (mapped_tells pass [] (method_entry planned) (λ method. named_tells pass [] _) methods)
  where
    by : (found : Option MethodTree) → Tells pass [] (halt_entries planned found) []
    by None = tells_none pass []
    by (Some tree) = tells_then pass (named_tells pass [] _) (stands_tells pass [] (home_of planned tree) 0)

pub program_tells : (pass : Pass) (placed : PlacedProgram) →
    AreMethodsIn placed.labelled.program 0 placed.labelled.program.methods →
    AllByRecursion (AreThere pass) placed.labelled.program.methods → Tells pass [] (program_emissions placed) []
program_tells pass placed numbered there =
    let planned = planned_from placed in
    let program = placed.labelled.program in
    tells_on pass (front_tells pass planned (method_at program program.main) program.methods)
    (methods_tell pass placed.hosts.principals placed.labelled planned 0 program.methods numbered there _)
