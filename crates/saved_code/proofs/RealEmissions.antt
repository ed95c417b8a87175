-- What the walk over a real program gives is real: its labels are labels, its numbers fit, and each expression leaves
-- one value.
use Rattle.std.proofs.Common.{◌≡◌, ℕ, suc, ◌+◌, ◌≤◌, ◌<◌, ◌^◌, List, [], ◌∷◌, ◌++◌, map, Option}
use Rattle.std.proofs.Common.{Some, None, refl, arith, All, subst}
use Rattle.std.specs.Prelude.{sum, ⊤}
use Rattle.std.specs.List.{AllByRecursion, flat_map}
use Rattle.std.proofs.lemmas.List.Concat.{flat_map-cons}
use Rattle.std.proofs.lemmas.List.Elements.{All-head, All-tail}
use Rattle.std.proofs.lemmas.List.Sums.{sum_by-cons}
use Rattle.js_base.specs.declared.ids.HostId.{HostId}
use Rattle.js_base.specs.declared.ids.MethodId.{MethodId}
use Rattle.js_base.specs.declared.ids.SiteId.{SiteId}
use Rattle.js_base.specs.declared.ids.StmtId.{StmtId}
use Rattle.js_base.specs.declared.ids.VarId.{VarId}
use Rattle.js_base.specs.declared.limits.TheConstants.{EXPRESSION_NODES}
use Rattle.principals.specs.ActsFor.{Declared}
use Rattle.label_lattice.specs.declared.label.Label.{Label}
use Rattle.label_lattice.specs.Label.{IsLabel}
use Rattle.jif_tree.specs.Trees.{ExprTree, local, Heading, BlockTree, done, set_local, set_field, set_element, branch}
use Rattle.jif_tree.specs.Trees.{loop}
use Rattle.jif_tree.specs.Trees.{call, give_back, MethodTree}
use Rattle.jif_tree.specs.LabelRules.{method_at, params_of, result_of}
use Rattle.jif_tree.specs.Numbering.{block_statements}
use Rattle.jif_tree.specs.Numbers.{ExprHasNumbers, BlockHasNumbers}
use Rattle.jif_tree.specs.Sizes.{expr_nodes, block_nodes}
use Rattle.jif_tree.specs.WrittenLabels.{written_in, written_in_block}
use Rattle.host_code.specs.declared.instruction.Op.TheVariants as op
use Rattle.host_code.specs.declared.code_expr.Node.TheVariants as node
use Rattle.need_labels.specs.Labelled.{Labelled, all_labels}
use Rattle.msg_cost.specs.declared.spot.Spot.{Spot}
use Rattle.msg_cost.specs.Moves.{PlannedShape, is_same, end_of, next_spot, own_statements, home_of, called_home}
use Rattle.msg_cost.proofs.Bounds.{all_left, all_right}
use Rattle.split_file.specs.File.{HasExpressions, IsWordExpression}
use Rattle.split_rules.specs.Emissions.{Emission, instruction, entry, stands, lands, Counts, counts_after}
use Rattle.split_rules.specs.Expressions.{ElementReading, reads_in, readings_of}
use Rattle.split_rules.specs.Walk.{Walked, Around, Lane, lane_on, under_token, emitted, need_of, entry_id}
use Rattle.split_rules.specs.Walk.{push_or_ask, expr_emissions, told_readers, leave_emissions, enter_emissions}
use Rattle.split_rules.specs.Walk.{read_emissions, send_emissions, pass_emissions, go_with, call_with}
use Rattle.split_rules.specs.Walk.{move_emissions, end_emissions, argument_emissions, kept_emissions, call_emissions}
use Rattle.split_rules.specs.Walk.{result_emissions, block_emissions, walked_in, method_emissions, methods_emissions}
use Rattle.split_rules.proofs.WalkedMoves.{one_of_two}
use Rattle.split_rules.proofs.WalkedBlocks.{inside_of, branch_front, branch_own, loop_front, loop_own}
use Rattle.saved_code.proofs.RealExpressions.{expression_real, first_real, AreRealReadings, readings_real}
use Rattle.saved_code.proofs.RealLabels.{AreRealNames, guarded_real}

-- ---- parts

abbrev pub IsRealEmission : Emission → Type 0
IsRealEmission (instruction one) = IsLabel one.label × (one.statement.0 < 2 ^ 32) × HasExpressions one.op
IsRealEmission (entry named) = IsLabel named.label × (named.need < 2 ^ 64)
IsRealEmission (stands host number) = ⊤
IsRealEmission (lands host number) = ⊤

pub record AreReal (xs : List Emission) : Type 0 where
  pub all : AllByRecursion IsRealEmission xs

pub none_real : AreReal []
none_real = record { all = tt }

pub more_real : {x : Emission} {xs : List Emission} → IsRealEmission x → AreReal xs → AreReal (x ∷ xs)
more_real one rest = record { all = (one, rest.all) }

append_real : (xs ys : List Emission) → AllByRecursion IsRealEmission xs → AllByRecursion IsRealEmission ys →
    AllByRecursion IsRealEmission (xs ++ ys)
append_real [] ys one two = two
append_real (x ∷ xs) ys one two = (one.0, append_real xs ys one.1 two)

pub both_real : {xs ys : List Emission} → AreReal xs → AreReal ys → AreReal (xs ++ ys)
both_real {xs} {ys} one two = record { all = append_real xs ys one.all two.all }

mapped_real : {X : Type 0} (make : X → Emission) → ((x : X) → IsRealEmission (make x)) → (xs : List X) →
    AreReal (map make xs)
mapped_real make real [] = none_real
mapped_real make real (x ∷ xs) = more_real (real x) (mapped_real make real xs)

-- ---- expressions

reads_real : (host : HostId) (pc : Label) (statement : StmtId) → IsLabel pc → statement.0 < 2 ^ 32 →
    (readings : List ElementReading) → AreRealReadings readings →
    AreReal (read_emissions host pc statement readings)
reads_real host pc statement under small [] real = none_real
reads_real host pc statement under small (reading ∷ readings) real =
    more_real (under, small, real.0) (reads_real host pc statement under small readings real.1)

module _ (pc : Label) (statement : StmtId) (under : IsLabel pc) (small : statement.0 < 2 ^ 32) where
  expr_real : (host : HostId) (first : ℕ) (expr : ExprTree) → ExprHasNumbers expr → expr_nodes expr ≤ EXPRESSION_NODES →
      AreReal (expr_emissions host pc statement first expr)
  expr_real host first expr real few =
      reads_real host pc statement under small (readings_of first expr) (readings_real first expr real few)

  sends_real : (host : HostId) (planned : PlannedShape) (x : VarId) (carried : Option HostId) →
      AreReal (send_emissions planned host pc statement x carried)
  sends_real host planned x carried =
      mapped_real (λ other. emitted host pc statement (op.Send x other)) (λ other. (under, small, tt))
      (told_readers planned host x carried)

  passes_real : (host : HostId) (planned : PlannedShape) (x : VarId) (carried : Option HostId) →
      AreReal (pass_emissions planned host pc statement x carried)
  passes_real host planned x carried =
      mapped_real (λ other. emitted host pc statement (op.Pass x other)) (λ other. (under, small, tt))
      (told_readers planned host x carried)

-- ---- what is known of a walk

-- the number of a statement
abbrev pub IsSmall : ℕ → Type 0
IsSmall number = number < 2 ^ 32

pub record IsRealWalk (walked : Walked) : Type 0 where
  pub needs : (statements : List StmtId) → need_of walked.planned statements < 2 ^ 64
  pub names : AreRealNames walked.setting (all_labels walked.labelled)

pub record IsRealAround (around : Around) : Type 0 where
  pub pc : IsLabel around.pc
  pub owner : around.owner.0 < 2 ^ 32

inside_real : (walked : Walked) (around : Around) (heading : Heading) (guard : ExprTree) → IsRealWalk walked →
    IsRealAround around → IsSmall heading.id.0 → All IsLabel (written_in guard) →
    IsRealAround (inside_of walked around heading guard)
inside_real walked around heading guard walk known small written = record {
  pc = guarded_real walked.setting around.pc (all_labels walked.labelled) walk.names known.pc guard written;
  owner = small;
}

-- ---- moves

leave_real : (around : Around) (lane : Lane) → IsRealAround around → AreReal (leave_emissions around lane)
leave_real around lane known = by lane.spot.host lane.spot.back lane.return_entry lane.riding
  where
    by : (host : HostId) (back : Option HostId) (return : ℕ) (riding : List VarId) →
        let spot : Spot = record { host = host; back = back } in
        AreReal (leave_emissions around (record { spot = spot; return_entry = return; riding = riding }))
    by host None return riding = none_real
    by host (Some back) return riding = more_real (known.pc, known.owner, tt) (more_real tt none_real)

push_or_ask_real : (from host : HostId) (number : ℕ) → HasExpressions (push_or_ask from host number)
push_or_ask_real from host number =
    one_of_two HasExpressions (is_same from host) (op.Push (entry_id number)) (op.Ask (entry_id number) host) tt tt

go_real : (riders : List VarId) (number : ℕ) (host : HostId) → HasExpressions (go_with riders (entry_id number) host)
go_real [] number host = tt
go_real (x ∷ riders) number host = tt

enter_real : (walked : Walked) (around : Around) → IsRealWalk walked → IsRealAround around → (counts : Counts)
    (from : HostId) (riders : List VarId) (host : HostId) (back : Option HostId) (statements : List StmtId) →
    AreReal (enter_emissions walked around counts from riders (record { host = host; back = back }) statements)
enter_real walked around walk known counts from riders host None statements =
    one_of_two AreReal (is_same from host) [] _ none_real
    (more_real (known.pc, walk.needs statements) (more_real (known.pc, known.owner, go_real riders counts.entries host)
    (more_real tt none_real)))
enter_real walked around walk known counts from riders host (Some back) statements =
    one_of_two AreReal (is_same from host) [] _ none_real
    (more_real (known.pc, walk.needs _) (more_real (known.pc, walk.needs _)
    (more_real (known.pc, known.owner, push_or_ask_real from back counts.entries)
    (more_real (known.pc, known.owner, go_real riders (counts.entries + 1) host) (more_real tt none_real)))))

move_real : (walked : Walked) (around : Around) → IsRealWalk walked → IsRealAround around → (counts : Counts)
    (lane : Lane) (next : Spot) (statements : List StmtId) →
    AreReal (move_emissions walked around counts lane next statements)
move_real walked around walk known counts lane next statements =
    one_of_two AreReal (is_same lane.spot.host next.host) [] _ none_real
    (both_real (leave_real around lane known)
    (enter_real walked around walk known counts (end_of lane.spot) lane.riding next.host next.back statements))

end_real : (around : Around) (lane : Lane) → IsRealAround around → AreReal (end_emissions around lane)
end_real around lane known =
    both_real (leave_real around lane known) (more_real (known.pc, known.owner, tt) none_real)

-- ---- calls

module _ (walked : Walked) (walk : IsRealWalk walked) (pc : Label) (statement : StmtId) (under : IsLabel pc)
    (small : statement.0 < 2 ^ 32) where
  arguments_real : (host home : HostId) (params : List VarId) (arguments : List ExprTree) →
      AllByRecursion ExprHasNumbers arguments → sum (map expr_nodes arguments) ≤ EXPRESSION_NODES →
      AreReal (argument_emissions walked host home pc statement params arguments)
  arguments_real host home params [] real few = none_real
  arguments_real host home [] (argument ∷ others) real few = none_real
  arguments_real host home (param ∷ params) (argument ∷ others) real few =
      let both : sum (map expr_nodes (argument ∷ others)) ≡ expr_nodes argument + sum (map expr_nodes others) =
      sum_by-cons (λ nodes. nodes) (expr_nodes argument) (map expr_nodes others) in
      let own : expr_nodes argument ≤ EXPRESSION_NODES = omega (arith, both, few) in
      both_real (both_real (expr_real pc statement under small host 0 argument real.0 own)
      (more_real (under, small, expression_real 0 argument real.0 own)
      (passes_real pc statement under small host walked.planned param (Some home))))
      (arguments_real host home params others real.1 (omega (arith, both, few)))

  kept_real : (host : HostId) (result into : Option VarId) (carried : Option HostId) →
      AreReal (kept_emissions walked host pc statement result into carried)
  kept_real host (Some result) (Some into) carried =
      more_real (under, small, result_real result)
      (sends_real pc statement under small host walked.planned into carried)
    where
      result_real : (x : VarId) → IsWordExpression (node.Var x ∷ [])
      result_real x = expression_real 0 (local x) tt (omega arith)
  kept_real host (Some result) None carried = none_real
  kept_real host None (Some into) carried = none_real
  kept_real host None None carried = none_real

  called_real : (riders : List VarId) (number : ℕ) (home : HostId) →
      HasExpressions (call_with riders (entry_id number) home)
  called_real [] number home = tt
  called_real (x ∷ riders) number home = tt

  call_real : (counts : Counts) (host : HostId) (site : SiteId) (method : MethodId) (arguments : List ExprTree)
      (into : Option VarId) (carried : Option HostId) (left : List StmtId) → AllByRecursion ExprHasNumbers arguments →
      sum (map expr_nodes arguments) ≤ EXPRESSION_NODES →
      AreReal (call_emissions walked counts host pc statement site method arguments into carried left)
  call_real counts host site method arguments into carried left real few =
      let called = method_at walked.labelled.program method in
      let home = called_home walked.planned called in
      more_real (under, walk.needs (statement ∷ left)) (more_real (under, small, tt)
      (both_real (arguments_real host home (params_of called) arguments real few)
      (more_real (under, small, tt) (more_real (under, small, called_real _ (suc method.0) home) (more_real tt
      (kept_real host (result_of called) into carried))))))

  result_real : (host : HostId) (value : ExprTree) → ExprHasNumbers value → expr_nodes value ≤ EXPRESSION_NODES →
      AreReal (result_emissions walked host pc statement value)
  result_real host value real few = by walked.setting.result refl
    where
      by : (result : Option VarId) → walked.setting.result ≡ result →
          AreReal (result_emissions walked host pc statement value)
      by None is = rw is none_real
      by (Some result) is = rw is (more_real (under, small, expression_real 0 value real few) none_real)

-- ---- blocks

abbrev IsFew : ℕ → Type 0
IsFew nodes = nodes ≤ EXPRESSION_NODES

-- a statement that is moved to, and what follows it
statement_real : (walked : Walked) (around : Around) → IsRealWalk walked → IsRealAround around → (counts : Counts)
    (lane : Lane) (statement : StmtId) (others : List StmtId) (own rest : List Emission) → AreReal own → AreReal rest →
    let next = next_spot walked.planned lane.spot statement others in
    AreReal (move_emissions walked around counts lane next (statement ∷ others) ++ own ++ rest)
statement_real walked around walk known counts lane statement others own rest owns follows =
    let next = next_spot walked.planned lane.spot statement others in
    both_real (both_real (move_real walked around walk known counts lane next (statement ∷ others)) owns) follows

branch_real : (walked : Walked) (around : Around) → IsRealWalk walked → IsRealAround around → (heading : Heading)
    (guard : ExprTree) → IsSmall heading.id.0 → ExprHasNumbers guard → All IsLabel (written_in guard) →
    IsFew (expr_nodes guard) → (next : Spot)
    (others : List StmtId) (first second : Counts → List Emission) (here : Counts) →
    ((counts : Counts) → AreReal (first counts)) → ((counts : Counts) → AreReal (second counts)) →
    AreReal (branch_own (branch_front walked around here heading guard next others) here next.host first second)
branch_real walked around walk known heading guard small real written few next others first second here first_real
    second_real =
    let inside = inside_real walked around heading guard walk known small written in
    let front = more_real (inside.pc, walk.needs _) (more_real (known.pc, small, tt)
    (both_real (expr_real around.pc heading.id known.pc small next.host 0 guard real few)
    (more_real (known.pc, small, expression_real 0 guard real few) none_real))) in
    both_real (both_real (both_real (both_real front (first_real _)) (more_real tt none_real)) (second_real _))
    (more_real tt none_real)

loop_real : (walked : Walked) (around : Around) → IsRealWalk walked → IsRealAround around → (heading : Heading)
    (guard : ExprTree) → IsSmall heading.id.0 → ExprHasNumbers guard → All IsLabel (written_in guard) →
    IsFew (expr_nodes guard) → (next : Spot)
    (others : List StmtId) (body : Counts → List Emission) (here : Counts) →
    ((counts : Counts) → AreReal (body counts)) →
    AreReal (loop_own (loop_front walked around here heading guard next others) here next.host body)
loop_real walked around walk known heading guard small real written few next others body here body_real =
    let inside = inside_real walked around heading guard walk known small written in
    let pc = (inside_of walked around heading guard).pc in
    let front = more_real (inside.pc, walk.needs (heading.id ∷ under_token walked.planned next others)) (more_real tt
    (both_real (expr_real pc heading.id inside.pc small next.host 0 guard real few)
    (more_real (inside.pc, small, expression_real 0 guard real few) (more_real (inside.pc, small, tt) none_real)))) in
    both_real (both_real front (body_real _)) (more_real tt none_real)

block_real : (walked : Walked) → IsRealWalk walked → (block : BlockTree) → BlockHasNumbers block →
    All IsLabel (written_in_block block) → All IsFew (block_nodes block) → All IsSmall (block_statements block) →
    (around : Around) → IsRealAround around →
    (counts : Counts) (lane : Lane) → AreReal (block_emissions walked around counts lane block)
block_real walked walk done real written few ids around known counts lane = end_real around lane known
block_real walked walk (set_local heading x value rest) real written few ids around known counts lane =
    let small = All-head IsSmall heading.id.0 (block_statements rest) ids in
    let host = (next_spot walked.planned lane.spot heading.id (own_statements rest)).host in
    let own = All-head IsFew (expr_nodes value) (block_nodes rest) few in
    statement_real walked around walk known counts lane heading.id (own_statements rest) _ _
    (both_real (expr_real around.pc heading.id known.pc small host 0 value real.0 own)
    (more_real (known.pc, small, expression_real 0 value real.0 own)
    (sends_real around.pc heading.id known.pc small host walked.planned x _)))
    (block_real walked walk rest real.1
    (all_right IsLabel (written_in value) (written_in_block rest) written)
    (All-tail IsFew (expr_nodes value) (block_nodes rest) few)
    (All-tail IsSmall heading.id.0 (block_statements rest) ids) around known _ _)
block_real walked walk (set_field heading field value rest) real written few ids around known counts lane =
    let small = All-head IsSmall heading.id.0 (block_statements rest) ids in
    let host = (next_spot walked.planned lane.spot heading.id (own_statements rest)).host in
    let own = All-head IsFew (expr_nodes value) (block_nodes rest) few in
    statement_real walked around walk known counts lane heading.id (own_statements rest) _ _
    (both_real (expr_real around.pc heading.id known.pc small host 0 value real.0 own)
    (more_real (known.pc, small, (first_real, expression_real 0 value real.0 own)) none_real))
    (block_real walked walk rest real.1
    (all_right IsLabel (written_in value) (written_in_block rest) written)
    (All-tail IsFew (expr_nodes value) (block_nodes rest) few)
    (All-tail IsSmall heading.id.0 (block_statements rest) ids) around known _ _)
block_real walked walk (set_element heading field index value rest) real written few ids around known counts lane =
    let small = All-head IsSmall heading.id.0 (block_statements rest) ids in
    let host = (next_spot walked.planned lane.spot heading.id (own_statements rest)).host in
    let both = expr_nodes index + expr_nodes value in
    let nodes = All-head IsFew both (block_nodes rest) few in
    let in_index : expr_nodes index ≤ EXPRESSION_NODES = omega (arith, nodes) in
    let in_value : expr_nodes value ≤ EXPRESSION_NODES = omega (arith, nodes) in
    statement_real walked around walk known counts lane heading.id (own_statements rest) _ _
    (both_real (both_real (expr_real around.pc heading.id known.pc small host 0 index real.0 in_index)
    (expr_real around.pc heading.id known.pc small host (reads_in index) value real.1 in_value))
    (more_real (
      known.pc,
      small,
      (
        expression_real 0 index real.0 in_index,
        expression_real (reads_in index) value real.1 in_value,
      ),
    ) none_real))
    (block_real walked walk rest real.2
    (all_right IsLabel (written_in index ++ written_in value) (written_in_block rest) written)
    (All-tail IsFew both (block_nodes rest) few)
    (All-tail IsSmall heading.id.0 (block_statements rest) ids) around known _ _)
block_real walked walk (branch heading guard first second rest) real written few ids around known counts lane =
    let numbers = block_statements first ++ block_statements second in
    let small = All-head IsSmall heading.id.0 (numbers ++ block_statements rest) ids in
    let behind_ids = All-tail IsSmall heading.id.0 (numbers ++ block_statements rest) ids in
    let both_ids = all_left IsSmall numbers (block_statements rest) behind_ids in
    let firsts = written_in guard ++ written_in_block first in
    let blocks = all_left IsLabel (firsts ++ written_in_block second) (written_in_block rest) written in
    let front = all_left IsLabel firsts (written_in_block second) blocks in
    let in_guard = all_left IsLabel (written_in guard) (written_in_block first) front in
    let others = own_statements rest in
    let next = next_spot walked.planned lane.spot heading.id others in
    let inside = inside_of walked around heading guard in
    let there = inside_real walked around heading guard walk known small in_guard in
    let here = counts_after counts (move_emissions walked around counts lane next (heading.id ∷ others)) in
    let in_blocks = block_nodes first ++ block_nodes second in
    let behind = All-tail IsFew (expr_nodes guard) (in_blocks ++ block_nodes rest) few in
    let both = all_left IsFew in_blocks (block_nodes rest) behind in
    statement_real walked around walk known counts lane heading.id others _ _
    (branch_real walked around walk known heading guard small real.0 in_guard
    (All-head IsFew (expr_nodes guard) (in_blocks ++ block_nodes rest) few) next others
    (λ it. block_emissions walked inside it (lane_on next.host) first)
    (λ it. block_emissions walked inside it (lane_on next.host) second) here
    (λ it. block_real walked walk first real.1
    (all_right IsLabel (written_in guard) (written_in_block first) front)
    (all_left IsFew (block_nodes first) (block_nodes second) both)
    (all_left IsSmall (block_statements first) (block_statements second) both_ids) inside there it (lane_on next.host))
    (λ it. block_real walked walk second real.2
    (all_right IsLabel firsts (written_in_block second) blocks)
    (all_right IsFew (block_nodes first) (block_nodes second) both)
    (all_right IsSmall (block_statements first) (block_statements second) both_ids) inside there it
    (lane_on next.host)))
    (block_real walked walk rest real.3
    (all_right IsLabel (firsts ++ written_in_block second) (written_in_block rest) written)
    (all_right IsFew in_blocks (block_nodes rest) behind)
    (all_right IsSmall numbers (block_statements rest) behind_ids) around known _ _)
block_real walked walk (loop heading guard inner rest) real written few ids around known counts lane =
    let numbers = block_statements inner in
    let small = All-head IsSmall heading.id.0 (numbers ++ block_statements rest) ids in
    let behind_ids = All-tail IsSmall heading.id.0 (numbers ++ block_statements rest) ids in
    let firsts = written_in guard ++ written_in_block inner in
    let front = all_left IsLabel firsts (written_in_block rest) written in
    let in_guard = all_left IsLabel (written_in guard) (written_in_block inner) front in
    let others = own_statements rest in
    let next = next_spot walked.planned lane.spot heading.id others in
    let inside = inside_of walked around heading guard in
    let there = inside_real walked around heading guard walk known small in_guard in
    let here = counts_after counts (move_emissions walked around counts lane next (heading.id ∷ others)) in
    let behind = All-tail IsFew (expr_nodes guard) (block_nodes inner ++ block_nodes rest) few in
    statement_real walked around walk known counts lane heading.id others _ _
    (loop_real walked around walk known heading guard small real.0 in_guard
    (All-head IsFew (expr_nodes guard) (block_nodes inner ++ block_nodes rest) few) next others
    (λ it. block_emissions walked inside it (lane_on next.host) inner) here
    (λ it. block_real walked walk inner real.1
    (all_right IsLabel (written_in guard) (written_in_block inner) front)
    (all_left IsFew (block_nodes inner) (block_nodes rest) behind)
    (all_left IsSmall numbers (block_statements rest) behind_ids) inside there it (lane_on next.host)))
    (block_real walked walk rest real.2
    (all_right IsLabel firsts (written_in_block rest) written)
    (all_right IsFew (block_nodes inner) (block_nodes rest) behind)
    (all_right IsSmall numbers (block_statements rest) behind_ids) around known _ _)
block_real walked walk (call heading site called arguments into rest) real written few ids around known counts lane =
    let small = All-head IsSmall heading.id.0 (block_statements rest) ids in
    let others = own_statements rest in
    let next = next_spot walked.planned lane.spot heading.id others in
    let here = counts_after counts (move_emissions walked around counts lane next (heading.id ∷ others)) in
    let nodes = sum (map expr_nodes arguments) in
    statement_real walked around walk known counts lane heading.id others _ _
    (call_real walked walk around.pc heading.id known.pc small here next.host site called arguments into _
    (under_token walked.planned next others) real.0 (All-head IsFew nodes (block_nodes rest) few))
    (block_real walked walk rest real.1
    (all_right IsLabel (flat_map written_in arguments) (written_in_block rest) written)
    (All-tail IsFew nodes (block_nodes rest) few)
    (All-tail IsSmall heading.id.0 (block_statements rest) ids) around known _ _)
block_real walked walk (give_back heading value rest) real written few ids around known counts lane =
    let small = All-head IsSmall heading.id.0 (block_statements rest) ids in
    let host = (next_spot walked.planned lane.spot heading.id (own_statements rest)).host in
    let own = All-head IsFew (expr_nodes value) (block_nodes rest) few in
    statement_real walked around walk known counts lane heading.id (own_statements rest) _ _
    (both_real (expr_real around.pc heading.id known.pc small host 0 value real.0 own)
    (result_real walked walk around.pc heading.id known.pc small host value real.0 own))
    (block_real walked walk rest real.1
    (all_right IsLabel (written_in value) (written_in_block rest) written)
    (All-tail IsFew (expr_nodes value) (block_nodes rest) few)
    (All-tail IsSmall heading.id.0 (block_statements rest) ids) around known _ _)

-- ---- methods

-- what is known of a method
abbrev pub IsRealMethod : MethodTree → Type 0
IsRealMethod method =
    IsLabel method.begin × All IsLabel (written_in_block method.body)

abbrev pub HasNumbersIn : MethodTree → Type 0
HasNumbersIn method = BlockHasNumbers method.body

pub methods_real : (principals : Declared) (labelled : Labelled) (planned : PlannedShape) →
    ((method : MethodTree) → IsRealWalk (walked_in principals labelled planned method)) → (number : ℕ)
    (methods : List MethodTree) → All IsRealMethod methods →
    All HasNumbersIn methods →
    All IsFew (flat_map (λ method. block_nodes method.body) methods) →
    All IsSmall (flat_map (λ method. method.head.0 ∷ block_statements method.body) methods) → (counts : Counts) →
    AreReal (methods_emissions principals labelled planned counts number methods)
methods_real principals labelled planned walk number [] real numbered few ids counts = none_real
methods_real principals labelled planned walk number (method ∷ methods) real numbered few ids counts =
    let walked = walked_in principals labelled planned method in
    let bodies : MethodTree → List ℕ = λ tree. block_nodes tree.body in
    let both = subst (All IsFew) (flat_map-cons bodies method methods) few in
    let numbers : MethodTree → List ℕ = λ tree. tree.head.0 ∷ block_statements tree.body in
    let both_ids = subst (All IsSmall) (flat_map-cons numbers method methods) ids in
    let own_ids = all_left IsSmall (numbers method) (flat_map numbers methods) both_ids in
    let here = All-head IsRealMethod method methods real in
    let own = method_emissions principals labelled planned counts number method in
    both_real (more_real tt (block_real walked (walk method) method.body
    (All-head HasNumbersIn method methods numbered) here.1
    (all_left IsFew (bodies method) (flat_map bodies methods) both)
    (All-tail IsSmall method.head.0 (block_statements method.body) own_ids)
    (record { owner = method.head; pc = method.begin })
    (record { pc = here.0; owner = All-head IsSmall method.head.0 (block_statements method.body) own_ids }) counts
    (lane_on (home_of planned method))))
    (methods_real principals labelled planned walk (suc number) methods (All-tail IsRealMethod method methods real)
    (All-tail HasNumbersIn method methods numbered)
    (all_right IsFew (bodies method) (flat_map bodies methods) both)
    (all_right IsSmall (numbers method) (flat_map numbers methods) both_ids) (counts_after counts own))
