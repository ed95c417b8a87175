-- What the walk over a block gives carries the program labels of its statements, and of the block where the right to go
-- on moves.
use Rattle.std.proofs.Common.{◌≡◌, ◌∙◌, ℕ, suc, ◌+◌, inl, inr, List, [], ◌∷◌, ◌++◌, map, refl, ap, sym, subst}
use Rattle.std.proofs.lemmas.Bool.Decides.{eqb_tells}
use Rattle.std.specs.Prelude.{Option, Some, None, ⊤}
use Rattle.std.specs.List.{AllByRecursion}
use Rattle.js_base.specs.declared.ids.HostId.{HostId}
use Rattle.js_base.specs.declared.ids.VarId.{VarId}
use Rattle.js_base.specs.declared.ids.StmtId.{StmtId}
use Rattle.js_base.specs.declared.ids.MethodId.{MethodId}
use Rattle.js_base.specs.declared.ids.SiteId.{SiteId}
use Rattle.js_base.specs.declared.ids.EntryId.{EntryId}
use Rattle.label_lattice.specs.declared.label.Label.{Label}
use Rattle.label_lattice.specs.Lattice.{join_of}
use Rattle.jif_tree.specs.Trees.{ExprTree, BlockTree, done, set_local, set_field, set_element, branch, loop, call}
use Rattle.jif_tree.specs.Trees.{give_back, MethodTree}
use Rattle.jif_tree.specs.LabelRules.{MethodSetting, VariableLabels, setting_of, guarded, labels_after, block_labels}
use Rattle.jif_tree.specs.LabelRules.{labels_after_assignment, expr_label, method_at, params_of, result_of}
use Rattle.jif_tree.specs.ValueLabels.{AreValuesLabelled}
use Rattle.jif_tree.proofs.LabelsKept.{Stay, stay_then, block_stays}
use Rattle.host_code.specs.declared.instruction.Op.TheVariants as op
use Rattle.need_labels.specs.Labelled.{Labelled, pc_of, all_labels}
use Rattle.need_labels.specs.Plan.{statement_host}
use Rattle.msg_cost.specs.declared.spot.Spot.{Spot}
use Rattle.msg_cost.specs.Moves.{PlannedShape, is_same, end_of, entered, next_spot, carried_to, called_home}
use Rattle.msg_cost.specs.Moves.{own_statements}
use Rattle.split_rules.specs.Emissions.{Emission, stands, lands, Counts, counts_after}
use Rattle.split_rules.specs.Expressions.{ElementReading, readings_of, reads_in}
use Rattle.split_rules.specs.Positions.{IsOf, all_statements}
use Rattle.split_rules.specs.Walk.{Walked, Around, Lane, walked_in, lane_on, lane_behind, entry_id, emitted}
use Rattle.split_rules.specs.Walk.{read_emissions}
use Rattle.split_rules.specs.Walk.{under_token, expr_emissions, told_readers, leave_emissions, go_with, call_with}
use Rattle.split_rules.specs.Walk.{enter_emissions, move_emissions, argument_emissions, riding_params}
use Rattle.split_rules.specs.Walk.{kept_emissions, call_emissions, result_emissions, block_emissions}
use Rattle.split_rules.proofs.BackedLabels.{all_first, all_second, all_both}
use Rattle.split_rules.proofs.LabelsKept.{AreFinal}
use Rattle.split_rules.proofs.Places.{same_host}
use Rattle.split_rules.proofs.SeenBlocks.{guard_same, IsKept, AreLabelsKept}
use Rattle.split_rules.proofs.WalkedBlocks.{inside_of, branch_front, branch_own, loop_front, loop_own}
use Rattle.split_rules.proofs.WalkedMoves.{entered_here, entered_there, next_here, next_there, one_of_two}
use Rattle.split_shades.specs.Basis.{Basis, basis_setting}
use Rattle.split_shades.specs.Carried.{IsBlockOf, IsOwnStatement, InstructionCarriesWell, IsCarried}
use Rattle.split_shades.proofs.BasisLabels.{same_value}

-- ---- the program labels of statements

-- each statement of a block has the program label of the block, and a loop that of its guard
abbrev pub BlockKept : Labelled → MethodSetting → Label → BlockTree → Type 0
BlockKept labelled setting pc done = ⊤
BlockKept labelled setting pc (set_local heading x value rest) =
    (pc_of labelled heading.id ≡ pc) × BlockKept labelled setting pc rest
BlockKept labelled setting pc (set_field heading field value rest) =
    (pc_of labelled heading.id ≡ pc) × BlockKept labelled setting pc rest
BlockKept labelled setting pc (set_element heading field index value rest) =
    (pc_of labelled heading.id ≡ pc) × BlockKept labelled setting pc rest
BlockKept labelled setting pc (branch heading guard first second rest) =
    let inside = guarded setting pc (all_labels labelled) guard in
    (pc_of labelled heading.id ≡ pc) × BlockKept labelled setting inside first
    × BlockKept labelled setting inside second × BlockKept labelled setting pc rest
BlockKept labelled setting pc (loop heading guard inner rest) =
    let inside = guarded setting pc (all_labels labelled) guard in
    (pc_of labelled heading.id ≡ inside) × BlockKept labelled setting inside inner
    × BlockKept labelled setting pc rest
BlockKept labelled setting pc (call heading site method arguments into rest) =
    (pc_of labelled heading.id ≡ pc) × BlockKept labelled setting pc rest
BlockKept labelled setting pc (give_back heading value rest) =
    (pc_of labelled heading.id ≡ pc) × BlockKept labelled setting pc rest

pub block_kept : (labelled : Labelled) (setting : MethodSetting) (final : VariableLabels) → AreFinal labelled final →
    (pc : Label) (labels : VariableLabels) (block : BlockTree) → Stay (labels_after setting pc labels block) final →
    AreValuesLabelled setting pc labels block → AreLabelsKept labelled (block_labels setting pc labels block) →
    BlockKept labelled setting pc block
block_kept labelled setting final are pc labels done stay values kept = tt
block_kept labelled setting final are pc labels (set_local heading x value rest) stay values kept =
    let after = labels_after_assignment labels x (join_of (expr_label setting pc labels value) pc) in
    (kept.0, block_kept labelled setting final are pc after rest stay values.1 kept.1)
block_kept labelled setting final are pc labels (set_field heading field value rest) stay values kept =
    (kept.0, block_kept labelled setting final are pc labels rest stay values.1 kept.1)
block_kept labelled setting final are pc labels (set_element heading field index value rest) stay values kept =
    (kept.0, block_kept labelled setting final are pc labels rest stay values.2 kept.1)
block_kept labelled setting final are pc labels (branch heading guard first second rest) stay values kept =
    let inside = guarded setting pc labels guard in
    let between = labels_after setting inside labels first in
    let behind = labels_after setting inside between second in
    let end = labels_after setting pc behind rest in
    let rest_stays = stay_then behind end final (block_stays setting pc behind rest) stay in
    let from_second = stay_then between behind final (block_stays setting inside between second) rest_stays in
    let from_first = stay_then labels between final (block_stays setting inside labels first) from_second in
    let one = block_labels setting inside labels first in
    let two = block_labels setting inside between second in
    let both = all_first (IsKept labelled) (one ++ two) _ kept.1 in
    let same = ap (λ label. join_of pc label) (guard_same labelled setting pc labels final are from_first guard
    values.0) in
    let P : BlockTree → Label → Type 0 = λ block label. BlockKept labelled setting label block in (
      kept.0,
      subst (P first) same (block_kept labelled setting final are inside labels first from_second values.1
          (all_first (IsKept labelled) one two both)),
      subst (P second) same (block_kept labelled setting final are inside between second rest_stays values.2
          (all_second (IsKept labelled) one two both)),
      block_kept labelled setting final are pc behind rest stay values.3
          (all_second (IsKept labelled) (one ++ two) _ kept.1),
    )
block_kept labelled setting final are pc labels (loop heading guard inner rest) stay values kept =
    let inside = guarded setting pc labels guard in
    let behind = labels_after setting inside labels inner in
    let end = labels_after setting pc behind rest in
    let rest_stays = stay_then behind end final (block_stays setting pc behind rest) stay in
    let from_inner = stay_then labels behind final (block_stays setting inside labels inner) rest_stays in
    let one = block_labels setting inside labels inner in
    let same = ap (λ label. join_of pc label) (guard_same labelled setting pc labels final are from_inner guard
    values.0) in
    let P : Label → Type 0 = λ label. BlockKept labelled setting label inner in (
      kept.0 ∙ same,
      subst P same (block_kept labelled setting final are inside labels inner rest_stays values.1
          (all_first (IsKept labelled) one _ kept.1)),
      block_kept labelled setting final are pc behind rest stay values.2 (all_second (IsKept labelled) one _ kept.1),
    )
block_kept labelled setting final are pc labels (call heading site method arguments into rest) stay values kept =
    (kept.0, block_kept labelled setting final are pc labels rest stay values.1 kept.1)
block_kept labelled setting final are pc labels (give_back heading value rest) stay values kept =
    (kept.0, block_kept labelled setting final are pc labels rest stay values.1 kept.1)

-- ---- emissions

abbrev pub AllCarried : Basis → PlannedShape → List Emission → Type 0
AllCarried basis planned emissions = AllByRecursion (IsCarried basis planned) emissions

-- two lists of emissions, one after another
pub then_carried : (basis : Basis) (planned : PlannedShape) (xs ys : List Emission) → AllCarried basis planned xs →
    AllCarried basis planned ys → AllCarried basis planned (xs ++ ys)
then_carried basis planned xs ys one two = all_both (IsCarried basis planned) xs ys one two

-- ---- moves

leave_carried : (basis : Basis) (planned : PlannedShape) (around : Around) (lane : Lane) →
    IsBlockOf basis around.owner around.pc → AllCarried basis planned (leave_emissions around lane)
leave_carried basis planned around lane block = by lane.spot.host lane.spot.back lane.return_entry
  where
    by : (host : HostId) (back : Option HostId) (number : ℕ) →
        AllCarried basis planned
        (leave_emissions around (record {
          spot = record { host = host; back = back };
          return_entry = number;
          riding = lane.riding;
        }))
    by host None number = tt
    by host (Some back) number = (block, (tt, tt))

-- whatever rides where the thread is handed over
go_carried : (basis : Basis) (planned : PlannedShape) (host : HostId) (label : Label) (statement : StmtId)
    (riders : List VarId) (there : EntryId) (on : HostId) → IsBlockOf basis statement label →
    InstructionCarriesWell basis planned host label statement (go_with riders there on)
go_carried basis planned host label statement [] there on block = block
go_carried basis planned host label statement (x ∷ riders) there on block = block

enter_carried : (basis : Basis) (planned : PlannedShape) (walked : Walked) (around : Around) (counts : Counts)
    (from : HostId) (riders : List VarId) (host : HostId) (back : Option HostId) (statements : List StmtId) →
    IsBlockOf basis around.owner around.pc →
    AllCarried basis planned
    (enter_emissions walked around counts from riders (record { host = host; back = back }) statements)
enter_carried basis planned walked around counts from riders host None statements block =
    let goes = go_carried basis planned from around.pc around.owner riders (entry_id counts.entries) host block in
    one_of_two (AllCarried basis planned) (is_same from host) [] _ tt ((around.owner, block), (goes, (tt, tt)))
enter_carried basis planned walked around counts from riders host (Some back) statements block =
    let goes = go_carried basis planned from around.pc around.owner riders (entry_id (counts.entries + 1)) host block in
    one_of_two (AllCarried basis planned) (is_same from host) [] _ tt (
      (around.owner, block),
      (
        (around.owner, block),
        (
          one_of_two (InstructionCarriesWell basis planned from around.pc around.owner) (is_same from back)
              (op.Push (entry_id counts.entries)) (op.Ask (entry_id counts.entries) back) (inr block) block,
          (goes, (tt, tt)),
        ),
      ),
    )

move_carried : (basis : Basis) (planned : PlannedShape) (walked : Walked) (around : Around) (counts : Counts)
    (lane : Lane) (next : Spot) (statements : List StmtId) → IsBlockOf basis around.owner around.pc →
    AllCarried basis planned (move_emissions walked around counts lane next statements)
move_carried basis planned walked around counts lane next statements block =
    one_of_two (AllCarried basis planned) (is_same lane.spot.host next.host) [] _ tt
    (then_carried basis planned (leave_emissions around lane)
    (enter_emissions walked around counts (end_of lane.spot) lane.riding next statements)
    (leave_carried basis planned around lane block)
    (enter_carried basis planned walked around counts (end_of lane.spot) lane.riding next.host next.back statements
    block))

-- the next spot is on the host of the statement
spot_host : (planned : PlannedShape) (spot : Spot) (statement : StmtId) (others : List StmtId) →
    statement_host planned.plan statement ≡ (next_spot planned spot statement others).host
spot_host planned spot statement others = elim (eqb_tells spot.host.0 host.0) [
  | inl same ↦ subst P (sym (next_here planned spot statement others same.1)) (sym (same_host spot.host host same.1))
  | inr other ↦ subst P (sym (next_there planned spot statement others other.1)) there
]
  where
    host : HostId
    host = statement_host planned.plan statement

    P : Spot → Type 0
    P next = host ≡ next.host

    there : P (entered planned (end_of spot) host (statement ∷ others))
    there = elim (eqb_tells (end_of spot).0 host.0) [
      | inl same ↦ subst P (sym (entered_here planned (end_of spot) host (statement ∷ others) same.1)) refl
      | inr other ↦ elim (entered_there planned (end_of spot) host (statement ∷ others) other.1) [
        | inl is ↦ subst P (sym is) refl
        | inr is ↦ subst P (sym is) refl
      ]
    ]

-- ---- statements

reads_carried : (basis : Basis) (planned : PlannedShape) (host : HostId) (label : Label) (statement : StmtId)
    (readings : List ElementReading) → IsOwnStatement basis planned host label statement →
    AllCarried basis planned (read_emissions host label statement readings)
reads_carried basis planned host label statement [] own = tt
reads_carried basis planned host label statement (reading ∷ readings) own =
    (own, reads_carried basis planned host label statement readings own)

expr_carried : (basis : Basis) (planned : PlannedShape) (host : HostId) (label : Label) (statement : StmtId)
    (first : ℕ) (value : ExprTree) → IsOwnStatement basis planned host label statement →
    AllCarried basis planned (expr_emissions host label statement first value)
expr_carried basis planned host label statement first value own =
    reads_carried basis planned host label statement (readings_of first value) own

sends_carried : (basis : Basis) (planned : PlannedShape) (host : HostId) (label : Label) (statement : StmtId)
    (x : VarId) (others : List HostId) → IsOwnStatement basis planned host label statement →
    AllCarried basis planned (map (λ other. emitted host label statement (op.Send x other)) others)
sends_carried basis planned host label statement x [] own = tt
sends_carried basis planned host label statement x (other ∷ others) own =
    (own, sends_carried basis planned host label statement x others own)

passes_carried : (basis : Basis) (planned : PlannedShape) (host : HostId) (label : Label) (statement : StmtId)
    (x : VarId) (others : List HostId) → IsOwnStatement basis planned host label statement →
    AllCarried basis planned (map (λ other. emitted host label statement (op.Pass x other)) others)
passes_carried basis planned host label statement x [] own = tt
passes_carried basis planned host label statement x (other ∷ others) own =
    (own, passes_carried basis planned host label statement x others own)

arguments_carried : (basis : Basis) (planned : PlannedShape) (walked : Walked) → walked.planned ≡ planned →
    (host home : HostId) (label : Label) (statement : StmtId) (params : List VarId) (arguments : List ExprTree) →
    IsOwnStatement basis planned host label statement →
    AllCarried basis planned (argument_emissions walked host home label statement params arguments)
arguments_carried basis planned walked same host home label statement params [] own = tt
arguments_carried basis planned walked same host home label statement [] (argument ∷ others) own = tt
arguments_carried basis planned walked same host home label statement (param ∷ params) (argument ∷ others) own =
    let reads = expr_emissions host label statement 0 argument in
    let told = told_readers walked.planned host param (Some home) in
    then_carried basis planned _ (argument_emissions walked host home label statement params others)
    (then_carried basis planned reads _ (expr_carried basis planned host label statement 0 argument own)
    (own, passes_carried basis planned host label statement param told own))
    (arguments_carried basis planned walked same host home label statement params others own)

keeps_carried : (basis : Basis) (planned : PlannedShape) (walked : Walked) (host : HostId) (label : Label)
    (statement : StmtId) (result into : Option VarId) (carried : Option HostId) →
    IsOwnStatement basis planned host label statement →
    AllCarried basis planned (kept_emissions walked host label statement result into carried)
keeps_carried basis planned walked host label statement (Some result) (Some into) carried own =
    (own, sends_carried basis planned host label statement into (told_readers walked.planned host into carried) own)
keeps_carried basis planned walked host label statement (Some result) None carried own = tt
keeps_carried basis planned walked host label statement None (Some into) carried own = tt
keeps_carried basis planned walked host label statement None None carried own = tt

-- whatever rides with a call
calls_carried : (basis : Basis) (planned : PlannedShape) (host : HostId) (label : Label) (statement : StmtId)
    (riders : List VarId) (there : EntryId) (on : HostId) → IsOwnStatement basis planned host label statement →
    InstructionCarriesWell basis planned host label statement (call_with riders there on)
calls_carried basis planned host label statement [] there on own = own
calls_carried basis planned host label statement (x ∷ riders) there on own = own

call_carried : (basis : Basis) (planned : PlannedShape) (walked : Walked) → walked.planned ≡ planned →
    (around : Around) → IsBlockOf basis around.owner around.pc → (counts : Counts) (host : HostId) (statement : StmtId)
    (site : SiteId) (method : MethodId) (arguments : List ExprTree) (into : Option VarId) (carried : Option HostId)
    (left : List StmtId) → IsOwnStatement basis planned host around.pc statement →
    AllCarried basis planned
    (call_emissions walked counts host around.pc statement site method arguments into carried left)
call_carried basis planned walked same around block counts host statement site method arguments into carried left own =
    let called = method_at walked.labelled.program method in
    let home = called_home walked.planned called in (
      (around.owner, block),
      (
        own,
        then_carried basis planned
            (argument_emissions walked host home around.pc statement (params_of called) arguments) _
            (arguments_carried basis planned walked same host home around.pc statement (params_of called) arguments
            own) (
              inl own,
              (
                calls_carried basis planned host around.pc statement
                    (riding_params walked.planned host home (params_of called) arguments) (entry_id (suc method.0)) home
                    own,
                (
                  tt,
                  keeps_carried basis planned walked host around.pc statement (result_of called) into carried own,
                ),
              ),
            ),
      ),
    )

result_carried : (basis : Basis) (planned : PlannedShape) (walked : Walked) (host : HostId) (label : Label)
    (statement : StmtId) (value : ExprTree) → IsOwnStatement basis planned host label statement →
    AllCarried basis planned (result_emissions walked host label statement value)
result_carried basis planned walked host label statement value own = by walked.setting.result refl
  where
    by : (result : Option VarId) → walked.setting.result ≡ result →
        AllCarried basis planned (result_emissions walked host label statement value)
    by None is = rw is tt
    by (Some result) is = rw is (own, tt)

-- ---- blocks

-- the label inside a branch does not depend on the method
pub inside_same : (basis : Basis) (tree : MethodTree) (pc own : Label) (guard : ExprTree) → own ≡ pc →
    guarded (setting_of basis.principals basis.labelled.program tree) pc (all_labels basis.labelled) guard
    ≡ guarded (basis_setting basis) own (all_labels basis.labelled) guard
inside_same basis tree pc own guard same =
    ap (λ label. join_of pc label) (same_value basis.principals basis.labelled tree pc guard)
    ∙ ap (λ label. guarded (basis_setting basis) label (all_labels basis.labelled) guard) (sym same)

-- a move, a statement, and what follows it
parts_carried : (basis : Basis) (planned : PlannedShape) (moved own rest : List Emission) →
    AllCarried basis planned moved → AllCarried basis planned own → AllCarried basis planned rest →
    AllCarried basis planned (moved ++ own ++ rest)
parts_carried basis planned moved own rest one two three =
    then_carried basis planned (moved ++ own) rest (then_carried basis planned moved own one two) three

pub block_carried : (basis : Basis) (planned : PlannedShape) (tree : MethodTree) (around : Around) (block : BlockTree) →
    let walked = walked_in basis.principals basis.labelled planned tree in
    IsBlockOf basis around.owner around.pc → BlockKept basis.labelled walked.setting around.pc block →
    AllByRecursion (IsOf basis.labelled.program) (all_statements block) → (counts : Counts) (lane : Lane) →
    AllCarried basis planned (block_emissions walked around counts lane block)
block_carried basis planned tree around done block kept there counts lane =
    then_carried basis planned (leave_emissions around lane)
    (emitted (end_of lane.spot) around.pc around.owner op.Back ∷ []) (leave_carried basis planned around lane block)
    (block, tt)
block_carried basis planned tree around (set_local heading x value rest) block kept there counts lane =
    let walked = walked_in basis.principals basis.labelled planned tree in
    let pc = around.pc in
    let others = own_statements rest in
    let next = next_spot planned lane.spot heading.id others in
    let own : IsOwnStatement basis planned next.host around.pc heading.id =
    (spot_host planned lane.spot heading.id others, kept.0) in
    parts_carried basis planned _ _ _
    (move_carried basis planned walked around counts lane next (heading.id ∷ others) block)
    (then_carried basis planned (expr_emissions next.host pc heading.id 0 value) _
    (expr_carried basis planned next.host pc heading.id 0 value own) (
      own,
      sends_carried basis planned next.host pc heading.id x
          (told_readers planned next.host x (carried_to planned next others)) own,
    ))
    (block_carried basis planned tree around rest block kept.1 there.1 _
    (lane_behind walked counts lane next (Some x) others))
block_carried basis planned tree around (set_field heading field value rest) block kept there counts lane =
    let walked = walked_in basis.principals basis.labelled planned tree in
    let pc = around.pc in
    let others = own_statements rest in
    let next = next_spot planned lane.spot heading.id others in
    let own : IsOwnStatement basis planned next.host around.pc heading.id =
    (spot_host planned lane.spot heading.id others, kept.0) in
    parts_carried basis planned _ _ _
    (move_carried basis planned walked around counts lane next (heading.id ∷ others) block)
    (then_carried basis planned (expr_emissions next.host pc heading.id 0 value) _
    (expr_carried basis planned next.host pc heading.id 0 value own) (own, tt))
    (block_carried basis planned tree around rest block kept.1 there.1 _
    (lane_behind walked counts lane next None others))
block_carried basis planned tree around (set_element heading field index value rest) block kept there counts lane =
    let walked = walked_in basis.principals basis.labelled planned tree in
    let pc = around.pc in
    let others = own_statements rest in
    let next = next_spot planned lane.spot heading.id others in
    let own : IsOwnStatement basis planned next.host around.pc heading.id =
    (spot_host planned lane.spot heading.id others, kept.0) in
    let one = expr_emissions next.host pc heading.id 0 index in
    let two = expr_emissions next.host pc heading.id (reads_in index) value in
    parts_carried basis planned _ _ _
    (move_carried basis planned walked around counts lane next (heading.id ∷ others) block)
    (then_carried basis planned (one ++ two) _
    (then_carried basis planned one two (expr_carried basis planned next.host pc heading.id 0 index own)
    (expr_carried basis planned next.host pc heading.id (reads_in index) value own)) (own, tt))
    (block_carried basis planned tree around rest block kept.1 there.1 _
    (lane_behind walked counts lane next None others))
block_carried basis planned tree around (branch heading guard first second rest) block kept there counts lane =
    let walked = walked_in basis.principals basis.labelled planned tree in
    let pc = around.pc in
    let others = own_statements rest in
    let next = next_spot planned lane.spot heading.id others in
    let host = next.host in
    let here = counts_after counts (move_emissions walked around counts lane next (heading.id ∷ others)) in
    let inside = inside_of walked around heading guard in
    let own : IsOwnStatement basis planned next.host around.pc heading.id =
    (spot_host planned lane.spot heading.id others, kept.0) in
    let within : IsBlockOf basis heading.id inside.pc =
    inr (
      branch heading guard first second done,
      there.0,
      refl,
      inside_same basis tree pc (pc_of basis.labelled heading.id)
          guard kept.0,
    ) in
    let inner = all_second (IsOf basis.labelled.program) (all_statements first) _ there.1 in
    let one : Counts → List Emission = λ it. block_emissions walked inside it (lane_on host) first in
    let two : Counts → List Emission = λ it. block_emissions walked inside it (lane_on host) second in
    let front = branch_front walked around here heading guard next others in
    let one_there = one (counts_after here front) in
    let between = lands host here.branches ∷ [] in
    let two_there = two (counts_after here (front ++ one_there ++ between)) in
    let whole = branch_own front here host one two in
    parts_carried basis planned _ whole _
    (move_carried basis planned walked around counts lane next (heading.id ∷ others) block)
    (then_carried basis planned (front ++ one_there ++ between ++ two_there) (stands host here.entries ∷ [])
    (then_carried basis planned (front ++ one_there ++ between) two_there
    (then_carried basis planned (front ++ one_there) between
    (then_carried basis planned front one_there (
      (heading.id, within),
      (
        inl own,
        then_carried basis planned (expr_emissions host pc heading.id 0 guard) _
            (expr_carried basis planned host pc heading.id 0 guard own) (own, tt),
      ),
    ) (block_carried basis planned tree inside first within kept.1
    (all_first (IsOf basis.labelled.program) (all_statements first) _ there.1) _ (lane_on host))) (tt, tt))
    (block_carried basis planned tree inside second within kept.2
    (all_first (IsOf basis.labelled.program) (all_statements second) _ inner) _ (lane_on host))) (tt, tt))
    (block_carried basis planned tree around rest block kept.3
    (all_second (IsOf basis.labelled.program) (all_statements second) _ inner) (counts_after here whole)
    (lane_behind walked counts lane next None others))
block_carried basis planned tree around (loop heading guard inner rest) block kept there counts lane =
    let walked = walked_in basis.principals basis.labelled planned tree in
    let others = own_statements rest in
    let next = next_spot planned lane.spot heading.id others in
    let host = next.host in
    let here = counts_after counts (move_emissions walked around counts lane next (heading.id ∷ others)) in
    let inside = inside_of walked around heading guard in
    let own : IsOwnStatement basis planned next.host inside.pc heading.id =
    (spot_host planned lane.spot heading.id others, kept.0) in
    let within : IsBlockOf basis heading.id inside.pc =
    inr (loop heading guard inner done, there.0, refl, sym kept.0) in
    let one : Counts → List Emission = λ it. block_emissions walked inside it (lane_on host) inner in
    let front = loop_front walked around here heading guard next others in
    let one_there = one (counts_after here front) in
    let whole = loop_own front here host one in
    parts_carried basis planned _ whole _
    (move_carried basis planned walked around counts lane next (heading.id ∷ others) block)
    (then_carried basis planned (front ++ one_there) (lands host here.branches ∷ [])
    (then_carried basis planned front one_there (
      (heading.id, within),
      (
        tt,
        then_carried basis planned (expr_emissions host inside.pc heading.id 0 guard) _
            (expr_carried basis planned host inside.pc heading.id 0 guard own) (own, (inl own, tt)),
      ),
    ) (block_carried basis planned tree inside inner within kept.1
    (all_first (IsOf basis.labelled.program) (all_statements inner) _ there.1) _ (lane_on host))) (tt, tt))
    (block_carried basis planned tree around rest block kept.2
    (all_second (IsOf basis.labelled.program) (all_statements inner) _ there.1) (counts_after here whole)
    (lane_behind walked counts lane next None others))
block_carried basis planned tree around (call heading site method arguments into rest) block kept there counts lane =
    let walked = walked_in basis.principals basis.labelled planned tree in
    let others = own_statements rest in
    let next = next_spot planned lane.spot heading.id others in
    let own : IsOwnStatement basis planned next.host around.pc heading.id =
    (spot_host planned lane.spot heading.id others, kept.0) in
    parts_carried basis planned _ _ _
    (move_carried basis planned walked around counts lane next (heading.id ∷ others) block)
    (call_carried basis planned walked refl around block
    (counts_after counts (move_emissions walked around counts lane next (heading.id ∷ others))) next.host heading.id
    site method arguments into (carried_to planned next others) (under_token planned next others) own)
    (block_carried basis planned tree around rest block kept.1 there.1 _
    (lane_behind walked counts lane next into others))
block_carried basis planned tree around (give_back heading value rest) block kept there counts lane =
    let walked = walked_in basis.principals basis.labelled planned tree in
    let pc = around.pc in
    let others = own_statements rest in
    let next = next_spot planned lane.spot heading.id others in
    let own : IsOwnStatement basis planned next.host around.pc heading.id =
    (spot_host planned lane.spot heading.id others, kept.0) in
    parts_carried basis planned _ _ _
    (move_carried basis planned walked around counts lane next (heading.id ∷ others) block)
    (then_carried basis planned (expr_emissions next.host pc heading.id 0 value) _
    (expr_carried basis planned next.host pc heading.id 0 value own)
    (result_carried basis planned walked next.host pc heading.id value own))
    (block_carried basis planned tree around rest block kept.1 there.1 _
    (lane_behind walked counts lane next None others))
