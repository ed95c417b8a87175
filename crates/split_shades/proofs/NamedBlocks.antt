-- The entries that the walk over a block names have the program labels of what they are named for.
use Rattle.std.proofs.Common.{◌≡◌, ℕ, inl, inr, List, [], ◌∷◌, ◌++◌, map, refl, sym, subst, arith, suc, ◌+◌}
use Rattle.std.specs.Prelude.{Option, Some, None, ⊤}
use Rattle.std.specs.List.{AllByRecursion}
use Rattle.js_base.specs.declared.ids.HostId.{HostId}
use Rattle.js_base.specs.declared.ids.VarId.{VarId}
use Rattle.js_base.specs.declared.ids.StmtId.{StmtId}
use Rattle.js_base.specs.declared.ids.MethodId.{MethodId}
use Rattle.js_base.specs.declared.ids.SiteId.{SiteId}
use Rattle.js_base.specs.declared.ids.EntryId.{EntryId}
use Rattle.label_lattice.specs.declared.label.Label.{Label}
use Rattle.jif_tree.specs.Trees.{ExprTree, BlockTree, done, set_local, set_field, set_element, branch, loop, call}
use Rattle.jif_tree.specs.Trees.{give_back, MethodTree}
use Rattle.jif_tree.specs.LabelRules.{method_at, params_of, result_of}
use Rattle.host_code.specs.declared.instruction.Op.TheVariants as op
use Rattle.need_labels.specs.Labelled.{pc_of}
use Rattle.msg_cost.specs.declared.spot.Spot.{Spot}
use Rattle.msg_cost.specs.Moves.{PlannedShape, is_same, end_of, next_spot, carried_to, own_statements, called_home}
use Rattle.split_rules.specs.Emissions.{Emission, instruction, entry, stands, lands, Counts, counts_after, counts_with}
use Rattle.split_rules.specs.Expressions.{ElementReading, readings_of, reads_in}
use Rattle.split_rules.specs.Positions.{IsOf, all_statements}
use Rattle.split_rules.specs.Walk.{Walked, Around, Lane, walked_in, lane_on, lane_behind, entry_id, emitted}
use Rattle.split_rules.specs.Walk.{read_emissions}
use Rattle.split_rules.specs.Walk.{under_token, expr_emissions, told_readers, leave_emissions, enter_emissions}
use Rattle.split_rules.specs.Walk.{go_with, call_with, riding_params, move_emissions, argument_emissions}
use Rattle.split_rules.specs.Walk.{kept_emissions, call_emissions, result_emissions}
use Rattle.split_rules.specs.Walk.{block_emissions}
use Rattle.split_rules.proofs.BackedLabels.{all_first, all_second, all_both}
use Rattle.split_rules.proofs.WalkedBlocks.{inside_of, branch_front, branch_own, loop_front, loop_own}
use Rattle.split_rules.proofs.WalkedMoves.{one_of_two}
use Rattle.split_rules.proofs.WalkedStates.{counts_more}
use Rattle.split_shades.specs.Basis.{Basis}
use Rattle.split_shades.specs.Carried.{IsBlockOf, IsPushedFor, NamesWell}
use Rattle.split_shades.proofs.CarriedBlocks.{BlockKept, inside_same}

-- ---- emissions

-- The names of an instruction are well, where this tells which label the entry of a number has.
abbrev pub IsWellNamed : (ℕ → Label → Type 0) → Basis → Emission → Type 0
IsWellNamed has basis (instruction one) = NamesWell has basis one.label one.statement one.op
IsWellNamed has basis (entry named) = ⊤
IsWellNamed has basis (stands host number) = ⊤
IsWellNamed has basis (lands host number) = ⊤

abbrev pub AllNamed : (ℕ → Label → Type 0) → Basis → List Emission → Type 0
AllNamed has basis emissions = AllByRecursion (IsWellNamed has basis) emissions

-- what is told of the entries of a walk, of which the first has the next number
abbrev pub Tells : (ℕ → Label → Type 0) → Counts → Emission → Type 0
Tells has counts (instruction one) = ⊤
Tells has counts (entry named) = has counts.entries named.label
Tells has counts (stands host number) = ⊤
Tells has counts (lands host number) = ⊤

abbrev pub AreTold : (ℕ → Label → Type 0) → Counts → List Emission → Type 0
AreTold has counts [] = ⊤
AreTold has counts (emission ∷ others) = Tells has counts emission × AreTold has (counts_with counts emission) others

abbrev pub AreNamed : (ℕ → Label → Type 0) → Basis → Counts → List Emission → Type 0
AreNamed has basis counts emissions = AreTold has counts emissions → AllNamed has basis emissions

told_first : (has : ℕ → Label → Type 0) (counts : Counts) (xs ys : List Emission) → AreTold has counts (xs ++ ys) →
    AreTold has counts xs
told_first has counts [] ys told = tt
told_first has counts (x ∷ xs) ys told = (told.0, told_first has (counts_with counts x) xs ys told.1)

told_second : (has : ℕ → Label → Type 0) (counts : Counts) (xs ys : List Emission) → AreTold has counts (xs ++ ys) →
    AreTold has (counts_after counts xs) ys
told_second has counts [] ys told = told
told_second has counts (x ∷ xs) ys told = told_second has (counts_with counts x) xs ys told.1

pub then_named : (has : ℕ → Label → Type 0) (basis : Basis) (counts : Counts) (xs ys : List Emission) →
    AreNamed has basis counts xs → AreNamed has basis (counts_after counts xs) ys →
    AreNamed has basis counts (xs ++ ys)
then_named has basis counts xs ys one two told =
    all_both (IsWellNamed has basis) xs ys (one (told_first has counts xs ys told))
    (two (told_second has counts xs ys told))

-- ---- moves

leave_named : (has : ℕ → Label → Type 0) (basis : Basis) (around : Around) (lane : Lane) →
    AllNamed has basis (leave_emissions around lane)
leave_named has basis around lane = by lane.spot.host lane.spot.back lane.return_entry
  where
    by : (host : HostId) (back : Option HostId) (number : ℕ) →
        AllNamed has basis
        (leave_emissions around (record {
          spot = record { host = host; back = back };
          return_entry = number;
          riding = lane.riding;
        }))
    by host None number = tt
    by host (Some back) number = (tt, (tt, tt))

leave_counts : (counts : Counts) (around : Around) (lane : Lane) →
    counts_after counts (leave_emissions around lane) ≡ counts
leave_counts counts around lane = by lane.spot.host lane.spot.back lane.return_entry
  where
    by : (host : HostId) (back : Option HostId) (number : ℕ) →
        counts_after counts
        (leave_emissions around (record {
          spot = record { host = host; back = back };
          return_entry = number;
          riding = lane.riding;
        }))
        ≡ counts
    by host None number = refl
    by host (Some back) number = refl

-- whatever rides where the thread is handed over
go_named : (has : ℕ → Label → Type 0) (basis : Basis) (label : Label) (statement : StmtId) (riders : List VarId)
    (there : EntryId) (on : HostId) → has there.0 label → IsBlockOf basis statement label →
    NamesWell has basis label statement (go_with riders there on)
go_named has basis label statement [] there on told block = (told, block)
go_named has basis label statement (x ∷ riders) there on told block = (told, block)

enter_named : (has : ℕ → Label → Type 0) (basis : Basis) (walked : Walked) (around : Around) (counts : Counts)
    (from : HostId) (riders : List VarId) (host : HostId) (back : Option HostId) (statements : List StmtId) →
    IsBlockOf basis around.owner around.pc →
    AreNamed has basis counts
    (enter_emissions walked around counts from riders (record { host = host; back = back }) statements)
enter_named has basis walked around counts from riders host None statements block =
    let goes = go_named has basis around.pc around.owner riders (entry_id counts.entries) host in
    one_of_two (AreNamed has basis counts) (is_same from host) [] _ (λ told. tt)
    (λ told. (tt, (goes told.0 block, (tt, tt))))
enter_named has basis walked around counts from riders host (Some back) statements block =
    let goes = go_named has basis around.pc around.owner riders (entry_id (counts.entries + 1)) host in
    let next : suc counts.entries ≡ counts.entries + 1 = omega arith in
    let P : ℕ → Type 0 = λ at. has at around.pc in
    one_of_two (AreNamed has basis counts) (is_same from host) [] _ (λ told. tt) (λ told. (
      tt,
      (
        tt,
        (
          one_of_two (NamesWell has basis around.pc around.owner) (is_same from back)
              (op.Push (entry_id counts.entries)) (op.Ask (entry_id counts.entries) back)
              (around.pc, told.0, inl block) (told.0, block),
          (goes (subst P next told.1.0) block, (tt, tt)),
        ),
      ),
    ))

move_named : (has : ℕ → Label → Type 0) (basis : Basis) (walked : Walked) (around : Around) (counts : Counts)
    (lane : Lane) (next : Spot) (statements : List StmtId) → IsBlockOf basis around.owner around.pc →
    AreNamed has basis counts (move_emissions walked around counts lane next statements)
move_named has basis walked around counts lane next statements block =
    let entering = enter_emissions walked around counts (end_of lane.spot) lane.riding next statements in
    let P : Counts → Type 0 = λ it. AreNamed has basis it entering in
    one_of_two (AreNamed has basis counts) (is_same lane.spot.host next.host) [] _ (λ told. tt)
    (then_named has basis counts (leave_emissions around lane) entering (λ told. leave_named has basis around lane)
    (subst P (sym (leave_counts counts around lane))
    (enter_named has basis walked around counts (end_of lane.spot) lane.riding next.host next.back statements block)))

-- ---- statements

reads_named : (has : ℕ → Label → Type 0) (basis : Basis) (host : HostId) (label : Label) (statement : StmtId)
    (readings : List ElementReading) → AllNamed has basis (read_emissions host label statement readings)
reads_named has basis host label statement [] = tt
reads_named has basis host label statement (reading ∷ readings) =
    (tt, reads_named has basis host label statement readings)

expr_named : (has : ℕ → Label → Type 0) (basis : Basis) (host : HostId) (label : Label) (statement : StmtId)
    (first : ℕ) (value : ExprTree) → AllNamed has basis (expr_emissions host label statement first value)
expr_named has basis host label statement first value =
    reads_named has basis host label statement (readings_of first value)

sends_named : (has : ℕ → Label → Type 0) (basis : Basis) (host : HostId) (label : Label) (statement : StmtId)
    (x : VarId) (others : List HostId) →
    AllNamed has basis (map (λ other. emitted host label statement (op.Send x other)) others)
sends_named has basis host label statement x [] = tt
sends_named has basis host label statement x (other ∷ others) =
    (tt, sends_named has basis host label statement x others)

passes_named : (has : ℕ → Label → Type 0) (basis : Basis) (host : HostId) (label : Label) (statement : StmtId)
    (x : VarId) (others : List HostId) →
    AllNamed has basis (map (λ other. emitted host label statement (op.Pass x other)) others)
passes_named has basis host label statement x [] = tt
passes_named has basis host label statement x (other ∷ others) =
    (tt, passes_named has basis host label statement x others)

arguments_named : (has : ℕ → Label → Type 0) (basis : Basis) (walked : Walked) (host home : HostId) (label : Label)
    (statement : StmtId) (params : List VarId) (arguments : List ExprTree) →
    AllNamed has basis (argument_emissions walked host home label statement params arguments)
arguments_named has basis walked host home label statement params [] = tt
arguments_named has basis walked host home label statement [] (argument ∷ others) = tt
arguments_named has basis walked host home label statement (param ∷ params) (argument ∷ others) =
    let reads = expr_emissions host label statement 0 argument in
    all_both (IsWellNamed has basis) _ (argument_emissions walked host home label statement params others)
    (all_both (IsWellNamed has basis) reads _ (expr_named has basis host label statement 0 argument)
    (tt, passes_named has basis host label statement param (told_readers walked.planned host param (Some home))))
    (arguments_named has basis walked host home label statement params others)

keeps_named : (has : ℕ → Label → Type 0) (basis : Basis) (walked : Walked) (host : HostId) (label : Label)
    (statement : StmtId) (result into : Option VarId) (carried : Option HostId) →
    AllNamed has basis (kept_emissions walked host label statement result into carried)
keeps_named has basis walked host label statement (Some result) (Some into) carried =
    (tt, sends_named has basis host label statement into (told_readers walked.planned host into carried))
keeps_named has basis walked host label statement (Some result) None carried = tt
keeps_named has basis walked host label statement None (Some into) carried = tt
keeps_named has basis walked host label statement None None carried = tt

-- whatever rides with a call
calls_named : (has : ℕ → Label → Type 0) (basis : Basis) (label : Label) (statement : StmtId) (riders : List VarId)
    (there : EntryId) (on : HostId) → NamesWell has basis label statement (op.Call there on) →
    NamesWell has basis label statement (call_with riders there on)
calls_named has basis label statement [] there on enters = enters
calls_named has basis label statement (x ∷ riders) there on enters = enters

call_named : (has : ℕ → Label → Type 0) (basis : Basis) (walked : Walked) (counts : Counts) (host : HostId)
    (label : Label) (statement : StmtId) (site : SiteId) (method : MethodId) (arguments : List ExprTree)
    (into : Option VarId) (carried : Option HostId) (left : List StmtId) → IsPushedFor basis statement label →
    NamesWell has basis label statement (op.Call (entry_id (suc method.0)) (called_home walked.planned
    (method_at walked.labelled.program method))) →
    AreNamed has basis counts
    (call_emissions walked counts host label statement site method arguments into carried left)
call_named has basis walked counts host label statement site method arguments into carried left pushed enters told =
    let called = method_at walked.labelled.program method in
    let home = called_home walked.planned called in (
      tt,
      (
        tt,
        all_both (IsWellNamed has basis)
            (argument_emissions walked host home label statement (params_of called) arguments) _
            (arguments_named has basis walked host home label statement (params_of called) arguments) (
              (label, told.0, pushed),
              (
                calls_named has basis label statement
                    (riding_params walked.planned host home (params_of called) arguments) (entry_id (suc method.0)) home
                    enters,
                (
                  tt,
                  keeps_named has basis walked host label statement (result_of called) into carried,
                ),
              ),
            ),
      ),
    )

result_named : (has : ℕ → Label → Type 0) (basis : Basis) (walked : Walked) (host : HostId) (label : Label)
    (statement : StmtId) (value : ExprTree) →
    AllNamed has basis (result_emissions walked host label statement value)
result_named has basis walked host label statement value = by walked.setting.result refl
  where
    by : (result : Option VarId) → walked.setting.result ≡ result →
        AllNamed has basis (result_emissions walked host label statement value)
    by None is = rw is tt
    by (Some result) is = rw is (tt, tt)

-- ---- blocks

-- a move, a statement, and what follows it
parts_named : (has : ℕ → Label → Type 0) (basis : Basis) (counts : Counts) (moved own rest : List Emission) →
    AreNamed has basis counts moved → AreNamed has basis (counts_after counts moved) own →
    AreNamed has basis (counts_after counts (moved ++ own)) rest → AreNamed has basis counts (moved ++ own ++ rest)
parts_named has basis counts moved own rest one two three =
    then_named has basis counts (moved ++ own) rest (then_named has basis counts moved own one two) three

whole_named : (has : ℕ → Label → Type 0) (basis : Basis) (counts : Counts) (moved own rest : List Emission) →
    AreNamed has basis counts moved → AreNamed has basis (counts_after counts moved) own →
    AreNamed has basis (counts_after (counts_after counts moved) own) rest →
    AreNamed has basis counts (moved ++ own ++ rest)
whole_named has basis counts moved own rest one two three =
    let P : Counts → Type 0 = λ it. AreNamed has basis it rest in
    parts_named has basis counts moved own rest one two (subst P (sym (counts_more counts moved own)) three)

pub block_named : (has : ℕ → Label → Type 0) (basis : Basis) (planned : PlannedShape) (tree : MethodTree)
    (around : Around) (block : BlockTree) →
    let walked = walked_in basis.principals basis.labelled planned tree in
    IsBlockOf basis around.owner around.pc → BlockKept basis.labelled walked.setting around.pc block →
    AllByRecursion (IsOf basis.labelled.program) (all_statements block) → (counts : Counts) (lane : Lane) →
    AreNamed has basis counts (block_emissions walked around counts lane block)
block_named has basis planned tree around done block kept there counts lane =
    λ told. all_both (IsWellNamed has basis) (leave_emissions around lane)
    (emitted (end_of lane.spot) around.pc around.owner op.Back ∷ []) (leave_named has basis around lane) (tt, tt)
block_named has basis planned tree around (set_local heading x value rest) block kept there counts lane =
    let walked = walked_in basis.principals basis.labelled planned tree in
    let pc = around.pc in
    let others = own_statements rest in
    let next = next_spot planned lane.spot heading.id others in
    parts_named has basis counts _ _ _
    (move_named has basis walked around counts lane next (heading.id ∷ others) block)
    (λ told. all_both (IsWellNamed has basis) (expr_emissions next.host pc heading.id 0 value) _
    (expr_named has basis next.host pc heading.id 0 value) (
      tt,
      sends_named has basis next.host pc heading.id x
          (told_readers planned next.host x (carried_to planned next others)),
    ))
    (block_named has basis planned tree around rest block kept.1 there.1 _
    (lane_behind walked counts lane next (Some x) others))
block_named has basis planned tree around (set_field heading field value rest) block kept there counts lane =
    let walked = walked_in basis.principals basis.labelled planned tree in
    let pc = around.pc in
    let others = own_statements rest in
    let next = next_spot planned lane.spot heading.id others in
    parts_named has basis counts _ _ _
    (move_named has basis walked around counts lane next (heading.id ∷ others) block)
    (λ told. all_both (IsWellNamed has basis) (expr_emissions next.host pc heading.id 0 value) _
    (expr_named has basis next.host pc heading.id 0 value) (tt, tt))
    (block_named has basis planned tree around rest block kept.1 there.1 _
    (lane_behind walked counts lane next None others))
block_named has basis planned tree around (set_element heading field index value rest) block kept there counts lane =
    let walked = walked_in basis.principals basis.labelled planned tree in
    let pc = around.pc in
    let others = own_statements rest in
    let next = next_spot planned lane.spot heading.id others in
    parts_named has basis counts _ _ _
    (move_named has basis walked around counts lane next (heading.id ∷ others) block)
    (λ told. all_both (IsWellNamed has basis) (expr_emissions next.host pc heading.id 0 index
    ++ expr_emissions next.host pc heading.id (reads_in index) value) _
    (all_both (IsWellNamed has basis) (expr_emissions next.host pc heading.id 0 index) _
    (expr_named has basis next.host pc heading.id 0 index)
    (expr_named has basis next.host pc heading.id (reads_in index) value)) (tt, tt))
    (block_named has basis planned tree around rest block kept.1 there.1 _
    (lane_behind walked counts lane next None others))
block_named has basis planned tree around (branch heading guard first second rest) block kept there counts lane =
    let walked = walked_in basis.principals basis.labelled planned tree in
    let pc = around.pc in
    let others = own_statements rest in
    let next = next_spot planned lane.spot heading.id others in
    let host = next.host in
    let here = counts_after counts (move_emissions walked around counts lane next (heading.id ∷ others)) in
    let inside = inside_of walked around heading guard in
    let within : IsBlockOf basis heading.id inside.pc =
    inr (
      branch heading guard first second done,
      there.0,
      refl,
      inside_same basis tree pc (pc_of basis.labelled heading.id)
          guard kept.0,
    ) in
    let inner = all_second (IsOf basis.labelled.program) (all_statements first) _ there.1 in
    let one : Counts → List Emission = λ it. block_emissions walked inside it (lane_on host) first in
    let two : Counts → List Emission = λ it. block_emissions walked inside it (lane_on host) second in
    let front = branch_front walked around here heading guard next others in
    let one_there = one (counts_after here front) in
    let between = lands host here.branches ∷ [] in
    let two_there = two (counts_after here (front ++ one_there ++ between)) in
    let whole = branch_own front here host one two in
    whole_named has basis counts _ whole _
    (move_named has basis walked around counts lane next (heading.id ∷ others) block)
    (then_named has basis here (front ++ one_there ++ between ++ two_there) (stands host here.entries ∷ [])
    (then_named has basis here (front ++ one_there ++ between) two_there
    (then_named has basis here (front ++ one_there) between
    (then_named has basis here front one_there (λ told. (
      tt,
      (
        (inside.pc, told.0, inl within),
        all_both (IsWellNamed has basis) (expr_emissions host pc heading.id 0 guard) _
            (expr_named has basis host pc heading.id 0 guard) (tt, tt),
      ),
    )) (block_named has basis planned tree inside first within kept.1
    (all_first (IsOf basis.labelled.program) (all_statements first) _ there.1) _ (lane_on host))) (λ told. (tt, tt)))
    (block_named has basis planned tree inside second within kept.2
    (all_first (IsOf basis.labelled.program) (all_statements second) _ inner) _ (lane_on host))) (λ told. (tt, tt)))
    (block_named has basis planned tree around rest block kept.3
    (all_second (IsOf basis.labelled.program) (all_statements second) _ inner) (counts_after here whole)
    (lane_behind walked counts lane next None others))
block_named has basis planned tree around (loop heading guard body rest) block kept there counts lane =
    let walked = walked_in basis.principals basis.labelled planned tree in
    let others = own_statements rest in
    let next = next_spot planned lane.spot heading.id others in
    let host = next.host in
    let here = counts_after counts (move_emissions walked around counts lane next (heading.id ∷ others)) in
    let inside = inside_of walked around heading guard in
    let within : IsBlockOf basis heading.id inside.pc =
    inr (loop heading guard body done, there.0, refl, sym kept.0) in
    let one : Counts → List Emission = λ it. block_emissions walked inside it (lane_on host) body in
    let front = loop_front walked around here heading guard next others in
    let one_there = one (counts_after here front) in
    let whole = loop_own front here host one in
    whole_named has basis counts _ whole _
    (move_named has basis walked around counts lane next (heading.id ∷ others) block)
    (then_named has basis here (front ++ one_there) (lands host here.branches ∷ [])
    (then_named has basis here front one_there (λ told. (
      tt,
      (
        tt,
        all_both (IsWellNamed has basis) (expr_emissions host inside.pc heading.id 0 guard) _
            (expr_named has basis host inside.pc heading.id 0 guard) (tt, ((inside.pc, told.0, inl within), tt)),
      ),
    )) (block_named has basis planned tree inside body within kept.1
    (all_first (IsOf basis.labelled.program) (all_statements body) _ there.1) _ (lane_on host))) (λ told. (tt, tt)))
    (block_named has basis planned tree around rest block kept.2
    (all_second (IsOf basis.labelled.program) (all_statements body) _ there.1) (counts_after here whole)
    (lane_behind walked counts lane next None others))
block_named has basis planned tree around (call heading site method arguments into rest) block kept there counts lane =
    let walked = walked_in basis.principals basis.labelled planned tree in
    let others = own_statements rest in
    let next = next_spot planned lane.spot heading.id others in
    let pushed : IsPushedFor basis heading.id around.pc =
    inr (call heading site method arguments into done, there.0, refl, sym kept.0) in
    parts_named has basis counts _ _ _
    (move_named has basis walked around counts lane next (heading.id ∷ others) block)
    (call_named has basis walked
    (counts_after counts (move_emissions walked around counts lane next (heading.id ∷ others))) next.host around.pc
    heading.id site method arguments into (carried_to planned next others) (under_token planned next others) pushed
    (call heading site method arguments into done, there.0, refl, refl))
    (block_named has basis planned tree around rest block kept.1 there.1 _
    (lane_behind walked counts lane next into others))
block_named has basis planned tree around (give_back heading value rest) block kept there counts lane =
    let walked = walked_in basis.principals basis.labelled planned tree in
    let pc = around.pc in
    let others = own_statements rest in
    let next = next_spot planned lane.spot heading.id others in
    parts_named has basis counts _ _ _
    (move_named has basis walked around counts lane next (heading.id ∷ others) block)
    (λ told. all_both (IsWellNamed has basis) (expr_emissions next.host pc heading.id 0 value) _
    (expr_named has basis next.host pc heading.id 0 value)
    (result_named has basis walked next.host pc heading.id value))
    (block_named has basis planned tree around rest block kept.1 there.1 _
    (lane_behind walked counts lane next None others))
