-- A walk asks and tells other hosts what the statements of its blocks do.
use Rattle.std.proofs.Common.{◌≡◌, ◌∙◌, ℕ, suc, ◌+◌, Bool, true, false, cond, List, [], ◌∷◌, ◌++◌, map, filter}
use Rattle.std.proofs.Common.{length, refl, ap, sym, subst, arith, ◌&&◌, not, nat_eq, append_assoc}
use Rattle.std.specs.Prelude.{Option, Some, None}
use Rattle.std.specs.List.{AllByRecursion, range_with_len}
use Rattle.js_base.specs.declared.ids.HostId.{HostId}
use Rattle.js_base.specs.declared.ids.VarId.{VarId}
use Rattle.js_base.specs.declared.ids.MethodId.{MethodId}
use Rattle.js_base.specs.declared.ids.SiteId.{SiteId}
use Rattle.js_base.specs.declared.ids.StmtId.{StmtId}
use Rattle.principals.specs.ActsFor.{Declared}
use Rattle.label_lattice.specs.declared.label.Label.{Label}
use Rattle.jif_tree.specs.Trees.{ExprTree, number, local, scalar, element, inverted, negated, binary, declassified}
use Rattle.jif_tree.specs.Trees.{endorsed, Heading, BlockTree, done, set_local, set_field, set_element, branch, loop}
use Rattle.jif_tree.specs.Trees.{call, give_back, MethodTree}
use Rattle.jif_tree.specs.LabelRules.{method_at, params_of, result_of, setting_of}
use Rattle.host_code.specs.declared.code_expr.Node.{Node}
use Rattle.host_code.specs.declared.instruction.Op.TheVariants as op
use Rattle.need_labels.specs.Labelled.{Labelled}
use Rattle.need_labels.specs.Plan.{statement_host}
use Rattle.msg_cost.specs.declared.spot.Spot.{Spot}
use Rattle.msg_cost.specs.Moves.{PlannedShape, on, next_spot, carried_to, is_to, own_statements, home_of, called_home}
use Rattle.msg_cost.specs.Terms.{reads_on, is_other_reader, is_told}
use Rattle.split_rules.specs.Emissions.{Emission, stands, lands, NamedEntry, Counts, counts_after}
use Rattle.split_rules.specs.Expressions.{ElementReading, reads_in, nodes_of, readings_of, first_element, released_by}
use Rattle.split_rules.specs.SplitCode.{entries_in}
use Rattle.split_rules.specs.Walk.{Walked, Around, Lane, lane_on, lane_at, entry_id, need_of, under_token, emitted}
use Rattle.split_rules.specs.Walk.{expr_emissions, read_emissions, told_readers, send_emissions, pass_emissions}
use Rattle.split_rules.specs.Walk.{move_emissions, argument_emissions, riding_params, kept_emissions, call_emissions}
use Rattle.split_rules.specs.Walk.{result_emissions, block_emissions, walked_in, method_emissions, methods_emissions}
use Rattle.split_rules.specs.Walk.{releasing}
use Rattle.split_rules.proofs.BackedLabels.{all_both}
use Rattle.split_rules.proofs.Places.{entries_append}
use Rattle.split_rules.proofs.WalkedStates.{counts_more}
use Rattle.split_rules.proofs.WalkedBlocks.{inside_of, branch_front, branch_own, loop_front, loop_own}
use Rattle.split_rules.proofs.ToldEmissions.{Sees, AffectsVariable, ReadsWell, CallsWell, calls_well, AreTold, told_on}
use Rattle.split_rules.proofs.ToldEmissions.{IsQuiet, quiet_then, quiet_on, IsCounted, counted_after, counted_two}
use Rattle.split_rules.proofs.ToldEmissions.{entry_of, IsBegun, begun_more}
use Rattle.split_rules.proofs.ToldStatements.{ExprReadsWell, ReadersSee, GivesWell, KeepsWell, AnswersWell}
use Rattle.split_rules.proofs.ToldStatements.{ArgumentsWell, EntersWell, BlockTellsWell}
use Rattle.split_rules.proofs.ToldMoves.{SpotSees, AllSee, next_well, lane_sees, move_told, end_told}

-- ---- reads

abbrev AreReadWell : Labelled → PlannedShape → HostId → Label → List ElementReading → Type 0
AreReadWell labelled planned host pc readings =
    AllByRecursion (λ reading. ReadsWell labelled planned host pc reading.field) readings

readings_well : (labelled : Labelled) (planned : PlannedShape) (host : HostId) (pc : Label) (first : ℕ)
    (expr : ExprTree) → ExprReadsWell labelled planned host pc expr →
    AreReadWell labelled planned host pc (readings_of first expr)
readings_well labelled planned host pc first (number value) well = tt
readings_well labelled planned host pc first (local x) well = tt
readings_well labelled planned host pc first (scalar field) well = (well, tt)
readings_well labelled planned host pc first (element field index) well =
    all_both (λ (reading : ElementReading). ReadsWell labelled planned host pc reading.field) (readings_of first index)
    _
    (readings_well labelled planned host pc first index well.0) (well.1, tt)
readings_well labelled planned host pc first (inverted operand) well =
    readings_well labelled planned host pc first operand well
readings_well labelled planned host pc first (negated operand) well =
    readings_well labelled planned host pc first operand well
readings_well labelled planned host pc first (binary operator left right) well =
    all_both (λ (reading : ElementReading). ReadsWell labelled planned host pc reading.field) (readings_of first left) _
    (readings_well labelled planned host pc first left well.0)
    (readings_well labelled planned host pc (first + reads_in left) right well.1)
readings_well labelled planned host pc first (declassified operand label) well =
    readings_well labelled planned host pc first operand well
readings_well labelled planned host pc first (endorsed operand label) well =
    readings_well labelled planned host pc first operand well

reads_quiet : (labelled : Labelled) (planned : PlannedShape) (named : List NamedEntry) (host : HostId) (pc : Label)
    (statement : StmtId) (readings : List ElementReading) → AreReadWell labelled planned host pc readings →
    IsQuiet labelled planned named (read_emissions host pc statement readings)
reads_quiet labelled planned named host pc statement [] well = record { told = tt; none = refl }
reads_quiet labelled planned named host pc statement (reading ∷ readings) well =
    let others = reads_quiet labelled planned named host pc statement readings well.1 in
    record { told = (well.0, others.told); none = others.none }

expr_quiet : (labelled : Labelled) (planned : PlannedShape) (named : List NamedEntry) (host : HostId) (pc : Label)
    (statement : StmtId) (first : ℕ) (expr : ExprTree) → ExprReadsWell labelled planned host pc expr →
    IsQuiet labelled planned named (expr_emissions host pc statement first expr)
expr_quiet labelled planned named host pc statement first expr well =
    reads_quiet labelled planned named host pc statement (readings_of first expr)
    (readings_well labelled planned host pc first expr well)

-- ---- variables for those who read them

and_first : (b c : Bool) → (b && c) ≡ true → b ≡ true
and_first true c is = refl
and_first false c is = absurd (cc)

and_second : (b c : Bool) → (b && c) ≡ true → c ≡ true
and_second true c is = is
and_second false c is = absurd (cc)

abbrev pub AreReaders : PlannedShape → Label → List HostId → Type 0
AreReaders planned pc hosts = AllByRecursion (λ to. Sees planned to pc) hosts

chosen_see : (planned : PlannedShape) (pc : Label) (test : ℕ → Bool) (numbers : List ℕ) →
    ((to : ℕ) → test to ≡ true → Sees planned (record { 0 = to }) pc) →
    AreReaders planned pc (map (λ other. record { 0 = other }) (filter test numbers))
chosen_see planned pc test [] see = tt
chosen_see planned pc test (one ∷ numbers) see =
    by (test one) (see one) (chosen_see planned pc test numbers see)
  where
    by : (b : Bool) → (b ≡ true → Sees planned (record { 0 = one }) pc) →
        AreReaders planned pc (map (λ other. record { 0 = other }) (filter test numbers)) →
        AreReaders planned pc (map (λ other. record { 0 = other })
        (cond b (one ∷ filter test numbers) (filter test numbers)))
    by true sees others = (sees refl, others)
    by false sees others = others

pub told_see : (planned : PlannedShape) (pc : Label) (host : HostId) (x : VarId) (carried : Option HostId) →
    ReadersSee planned pc x → AreReaders planned pc (told_readers planned host x carried)
told_see planned pc host x carried see =
    chosen_see planned pc (is_told planned host x carried)
    (range_with_len 0 (length planned.hosts.hosts))
    (λ to passes. see (record { 0 = to }) (and_second (not (nat_eq to host.0)) (reads_on planned x to)
    (and_first (is_other_reader planned host x to) (not (is_to carried to)) passes)))

sends_quiet : (labelled : Labelled) (planned : PlannedShape) (named : List NamedEntry) (host : HostId) (pc : Label)
    (statement : StmtId) (x : VarId) → AffectsVariable labelled planned host x → (others : List HostId) →
    AreReaders planned pc others →
    IsQuiet labelled planned named (map (λ other. emitted host pc statement (op.Send x other)) others)
sends_quiet labelled planned named host pc statement x affects [] see = record { told = tt; none = refl }
sends_quiet labelled planned named host pc statement x affects (other ∷ others) see =
    let rest = sends_quiet labelled planned named host pc statement x affects others see.1 in
    record { told = ((affects, see.0), rest.told); none = rest.none }

passes_quiet : (labelled : Labelled) (planned : PlannedShape) (named : List NamedEntry) (host : HostId) (pc : Label)
    (statement : StmtId) (x : VarId) → AffectsVariable labelled planned host x → (others : List HostId) →
    AreReaders planned pc others →
    IsQuiet labelled planned named (map (λ other. emitted host pc statement (op.Pass x other)) others)
passes_quiet labelled planned named host pc statement x affects [] see = record { told = tt; none = refl }
passes_quiet labelled planned named host pc statement x affects (other ∷ others) see =
    let rest = passes_quiet labelled planned named host pc statement x affects others see.1 in
    record { told = ((affects, see.0), rest.told); none = rest.none }

given_quiet : (labelled : Labelled) (planned : PlannedShape) (named : List NamedEntry) (host : HostId) (pc : Label)
    (statement : StmtId) (x : VarId) (carried : Option HostId) → GivesWell labelled planned host pc x →
    IsQuiet labelled planned named (send_emissions planned host pc statement x carried)
given_quiet labelled planned named host pc statement x carried well =
    sends_quiet labelled planned named host pc statement x well.0 (told_readers planned host x carried)
    (told_see planned pc host x carried well.1)

passed_quiet : (labelled : Labelled) (planned : PlannedShape) (named : List NamedEntry) (host : HostId) (pc : Label)
    (statement : StmtId) (x : VarId) (carried : Option HostId) → GivesWell labelled planned host pc x →
    IsQuiet labelled planned named (pass_emissions planned host pc statement x carried)
passed_quiet labelled planned named host pc statement x carried well =
    passes_quiet labelled planned named host pc statement x well.0 (told_readers planned host x carried)
    (told_see planned pc host x carried well.1)

-- an instruction that asks nothing, before others
silent_first : (labelled : Labelled) (planned : PlannedShape) (named : List NamedEntry) (host : HostId) (pc : Label)
    (statement : StmtId) (x : VarId) (value : List Node) (released : List (List Node)) (more : List Emission) →
    IsQuiet labelled planned named more →
    IsQuiet labelled planned named (releasing host pc statement (op.Let x value) released ∷ more)
silent_first labelled planned named host pc statement x value released more quiet =
    record { told = (tt, quiet.told); none = quiet.none }

-- ---- calls

arguments_quiet : (walked : Walked) (named : List NamedEntry) (host home : HostId) (pc : Label) (statement : StmtId)
    (params : List VarId) (arguments : List ExprTree) →
    ArgumentsWell walked.labelled walked.planned host pc params arguments →
    IsQuiet walked.labelled walked.planned named (argument_emissions walked host home pc statement params arguments)
arguments_quiet walked named host home pc statement params [] well = record { told = tt; none = refl }
arguments_quiet walked named host home pc statement [] (argument ∷ others) well = record { told = tt; none = refl }
arguments_quiet walked named host home pc statement (param ∷ params) (argument ∷ others) well =
    let labelled = walked.labelled in
    let planned = walked.planned in
    let reads = expr_quiet labelled planned named host pc statement 0 argument well.0 in
    let passes = passed_quiet labelled planned named host pc statement param (Some home) well.1 in
    quiet_on labelled planned named _ _
    (quiet_on labelled planned named (expr_emissions host pc statement 0 argument) _ reads
    (record { told = (tt, passes.told); none = passes.none }))
    (arguments_quiet walked named host home pc statement params others well.2)

kept_quiet : (walked : Walked) (named : List NamedEntry) (host : HostId) (pc : Label) (statement : StmtId)
    (result into : Option VarId) (carried : Option HostId) → KeepsWell walked.labelled walked.planned host pc result
    into →
    IsQuiet walked.labelled walked.planned named (kept_emissions walked host pc statement result into carried)
kept_quiet walked named host pc statement (Some result) (Some into) carried well =
    silent_first walked.labelled walked.planned named host pc statement into _ [] _
    (given_quiet walked.labelled walked.planned named host pc statement into carried well)
kept_quiet walked named host pc statement (Some result) None carried well = record { told = tt; none = refl }
kept_quiet walked named host pc statement None (Some into) carried well = record { told = tt; none = refl }
kept_quiet walked named host pc statement None None carried well = record { told = tt; none = refl }

called : (walked : Walked) (named : List NamedEntry) (host : HostId) (pc : Label) (method : MethodId) →
    IsBegun walked.labelled walked.planned named → EntersWell walked.labelled walked.planned host pc method →
    CallsWell walked.planned named host pc (entry_id (suc method.0))
    (called_home walked.planned (method_at walked.labelled.program method))
called walked named host pc method begun well =
    let planned = walked.planned in
    let home : HostId → Type 0 = λ it. CallsWell planned named host pc (entry_id (suc method.0)) it in
    subst home (sym (ap (called_home planned) well.is)) (record {
      no_halt = omega arith;
      one = entry_of planned well.tree;
      is = begun.methods method.0 well.tree well.is;
      on_host = refl;
      sender = well.sender;
      trusted = well.trusted;
      receiver = well.receiver;
    })

call_told : (walked : Walked) (named : List NamedEntry) (counts : Counts) (host : HostId) (pc : Label)
    (statement : StmtId) (site : SiteId) (method : MethodId) (arguments : List ExprTree) (into : Option VarId)
    (carried : Option HostId) (left : List StmtId) → IsBegun walked.labelled walked.planned named →
    ArgumentsWell walked.labelled walked.planned host pc
    (params_of (method_at walked.labelled.program method)) arguments →
    EntersWell walked.labelled walked.planned host pc method →
    KeepsWell walked.labelled walked.planned host pc (result_of (method_at walked.labelled.program method)) into →
    AreTold walked.labelled walked.planned named
    (call_emissions walked counts host pc statement site method arguments into carried left)
call_told walked named counts host pc statement site method arguments into carried left begun well enters keeps =
    let labelled = walked.labelled in
    let planned = walked.planned in
    let there = method_at labelled.program method in
    let home = called_home planned there in
    let more : NamedEntry = record { host = host; label = pc; need = need_of planned (statement ∷ left) } in
    let later = named ++ more ∷ [] in (
      tt,
      quiet_then labelled planned later (argument_emissions walked host home pc statement (params_of there) arguments) _
          (arguments_quiet walked later host home pc statement (params_of there) arguments well) (
            tt,
            (
              calls_well labelled planned later host pc (entry_id (suc method.0)) home
                  (riding_params planned host home (params_of there) arguments)
                  (called walked later host pc method (begun_more labelled planned named (more ∷ []) begun) enters),
              (kept_quiet walked later host pc statement (result_of there) into carried keeps).told,
            ),
          ),
    )

answers_quiet : (walked : Walked) (named : List NamedEntry) (host : HostId) (pc : Label) (statement : StmtId)
    (value : ExprTree) → AnswersWell walked.labelled walked.planned host walked.setting.result →
    IsQuiet walked.labelled walked.planned named (result_emissions walked host pc statement value)
answers_quiet walked named host pc statement value well = by walked.setting.result refl well
  where
    by : (result : Option VarId) → walked.setting.result ≡ result →
        AnswersWell walked.labelled walked.planned host result →
        IsQuiet walked.labelled walked.planned named (result_emissions walked host pc statement value)
    by None is affects = rw is (record { told = tt; none = refl })
    by (Some result) is affects = rw is (record { told = (affects, tt); none = refl })

-- ---- statements of a block

-- the hosts of the statements of a block may see its program label
pub statements_see : (labelled : Labelled) (planned : PlannedShape) (setting : _) (pc : Label) (block : BlockTree) →
    BlockTellsWell labelled planned setting pc block → AllSee planned pc (own_statements block)
statements_see labelled planned setting pc done well = tt
statements_see labelled planned setting pc (set_local heading x value rest) well =
    (well.0, statements_see labelled planned setting pc rest well.3)
statements_see labelled planned setting pc (set_field heading field value rest) well =
    (well.0, statements_see labelled planned setting pc rest well.3)
statements_see labelled planned setting pc (set_element heading field index value rest) well =
    (well.0, statements_see labelled planned setting pc rest well.4)
statements_see labelled planned setting pc (branch heading guard first second rest) well =
    (well.0, statements_see labelled planned setting pc rest well.5)
statements_see labelled planned setting pc (loop heading guard inner rest) well =
    (well.0, statements_see labelled planned setting pc rest well.4)
statements_see labelled planned setting pc (call heading site method arguments into rest) well =
    (well.0, statements_see labelled planned setting pc rest well.4)
statements_see labelled planned setting pc (give_back heading value rest) well =
    (well.0, statements_see labelled planned setting pc rest well.3)

grouped : (named : List NamedEntry) (one two : List Emission) →
    (named ++ entries_in one) ++ entries_in two ≡ named ++ entries_in (one ++ two)
grouped named one two =
    append_assoc named (entries_in one) (entries_in two) ∙ ap (λ list. named ++ list) (sym (entries_append one two))

-- A statement that is moved to, and what follows it.
statement_then : (walked : Walked) (around : Around) (counts : Counts) (lane : Lane) (statement : StmtId)
    (others : List StmtId) (named : List NamedEntry) → IsCounted counts named →
    IsBegun walked.labelled walked.planned named → SpotSees walked.planned around.pc lane.spot →
    AllSee walked.planned around.pc (statement ∷ others) → (own rest : List Emission) →
    let next = next_spot walked.planned lane.spot statement others in
    let moved = move_emissions walked around counts lane next (statement ∷ others) in
    let here = counts_after counts moved in
    let there = named ++ entries_in moved in
    (next.host ≡ statement_host walked.planned.plan statement → IsCounted here there →
    IsBegun walked.labelled walked.planned there → AreTold walked.labelled walked.planned there own) →
    (SpotSees walked.planned around.pc (lane_at counts lane next).spot →
    IsBegun walked.labelled walked.planned (there ++ entries_in own) →
    IsCounted (counts_after counts (moved ++ own)) (there ++ entries_in own) →
    IsCounted (counts_after here own) (there ++ entries_in own) →
    AreTold walked.labelled walked.planned (there ++ entries_in own) rest) →
    AreTold walked.labelled walked.planned named (moved ++ own ++ rest)
statement_then walked around counts lane statement others named counted begun sees see own rest owns follows =
    let labelled = walked.labelled in
    let planned = walked.planned in
    let next = next_spot planned lane.spot statement others in
    let moved = move_emissions walked around counts lane next (statement ∷ others) in
    let here = counts_after counts moved in
    let there = named ++ entries_in moved in
    let moves = next_well planned around.pc lane.spot statement others sees see in
    let begun_there = begun_more labelled planned named (entries_in moved) begun in
    let counted_there = counted_after counts named moved counted in
    let P : List NamedEntry → Type 0 = λ list. AreTold labelled planned list rest in
    let first = told_on labelled planned named moved own
    (move_told walked around counts lane next (statement ∷ others) named counted begun sees moves.sees)
    (owns moves.host_is counted_there begun_there) in
    told_on labelled planned named (moved ++ own) rest first
    (subst P (grouped named moved own)
    (follows (lane_sees planned around.pc counts lane next sees moves.sees)
    (begun_more labelled planned there (entries_in own) begun_there) (counted_two counts named moved own counted)
    (counted_after here there own counted_there)))

-- ---- branches and loops

-- the blocks in a branch or a loop
abbrev BeginsTold : Labelled → PlannedShape → (Counts → List Emission) → Type 0
BeginsTold labelled planned block = (named : List NamedEntry) (counts : Counts) → IsCounted counts named →
    IsBegun labelled planned named → AreTold labelled planned named (block counts)

branch_told : (walked : Walked) (around : Around) (heading : Heading) (guard : ExprTree) (next : Spot)
    (others : List StmtId) (first second : Counts → List Emission) (named : List NamedEntry) (here : Counts) →
    IsCounted here named → IsBegun walked.labelled walked.planned named →
    ExprReadsWell walked.labelled walked.planned next.host around.pc guard →
    BeginsTold walked.labelled walked.planned first → BeginsTold walked.labelled walked.planned second →
    AreTold walked.labelled walked.planned named
    (branch_own (branch_front walked around here heading guard next others) here next.host first second)
branch_told walked around heading guard next others first second named here counted begun reads first_told second_told =
    let labelled = walked.labelled in
    let planned = walked.planned in
    let host = next.host in
    let front = branch_front walked around here heading guard next others in
    let one = first (counts_after here front) in
    let between = lands host here.branches ∷ [] in
    let two = second (counts_after here (front ++ one ++ between)) in
    let last = stands host here.entries ∷ [] in
    let at_one = named ++ entries_in front in
    let at_between = at_one ++ entries_in one in
    let at_two = at_between ++ entries_in between in
    let entry_there : NamedEntry = record {
      host = host;
      label = (inside_of walked around heading guard).pc;
      need = need_of planned (under_token planned next others);
    } in
    let P : List Emission → List NamedEntry → Type 0 = λ xs list. AreTold labelled planned list xs in
    let begins : AreTold labelled planned named front = (
      tt,
      quiet_then labelled planned (named ++ entry_there ∷ []) (expr_emissions host around.pc heading.id 0 guard) _
          (expr_quiet labelled planned (named ++ entry_there ∷ []) host around.pc heading.id 0 guard reads) (tt, tt),
    ) in
    let counted_one = counted_after here named front counted in
    let begun_one = begun_more labelled planned named (entries_in front) begun in
    let begun_between = begun_more labelled planned at_one (entries_in one) begun_one in
    let counted_between : IsCounted (counts_after here (front ++ one)) at_between =
    counted_two here named front one counted in
    let counted_second : IsCounted (counts_after here (front ++ one ++ between)) at_two =
    ap (λ it. it.entries) (counts_more here (front ++ one) between)
    ∙ counted_after (counts_after here (front ++ one)) at_between between counted_between in
    let so_one : AreTold labelled planned named (front ++ one) =
    told_on labelled planned named front one begins
    (first_told at_one (counts_after here front) counted_one begun_one) in
    let so_between : AreTold labelled planned named (front ++ one ++ between) =
    told_on labelled planned named (front ++ one) between so_one tt in
    let is_two : at_two ≡ named ++ entries_in (front ++ one ++ between) =
    ap (λ list. list ++ entries_in between) (grouped named front one) ∙ grouped named (front ++ one) between in
    let so_two : AreTold labelled planned named (front ++ one ++ between ++ two) =
    told_on labelled planned named (front ++ one ++ between) two so_between
    (subst (P two) is_two (second_told at_two (counts_after here (front ++ one ++ between)) counted_second
    (begun_more labelled planned at_between (entries_in between) begun_between))) in
    told_on labelled planned named (front ++ one ++ between ++ two) last so_two tt

loop_told : (walked : Walked) (around : Around) (heading : Heading) (guard : ExprTree) (next : Spot)
    (others : List StmtId) (body : Counts → List Emission) (named : List NamedEntry) (here : Counts) →
    IsCounted here named → IsBegun walked.labelled walked.planned named →
    ExprReadsWell walked.labelled walked.planned next.host (inside_of walked around heading guard).pc guard →
    BeginsTold walked.labelled walked.planned body →
    AreTold walked.labelled walked.planned named
    (loop_own (loop_front walked around here heading guard next others) here next.host body)
loop_told walked around heading guard next others body named here counted begun reads body_told =
    let labelled = walked.labelled in
    let planned = walked.planned in
    let host = next.host in
    let pc = (inside_of walked around heading guard).pc in
    let front = loop_front walked around here heading guard next others in
    let inner = body (counts_after here front) in
    let last = lands host here.branches ∷ [] in
    let entry_there : NamedEntry = record {
      host = host;
      label = pc;
      need = need_of planned (heading.id ∷ under_token planned next others);
    } in
    let begins : AreTold labelled planned named front =
    quiet_then labelled planned (named ++ entry_there ∷ []) (expr_emissions host pc heading.id 0 guard) _
    (expr_quiet labelled planned (named ++ entry_there ∷ []) host pc heading.id 0 guard reads) (tt, (tt, tt)) in
    told_on labelled planned named (front ++ inner) last
    (told_on labelled planned named front inner begins
    (body_told (named ++ entries_in front) (counts_after here front) (counted_after here named front counted)
    (begun_more labelled planned named (entries_in front) begun))) tt

-- ---- blocks

block_told : (walked : Walked) (around : Around) (block : BlockTree) →
    BlockTellsWell walked.labelled walked.planned walked.setting around.pc block → (counts : Counts) (lane : Lane)
    (named : List NamedEntry) → IsCounted counts named → IsBegun walked.labelled walked.planned named →
    SpotSees walked.planned around.pc lane.spot →
    AreTold walked.labelled walked.planned named (block_emissions walked around counts lane block)
block_told walked around done well counts lane named counted begun sees =
    end_told walked.labelled walked.planned around lane named
block_told walked around (set_local heading x value rest) well counts lane named counted begun sees =
    let labelled = walked.labelled in
    let planned = walked.planned in
    let pc = around.pc in
    let next = next_spot planned lane.spot heading.id (own_statements rest) in
    let own : HostId → List Emission = λ host. expr_emissions host pc heading.id 0 value
    ++ releasing host pc heading.id (op.Let x (nodes_of 0 value))
    (released_by 0 value) ∷ send_emissions planned host pc heading.id x
    (carried_to planned next (own_statements rest)) in
    statement_then walked around counts lane heading.id (own_statements rest) named counted begun sees
    (statements_see labelled planned walked.setting pc (set_local heading x value rest) well) (own next.host) _
    (λ host_is counted_there begun_there.
    let there = named ++ entries_in
    (move_emissions walked around counts lane next (heading.id ∷ own_statements rest)) in
    let host = statement_host planned.plan heading.id in
    let P : HostId → Type 0 = λ one. AreTold labelled planned there (own one) in
    subst P (sym host_is)
    (quiet_then labelled planned there (expr_emissions host pc heading.id 0 value) _
    (expr_quiet labelled planned there host pc heading.id 0 value well.1)
    (tt, (given_quiet labelled planned there host pc heading.id x _ well.2).told)))
    (λ sees_then begun_then counted_then counted_apart.
    block_told walked around rest well.3 _ _ _ counted_then begun_then sees_then)
block_told walked around (set_field heading field value rest) well counts lane named counted begun sees =
    let labelled = walked.labelled in
    let planned = walked.planned in
    let pc = around.pc in
    let own : HostId → List Emission = λ host. expr_emissions host pc heading.id 0 value
    ++ releasing host pc heading.id (op.Put field first_element (nodes_of 0 value)) (released_by 0 value) ∷ [] in
    let next = next_spot planned lane.spot heading.id (own_statements rest) in
    statement_then walked around counts lane heading.id (own_statements rest) named counted begun sees
    (statements_see labelled planned walked.setting pc (set_field heading field value rest) well) (own next.host) _
    (λ host_is counted_there begun_there.
    let there = named ++ entries_in
    (move_emissions walked around counts lane next (heading.id ∷ own_statements rest)) in
    let host = statement_host planned.plan heading.id in
    let P : HostId → Type 0 = λ one. AreTold labelled planned there (own one) in
    subst P (sym host_is)
    (quiet_then labelled planned there (expr_emissions host pc heading.id 0 value) _
    (expr_quiet labelled planned there host pc heading.id 0 value well.1) (well.2, tt)))
    (λ sees_then begun_then counted_then counted_apart.
    block_told walked around rest well.3 _ _ _ counted_then begun_then sees_then)
block_told walked around (set_element heading field index value rest) well counts lane named counted begun sees =
    let labelled = walked.labelled in
    let planned = walked.planned in
    let pc = around.pc in
    let own : HostId → List Emission = λ host. expr_emissions host pc heading.id 0 index
    ++ expr_emissions host pc heading.id (reads_in index) value
    ++ releasing host pc heading.id (op.Put field (nodes_of 0 index) (nodes_of (reads_in index) value))
    (released_by 0 index ++ released_by (reads_in index) value) ∷ [] in
    let next = next_spot planned lane.spot heading.id (own_statements rest) in
    statement_then walked around counts lane heading.id (own_statements rest) named counted begun sees
    (statements_see labelled planned walked.setting pc (set_element heading field index value rest) well)
    (own next.host) _
    (λ host_is counted_there begun_there.
    let there = named ++ entries_in
    (move_emissions walked around counts lane next (heading.id ∷ own_statements rest)) in
    let host = statement_host planned.plan heading.id in
    let one = expr_emissions host pc heading.id 0 index in
    let two = expr_emissions host pc heading.id (reads_in index) value in
    let P : HostId → Type 0 = λ one. AreTold labelled planned there (own one) in
    subst P (sym host_is)
    (quiet_then labelled planned there (one ++ two) _
    (quiet_on labelled planned there one two
    (expr_quiet labelled planned there host pc heading.id 0 index well.1)
    (expr_quiet labelled planned there host pc heading.id (reads_in index) value well.2)) (well.3, tt)))
    (λ sees_then begun_then counted_then counted_apart.
    block_told walked around rest well.4 _ _ _ counted_then begun_then sees_then)
block_told walked around (branch heading guard first second rest) well counts lane named counted begun sees =
    let labelled = walked.labelled in
    let planned = walked.planned in
    let pc = around.pc in
    let others = own_statements rest in
    let next = next_spot planned lane.spot heading.id others in
    let inside = inside_of walked around heading guard in
    let moved = move_emissions walked around counts lane next (heading.id ∷ others) in
    let here = counts_after counts moved in
    let one : Counts → List Emission = λ it. block_emissions walked inside it (lane_on next.host) first in
    let two : Counts → List Emission = λ it. block_emissions walked inside it (lane_on next.host) second in
    let own = branch_own (branch_front walked around here heading guard next others) here next.host one two in
    statement_then walked around counts lane heading.id others named counted begun sees
    (statements_see labelled planned walked.setting pc (branch heading guard first second rest) well) own _
    (λ host_is counted_there begun_there.
    let P : HostId → Type 0 = λ host. ExprReadsWell labelled planned host pc guard in
    let Q : HostId → Type 0 = λ host. Sees planned host inside.pc in
    let inner : SpotSees planned inside.pc (on next.host) = (subst Q (sym host_is) well.2, tt) in
    branch_told walked around heading guard next others one two (named ++ entries_in moved) here counted_there
    begun_there (subst P (sym host_is) well.1)
    (λ list it is_counted is_begun.
    block_told walked inside first well.3 it (lane_on next.host) list is_counted is_begun inner)
    (λ list it is_counted is_begun.
    block_told walked inside second well.4 it (lane_on next.host) list is_counted is_begun inner))
    (λ sees_then begun_then counted_then counted_apart.
    block_told walked around rest well.5 _ _ _ counted_apart begun_then sees_then)
block_told walked around (loop heading guard inner rest) well counts lane named counted begun sees =
    let labelled = walked.labelled in
    let planned = walked.planned in
    let pc = around.pc in
    let others = own_statements rest in
    let next = next_spot planned lane.spot heading.id others in
    let inside = inside_of walked around heading guard in
    let moved = move_emissions walked around counts lane next (heading.id ∷ others) in
    let here = counts_after counts moved in
    let one : Counts → List Emission = λ it. block_emissions walked inside it (lane_on next.host) inner in
    let own = loop_own (loop_front walked around here heading guard next others) here next.host one in
    statement_then walked around counts lane heading.id others named counted begun sees
    (statements_see labelled planned walked.setting pc (loop heading guard inner rest) well) own _
    (λ host_is counted_there begun_there.
    let P : HostId → Type 0 = λ host. ExprReadsWell labelled planned host inside.pc guard in
    let Q : HostId → Type 0 = λ host. Sees planned host inside.pc in
    let sees_inside : SpotSees planned inside.pc (on next.host) = (subst Q (sym host_is) well.2, tt) in
    loop_told walked around heading guard next others one (named ++ entries_in moved) here counted_there begun_there
    (subst P (sym host_is) well.1)
    (λ list it is_counted is_begun.
    block_told walked inside inner well.3 it (lane_on next.host) list is_counted is_begun sees_inside))
    (λ sees_then begun_then counted_then counted_apart.
    block_told walked around rest well.4 _ _ _ counted_apart begun_then sees_then)
block_told walked around (call heading site method arguments into rest) well counts lane named counted begun sees =
    let labelled = walked.labelled in
    let planned = walked.planned in
    let pc = around.pc in
    let others = own_statements rest in
    let next = next_spot planned lane.spot heading.id others in
    let moved = move_emissions walked around counts lane next (heading.id ∷ others) in
    let here = counts_after counts moved in
    let left = under_token planned next others in
    let own : HostId → List Emission = λ host. call_emissions walked here host pc heading.id site method arguments into
    (carried_to planned next others) left in
    statement_then walked around counts lane heading.id others named counted begun sees
    (statements_see labelled planned walked.setting pc (call heading site method arguments into rest) well)
    (own next.host) _
    (λ host_is counted_there begun_there.
    let there = named ++ entries_in moved in
    let P : HostId → Type 0 = λ one. AreTold labelled planned there (own one) in
    subst P (sym host_is)
    (call_told walked there here (statement_host planned.plan heading.id) pc heading.id site method arguments into
    (carried_to planned next others) left begun_there well.1 well.2 well.3))
    (λ sees_then begun_then counted_then counted_apart.
    block_told walked around rest well.4 _ _ _ counted_then begun_then sees_then)
block_told walked around (give_back heading value rest) well counts lane named counted begun sees =
    let labelled = walked.labelled in
    let planned = walked.planned in
    let pc = around.pc in
    let own : HostId → List Emission = λ host. expr_emissions host pc heading.id 0 value
    ++ result_emissions walked host pc heading.id value in
    let next = next_spot planned lane.spot heading.id (own_statements rest) in
    statement_then walked around counts lane heading.id (own_statements rest) named counted begun sees
    (statements_see labelled planned walked.setting pc (give_back heading value rest) well) (own next.host) _
    (λ host_is counted_there begun_there.
    let there = named ++ entries_in
    (move_emissions walked around counts lane next (heading.id ∷ own_statements rest)) in
    let host = statement_host planned.plan heading.id in
    let P : HostId → Type 0 = λ one. AreTold labelled planned there (own one) in
    subst P (sym host_is)
    (quiet_then labelled planned there (expr_emissions host pc heading.id 0 value) _
    (expr_quiet labelled planned there host pc heading.id 0 value well.1)
    (answers_quiet walked there host pc heading.id value well.2).told))
    (λ sees_then begun_then counted_then counted_apart.
    block_told walked around rest well.3 _ _ _ counted_then begun_then sees_then)

-- ---- methods

-- the home of a method may see its begin label, and the statements of its body tell no more
pub record MethodTellsWell (principals : Declared) (labelled : Labelled) (planned : PlannedShape)
    (method : MethodTree) : Type 0 where
  pub home : Sees planned (home_of planned method) method.begin
  pub body : BlockTellsWell labelled planned (setting_of principals labelled.program method) method.begin method.body

pub methods_told : (principals : Declared) (labelled : Labelled) (planned : PlannedShape) (place : ℕ)
    (methods : List MethodTree) → AllByRecursion (MethodTellsWell principals labelled planned) methods →
    (counts : Counts) (named : List NamedEntry) → IsCounted counts named → IsBegun labelled planned named →
    AreTold labelled planned named (methods_emissions principals labelled planned counts place methods)
methods_told principals labelled planned place [] well counts named counted begun = tt
methods_told principals labelled planned place (method ∷ methods) well counts named counted begun =
    let first = method_emissions principals labelled planned counts place method in
    told_on labelled planned named first _
    (block_told (walked_in principals labelled planned method) (record { owner = method.head; pc = method.begin })
    method.body well.0.body counts (lane_on (home_of planned method)) named counted begun (well.0.home, tt))
    (methods_told principals labelled planned (suc place) methods well.1 (counts_after counts first)
    (named ++ entries_in first) (counted_after counts named first counted)
    (begun_more labelled planned named (entries_in first) begun))
