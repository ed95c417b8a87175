-- Judgements that count. What a walk may still give is told by two numbers: units, of which each statement has six and
-- the end of each block two, and what may come before the next is spent. A judgement that has these laws of single
-- emissions holds of the walk over each method within limits.
use Rattle.std.proofs.Common.{◌≡◌, ◌∙◌, ℕ, suc, ◌+◌, ◌*◌, ◌≤◌, Bool, true, false, cond, List, [], ◌∷◌, ◌++◌, map}
use Rattle.std.proofs.Common.{filter, length, refl, subst, arith, length-append}
use Rattle.std.specs.Prelude.{⊤, Option, Some, None, All, sum}
use Rattle.std.specs.List.{range_with_len, flat_map}
use Rattle.std.proofs.lemmas.List.Concat.{flat_map-cons}
use Rattle.std.proofs.lemmas.List.Elements.{All-head, All-tail}
use Rattle.std.proofs.lemmas.List.FromFn.{length-range_with_len}
use Rattle.std.proofs.lemmas.List.Sums.{sum_by-cons}
use Rattle.js_base.specs.declared.ids.HostId.{HostId}
use Rattle.js_base.specs.declared.ids.VarId.{VarId}
use Rattle.js_base.specs.declared.ids.MethodId.{MethodId}
use Rattle.js_base.specs.declared.ids.SiteId.{SiteId}
use Rattle.js_base.specs.declared.ids.StmtId.{StmtId}
use Rattle.js_base.specs.declared.limits.TheConstants.{EXPRESSION_NODES}
use Rattle.principals.specs.ActsFor.{Declared}
use Rattle.label_lattice.specs.declared.label.Label.{Label}
use Rattle.jif_tree.specs.Trees.{ExprTree, number, local, scalar, element, inverted, negated, binary, declassified}
use Rattle.jif_tree.specs.Trees.{endorsed, BlockTree, set_local, set_field, set_element}
use Rattle.jif_tree.specs.Trees.{call, give_back, MethodTree, done, branch, loop}
use Rattle.jif_tree.specs.LabelRules.{method_at, params_of, result_of}
use Rattle.jif_tree.specs.Numbering.{block_statements}
use Rattle.jif_tree.specs.Sizes.{expr_nodes, block_nodes}
use Rattle.jif_tree.specs.WellNumbered.{IsBlockIn, AreMethodsIn, is_some}
use Rattle.host_code.specs.declared.instruction.Op.{Op}
use Rattle.host_code.specs.declared.instruction.Op.TheVariants as op
use Rattle.need_labels.specs.Labelled.{Labelled}
use Rattle.msg_cost.specs.declared.spot.Spot.{Spot}
use Rattle.msg_cost.specs.Moves.{PlannedShape, is_same, end_of, next_spot, own_statements, home_of, called_home}
use Rattle.msg_cost.specs.Terms.{is_told}
use Rattle.msg_cost.proofs.Bounds.{all_left, all_right}
use Rattle.split_rules.specs.Emissions.{Emission, instruction, entry, stands, lands, Emitted, NamedEntry, Counts}
use Rattle.split_rules.specs.Emissions.{counts_after}
use Rattle.split_rules.specs.Expressions.{ElementReading, reads_in, nodes_of, readings_of, released_by}
use Rattle.split_rules.specs.Walk.{Walked, Around, Lane, lane_on, entry_id, emitted}
use Rattle.split_rules.specs.Walk.{expr_emissions, read_emissions, told_readers, send_emissions, go_with, call_with}
use Rattle.split_rules.specs.Walk.{leave_emissions, enter_emissions, move_emissions, end_emissions}
use Rattle.split_rules.specs.Walk.{argument_emissions, riding_params, kept_emissions, call_emissions, result_emissions}
use Rattle.split_rules.specs.Walk.{block_emissions, walked_in, method_emissions, methods_emissions}
use Rattle.split_rules.proofs.WalkedMoves.{one_of_two}
use Rattle.split_rules.proofs.WalkedBlocks.{inside_of}

-- ---- kinds of instructions

-- an instruction that makes no step
abbrev pub IsPlain : Op → Type 0
IsPlain (op.Read field index) = ⊤
IsPlain (op.Send x to) = ⊤
IsPlain (op.Frame site) = ⊤
IsPlain (op.Arg x value) = ⊤
IsPlain (op.Pass x to) = ⊤
IsPlain other = ⊥

-- one that makes a step
abbrev pub IsStep : Op → Type 0
IsStep (op.Let x value) = ⊤
IsStep (op.Put field index value) = ⊤
IsStep (op.Ret x value) = ⊤
IsStep (op.Branch guard target) = ⊤
IsStep other = ⊥

-- one that pushes an entry, or has it pushed
abbrev pub IsPush : Op → Type 0
IsPush (op.Push there) = ⊤
IsPush (op.Ask there on) = ⊤
IsPush other = ⊥

-- ---- budgets

pub record Budget : Type 1 where
  -- with so many units and so much before the next, emissions lead to so many units and so much
  pub Leads : ℕ → ℕ → List Emission → ℕ → ℕ → Type 0
  pub still : (k p : ℕ) → Leads k p [] k p
  pub on : {k p l q m r : ℕ} {xs ys : List Emission} → Leads k p xs l q → Leads l q ys m r → Leads k p (xs ++ ys) m r
  pub less : {k p l q m large n small : ℕ} {xs : List Emission} → Leads k p xs l q → k ≤ m → p ≤ large → n ≤ l →
      small ≤ q → Leads m large xs n small
  pub plain : (one : Emitted) (k p : ℕ) → IsPlain one.op → Leads k (p + 1) (instruction one ∷ []) k p
  pub step : (one : Emitted) (k : ℕ) → IsStep one.op → Leads (k + 1) 20 (instruction one ∷ []) k 530
  pub push : (one : Emitted) (k p : ℕ) → IsPush one.op → Leads k (p + 3) (instruction one ∷ []) k p
  pub back : (one : Emitted) (k : ℕ) → one.op ≡ op.Back → Leads (k + 1) 512 (instruction one ∷ []) k 513
  pub named : (one : NamedEntry) (k p : ℕ) → Leads k (p + 1) (entry one ∷ []) k p
  pub stood : (host : HostId) (number k p : ℕ) → p ≤ 512 → Leads k (p + 1) (stands host number ∷ []) k p
  pub landed : (host : HostId) (number k p : ℕ) → p ≤ 512 → Leads k (p + 1) (lands host number ∷ []) k p
  -- a thread is handed to an entry, which stands next; an entry is pushed before a call, which makes the step; whatever
  -- rides with them
  pub hands : (from host : HostId) (pc : Label) (statement : StmtId) (riders : List VarId) (there k p : ℕ) → p ≤ 512 →
      Leads k (p + 2) (emitted from pc statement (go_with riders (entry_id there) host) ∷ stands host there ∷ []) k p
  pub enters : (host home : HostId) (pc : Label) (statement : StmtId) (riders : List VarId) (there method k : ℕ) →
      Leads (k + 1) 3 (emitted host pc statement (op.Push (entry_id there))
      ∷ emitted host pc statement (call_with riders (entry_id method) home) ∷ []) k 513

-- one emission, and what follows it
and_then : (b : Budget) {k p l q m r : ℕ} {x : Emission} {xs : List Emission} → b.Leads k p (x ∷ []) l q →
    b.Leads l q xs m r → b.Leads k p (x ∷ xs) m r
and_then b {x = x} one others = b.on {xs = x ∷ []} one others

-- the same with more before and less behind
widened : (b : Budget) {k p l q : ℕ} {xs : List Emission} (large small : ℕ) → b.Leads k p xs l q → p ≤ large →
    small ≤ q → b.Leads k large xs l small
widened b large small one up down = b.less one (omega arith) up (omega arith) down

-- ---- expressions

reads_lead : (b : Budget) (host : HostId) (pc : Label) (statement : StmtId) (readings : List ElementReading) (k p : ℕ) →
    b.Leads k (p + length readings) (read_emissions host pc statement readings) k p
reads_lead b host pc statement [] k p = widened b _ p (b.still k p) (omega arith) (omega arith)
reads_lead b host pc statement (reading ∷ readings) k p =
    widened b _ p (and_then b (b.plain _ k (p + length readings) tt) (reads_lead b host pc statement readings k p))
    (omega arith) (omega arith)

pub few_reads : (first : ℕ) (expr : ExprTree) → length (readings_of first expr) ≤ expr_nodes expr
few_reads first (number value) = omega arith
few_reads first (local x) = omega arith
few_reads first (scalar field) = omega arith
few_reads first (element field index) =
    let so = few_reads first index in
    let many = length-append (readings_of first index)
    (record { field = field; index = nodes_of first index; released = released_by first index } ∷ []) in
    omega arith
few_reads first (inverted operand) = let so = few_reads first operand in omega arith
few_reads first (negated operand) = let so = few_reads first operand in omega arith
few_reads first (binary operator left right) =
    let one = few_reads first left in
    let two = few_reads (first + reads_in left) right in
    let many = length-append (readings_of first left) (readings_of (first + reads_in left) right) in
    omega arith
few_reads first (declassified operand label) = let so = few_reads first operand in omega arith
few_reads first (endorsed operand label) = let so = few_reads first operand in omega arith

expression_leads : (b : Budget) (host : HostId) (pc : Label) (statement : StmtId) (first : ℕ) (tree : ExprTree)
    (k p : ℕ) → b.Leads k (p + expr_nodes tree) (expr_emissions host pc statement first tree) k p
expression_leads b host pc statement first tree k p =
    let few = few_reads first tree in
    widened b _ p (reads_lead b host pc statement (readings_of first tree) k p) (omega arith) (omega arith)

-- ---- variables for those who read them

chosen_lead : (b : Budget) (make : HostId → Emission) (k : ℕ) →
    ((to : HostId) (p : ℕ) → b.Leads k (p + 1) (make to ∷ []) k p) → (test : ℕ → Bool) (numbers : List ℕ) (p : ℕ) →
    b.Leads k (p + length numbers) (map make (map (λ other. record { 0 = other }) (filter test numbers))) k p
chosen_lead b make k one test [] p = widened b _ p (b.still k p) (omega arith) (omega arith)
chosen_lead b make k one test (first ∷ numbers) p = by (test first) (chosen_lead b make k one test numbers p)
  where
    by : (c : Bool) →
        b.Leads k (p + length numbers) (map make (map (λ other. record { 0 = other }) (filter test numbers))) k p →
        b.Leads k (p + length (first ∷ numbers)) (map make (map (λ other. record { 0 = other })
        (cond c (first ∷ filter test numbers) (filter test numbers)))) k p
    by true others = widened b _ p (and_then b (one (record { 0 = first }) (p + length numbers)) others) (omega arith)
        (omega arith)
    by false others = widened b _ p others (omega arith) (omega arith)

-- a program has at most 16 hosts
abbrev pub HasFewHosts : PlannedShape → Type 0
HasFewHosts planned = length planned.hosts.hosts ≤ 16

forwards_lead : (b : Budget) (planned : PlannedShape) → HasFewHosts planned → (host : HostId) (x : VarId)
    (carried : Option HostId) (make : HostId → Emission) (k p : ℕ) →
    ((to : HostId) (p : ℕ) → b.Leads k (p + 1) (make to ∷ []) k p) →
    b.Leads k (p + 16) (map make (told_readers planned host x carried)) k p
forwards_lead b planned few host x carried make k p one =
    let numbers = range_with_len 0 (length planned.hosts.hosts) in
    let many = length-range_with_len 0 (length planned.hosts.hosts) in
    widened b _ p (chosen_lead b make k one (is_told planned host x carried) numbers p) (omega arith) (omega arith)

-- ---- moves

leave_leads : (b : Budget) (around : Around) (lane : Lane) (k : ℕ) →
    b.Leads (k + 1) 512 (leave_emissions around lane) k 512
leave_leads b around lane k = by lane.spot.host lane.spot.back lane.return_entry
  where
    by : (host : HostId) (back : Option HostId) (return : ℕ) →
        let it : Lane = record {
          spot = record { host = host; back = back };
          return_entry = return;
          riding = lane.riding;
        } in
        b.Leads (k + 1) 512 (leave_emissions around it) k 512
    by host None return = b.less (b.still k 512) (omega arith) (omega arith) (omega arith) (omega arith)
    by host (Some back) return = and_then b (b.back _ k refl) (b.stood back return k 512 (omega arith))

enter_leads : (b : Budget) (walked : Walked) (around : Around) (counts : Counts) (from host : HostId)
    (back : Option HostId) (riders : List VarId) (statements : List StmtId) (k : ℕ) →
    b.Leads k 512 (enter_emissions walked around counts from riders (record { host = host; back = back }) statements) k
    490
enter_leads b walked around counts from host None riders statements k =
    one_of_two (λ list. b.Leads k 512 list k 490) (is_same from host) [] _
    (widened b 512 490 (b.still k 490) (omega arith) (omega arith))
    (widened b 512 490
    (and_then b (b.named _ k 492) (b.hands from host around.pc around.owner riders counts.entries k 490 (omega arith)))
    (omega arith) (omega arith))
enter_leads b walked around counts from host (Some back) riders statements k =
    one_of_two (λ list. b.Leads k 512 list k 490) (is_same from host) [] _
    (widened b 512 490 (b.still k 490) (omega arith) (omega arith))
    (widened b 512 490
    (and_then b (b.named _ k 496) (and_then b (b.named _ k 495) (and_then b (b.push _ k 492
    (one_of_two IsPush (is_same from back) (op.Push (entry_id counts.entries)) (op.Ask (entry_id counts.entries) back)
    tt tt)) (b.hands from host around.pc around.owner riders (counts.entries + 1) k 490 (omega arith)))))
    (omega arith) (omega arith))

move_leads : (b : Budget) (walked : Walked) (around : Around) (counts : Counts) (lane : Lane) (next : Spot)
    (statements : List StmtId) (k : ℕ) →
    b.Leads (k + 1) 512 (move_emissions walked around counts lane next statements) k 490
move_leads b walked around counts lane next statements k =
    one_of_two (λ list. b.Leads (k + 1) 512 list k 490) (is_same lane.spot.host next.host) [] _
    (b.less (b.still k 490) (omega arith) (omega arith) (omega arith) (omega arith))
    (b.on (leave_leads b around lane k) (enter_leads b walked around counts (end_of lane.spot) next.host next.back
    lane.riding statements k))

end_leads : (b : Budget) (around : Around) (lane : Lane) (k : ℕ) → b.Leads (k + 2) 512 (end_emissions around lane) k 513
end_leads b around lane k =
    b.less (b.on (leave_leads b around lane (k + 1)) (b.back _ k refl)) (omega arith) (omega arith) (omega arith)
    (omega arith)

-- ---- calls

-- the parameters of a method that is called, and the hosts, are few
pub record IsSmall (walked : Walked) : Type 0 where
  pub hosts : HasFewHosts walked.planned
  pub params : (method : MethodId) → length (params_of (method_at walked.labelled.program method)) ≤ 8

arguments_lead : (b : Budget) (walked : Walked) → HasFewHosts walked.planned → (host home : HostId) (pc : Label)
    (statement : StmtId) (params : List VarId) (trees : List ExprTree) (k p : ℕ) →
    b.Leads k (p + (sum (map expr_nodes trees) + 17 * length params))
    (argument_emissions walked host home pc statement params trees) k p
arguments_lead b walked few host home pc statement params [] k p = widened b _ p (b.still k p) (omega arith)
    (omega arith)
arguments_lead b walked few host home pc statement [] (tree ∷ others) k p =
    widened b _ p (b.still k p) (omega arith) (omega arith)
arguments_lead b walked few host home pc statement (param ∷ params) (tree ∷ others) k p =
    let rest = p + (sum (map expr_nodes others) + 17 * length params) in
    let both : sum (map expr_nodes (tree ∷ others)) ≡ expr_nodes tree + sum (map expr_nodes others) =
    sum_by-cons (λ nodes. nodes) (expr_nodes tree) (map expr_nodes others) in
    widened b _ p
    (b.on (b.on (expression_leads b host pc statement 0 tree k (rest + 16 + 1))
    (and_then b (b.plain _ k (rest + 16) tt)
    (forwards_lead b walked.planned few host param (Some home) _ k rest (λ to q. b.plain _ k q tt))))
    (arguments_lead b walked few host home pc statement params others k p))
    (omega arith) (omega arith)

-- a value is given to a variable, and sent to those who read it
assigned_leads : (b : Budget) (planned : PlannedShape) → HasFewHosts planned → (one : Emitted) → IsStep one.op →
    (x : VarId) (carried : Option HostId) (k : ℕ) →
    b.Leads (k + 1) 20 (instruction one ∷ send_emissions planned one.host one.label one.statement x carried) k 514
assigned_leads b planned few one step x carried k =
    and_then b (b.step one k step) (forwards_lead b planned few one.host x carried _ k 514 (λ to q. b.plain _ k q tt))

kept_leads : (b : Budget) (walked : Walked) → HasFewHosts walked.planned → (host : HostId) (pc : Label)
    (statement : StmtId) (result into : Option VarId) (carried : Option HostId) (k : ℕ) →
    b.Leads (k + 1) 512 (kept_emissions walked host pc statement result into carried) k 512
kept_leads b walked few host pc statement (Some result) (Some into) carried k =
    widened b 512 512 (assigned_leads b walked.planned few _ tt into carried k) (omega arith) (omega arith)
kept_leads b walked few host pc statement (Some result) None carried k =
    b.less (b.still k 512) (omega arith) (omega arith) (omega arith) (omega arith)
kept_leads b walked few host pc statement None (Some into) carried k =
    b.less (b.still k 512) (omega arith) (omega arith) (omega arith) (omega arith)
kept_leads b walked few host pc statement None None carried k =
    b.less (b.still k 512) (omega arith) (omega arith) (omega arith) (omega arith)

call_leads : (b : Budget) (walked : Walked) → IsSmall walked → (counts : Counts) (host : HostId) (pc : Label)
    (statement : StmtId) (site : SiteId) (method : MethodId) (trees : List ExprTree) (into : Option VarId)
    (carried : Option HostId) (left : List StmtId) (k : ℕ) → sum (map expr_nodes trees) ≤ 256 →
    b.Leads (k + 2) 490 (call_emissions walked counts host pc statement site method trees into carried left) k 512
call_leads b walked small counts host pc statement site method trees into carried left k few =
    let there = method_at walked.labelled.program method in
    let home = called_home walked.planned there in
    let few_params = small.params method in
    b.less (and_then b (b.named _ (k + 1 + 1) _) (and_then b (b.plain _ (k + 1 + 1) _ tt)
    (b.on (arguments_lead b walked small.hosts host home pc statement (params_of there) trees (k + 1 + 1) 3)
    (b.on (b.enters host home pc statement (riding_params walked.planned host home (params_of there) trees)
    counts.entries (suc method.0) (k + 1))
    (and_then b (b.stood host counts.entries (k + 1) 512 (omega arith))
    (kept_leads b walked small.hosts host pc statement (result_of there) into carried k))))))
    (omega arith) (omega arith) (omega arith) (omega arith)

-- what a method gives back
result_leads : (b : Budget) (walked : Walked) (host : HostId) (pc : Label) (statement : StmtId) (value : ExprTree)
    (k : ℕ) → is_some walked.setting.result ≡ true →
    b.Leads (k + 1) 20 (result_emissions walked host pc statement value) k 530
result_leads b walked host pc statement value k gives = by walked.setting.result refl gives
  where
    no_result : false ≡ true → ⊥
    no_result same = cc

    by : (it : Option VarId) → walked.setting.result ≡ it → is_some it ≡ true →
        b.Leads (k + 1) 20 (result_emissions walked host pc statement value) k 530
    by None is some = absurd (no_result some)
    by (Some x) is some = rw is (b.step _ k tt)

-- ---- blocks

abbrev pub IsFew : ℕ → Type 0
IsFew nodes = nodes ≤ EXPRESSION_NODES

-- A statement that is moved to, and what follows it. A block has two units for its end and six for each statement.
statement_leads : (b : Budget) (walked : Walked) (around : Around) (counts : Counts) (lane : Lane) (statement : StmtId)
    (others : List StmtId) (own rest : List Emission) (k l m : ℕ) → b.Leads k 490 own l 512 → b.Leads l 512 rest m 513 →
    let next = next_spot walked.planned lane.spot statement others in
    b.Leads (k + 1) 512 (move_emissions walked around counts lane next (statement ∷ others) ++ own ++ rest) m 513
statement_leads b walked around counts lane statement others own rest k l m owns follows =
    let next = next_spot walked.planned lane.spot statement others in
    b.on (b.on (move_leads b walked around counts lane next (statement ∷ others) k) owns) follows

block_leads : (b : Budget) (walked : Walked) → IsSmall walked → (method : MethodId) (gives : Bool) →
    is_some walked.setting.result ≡ gives → (tree : BlockTree) → IsBlockIn walked.labelled.program method gives tree →
    All IsFew (block_nodes tree) → (around : Around) (counts : Counts) (lane : Lane) (k : ℕ) →
    b.Leads (6 * length (block_statements tree) + 2 + k) 512 (block_emissions walked around counts lane tree) k 513
block_leads b walked small method gives is done numbered few around counts lane k =
    b.less (end_leads b around lane k) (omega arith) (omega arith) (omega arith) (omega arith)
block_leads b walked small method gives is (branch heading guard first second rest) numbered few around counts lane k =
    let others = own_statements rest in
    let next = next_spot walked.planned lane.spot heading.id others in
    let here = counts_after counts (move_emissions walked around counts lane next (heading.id ∷ others)) in
    let inside = inside_of walked around heading guard in
    let in_blocks = block_nodes first ++ block_nodes second in
    let nodes = All-head IsFew (expr_nodes guard) (in_blocks ++ block_nodes rest) few in
    let left = All-tail IsFew (expr_nodes guard) (in_blocks ++ block_nodes rest) few in
    let both = all_left IsFew in_blocks (block_nodes rest) left in
    let together = length-append (block_statements first) (block_statements second) in
    let whole = length-append (block_statements first ++ block_statements second) (block_statements rest) in
    let last = 6 * length (block_statements rest) + 2 + k in
    let beside = 6 * length (block_statements second) + 2 + last in
    let under = 6 * length (block_statements first) + 2 + beside in
    b.less (statement_leads b walked around counts lane heading.id others _ _ (under + 1) last k
    (b.on (b.on (b.on (b.on
    (b.less (and_then b (b.named _ (under + 1) _) (and_then b (b.push _ (under + 1) _ tt)
    (b.on (expression_leads b next.host around.pc heading.id 0 guard (under + 1) 20) (b.step _ under tt))))
    (omega arith) (omega arith) (omega arith) (omega arith))
    (block_leads b walked small method gives is first numbered.1
    (all_left IsFew (block_nodes first) (block_nodes second) both) inside _ (lane_on next.host) beside))
    (b.landed next.host here.branches beside 512 (omega arith)))
    (block_leads b walked small method gives is second numbered.2
    (all_right IsFew (block_nodes first) (block_nodes second) both) inside _ (lane_on next.host) last))
    (b.stood next.host here.entries last 512 (omega arith)))
    (block_leads b walked small method gives is rest numbered.3 (all_right IsFew in_blocks (block_nodes rest) left)
    around _ _ k)) (omega arith) (omega arith) (omega arith) (omega arith)
block_leads b walked small method gives is (loop heading guard body rest) numbered few around counts lane k =
    let others = own_statements rest in
    let next = next_spot walked.planned lane.spot heading.id others in
    let here = counts_after counts (move_emissions walked around counts lane next (heading.id ∷ others)) in
    let inside = inside_of walked around heading guard in
    let nodes = All-head IsFew (expr_nodes guard) (block_nodes body ++ block_nodes rest) few in
    let left = All-tail IsFew (expr_nodes guard) (block_nodes body ++ block_nodes rest) few in
    let whole = length-append (block_statements body) (block_statements rest) in
    let last = 6 * length (block_statements rest) + 2 + k in
    let under = 6 * length (block_statements body) + 2 + last in
    b.less (statement_leads b walked around counts lane heading.id others _ _ (under + 1) last k
    (b.on (b.on
    (b.less (and_then b (b.named _ (under + 1) _) (and_then b
    (b.stood next.host here.entries (under + 1) (20 + expr_nodes guard) (omega arith))
    (b.on (expression_leads b next.host inside.pc heading.id 0 guard (under + 1) 20)
    (and_then b (b.step _ under tt) (widened b 530 512 (b.push _ under 512 tt) (omega arith) (omega arith))))))
    (omega arith) (omega arith) (omega arith) (omega arith))
    (block_leads b walked small method gives is body numbered.1 (all_left IsFew (block_nodes body) (block_nodes rest)
    left)
    inside _ (lane_on next.host) last))
    (b.landed next.host here.branches last 512 (omega arith)))
    (block_leads b walked small method gives is rest numbered.2 (all_right IsFew (block_nodes body) (block_nodes rest)
    left)
    around _ _ k)) (omega arith) (omega arith) (omega arith) (omega arith)
block_leads b walked small method gives is (set_local heading x value rest) numbered few around counts lane k =
    let next = next_spot walked.planned lane.spot heading.id (own_statements rest) in
    let nodes = All-head IsFew (expr_nodes value) (block_nodes rest) few in
    let left = 6 * length (block_statements rest) + 2 + k in
    b.less (statement_leads b walked around counts lane heading.id (own_statements rest) _ _ (left + 2) left k
    (b.less (b.on (expression_leads b next.host around.pc heading.id 0 value (left + 1) 20)
    (assigned_leads b walked.planned small.hosts _ tt x _ left)) (omega arith) (omega arith) (omega arith) (omega
    arith))
    (block_leads b walked small method gives is rest numbered.2
    (All-tail IsFew (expr_nodes value) (block_nodes rest) few) around _ _ k))
    (omega arith) (omega arith) (omega arith) (omega arith)
block_leads b walked small method gives is (set_field heading field value rest) numbered few around counts lane k =
    let next = next_spot walked.planned lane.spot heading.id (own_statements rest) in
    let nodes = All-head IsFew (expr_nodes value) (block_nodes rest) few in
    let left = 6 * length (block_statements rest) + 2 + k in
    b.less (statement_leads b walked around counts lane heading.id (own_statements rest) _ _ (left + 2) left k
    (b.less (b.on (expression_leads b next.host around.pc heading.id 0 value (left + 1) 20) (b.step _ left tt))
    (omega arith) (omega arith) (omega arith) (omega arith))
    (block_leads b walked small method gives is rest numbered.2
    (All-tail IsFew (expr_nodes value) (block_nodes rest) few) around _ _ k))
    (omega arith) (omega arith) (omega arith) (omega arith)
block_leads b walked small method gives is (set_element heading field index value rest) numbered few around counts lane
    k =
    let next = next_spot walked.planned lane.spot heading.id (own_statements rest) in
    let nodes = All-head IsFew (expr_nodes index + expr_nodes value) (block_nodes rest) few in
    let left = 6 * length (block_statements rest) + 2 + k in
    b.less (statement_leads b walked around counts lane heading.id (own_statements rest) _ _ (left + 2) left k
    (b.less (b.on (b.on
    (expression_leads b next.host around.pc heading.id 0 index (left + 1) (20 + expr_nodes value))
    (expression_leads b next.host around.pc heading.id (reads_in index) value (left + 1) 20)) (b.step _ left tt))
    (omega arith) (omega arith) (omega arith) (omega arith))
    (block_leads b walked small method gives is rest numbered.3
    (All-tail IsFew (expr_nodes index + expr_nodes value) (block_nodes rest) few) around _ _ k))
    (omega arith) (omega arith) (omega arith) (omega arith)
block_leads b walked small method gives is (call heading site there trees into rest) numbered few around counts lane k =
    let next = next_spot walked.planned lane.spot heading.id (own_statements rest) in
    let nodes = All-head IsFew (sum (map expr_nodes trees)) (block_nodes rest) few in
    let left = 6 * length (block_statements rest) + 2 + k in
    b.less (statement_leads b walked around counts lane heading.id (own_statements rest) _ _ (left + 2) left k
    (call_leads b walked small (counts_after counts (move_emissions walked around counts lane next
    (heading.id ∷ own_statements rest))) next.host around.pc heading.id site there trees into _ _ left nodes)
    (block_leads b walked small method gives is rest numbered.3
    (All-tail IsFew (sum (map expr_nodes trees)) (block_nodes rest) few) around _ _ k))
    (omega arith) (omega arith) (omega arith) (omega arith)
block_leads b walked small method gives is (give_back heading value rest) numbered few around counts lane k =
    let next = next_spot walked.planned lane.spot heading.id (own_statements rest) in
    let nodes = All-head IsFew (expr_nodes value) (block_nodes rest) few in
    let left = 6 * length (block_statements rest) + 2 + k in
    b.less (statement_leads b walked around counts lane heading.id (own_statements rest) _ _ (left + 2) left k
    (b.less (b.on (expression_leads b next.host around.pc heading.id 0 value (left + 1) 20)
    (result_leads b walked next.host around.pc heading.id value left (is ∙ numbered.0)))
    (omega arith) (omega arith) (omega arith) (omega arith))
    (block_leads b walked small method gives is rest numbered.2
    (All-tail IsFew (expr_nodes value) (block_nodes rest) few) around _ _ k))
    (omega arith) (omega arith) (omega arith) (omega arith)

-- ---- methods

-- the heads of methods count as statements
pub methods_lead : (b : Budget) (principals : Declared) (labelled : Labelled) (planned : PlannedShape) →
    HasFewHosts planned →
    ((method : MethodId) → length (params_of (method_at labelled.program method)) ≤ 8) → (place : ℕ)
    (methods : List MethodTree) → AreMethodsIn labelled.program place methods →
    All IsFew (flat_map (λ method. block_nodes method.body) methods) → (counts : Counts) →
    b.Leads (6 * length (flat_map (λ method. method.head.0 ∷ block_statements method.body) methods)) 513
    (methods_emissions principals labelled planned counts place methods) 0 513
methods_lead b principals labelled planned hosts params place [] numbered few counts = b.still 0 513
methods_lead b principals labelled planned hosts params place (method ∷ methods) numbered few counts =
    let walked = walked_in principals labelled planned method in
    let bodies : MethodTree → List ℕ = λ tree. block_nodes tree.body in
    let numbers_of : MethodTree → List ℕ = λ tree. tree.head.0 ∷ block_statements tree.body in
    let both = subst (All IsFew) (flat_map-cons bodies method methods) few in
    let own = method_emissions principals labelled planned counts place method in
    let long = length-append (numbers_of method) (flat_map numbers_of methods) in
    let behind = 6 * length (flat_map numbers_of methods) in
    let units = 6 * length (block_statements method.body) + 2 + behind in
    let own_few = all_left IsFew (bodies method) (flat_map bodies methods) both in
    b.less (and_then b (b.stood (home_of planned method) (suc place) units 512 (omega arith))
    (b.on (block_leads b walked (record { hosts = hosts; params = params }) (record { 0 = place }) (is_some
    method.result)
    refl method.body numbered.0.body own_few (record { owner = method.head; pc = method.begin }) counts
    (lane_on (home_of planned method)) behind)
    (methods_lead b principals labelled planned hosts params (suc place) methods numbered.1
    (all_right IsFew (bodies method) (flat_map bodies methods) both) (counts_after counts own)))) (omega arith)
    (omega arith) (omega arith) (omega arith)
