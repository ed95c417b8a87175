-- The walk that splits a program: which instruction stands where, and which entries there are, in the order of the
-- text. Where the right to go on moves, and which values ride with it, is defined with the cost of a plan (msg_cost,
-- Moves). The rules are this project's own, in the manner of the secure program partitioning of Zdancewic, Zheng,
-- Nystrom and Myers.
--
-- What rides is decided once, where a statement gives a variable its value: the value is sent to each other host that
-- reads the variable, but for the host to which the right to go on moves straight from there. For that host it stays
-- with the lane until the lane is left. So what is sent and what rides cannot disagree.
--
-- A result is never given back from a lent segment. Whoever is lent the token is not trusted for all that is left, so
-- more is left than its own statements. A `return` is the last of all, and so its token is that of the method's body.
use Rattle.std.specs.Prelude.{ℕ, ◌+◌, suc, bit_or, if◌then◌else◌}
use Rattle.std.specs.Prelude.{List, [], ◌∷◌, ◌++◌, map, filter, length, Option, Some, None, slice_index}
use Rattle.std.specs.List.{range_with_len}
use Rattle.js_base.specs.declared.ids.HostId.{HostId}
use Rattle.js_base.specs.declared.ids.VarId.{VarId}
use Rattle.js_base.specs.declared.ids.StmtId.{StmtId}
use Rattle.js_base.specs.declared.ids.SiteId.{SiteId}
use Rattle.js_base.specs.declared.ids.MethodId.{MethodId}
use Rattle.js_base.specs.declared.ids.EntryId.{EntryId}
use Rattle.principals.specs.ActsFor.{Declared}
use Rattle.label_lattice.specs.declared.label.Label.{Label}
use Rattle.jif_tree.specs.Trees.{ExprTree, BlockTree, done, set_local, set_field, set_element, branch, loop, call}
use Rattle.jif_tree.specs.Trees.{give_back, MethodTree}
use Rattle.jif_tree.specs.LabelRules.{MethodSetting, setting_of, guarded, method_at, params_of, result_of}
use Rattle.host_code.specs.declared.instruction.Op.{Op}
use Rattle.host_code.specs.declared.instruction.Op.TheVariants as op
use Rattle.host_code.specs.declared.code_expr.Node.{Node}
use Rattle.host_code.specs.declared.code_expr.Node.TheVariants as node
use Rattle.need_labels.specs.Labelled.{Labelled, all_labels}
use Rattle.need_labels.specs.Plan.{statement_host}
use Rattle.msg_cost.specs.declared.spot.Spot.{Spot}
use Rattle.msg_cost.specs.Moves.{PlannedShape, is_same, on, end_of, next_spot, carried_to, own_statements, home_of}
use Rattle.msg_cost.specs.Moves.{called_home}
use Rattle.msg_cost.specs.Terms.{is_other_reader, is_told}
use Rattle.split_rules.specs.Emissions.{Emission, instruction, entry, stands, lands, Counts, counts_after}
use Rattle.split_rules.specs.Expressions.{ElementReading, reads_in, nodes_of, readings_of, first_element, released_by}
use Rattle.split_rules.specs.Placed.{PlacedProgram, planned_from}

-- ---- what a walk knows

-- a program with its labels, its plan, and the method that is walked
pub record Walked : Type 0 where
  pub labelled : Labelled
  pub planned : PlannedShape
  pub setting : MethodSetting

-- The block that is walked: its owner, which is the method's head or the branch or loop around it, and its program
-- label.
pub record Around : Type 0 where
  pub owner : StmtId
  pub pc : Label

-- A spot, the number of the entry that gives back what was lent there, where it was, and the variables whose values
-- ride once the spot is left: one at the most.
pub record Lane : Type 0 where
  pub spot : Spot
  pub return_entry : ℕ
  pub riding : List VarId

abbrev pub lane_on : HostId → Lane
lane_on host = record { spot = on host; return_entry = 0; riding = [] }

abbrev pub with_riding : Lane → List VarId → Lane
with_riding lane riding = record { spot = lane.spot; return_entry = lane.return_entry; riding = riding }

abbrev pub entry_id : ℕ → EntryId
entry_id number = record { 0 = number }

-- ---- needs

-- those who have to trust the host of one of these statements
abbrev pub need_of : PlannedShape → List StmtId → ℕ
need_of planned [] = 0
need_of planned (statement ∷ others) = bit_or (slice_index planned.needs.need statement.0) (need_of planned others)

-- the statements in a row on a host with which these begin
abbrev pub row_on : PlannedShape → HostId → List StmtId → List StmtId
row_on planned host [] = []
row_on planned host (statement ∷ others) =
    if is_same (statement_host planned.plan statement) host then statement ∷ row_on planned host others else []

-- and those behind them
abbrev pub behind_row : PlannedShape → HostId → List StmtId → List StmtId
behind_row planned host [] = []
behind_row planned host (statement ∷ others) =
    if is_same (statement_host planned.plan statement) host then behind_row planned host others
    else statement ∷ others

-- of the statements behind, those that run under the token of a spot
abbrev pub under_token : PlannedShape → Spot → List StmtId → List StmtId
under_token planned spot others = chosen spot.back
  where
    chosen : Option HostId → List StmtId
    chosen None = others
    chosen (Some back) = row_on planned spot.host others

-- ---- values

-- an instruction that evaluates expressions in which these operands are released
abbrev pub releasing : HostId → Label → StmtId → Op → List (List Node) → Emission
releasing host label statement what released =
    instruction (record { host = host; label = label; statement = statement; op = what; released = released })

-- one that releases nothing
abbrev pub emitted : HostId → Label → StmtId → Op → Emission
emitted host label statement what = releasing host label statement what []

abbrev pub read_emissions : HostId → Label → StmtId → List ElementReading → List Emission
read_emissions host label statement readings =
    map (λ reading. releasing host label statement (op.Read reading.field reading.index) reading.released) readings

abbrev pub expr_emissions : HostId → Label → StmtId → ℕ → ExprTree → List Emission
expr_emissions host label statement first expr = read_emissions host label statement (readings_of first expr)

-- each other host with a statement that reads the variable, in file order
abbrev pub other_readers : PlannedShape → HostId → VarId → List HostId
other_readers planned host x =
    map (λ other. record { 0 = other })
    (filter (is_other_reader planned host x) (range_with_len 0 (length planned.hosts.hosts)))

-- those of them to which the value does not ride
abbrev pub told_readers : PlannedShape → HostId → VarId → Option HostId → List HostId
told_readers planned host x carried =
    map (λ other. record { 0 = other })
    (filter (is_told planned host x carried) (range_with_len 0 (length planned.hosts.hosts)))

-- the value of a variable is sent to those who read it, but for the host to which it rides
abbrev pub send_emissions : PlannedShape → HostId → Label → StmtId → VarId → Option HostId → List Emission
send_emissions planned host label statement x carried =
    map (λ other. emitted host label statement (op.Send x other)) (told_readers planned host x carried)

abbrev pub pass_emissions : PlannedShape → HostId → Label → StmtId → VarId → Option HostId → List Emission
pass_emissions planned host label statement x carried =
    map (λ other. emitted host label statement (op.Pass x other)) (told_readers planned host x carried)

-- ---- what rides

-- the variable where its value rides, which it does where another host reads it to which the right to go on moves
abbrev pub riders_to : PlannedShape → HostId → VarId → Option HostId → List VarId
riders_to planned host x None = []
riders_to planned host x (Some to) = if is_other_reader planned host x to.0 then x ∷ [] else []

-- what rides behind a statement at a spot that gives this variable a value, with these statements behind it
abbrev pub rides_behind : PlannedShape → Spot → Option VarId → List StmtId → List VarId
rides_behind planned spot None others = []
rides_behind planned spot (Some x) others = riders_to planned spot.host x (carried_to planned spot others)

-- the thread is handed over to an entry on another host, with what rides
abbrev pub go_with : List VarId → EntryId → HostId → Op
go_with [] there on = op.Go there on
go_with (x ∷ riders) there on = op.GoWith there on (x ∷ riders)

-- the same to the entry of a method, in its new frame
abbrev pub call_with : List VarId → EntryId → HostId → Op
call_with [] there on = op.Call there on
call_with (x ∷ riders) there on = op.CallWith there on (x ∷ riders)

-- ---- moves

-- a lent segment gives the token back, to an entry that stands there from now on
abbrev pub leave_emissions : Around → Lane → List Emission
leave_emissions around lane = given lane.spot.back
  where
    given : Option HostId → List Emission
    given None = []
    given (Some back) =
        emitted lane.spot.host around.pc around.owner op.Back ∷ stands back lane.return_entry ∷ []

-- a host has an entry pushed on its own stack, or on another's
abbrev pub push_or_ask : HostId → HostId → ℕ → Op
push_or_ask from host number =
    if is_same from host then op.Push (entry_id number) else op.Ask (entry_id number) host

-- The token comes from a host to a spot, where these statements begin: handed on, or lent. The values of some variables
-- ride.
abbrev pub enter_emissions : Walked → Around → Counts → HostId → List VarId → Spot → List StmtId → List Emission
enter_emissions walked around counts from riders spot statements =
    if is_same from spot.host then [] else entering spot.back
  where
    entering : Option HostId → List Emission
    entering None =
        entry (record {
          host = spot.host;
          label = around.pc;
          need = need_of walked.planned statements;
        })
        ∷ emitted from around.pc around.owner (go_with riders (entry_id counts.entries) spot.host)
        ∷ stands spot.host counts.entries ∷ []
    entering (Some back) =
        entry (record {
          host = back;
          label = around.pc;
          need = need_of walked.planned (behind_row walked.planned spot.host statements);
        })
        ∷ entry (record {
          host = spot.host;
          label = around.pc;
          need = need_of walked.planned (row_on walked.planned spot.host statements);
        })
        ∷ emitted from around.pc around.owner (push_or_ask from back counts.entries)
        ∷ emitted from around.pc around.owner (go_with riders (entry_id (counts.entries + 1)) spot.host)
        ∷ stands spot.host (counts.entries + 1) ∷ []

-- from a lane to the next spot, which may be the same
abbrev pub move_emissions : Walked → Around → Counts → Lane → Spot → List StmtId → List Emission
move_emissions walked around counts lane next statements =
    if is_same lane.spot.host next.host then []
    else leave_emissions around lane
    ++ enter_emissions walked around counts (end_of lane.spot) lane.riding next statements

abbrev pub lane_at : Counts → Lane → Spot → Lane
lane_at counts lane next =
    if is_same lane.spot.host next.host then lane
    else record { spot = next; return_entry = counts.entries; riding = [] }

-- behind a statement at the next spot that gives this variable a value, with these statements behind it
abbrev pub lane_behind : Walked → Counts → Lane → Spot → Option VarId → List StmtId → Lane
lane_behind walked counts lane next given others =
    with_riding (lane_at counts lane next) (rides_behind walked.planned next given others)

-- the end of a block
abbrev pub end_emissions : Around → Lane → List Emission
end_emissions around lane =
    leave_emissions around lane ++ emitted (end_of lane.spot) around.pc around.owner op.Back ∷ []

-- ---- calls

-- each argument, and then its parameter for those who read it, but for the home of the method, to which it rides
abbrev pub argument_emissions : Walked → HostId → HostId → Label → StmtId → List VarId → List ExprTree → List Emission
argument_emissions walked host home label statement params [] = []
argument_emissions walked host home label statement [] (argument ∷ others) = []
argument_emissions walked host home label statement (param ∷ params) (argument ∷ others) =
    expr_emissions host label statement 0 argument
    ++ releasing host label statement (op.Arg param (nodes_of 0 argument)) (released_by 0 argument)
    ∷ pass_emissions walked.planned host label statement param (Some home)
    ++ argument_emissions walked host home label statement params others

-- the parameters that ride to the home of the method, in their order
abbrev pub riding_params : PlannedShape → HostId → HostId → List VarId → List ExprTree → List VarId
riding_params planned host home params [] = []
riding_params planned host home [] (argument ∷ others) = []
riding_params planned host home (param ∷ params) (argument ∷ others) =
    riders_to planned host param (Some home) ++ riding_params planned host home params others

-- a result that is kept
abbrev pub kept_emissions : Walked → HostId → Label → StmtId → Option VarId → Option VarId → Option HostId →
    List Emission
kept_emissions walked host label statement (Some result) (Some into) carried =
    emitted host label statement (op.Let into (node.Var result ∷ []))
    ∷ send_emissions walked.planned host label statement into carried
kept_emissions walked host label statement result into carried = []

-- The entry behind a call of this method is named before its frame is made. It needs what the call and all that is left
-- under the token need.
abbrev pub called_emissions : Walked → Counts → HostId → Label → StmtId → SiteId → MethodId → Option MethodTree →
    List ExprTree → Option VarId → Option HostId → List StmtId → List Emission
called_emissions walked counts host label statement site method called arguments into carried left =
    let home = called_home walked.planned called in
    entry (record { host = host; label = label; need = need_of walked.planned (statement ∷ left) })
    ∷ emitted host label statement (op.Frame site)
    ∷ argument_emissions walked host home label statement (params_of called) arguments
    ++ emitted host label statement (op.Push (entry_id counts.entries))
    ∷ emitted host label statement (call_with (riding_params walked.planned host home (params_of called) arguments)
    (entry_id (suc method.0)) home)
    ∷ stands host counts.entries
    ∷ kept_emissions walked host label statement (result_of called) into carried

abbrev pub call_emissions : Walked → Counts → HostId → Label → StmtId → SiteId → MethodId → List ExprTree →
    Option VarId → Option HostId → List StmtId → List Emission
call_emissions walked counts host label statement site method arguments into carried left =
    called_emissions walked counts host label statement site method (method_at walked.labelled.program method) arguments
    into carried left

-- what a method gives back
abbrev pub result_emissions : Walked → HostId → Label → StmtId → ExprTree → List Emission
result_emissions walked host label statement value = given walked.setting.result
  where
    given : Option VarId → List Emission
    given None = []
    given (Some result) = releasing host label statement (op.Ret result (nodes_of 0 value)) (released_by 0 value) ∷ []

-- ---- blocks

-- The statements of a block from a lane on. The entry behind a branch stands where both blocks give the token back, and
-- that of a loop at its guard.
abbrev pub block_emissions : Walked → Around → Counts → Lane → BlockTree → List Emission
block_emissions walked around counts lane done = end_emissions around lane
block_emissions walked around counts lane (set_local heading x value rest) =
    let others = own_statements rest in
    let next = next_spot walked.planned lane.spot heading.id others in
    let moved = move_emissions walked around counts lane next (heading.id ∷ others) in
    let own = expr_emissions next.host around.pc heading.id 0 value
    ++ releasing next.host around.pc heading.id (op.Let x (nodes_of 0 value)) (released_by 0 value)
    ∷ send_emissions walked.planned next.host around.pc heading.id x (carried_to walked.planned next others) in
    moved ++ own
    ++ block_emissions walked around (counts_after counts (moved ++ own))
    (lane_behind walked counts lane next (Some x) others) rest
block_emissions walked around counts lane (set_field heading field value rest) =
    let others = own_statements rest in
    let next = next_spot walked.planned lane.spot heading.id others in
    let moved = move_emissions walked around counts lane next (heading.id ∷ others) in
    let own = expr_emissions next.host around.pc heading.id 0 value
    ++ releasing next.host around.pc heading.id (op.Put field first_element (nodes_of 0 value))
    (released_by 0 value) ∷ [] in
    moved ++ own
    ++ block_emissions walked around (counts_after counts (moved ++ own))
    (lane_behind walked counts lane next None others) rest
block_emissions walked around counts lane (set_element heading field index value rest) =
    let others = own_statements rest in
    let next = next_spot walked.planned lane.spot heading.id others in
    let moved = move_emissions walked around counts lane next (heading.id ∷ others) in
    let own = expr_emissions next.host around.pc heading.id 0 index
    ++ expr_emissions next.host around.pc heading.id (reads_in index) value
    ++ releasing next.host around.pc heading.id
    (op.Put field (nodes_of 0 index) (nodes_of (reads_in index) value))
    (released_by 0 index ++ released_by (reads_in index) value) ∷ [] in
    moved ++ own
    ++ block_emissions walked around (counts_after counts (moved ++ own))
    (lane_behind walked counts lane next None others) rest
block_emissions walked around counts lane (branch heading guard first second rest) =
    let others = own_statements rest in
    let next = next_spot walked.planned lane.spot heading.id others in
    let host = next.host in
    let moved = move_emissions walked around counts lane next (heading.id ∷ others) in
    let here = counts_after counts moved in
    let inside : Around = record {
      owner = heading.id;
      pc = guarded walked.setting around.pc (all_labels walked.labelled) guard;
    } in
    let front = entry (record {
      host = host;
      label = inside.pc;
      need = need_of walked.planned (under_token walked.planned next others);
    })
    ∷ emitted host around.pc heading.id (op.Push (entry_id here.entries))
    ∷ expr_emissions host around.pc heading.id 0 guard
    ++ releasing host around.pc heading.id (op.Branch (nodes_of 0 guard) here.branches) (released_by 0 guard) ∷ [] in
    let one = block_emissions walked inside (counts_after here front) (lane_on host) first in
    let between = lands host here.branches ∷ [] in
    let two = block_emissions walked inside (counts_after here (front ++ one ++ between)) (lane_on host) second in
    let own = front ++ one ++ between ++ two ++ stands host here.entries ∷ [] in
    moved ++ own
    ++ block_emissions walked around (counts_after here own) (lane_behind walked counts lane next None others) rest
block_emissions walked around counts lane (loop heading guard body rest) =
    let others = own_statements rest in
    let next = next_spot walked.planned lane.spot heading.id others in
    let host = next.host in
    let moved = move_emissions walked around counts lane next (heading.id ∷ others) in
    let here = counts_after counts moved in
    let inside : Around = record {
      owner = heading.id;
      pc = guarded walked.setting around.pc (all_labels walked.labelled) guard;
    } in
    let front = entry (record {
      host = host;
      label = inside.pc;
      need = need_of walked.planned (heading.id ∷ under_token walked.planned next others);
    })
    ∷ stands host here.entries
    ∷ expr_emissions host inside.pc heading.id 0 guard
    ++ releasing host inside.pc heading.id (op.Branch (nodes_of 0 guard) here.branches) (released_by 0 guard)
    ∷ emitted host inside.pc heading.id (op.Push (entry_id here.entries)) ∷ [] in
    let own = front ++ block_emissions walked inside (counts_after here front) (lane_on host) body
    ++ lands host here.branches ∷ [] in
    moved ++ own
    ++ block_emissions walked around (counts_after here own) (lane_behind walked counts lane next None others) rest
block_emissions walked around counts lane (call heading site method arguments into rest) =
    let others = own_statements rest in
    let next = next_spot walked.planned lane.spot heading.id others in
    let moved = move_emissions walked around counts lane next (heading.id ∷ others) in
    let own = call_emissions walked (counts_after counts moved) next.host around.pc heading.id site method arguments
    into (carried_to walked.planned next others) (under_token walked.planned next others) in
    moved ++ own
    ++ block_emissions walked around (counts_after counts (moved ++ own))
    (lane_behind walked counts lane next into others) rest
block_emissions walked around counts lane (give_back heading value rest) =
    let others = own_statements rest in
    let next = next_spot walked.planned lane.spot heading.id others in
    let moved = move_emissions walked around counts lane next (heading.id ∷ others) in
    let own = expr_emissions next.host around.pc heading.id 0 value
    ++ result_emissions walked next.host around.pc heading.id value in
    moved ++ own
    ++ block_emissions walked around (counts_after counts (moved ++ own))
    (lane_behind walked counts lane next None others) rest

-- ---- methods and programs

abbrev pub walked_in : Declared → Labelled → PlannedShape → MethodTree → Walked
walked_in principals labelled planned method = record {
  labelled = labelled;
  planned = planned;
  setting = setting_of principals labelled.program method;
}

-- the entry of a method, which is on its home
abbrev pub method_entry : PlannedShape → MethodTree → Emission
method_entry planned method = entry (record {
  host = home_of planned method;
  label = method.begin;
  need = need_of planned (method.head ∷ []);
})

-- the body of the method of this number
abbrev pub method_emissions : Declared → Labelled → PlannedShape → Counts → ℕ → MethodTree → List Emission
method_emissions principals labelled planned counts number method =
    stands (home_of planned method) (suc number)
    ∷ block_emissions (walked_in principals labelled planned method)
    (record { owner = method.head; pc = method.begin }) counts (lane_on (home_of planned method)) method.body

abbrev pub methods_emissions : Declared → Labelled → PlannedShape → Counts → ℕ → List MethodTree → List Emission
methods_emissions principals labelled planned counts number [] = []
methods_emissions principals labelled planned counts number (method ∷ methods) =
    let first = method_emissions principals labelled planned counts number method in
    first ++ methods_emissions principals labelled planned (counts_after counts first) (suc number) methods

-- the entry that ends the program, on the home of `main`, under whose begin label it stands
abbrev pub halt_entries : PlannedShape → Option MethodTree → List Emission
halt_entries planned None = []
halt_entries planned (Some main) = method_entry planned main ∷ stands (home_of planned main) 0 ∷ []

-- the entries that are there from the start, and then the bodies of the methods
abbrev pub program_emissions : PlacedProgram → List Emission
program_emissions placed =
    let planned = planned_from placed in
    let program = placed.labelled.program in
    let front = halt_entries planned (method_at program program.main)
    ++ map (method_entry planned) program.methods in
    front
    ++ methods_emissions placed.hosts.principals placed.labelled planned
    (counts_after (record { entries = 0; branches = 0 }) front) 0 program.methods
