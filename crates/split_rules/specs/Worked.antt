-- Small programs and plans, whose code is worked out.
use Rattle.std.specs.Prelude.{ℕ, List, [], ◌∷◌, map, Some, None, codes, pos, false, true}
use Rattle.js_base.specs.declared.binary_operator.BinOp.TheVariants as operator
use Rattle.js_base.specs.declared.ids.HostId.{HostId}
use Rattle.js_base.specs.declared.ids.FieldId.{FieldId}
use Rattle.js_base.specs.declared.ids.VarId.{VarId}
use Rattle.js_base.specs.declared.ids.SiteId.{SiteId}
use Rattle.js_base.specs.declared.ids.StmtId.{StmtId}
use Rattle.principals.specs.ActsFor.{Declared}
use Rattle.label_lattice.specs.declared.label.Label.{Label}
use Rattle.label_lattice.specs.Lattice.{free_rows, empty_label}
use Rattle.host_decl.specs.Hosts.{HostShape}
use Rattle.jif_tree.specs.Trees.{ExprTree, number, local, scalar, element, binary, Heading, BlockTree, done, set_local}
use Rattle.jif_tree.specs.Trees.{set_field, set_element, branch, loop, call, give_back, FieldTree, VarTree, MethodTree}
use Rattle.jif_tree.specs.Trees.{ProgramTree}
use Rattle.host_code.specs.declared.instruction.Op.{Op}
use Rattle.msg_cost.specs.Moves.{PlannedShape}
use Rattle.split_rules.specs.Emissions.{Emission}
use Rattle.split_rules.specs.SplitCode.{emitted_on, entries_in, code_labels}
use Rattle.split_rules.specs.Placed.{PlacedProgram}
use Rattle.split_rules.specs.Walk.{program_emissions}

abbrev pub host_id : ℕ → HostId
host_id place = record { 0 = place }

abbrev pub field_id : ℕ → FieldId
field_id place = record { 0 = place }

abbrev pub var_id : ℕ → VarId
var_id place = record { 0 = place }

abbrev pub site_id : ℕ → SiteId
site_id place = record { 0 = place }

abbrev pub statement_id : ℕ → StmtId
statement_id place = record { 0 = place }

abbrev pub heading : ℕ → Heading
heading place = record { id = statement_id place; line = 1 }

-- trusted by the principals of a word
abbrev pub trusted_by : ℕ → Label
trusted_by word = record { rows = free_rows; trust = word }

-- a host of such a label; what it may see does not matter here
abbrev pub a_host : ℕ → HostShape
a_host word = record { name = codes "H"; label = trusted_by word; key = []; path = [] }

abbrev pub field_with : Label → FieldTree
field_with label = record { name = codes "f"; label = label; size = 1; array = false; first = pos 0 }

abbrev pub a_field : FieldTree
a_field = field_with empty_label

abbrev pub an_array : FieldTree
an_array = record a_field { size = 4; array = true }

-- a variable of the method of this number
abbrev pub variable_of : ℕ → VarTree
variable_of method = record { method = record { 0 = method }; name = codes "x"; label = None }

abbrev pub main_of : BlockTree → MethodTree
main_of body = record {
  name = codes "main";
  begin = empty_label;
  params = [];
  result = None;
  authority = [];
  head = statement_id 0;
  line = 1;
  body = body;
}

-- methods, of which the first is `main`
abbrev pub program_with : List FieldTree → List VarTree → List MethodTree → ProgramTree
program_with fields vars methods =
    record { fields = fields; vars = vars; methods = methods; main = record { 0 = 0 } }

-- `main` alone, with two fields and a local
abbrev pub program_of : BlockTree → ProgramTree
program_of body = program_with (a_field ∷ a_field ∷ []) (variable_of 0 ∷ []) (main_of body ∷ [])

abbrev pub nobody : Declared
nobody = record { names = []; pairs = [] }

-- a program on some hosts, by what its statements need, who reads each variable, and where everything stands
abbrev pub planned_for : ProgramTree → List HostShape → List (List ℕ) → List ℕ → List (List StmtId) → List HostId →
    List HostId → PlannedShape
planned_for program hosts costs need readers fields statements = record {
  program = program;
  needs = record { used = []; need = need; loc = []; readers = readers };
  hosts = record { principals = nobody; hosts = hosts; costs = costs };
  plan = record { fields = fields; statements = statements };
}

-- the same of `main` alone, with one local
abbrev pub planned_on : List HostShape → List (List ℕ) → List ℕ → List StmtId → List HostId → List HostId → BlockTree →
    PlannedShape
planned_on hosts costs need readers fields statements body =
    planned_for (program_of body) hosts costs need (readers ∷ []) fields statements

-- its variables have these labels
abbrev pub placed_with : PlannedShape → List Label → PlacedProgram
placed_with planned var_labels = record {
  labelled = record { program = planned.program; var_labels = var_labels; pc = [] };
  needs = planned.needs;
  hosts = planned.hosts;
  plan = planned.plan;
}

abbrev pub emissions_on : PlannedShape → List Emission
emissions_on planned = program_emissions (placed_with planned [])

abbrev pub operations_on : PlannedShape → ℕ → List Op
operations_on planned host = map (λ one. one.op) (emitted_on (host_id host) (emissions_on planned))

abbrev pub entry_hosts : PlannedShape → List ℕ
entry_hosts planned = map (λ named. named.host.0) (entries_in (emissions_on planned))

-- the field of this number is increased by an expression
abbrev pub increased : ℕ → ExprTree → ExprTree
increased field by = binary operator.Add (scalar (field_id field)) by

-- A local of one host is read on another, which is handed the right to go on.
abbrev pub sent_local : PlannedShape
sent_local =
    planned_on (a_host 1 ∷ a_host 0 ∷ []) ((0 ∷ 1 ∷ []) ∷ (1 ∷ 0 ∷ []) ∷ []) (1 ∷ 1 ∷ 0 ∷ []) (statement_id 2 ∷ [])
    (host_id 1 ∷ host_id 1 ∷ []) (host_id 0 ∷ host_id 0 ∷ host_id 1 ∷ [])
    (set_local (heading 1) (var_id 0) (number (pos 7))
    (set_field (heading 2) (field_id 0) (increased 0 (local (var_id 0))) done))

-- `f = f + x;` for a field and the local
abbrev pub adding : ℕ → ℕ → BlockTree → BlockTree
adding id field rest = set_field (heading id) (field_id field) (increased field (local (var_id 0))) rest

-- A local is read on two others, of which the first is handed the right to go on.
abbrev pub read_by_two : PlannedShape
read_by_two =
    planned_on (a_host 1 ∷ a_host 0 ∷ a_host 0 ∷ [])
    ((0 ∷ 1 ∷ 1 ∷ []) ∷ (1 ∷ 0 ∷ 1 ∷ []) ∷ (1 ∷ 1 ∷ 0 ∷ []) ∷ []) (1 ∷ 1 ∷ 0 ∷ 0 ∷ [])
    (statement_id 2 ∷ statement_id 3 ∷ []) (host_id 1 ∷ host_id 2 ∷ [])
    (host_id 0 ∷ host_id 0 ∷ host_id 1 ∷ host_id 2 ∷ [])
    (set_local (heading 1) (var_id 0) (number (pos 7)) (adding 2 0 (adding 3 1 done)))

-- A local is read on another host, and between them stands a statement on the first.
abbrev pub read_later : PlannedShape
read_later =
    planned_on (a_host 1 ∷ a_host 0 ∷ []) ((0 ∷ 1 ∷ []) ∷ (1 ∷ 0 ∷ []) ∷ []) (1 ∷ 1 ∷ 1 ∷ 0 ∷ [])
    (statement_id 3 ∷ []) (host_id 1 ∷ host_id 0 ∷ []) (host_id 0 ∷ host_id 0 ∷ host_id 0 ∷ host_id 1 ∷ [])
    (set_local (heading 1) (var_id 0) (number (pos 7))
    (set_field (heading 2) (field_id 1) (number (pos 1)) (adding 3 0 done)))

-- A local is set on a host that was lent the right to go on, and read on the one that gets it back.
abbrev pub set_where_lent : PlannedShape
set_where_lent =
    planned_on (a_host 1 ∷ a_host 0 ∷ []) ((0 ∷ 1 ∷ []) ∷ (1 ∷ 0 ∷ []) ∷ []) (1 ∷ 0 ∷ 1 ∷ [])
    (statement_id 2 ∷ []) (host_id 0 ∷ host_id 0 ∷ []) (host_id 0 ∷ host_id 1 ∷ host_id 0 ∷ [])
    (set_local (heading 1) (var_id 0) (number (pos 7)) (adding 2 0 done))

-- Of two statements on other hosts the first is lent the right to go on, and gives it to the host of the second, since
-- the way back is long.
abbrev pub lent_past : PlannedShape
lent_past =
    planned_on (a_host 3 ∷ a_host 0 ∷ a_host 1 ∷ [])
    ((0 ∷ 1 ∷ 1 ∷ []) ∷ (10 ∷ 0 ∷ 1 ∷ []) ∷ (1 ∷ 1 ∷ 0 ∷ []) ∷ []) (3 ∷ 0 ∷ 1 ∷ []) []
    (host_id 1 ∷ host_id 2 ∷ []) (host_id 0 ∷ host_id 1 ∷ host_id 2 ∷ [])
    (set_field (heading 1) (field_id 0) (increased 0 (number (pos 1)))
    (set_field (heading 2) (field_id 1) (increased 1 (number (pos 1))) done))

-- The same where each way costs the same: it comes back to the first host.
abbrev pub lent_back : PlannedShape
lent_back =
    planned_on (a_host 3 ∷ a_host 0 ∷ a_host 1 ∷ [])
    ((0 ∷ 1 ∷ 1 ∷ []) ∷ (1 ∷ 0 ∷ 1 ∷ []) ∷ (1 ∷ 1 ∷ 0 ∷ []) ∷ []) (3 ∷ 0 ∷ 1 ∷ []) []
    (host_id 1 ∷ host_id 2 ∷ []) (host_id 0 ∷ host_id 1 ∷ host_id 2 ∷ [])
    (set_field (heading 1) (field_id 0) (increased 0 (number (pos 1)))
    (set_field (heading 2) (field_id 1) (increased 1 (number (pos 1))) done))

-- the last statement of the body of a loop
abbrev pub loop_end : BlockTree
loop_end = set_field (heading 3) (field_id 0) (increased 0 (number (pos 1))) done

-- A loop whose body stands partly on another host.
abbrev pub looped : PlannedShape
looped =
    planned_on (a_host 1 ∷ a_host 0 ∷ []) ((0 ∷ 1 ∷ []) ∷ (1 ∷ 0 ∷ []) ∷ []) (1 ∷ 1 ∷ 0 ∷ 1 ∷ []) []
    (host_id 0 ∷ host_id 1 ∷ []) (host_id 0 ∷ host_id 0 ∷ host_id 1 ∷ host_id 0 ∷ [])
    (loop (heading 1) (binary operator.Less (scalar (field_id 0)) (number (pos 4)))
    (set_field (heading 2) (field_id 1) (increased 1 (scalar (field_id 0))) loop_end) done)

-- A branch of which the first block stands on another host, which is handed the right to go on.
abbrev pub branched : PlannedShape
branched =
    planned_on (a_host 1 ∷ a_host 0 ∷ []) ((0 ∷ 1 ∷ []) ∷ (1 ∷ 0 ∷ []) ∷ []) (1 ∷ 1 ∷ 0 ∷ 1 ∷ []) []
    (host_id 0 ∷ host_id 1 ∷ []) (host_id 0 ∷ host_id 0 ∷ host_id 1 ∷ host_id 0 ∷ [])
    (branch (heading 1) (binary operator.Less (scalar (field_id 0)) (number (pos 4)))
    (set_field (heading 2) (field_id 1) (increased 1 (number (pos 1))) done)
    (set_field (heading 3) (field_id 0) (increased 0 (number (pos 1))) done) done)

-- `x = m(3);`
abbrev pub calling : BlockTree
calling = call (heading 1) (site_id 1) (record { 0 = 1 }) (number (pos 3) ∷ []) (Some (var_id 0)) done

-- `return y + 1;`
abbrev pub returning : BlockTree
returning = give_back (heading 3) (binary operator.Add (local (var_id 1)) (number (pos 1))) done

-- `x = m(3);`, and `m(y) { return y + 1; }` on another host, which reads the parameter.
abbrev pub called : PlannedShape
called =
    planned_for
    (program_with [] (variable_of 0 ∷ variable_of 1 ∷ variable_of 1 ∷ [])
    (main_of calling
    ∷ record (main_of returning) {
      name = codes "m";
      params = var_id 1 ∷ [];
      result = Some (var_id 2);
      head = statement_id 2;
    } ∷ []))
    (a_host 1 ∷ a_host 0 ∷ []) ((0 ∷ 1 ∷ []) ∷ (1 ∷ 0 ∷ []) ∷ []) (1 ∷ 1 ∷ 0 ∷ 0 ∷ [])
    ([] ∷ (statement_id 3 ∷ []) ∷ [] ∷ []) [] (host_id 0 ∷ host_id 0 ∷ host_id 1 ∷ host_id 1 ∷ [])

-- `x = m(3); f = f + x;`, where the method stands on the host of the call, and the second statement on another.
abbrev pub kept_and_read : PlannedShape
kept_and_read =
    planned_for
    (program_with (a_field ∷ []) (variable_of 0 ∷ variable_of 1 ∷ variable_of 1 ∷ [])
    (main_of (call (heading 1) (site_id 1) (record { 0 = 1 }) (number (pos 3) ∷ []) (Some (var_id 0)) (adding 2 0 done))
    ∷ record (main_of (give_back (heading 4) (local (var_id 1)) done)) {
      name = codes "m";
      params = var_id 1 ∷ [];
      result = Some (var_id 2);
      head = statement_id 3;
    } ∷ []))
    (a_host 1 ∷ a_host 0 ∷ []) ((0 ∷ 1 ∷ []) ∷ (1 ∷ 0 ∷ []) ∷ []) (1 ∷ 1 ∷ 0 ∷ 0 ∷ 0 ∷ [])
    ((statement_id 2 ∷ []) ∷ (statement_id 4 ∷ []) ∷ [] ∷ []) (host_id 1 ∷ [])
    (host_id 0 ∷ host_id 0 ∷ host_id 1 ∷ host_id 0 ∷ host_id 0 ∷ [])

-- `a[f] = a[2] + 1;`
abbrev pub indexed : PlannedShape
indexed =
    planned_for
    (program_with (a_field ∷ an_array ∷ []) []
    (main_of (set_element (heading 1) (field_id 1) (scalar (field_id 0))
    (binary operator.Add (element (field_id 1) (number (pos 2))) (number (pos 1))) done) ∷ []))
    (a_host 0 ∷ []) ((0 ∷ []) ∷ []) (0 ∷ 0 ∷ []) [] (host_id 0 ∷ host_id 0 ∷ []) (host_id 0 ∷ host_id 0 ∷ [])

-- Two fields and two variables, of which one of each have the same label, and `main`, which begins with another one.
abbrev pub labelled_apart : PlannedShape
labelled_apart =
    planned_for
    (program_with (field_with (trusted_by 1) ∷ field_with (trusted_by 2) ∷ []) (variable_of 0 ∷ variable_of 0 ∷ [])
    (record (main_of done) { begin = trusted_by 4 } ∷ []))
    (a_host 0 ∷ []) ((0 ∷ []) ∷ []) (0 ∷ []) ([] ∷ [] ∷ []) (host_id 0 ∷ host_id 0 ∷ []) (host_id 0 ∷ [])

-- the labels of its code, by the words of those who trust them, where its variables have these labels
abbrev pub label_words : PlannedShape → List Label → List ℕ
label_words planned var_labels =
    map (λ label. label.trust) (code_labels (placed_with planned var_labels).labelled (emissions_on planned))
