-- Code of some small programs in which values ride, as the walk gives it and otherwise. What is known at its places is
-- written out.
use Rattle.std.specs.Prelude.{ℕ, List, [], ◌∷◌, ◌++◌, map, slice_get, unwrap_or, pos}
use Rattle.jif_tree.specs.Trees.{set_local, set_field, number, local}
use Rattle.host_code.specs.declared.instruction.Op.{Op}
use Rattle.host_code.specs.declared.instruction.Op.TheVariants as op
use Rattle.host_code.specs.Code.{CodeShape}
use Rattle.msg_cost.specs.Moves.{PlannedShape}
use Rattle.split_rules.specs.Emissions.{Emission, instruction}
use Rattle.split_rules.specs.OpenExamples.{placed_of, main_level, increase, setting, reading, tests_first}
use Rattle.split_rules.specs.Positions.{run, keep, body, under, Level, Argument, arguing, entering, Forward}
use Rattle.split_rules.specs.Positions.{Position, Entrance, calm, with_reads, with_forwards}
use Rattle.split_rules.specs.SplitCode.{emitted_on, code_of_emissions}
use Rattle.split_rules.specs.TypedCode.{Table, IsTypedCode}
use Rattle.split_rules.specs.Walk.{program_emissions}
use Rattle.split_rules.specs.Worked.{host_id, var_id, field_id, statement_id, heading, a_host, increased, planned_on}
use Rattle.split_rules.specs.Worked.{calling, returning}

-- ---- other instructions than those of the walk

-- in place of each instruction of the walk these, with its label and for its statement
abbrev pub with_instead : (Op → List Op) → List Emission → List Emission
with_instead instead [] = []
with_instead instead (instruction one ∷ others) =
    map (λ what. instruction (record one { op = what })) (instead one.op) ++ with_instead instead others
with_instead instead (emission ∷ others) = emission ∷ with_instead instead others

abbrev pub emissions_instead : PlannedShape → (Op → List Op) → List Emission
emissions_instead planned instead = with_instead instead (program_emissions (placed_of planned))

abbrev pub code_instead : PlannedShape → (Op → List Op) → CodeShape
code_instead planned instead =
    code_of_emissions (placed_of planned).labelled planned.hosts planned (emissions_instead planned instead)

abbrev pub first_instead : PlannedShape → (Op → List Op) → List Op
first_instead planned instead = map (λ one. one.op) (emitted_on (host_id 0) (emissions_instead planned instead))

-- there is a position for each place of this code by which it is typed
abbrev pub CanBeTyped : PlannedShape → (Op → List Op) → Type 0
CanBeTyped planned instead = (table : Table) × IsTypedCode planned (code_instead planned instead) table

-- the code of the walk
abbrev pub as_given : Op → List Op
as_given what = what ∷ []

-- the local is sent in place of riding
abbrev pub sent_instead : Op → List Op
sent_instead (op.GoWith there on riders) = op.Send (var_id 0) on ∷ op.Go there on ∷ []
sent_instead other = other ∷ []

-- it rides, and is sent too
abbrev pub sent_and_rides : Op → List Op
sent_and_rides (op.GoWith there on riders) = op.Send (var_id 0) on ∷ op.GoWith there on riders ∷ []
sent_and_rides other = other ∷ []

-- it does not ride, and is not sent
abbrev pub kept_back : Op → List Op
kept_back (op.GoWith there on riders) = op.Go there on ∷ []
kept_back other = other ∷ []

-- it is not sent, and rides where the thread is handed over
abbrev pub rides : Op → List Op
rides (op.Send x to) = []
rides (op.Go there on) = op.GoWith there on (var_id 0 ∷ []) ∷ []
rides other = other ∷ []

-- the parameter does not ride, and is not passed
abbrev pub kept_from_call : Op → List Op
kept_from_call (op.CallWith there on riders) = op.Call there on ∷ []
kept_from_call other = other ∷ []

-- ---- a local that is read on another host, which is handed the right to go on

abbrev pub entrance : Position → ℕ → Entrance
entrance position need = record { position = position; need = need }

-- these positions, one after another, at the places of each host
abbrev pub table_with : List Entrance → List (List Position) → Table
table_with entries positions = record {
  entries = entries;
  at = λ host place. unwrap_or (slice_get (unwrap_or (slice_get positions host) []) place) (calm main_level []);
}

-- the local is still to be sent to the other host
abbrev pub local_out : Position → Position
local_out here = with_forwards here (record { variable = var_id 0; host = host_id 1; source = setting } ∷ [])

abbrev pub ridden_table : Table
ridden_table =
    table_with
    (entrance (calm main_level []) 1
    ∷ entrance (calm main_level (run setting ∷ run reading ∷ [])) 1
    ∷ entrance (calm main_level (run reading ∷ [])) 0 ∷ [])
    ((calm main_level (run setting ∷ run reading ∷ [])
    ∷ local_out (calm main_level (run reading ∷ [])) ∷ [])
    ∷ (calm main_level (run reading ∷ [])
    ∷ tests_first (calm main_level (run reading ∷ []))
    ∷ calm main_level [] ∷ []) ∷ [])

-- where it is sent first
abbrev pub sent_first_table : Table
sent_first_table =
    table_with ridden_table.entries
    ((calm main_level (run setting ∷ run reading ∷ [])
    ∷ local_out (calm main_level (run reading ∷ []))
    ∷ calm main_level (run reading ∷ []) ∷ [])
    ∷ (calm main_level (run reading ∷ [])
    ∷ tests_first (calm main_level (run reading ∷ []))
    ∷ calm main_level [] ∷ []) ∷ [])

-- ---- a local that is read on another host, which is lent the right to go on, since it is not trusted for what follows

abbrev pub lent_local : PlannedShape
lent_local =
    planned_on (a_host 1 ∷ a_host 0 ∷ []) ((0 ∷ 1 ∷ []) ∷ (1 ∷ 0 ∷ []) ∷ []) (1 ∷ 1 ∷ 0 ∷ 1 ∷ [])
    (statement_id 2 ∷ []) (host_id 1 ∷ host_id 0 ∷ []) (host_id 0 ∷ host_id 0 ∷ host_id 1 ∷ host_id 0 ∷ [])
    (set_local (heading 1) (var_id 0) (number (pos 7))
    (set_field (heading 2) (field_id 0) (increased 0 (local (var_id 0))) (increase 3 1)))

-- The entry where the last statement is due is pushed, and what has still to be sent is so behind that as well.
abbrev pub lent_local_table : Table
lent_local_table =
    table_with
    (entrance (calm main_level []) 1
    ∷ entrance (calm main_level (run setting ∷ run reading ∷ run (increase 3 1) ∷ [])) 1
    ∷ entrance (calm main_level (run (increase 3 1) ∷ [])) 1
    ∷ entrance (calm (under 2) (run reading ∷ [])) 0 ∷ [])
    ((calm main_level (run setting ∷ run reading ∷ run (increase 3 1) ∷ [])
    ∷ local_out (calm main_level (run reading ∷ run (increase 3 1) ∷ []))
    ∷ local_out (calm (under 2) (run reading ∷ []))
    ∷ calm main_level (run (increase 3 1) ∷ [])
    ∷ with_reads (calm main_level (run (increase 3 1) ∷ []))
    (record { field = field_id 1; index = number (pos 0) } ∷ [])
    ∷ calm main_level [] ∷ [])
    ∷ (calm (under 2) (run reading ∷ [])
    ∷ tests_first (calm (under 2) (run reading ∷ []))
    ∷ calm (under 2) [] ∷ []) ∷ [])

-- The same where the way back is long, and the host of the last statement is asked for the entry.
abbrev pub lent_past_local : PlannedShape
lent_past_local =
    planned_on (a_host 3 ∷ a_host 0 ∷ a_host 1 ∷ [])
    ((0 ∷ 1 ∷ 1 ∷ []) ∷ (10 ∷ 0 ∷ 1 ∷ []) ∷ (1 ∷ 1 ∷ 0 ∷ []) ∷ []) (3 ∷ 3 ∷ 0 ∷ 1 ∷ [])
    (statement_id 2 ∷ []) (host_id 1 ∷ host_id 2 ∷ []) (host_id 0 ∷ host_id 0 ∷ host_id 1 ∷ host_id 2 ∷ [])
    (set_local (heading 1) (var_id 0) (number (pos 7))
    (set_field (heading 2) (field_id 0) (increased 0 (local (var_id 0))) (increase 3 1)))

-- ---- a parameter that is read on the host of the method

abbrev pub argument : Argument
argument = record { param = var_id 1; value = number (pos 3) }

-- the parameter is still to be sent to the host of the method
abbrev pub param_out : List Forward
param_out = record { variable = var_id 1; host = host_id 1; source = calling } ∷ []

-- the frame of the call is made, and then the parameter is set in it
abbrev pub framed : Position
framed = record (calm main_level (run calling ∷ [])) { calling = arguing calling [] (argument ∷ []) }

abbrev pub argued : Position
argued =
    record (with_forwards (calm main_level (run calling ∷ [])) param_out) {
      calling = arguing calling (argument ∷ []) [];
    }

abbrev pub called_level : Level
called_level = body (record { 0 = 1 })

abbrev pub called_table : Table
called_table =
    table_with
    (entrance (calm main_level []) 1
    ∷ entrance (calm main_level (run calling ∷ [])) 1
    ∷ entrance (calm called_level (run returning ∷ [])) 0
    ∷ entrance (calm main_level (keep calling ∷ [])) 1 ∷ [])
    ((calm main_level (run calling ∷ [])
    ∷ framed ∷ argued
    ∷ record (with_forwards (calm called_level (run returning ∷ [])) param_out) { calling = entering calling }
    ∷ calm main_level (keep calling ∷ [])
    ∷ calm main_level [] ∷ [])
    ∷ (calm called_level (run returning ∷ []) ∷ calm called_level [] ∷ []) ∷ [])
