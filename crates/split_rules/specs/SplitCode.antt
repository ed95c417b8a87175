-- The code of a split program, read off what the walk gives.
--
-- Labels of a code stand in the order in which the walk first needs them. Those of fields and variables come first. An
-- instruction has the label of the last entry of its block, so instructions bring no label that the entries have not,
-- and one list over all emissions gives the same order as entries before instructions.
use Rattle.std.specs.Prelude.{ℕ, suc, Bool, true, false, ◌&&◌, nat_eq, if◌then◌else◌}
use Rattle.std.specs.Prelude.{List, [], ◌∷◌, ◌++◌, map, length, unwrap_or, codes}
use Rattle.std.specs.List.{flat_map, list_any, range_with_len, zip}
use Rattle.std.specs.Option.{option_map}
use Rattle.js_base.specs.declared.ids.HostId.{HostId}
use Rattle.js_base.specs.declared.ids.MethodId.{MethodId}
use Rattle.label_lattice.specs.declared.label.Label.{Label}
use Rattle.host_decl.specs.Hosts.{HostsShape}
use Rattle.jif_tree.specs.Trees.{BlockTree, done, set_local, set_field, set_element, branch, loop, call, give_back}
use Rattle.jif_tree.specs.Trees.{FieldTree, VarTree, ProgramTree}
use Rattle.jif_tree.specs.LabelRules.{method_at}
use Rattle.host_code.specs.declared.code.Entry.{Entry}
use Rattle.host_code.specs.declared.instruction.Instr.{Instr}
use Rattle.host_code.specs.declared.instruction.Op.{Op}
use Rattle.host_code.specs.declared.instruction.Op.TheVariants as op
use Rattle.host_code.specs.Code.{CodeFieldShape, CodeVariableShape, CodeShape}
use Rattle.need_labels.specs.Labelled.{Labelled}
use Rattle.need_labels.specs.Plan.{PlanShape, field_host, statement_host}
use Rattle.msg_cost.specs.Moves.{PlannedShape, called_home}
use Rattle.split_rules.specs.Placed.{PlacedProgram, planned_from}
use Rattle.split_rules.specs.Emissions.{Emission, instruction, entry, stands, lands, Emitted, NamedEntry}
use Rattle.split_rules.specs.Walk.{program_emissions, entry_id}

-- ---- places

-- the instructions of a host, in order
abbrev pub emitted_on : HostId → List Emission → List Emitted
emitted_on host [] = []
emitted_on host (instruction one ∷ others) =
    if nat_eq one.host.0 host.0 then one ∷ emitted_on host others else emitted_on host others
emitted_on host (entry named ∷ others) = emitted_on host others
emitted_on host (stands on number ∷ others) = emitted_on host others
emitted_on host (lands on number ∷ others) = emitted_on host others

-- what is given before the entry of a number stands
abbrev pub before_entry : ℕ → List Emission → List Emission
before_entry number [] = []
before_entry number (stands on other ∷ others) =
    if nat_eq other number then [] else stands on other ∷ before_entry number others
before_entry number (emission ∷ others) = emission ∷ before_entry number others

-- what is given before it is known where the branch of a number leads
abbrev pub before_landing : ℕ → List Emission → List Emission
before_landing number [] = []
before_landing number (lands on other ∷ others) =
    if nat_eq other number then [] else lands on other ∷ before_landing number others
before_landing number (emission ∷ others) = emission ∷ before_landing number others

-- ---- labels

abbrev pub same_words : List ℕ → List ℕ → Bool
same_words [] [] = true
same_words [] (other ∷ others) = false
same_words (word ∷ words) [] = false
same_words (word ∷ words) (other ∷ others) = nat_eq word other && same_words words others

abbrev pub same_label : Label → Label → Bool
same_label first second = same_words first.rows second.rows && nat_eq first.trust second.trust

-- labels as they are first needed, behind those that are there
abbrev pub with_labels : List Label → List Label → List Label
with_labels there [] = there
with_labels there (label ∷ needed) =
    if list_any (same_label label) there then with_labels there needed else with_labels (there ++ label ∷ []) needed

-- the place of a label among labels, counted on from a number
abbrev pub label_place : ℕ → Label → List Label → ℕ
label_place number label [] = number
label_place number label (other ∷ others) =
    if same_label label other then number else label_place (suc number) label others

-- ---- what a code has

abbrev pub label_of_emission : Emission → List Label
label_of_emission (instruction one) = one.label ∷ []
label_of_emission (entry named) = named.label ∷ []
label_of_emission (stands on number) = []
label_of_emission (lands on number) = []

abbrev pub entries_in : List Emission → List NamedEntry
entries_in [] = []
entries_in (entry named ∷ others) = named ∷ entries_in others
entries_in (emission ∷ others) = entries_in others

-- The labels of a code: those of the fields, of the variables, and of the entries and instructions. The label of an
-- instruction is that of the last entry of its block, so instructions bring no label that the entries have not.
abbrev pub code_labels : Labelled → List Emission → List Label
code_labels labelled emissions =
    with_labels [] (map (λ field. field.label) labelled.program.fields ++ labelled.var_labels
    ++ flat_map label_of_emission emissions)

abbrev pub landed : HostId → List Emission → Op → Op
landed host emissions (op.Branch guard number) =
    op.Branch guard (length (emitted_on host (before_landing number emissions)))
landed host emissions other = other

abbrev pub placed_instruction : List Label → List Emission → Emitted → Instr
placed_instruction labels emissions one = record {
  label = label_place 0 one.label labels;
  statement = one.statement;
  op = landed one.host emissions one.op;
}

abbrev pub part_on : List Label → List Emission → HostId → List Instr
part_on labels emissions host = map (placed_instruction labels emissions) (emitted_on host emissions)

-- the entries, of which the first has this number
abbrev pub placed_entries : List Label → List Emission → ℕ → List NamedEntry → List Entry
placed_entries labels emissions number [] = []
placed_entries labels emissions number (named ∷ others) =
    record {
      host = named.host;
      at = length (emitted_on named.host (before_entry number emissions));
      label = label_place 0 named.label labels;
      need = named.need;
    } ∷ placed_entries labels emissions (suc number) others

-- the hosts of the calls of a block, with those in the blocks inside it, in the order of their sites
abbrev pub site_hosts : PlanShape → BlockTree → List HostId
site_hosts plan done = []
site_hosts plan (set_local heading variable value rest) = site_hosts plan rest
site_hosts plan (set_field heading field value rest) = site_hosts plan rest
site_hosts plan (set_element heading field index value rest) = site_hosts plan rest
site_hosts plan (branch heading guard first second rest) =
    site_hosts plan first ++ site_hosts plan second ++ site_hosts plan rest
site_hosts plan (loop heading guard body rest) = site_hosts plan body ++ site_hosts plan rest
site_hosts plan (call heading site method args into rest) = statement_host plan heading.id ∷ site_hosts plan rest
site_hosts plan (give_back heading value rest) = site_hosts plan rest

-- the fields, of which the first has this number
abbrev pub placed_code_fields : List Label → PlanShape → ℕ → List FieldTree → List CodeFieldShape
placed_code_fields labels plan number [] = []
placed_code_fields labels plan number (field ∷ fields) =
    record {
      name = field.name;
      label = label_place 0 field.label labels;
      size = field.size;
      array = field.array;
      first = field.first;
      host = field_host plan (record { 0 = number });
    } ∷ placed_code_fields labels plan (suc number) fields

abbrev pub method_name : ProgramTree → MethodId → List ℕ
method_name program method = unwrap_or (option_map (λ tree. tree.name) (method_at program method)) []

-- a variable is named by its method and its own name
abbrev pub code_variable : ProgramTree → List Label → VarTree × Label → CodeVariableShape
code_variable program labels (variable, label) = record {
  name = method_name program variable.method ++ codes "." ++ variable.name;
  label = label_place 0 label labels;
}

-- ---- the code

abbrev pub code_of_emissions : Labelled → HostsShape → PlannedShape → List Emission → CodeShape
code_of_emissions labelled hosts planned emissions =
    let program = labelled.program in
    let labels = code_labels labelled emissions in
    record {
      hosts = map (λ host. record { name = host.name; label = host.label }) hosts.hosts;
      labels = labels;
      fields = placed_code_fields labels planned.plan 0 program.fields;
      variables = map (code_variable program labels) (zip program.vars labelled.var_labels);
      entries = placed_entries labels emissions 0 (entries_in emissions);
      sites = flat_map (λ method. site_hosts planned.plan method.body) program.methods;
      parts = map (λ number. part_on labels emissions (record { 0 = number }))
          (range_with_len 0 (length hosts.hosts));
      root = called_home planned (method_at program program.main);
      main = entry_id (suc program.main.0);
    }

-- the code of a program that is split by a plan
abbrev pub split_code : PlacedProgram → CodeShape
split_code placed =
    let planned = planned_from placed in
    code_of_emissions placed.labelled placed.hosts planned (program_emissions placed)
