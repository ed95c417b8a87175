-- The code that is put together from the trace of a program is the code of the split program.
use Rattle.std.proofs.Common.{◌≡◌, suc, ◌≤◌, List, [], ◌++◌, map, length, refl, sym, ap, ◌∙◌, subst, arith}
use Rattle.std.specs.List.{zip, flat_map}
use Rattle.label_lattice.specs.declared.label.Label.{Label}
use Rattle.host_decl.specs.Hosts.{HostsShape}
use Rattle.host_code.specs.declared.code.Entry.{Entry}
use Rattle.host_code.specs.declared.instruction.Instr.{Instr}
use Rattle.host_code.specs.Code.{CodeShape, CodeFieldShape, CodeVariableShape}
use Rattle.jif_tree.specs.LabelRules.{method_at}
use Rattle.need_labels.specs.Labelled.{Labelled}
use Rattle.msg_cost.specs.Moves.{PlannedShape, called_home}
use Rattle.split_rules.specs.Emissions.{Emission, Counts, counts_after}
use Rattle.split_rules.specs.Settled.{AreSettled}
use Rattle.split_rules.specs.SplitCode.{with_labels, label_of_emission, code_labels}
use Rattle.split_rules.specs.SplitCode.{placed_code_fields, code_variable, site_hosts, code_of_emissions}
use Rattle.split_rules.specs.Walk.{entry_id}
use Rattle.control_split.specs.declared.parts.TheConstants.{HOST_NUMBERS}
use Rattle.control_split.specs.declared.trace.TraceItem.{TraceItem}
use Rattle.control_split.specs.Assembly.{AssemblyShape, first_assembly, assembled, settled_parts, settled_entries}
use Rattle.control_split.specs.Tables.{naming, code_hosts}
use Rattle.control_split.specs.Trace.{TraceShape, first_trace, no_counts, traced}
use Rattle.control_split.proofs.LabelPlaces.{with_labels_append}
use Rattle.control_split.proofs.LabelPlaces.{traced_labels, traced_items}
use Rattle.control_split.proofs.SplitParts.{parts_are, entries_are, entries_count}
use Rattle.control_split.proofs.TableRows.{all_named, rows_kept, variables_kept}
use Rattle.control_split.proofs.Traces.{traced_counts}

-- ---- the code

-- the trace behind the fields, and behind the variables
abbrev pub field_trace : Labelled → TraceShape
field_trace labelled = naming first_trace (map (λ field. field.label) labelled.program.fields)

abbrev pub variable_trace : Labelled → TraceShape
variable_trace labelled = naming (field_trace labelled) labelled.var_labels

labels_are : (labelled : Labelled) (emissions : List Emission) →
    (traced (variable_trace labelled) emissions).labels ≡ code_labels labelled emissions
labels_are labelled emissions =
    let fields = map (λ field. field.label) labelled.program.fields in
    let given = flat_map label_of_emission emissions in
    traced_labels (variable_trace labelled) emissions
    ∙ ap (λ there. with_labels there given) (sym (with_labels_append [] fields labelled.var_labels))
    ∙ sym (with_labels_append [] (fields ++ labelled.var_labels) given)

-- the code of these fields, variables, labels, entries and parts
abbrev pub code_with : Labelled → HostsShape → PlannedShape → List Label → List CodeFieldShape →
    List CodeVariableShape → List Entry → List (List Instr) → CodeShape
code_with labelled hosts planned labels fields variables entries parts = record {
  hosts = code_hosts hosts.hosts;
  labels = labels;
  fields = fields;
  variables = variables;
  entries = entries;
  sites = flat_map (λ method. site_hosts planned.plan method.body) labelled.program.methods;
  parts = parts;
  root = called_home planned (method_at labelled.program labelled.program.main);
  main = entry_id (suc labelled.program.main.0);
}

pub code_is : (labelled : Labelled) (hosts : HostsShape) (planned : PlannedShape) (emissions : List Emission) →
    length hosts.hosts ≤ HOST_NUMBERS →
    AreSettled (length hosts.hosts) (counts_after no_counts emissions).branches emissions →
    let trace = traced (variable_trace labelled) emissions in
    let assembly = assembled (first_assembly trace.counts) trace.items in
    code_with labelled hosts planned trace.labels
    (placed_code_fields (field_trace labelled).labels planned.plan 0 labelled.program.fields)
    (map (code_variable labelled.program (variable_trace labelled).labels)
    (zip labelled.program.vars labelled.var_labels))
    (settled_entries assembly 0 assembly.entries) (settled_parts assembly (length hosts.hosts))
    ≡ code_of_emissions labelled hosts planned emissions
code_is labelled hosts planned emissions few settled =
    let program = labelled.program in
    let names = map (λ field. field.label) program.fields in
    let given = flat_map label_of_emission emissions in
    let trace = traced (variable_trace labelled) emissions in
    let counts = traced_counts (variable_trace labelled) emissions in
    let S : Counts → Type 0 = λ there. AreSettled (length hosts.hosts) there.branches emissions in
    let settled_there = subst S (sym counts) settled in
    let entry_count = ap (λ (there : Counts). there.entries) counts ∙ entries_count no_counts emissions
    ∙ omega arith in
    let labels = labels_are labelled emissions in
    let later = traced_labels (variable_trace labelled) emissions in
    let items = traced_items (variable_trace labelled) emissions in
    let A : List TraceItem → AssemblyShape = λ all. assembled (first_assembly trace.counts) all in
    let fields = ap (λ there. placed_code_fields there planned.plan 0 program.fields)
    (later ∙ sym (with_labels_append (field_trace labelled).labels labelled.var_labels given))
    ∙ rows_kept (field_trace labelled).labels (labelled.var_labels ++ given) planned.plan 0 program.fields
    (all_named [] names) in
    let variables = ap (λ there. map (code_variable program there) (zip program.vars labelled.var_labels)) later
    ∙ variables_kept (variable_trace labelled).labels given program program.vars labelled.var_labels
    (all_named (field_trace labelled).labels labelled.var_labels) in
    let entries = ap (λ all. settled_entries (A all) 0 (A all).entries) items
    ∙ entries_are trace.counts trace.labels emissions (length hosts.hosts) few entry_count settled_there in
    let parts = ap (λ all. settled_parts (A all) (length hosts.hosts)) items
    ∙ parts_are trace.counts trace.labels emissions (length hosts.hosts) few settled_there in
    rw (sym fields, sym variables, entries, parts, labels) refl
