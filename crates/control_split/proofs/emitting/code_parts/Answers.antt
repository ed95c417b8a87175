use Rattle.std.proofs.Common.{◌≡◌, ◌∙◌, ◌≤◌, List, length, map, refl, ap, subst, arith}
use Rattle.std.specs.List.{zip}
use Rattle.std.proofs.lemmas.List.{length-map}
use Rattle.host_decl.specs.Hosts.{HostShape}
use Rattle.jif_tree.specs.LabelRules.{method_at}
use Rattle.msg_cost.specs.Moves.{PlannedShape, called_home}
use Rattle.split_rules.specs.SplitCode.{placed_code_fields, code_variable}
use Rattle.split_rules.specs.Walk.{program_emissions}
use Rattle.control_split.specs.declared.parts.TheConstants.{HOST_NUMBERS}
use Rattle.control_split.specs.Assembly.{AssemblyShape, first_assembly, assembled, settled_entries, settled_parts}
use Rattle.control_split.specs.Tables.{naming, code_hosts}
use Rattle.control_split.specs.Trace.{TraceShape, traced}
use Rattle.control_split.specs.Views.{labelled_in, placed_in, planned_in}
use Rattle.control_split.proofs.SizedMethods.{sized_methods}
use Rattle.control_split.proofs.WholeCode.{field_trace, variable_trace, code_is}
use Rattle.control_split.proofs.emitting.code_parts.Goals as goal

pub program-requires-clause-sized : goal.program-requires-clause-sized
program-requires-clause-sized c =
    sized_methods (labelled_in c.args.split.now).program.methods c.requires.splittable.within.nodes

pub returns : goal.returns
returns c =
    let split = c.args.split.now in
    let labelled = labelled_in split in
    let program = labelled.program in
    let hosts = split.hosts.now in
    let planned = planned_in split in
    let emissions = program_emissions (placed_in split) in
    let whole = traced (variable_trace labelled) emissions in
    let first : c.code_fields.new.trace ≡ field_trace labelled =
    c.in_ok-fields.ensures.trace
    ∙ ap (λ (trace : TraceShape). naming trace (map (λ field. field.label) program.fields)) c.new-trace.ensures in
    let second : c.code_vars.new.trace ≡ variable_trace labelled =
    c.in_ok-vars.ensures.trace ∙ ap (λ (trace : TraceShape). naming trace labelled.var_labels) first in
    let third : c.program.new.trace ≡ whole =
    c.in_ok-program.ensures ∙ ap (λ (trace : TraceShape). traced trace emissions) second in
    let labels = c.in_ok-labels.ensures ∙ ap (λ (trace : TraceShape). trace.labels) third in
    let items = c.into_items-items.ensures ∙ ap (λ (trace : TraceShape). trace.items) third in
    let entry_count = c.entries-entry_count.ensures ∙ ap (λ (trace : TraceShape). trace.counts.entries) third in
    let branch_count = c.branches-branch_count.ensures ∙ ap (λ (trace : TraceShape). trace.counts.branches) third in
    let made : AssemblyShape = assembled (first_assembly whole.counts) whole.items in
    let assembly : c.in_ok-assembly.assembly ≡ made =
    c.in_ok-assembly.ensures ∙ rw (entry_count, branch_count, items) refl in
    let fields = c.in_ok-fields.ensures.rows
    ∙ ap (λ (trace : TraceShape). placed_code_fields trace.labels split.plan.now 0 program.fields) first in
    let vars = c.in_ok-vars.ensures.rows
    ∙ ap (λ (trace : TraceShape). map (code_variable program trace.labels) (zip program.vars labelled.var_labels))
    second in
    let rows = c.hosts-rows.ensures.hosts in
    let host_rows = c.in_ok-hosts.ensures ∙ ap code_hosts rows in
    let entries = c.in_ok-entries.ensures
    ∙ ap (λ (there : AssemblyShape). settled_entries there 0 there.entries) assembly in
    let parts = c.in_ok-parts.ensures
    ∙ ap (λ (there : AssemblyShape). settled_parts there (length c.hosts-rows.result.now)) assembly
    ∙ ap (λ (there : List HostShape). settled_parts made (length there)) rows in
    let R : PlannedShape → Type 0 = λ there.
    c.called_home-root.result ≡ called_home there (method_at there.program program.main) in
    let root = subst R c.planned.ensures c.called_home-root.ensures in
    let settled = c.split_laws.ensures.settled (placed_in split) c.requires.splittable in
    let few : length hosts.hosts ≤ HOST_NUMBERS =
    omega (
      arith,
      c.requires.splittable.are_hosts.names.few,
      length-map hosts.hosts (λ (host : HostShape). host.name),
    ) in
    rw (host_rows, labels, fields, vars, entries, c.in_ok-sites.ensures, parts, root, c.in_ok-main.ensures)
    (code_is labelled hosts planned emissions few settled)
