-- The code of a split program has the labels of its fields and variables, and its hosts may see what the plan lets
-- them.
use Rattle.std.proofs.Common.{◌≡◌, ◌∙◌, List, ap, sym, subst}
use Rattle.std.specs.Prelude.{Option, Some, None, slice_get, unwrap_or}
use Rattle.std.specs.List.{zip}
use Rattle.std.specs.Option.{option_map}
use Rattle.js_base.specs.declared.ids.HostId.{HostId}
use Rattle.js_base.specs.declared.ids.FieldId.{FieldId}
use Rattle.js_base.specs.declared.ids.VarId.{VarId}
use Rattle.label_lattice.specs.declared.label.Label.{Label}
use Rattle.label_lattice.specs.Lattice.{empty_label}
use Rattle.host_decl.specs.Hosts.{HostsShape}
use Rattle.jif_tree.specs.Trees.{FieldTree}
use Rattle.jif_tree.specs.LabelRules.{field_label}
use Rattle.host_code.specs.Code.{CodeFieldShape, CodeVariableShape, field_at, variable_at}
use Rattle.entry_check.specs.Checks.{MaySee, label_at, label_of_host}
use Rattle.need_labels.specs.Labelled.{Labelled}
use Rattle.need_labels.specs.Needs.{label_of}
use Rattle.need_labels.specs.Plan.{field_host}
use Rattle.msg_cost.specs.Moves.{PlannedShape}
use Rattle.split_rules.specs.Placed.{PlacedProgram, planned_from}
use Rattle.split_rules.specs.Allowed.{IsAllowed}
use Rattle.split_rules.specs.Emissions.{Emission}
use Rattle.split_rules.specs.Held.{IsWellHeld}
use Rattle.split_rules.specs.SplitCode.{code_labels, code_variable, code_of_emissions}
use Rattle.split_rules.specs.SplitCode.{split_code}
use Rattle.split_rules.specs.Splittable.{IsSplittable}
use Rattle.split_rules.specs.Walk.{program_emissions}
use Rattle.split_rules.proofs.CodeItems.{code_field, fields_numbered}
use Rattle.split_rules.proofs.NumberedLists.{made, zip_there}
use Rattle.split_rules.proofs.SeenLabels.{label_of_found}
use Rattle.split_rules.proofs.SeenPrograms.{Premises, program_well}
use Rattle.split_rules.proofs.SoundInstructions.{mapped}
use Rattle.split_rules.proofs.ToldCode.{sees_in_code, field_labelled, variable_labelled}
use Rattle.split_shades.specs.ShadedCode.{AreKnownInCode}

variable_known : (labelled : Labelled) (hosts : HostsShape) (planned : PlannedShape) (emissions : List Emission)
    (x : VarId) (there : CodeVariableShape) →
    let code = code_of_emissions labelled hosts planned emissions in
    variable_at code x ≡ Some there → label_at code there.label ≡ Some (label_of labelled x)
variable_known labelled hosts planned emissions x there is =
    let code = code_of_emissions labelled hosts planned emissions in
    let make = code_variable labelled.program (code_labels labelled emissions) in
    let so = mapped make (zip labelled.program.vars labelled.var_labels) x.0 there is in
    let label = so.0.1 in
    let own = (zip_there labelled.program.vars labelled.var_labels x.0 so.0 so.1).1 in
    let found : Option Label → Label = λ it. unwrap_or (unwrap_or (option_map Some it) None) empty_label in
    let same : label_of labelled x ≡ label = label_of_found labelled x ∙ ap found own in
    ap (λ (one : CodeVariableShape). label_at code one.label) (sym so.2)
    ∙ variable_labelled labelled hosts planned emissions x label own ∙ ap Some (sym same)

field_known : (placed : PlacedProgram) (emissions : List Emission) →
    Premises placed → (field : FieldId) (there : CodeFieldShape) →
    let code = code_of_emissions placed.labelled placed.hosts (planned_from placed) emissions in
    field_at code field ≡ Some there →
    (label_at code there.label ≡ Some (field_label placed.labelled.program field))
    × (there.host ≡ field_host placed.plan field)
    × MaySee (label_at code there.label) (label_of_host code there.host)
field_known placed emissions premises field there is =
    let planned = planned_from placed in
    let code = code_of_emissions placed.labelled placed.hosts planned emissions in
    let needed = code_labels placed.labelled emissions in
    let so = made (code_field needed placed.plan) placed.labelled.program.fields field.0 there
    (ap (λ list. slice_get list field.0) (sym (fields_numbered needed placed.plan 0 placed.labelled.program.fields))
    ∙ is) in
    let own : field_label placed.labelled.program field ≡ so.of.label =
    ap (λ found. unwrap_or (option_map (λ (it : FieldTree). it.label) found) empty_label) so.there in
    let label_is : label_at code there.label ≡ Some (field_label placed.labelled.program field) =
    ap (λ (one : CodeFieldShape). label_at code one.label) so.is
    ∙ field_labelled placed.labelled placed.hosts planned emissions field so.of so.there ∙ ap Some (sym own) in
    let host_is : there.host ≡ field_host placed.plan field = ap (λ (one : CodeFieldShape). one.host) so.is in
    let sees = sees_in_code placed emissions (field_host placed.plan field)
    (field_label placed.labelled.program field)
    ((program_well placed premises).fields field so.of so.there) in
    let P : Option Label → Type 0 = λ found. MaySee found (label_of_host code (field_host placed.plan field)) in
    let Q : HostId → Type 0 = λ host. MaySee (label_at code there.label) (label_of_host code host) in
    (label_is, host_is, subst Q (sym host_is) (subst P (sym label_is) sees))

pub split_is_known : (placed : PlacedProgram) → IsSplittable placed → IsAllowed placed → IsWellHeld placed →
    AreKnownInCode (record { principals = placed.hosts.principals; labelled = placed.labelled })
    (planned_from placed) (split_code placed)
split_is_known placed splittable allowed held =
    let planned = planned_from placed in
    let emissions = program_emissions placed in
    let premises : Premises placed =
    record { splittable = splittable; allowed = allowed; held = held } in
    record {
      fields = field_known placed emissions premises;
      variables = variable_known placed.labelled placed.hosts planned emissions;
      hosts = sees_in_code placed emissions;
    }
