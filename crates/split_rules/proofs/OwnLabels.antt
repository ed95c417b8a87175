-- The labels of hosts, fields and variables in split code are those of the host file and of the program.
use Rattle.std.proofs.Common.{◌≡◌, ◌∙◌, ℕ, List, ap, sym, subst, refl, inl, inr, arith, length}
use Rattle.std.specs.Prelude.{Option, Some, None, slice_get, slice_index, IsSomeAnd}
use Rattle.std.specs.Bool.{Decides}
use Rattle.std.specs.Option.{option_map}
use Rattle.std.specs.List.{zip}
use Rattle.std.proofs.lemmas.Option.{slice_get_within, slice_get_cases}
use Rattle.js_base.specs.declared.ids.HostId.{HostId}
use Rattle.js_base.specs.declared.ids.StmtId.{StmtId}
use Rattle.js_base.specs.declared.ids.FieldId.{FieldId}
use Rattle.js_base.specs.declared.ids.VarId.{VarId}
use Rattle.label_lattice.specs.declared.label.Label.{Label}
use Rattle.label_lattice.specs.Label.{IntegFlows, IsTrustedBy}
use Rattle.host_decl.specs.Hosts.{HostShape, HostsShape}
use Rattle.jif_tree.specs.Trees.{FieldTree, VarTree}
use Rattle.host_code.specs.Code.{CodeShape, CodeFieldShape, CodeVariableShape, field_at, variable_at}
use Rattle.entry_check.specs.Checks.{MayAffect, label_at}
use Rattle.need_labels.specs.Labelled.{Labelled}
use Rattle.msg_cost.specs.Moves.{PlannedShape, is_trusted_for}
use Rattle.msg_cost.proofs.Trusted.{test_decides}
use Rattle.split_rules.specs.Placed.{PlacedProgram, planned_from}
use Rattle.split_rules.specs.Emissions.{Emission}
use Rattle.split_rules.specs.Opening.{MayChange, MayChangeField, HasOwnLabels}
use Rattle.split_rules.specs.SplitCode.{code_labels, code_of_emissions, code_variable}
use Rattle.split_rules.proofs.CodeItems.{code_field, fields_numbered}
use Rattle.split_rules.proofs.NumberedLists.{made, zip_there}
use Rattle.split_rules.proofs.OpenStatements.{AffectsField, AffectsVariable}
use Rattle.split_rules.proofs.SoundInstructions.{mapped}
use Rattle.split_rules.proofs.ToldCode.{host_label, field_in_code, field_labelled, variable_in_code, variable_labelled}

module _ (labelled : Labelled) (hosts : HostsShape) (planned : PlannedShape) (emissions : List Emission)
    (label : Label) where
  abbrev code : CodeShape
  code = code_of_emissions labelled hosts planned emissions

  abbrev needed : List Label
  needed = code_labels labelled emissions

  abbrev Affects : Option Label → Type 0
  Affects it = MayAffect (Some label) it

  field_affected : (field : FieldId) → MayChangeField code label field → AffectsField labelled label field
  field_affected field may = by (field_at code field) refl may
    where
      by : (found : Option CodeFieldShape) → field_at code field ≡ found →
          IsSomeAnd found (λ there. Affects (label_at code there.label)) → AffectsField labelled label field
      by None is never = absurd never
      by (Some there) is own =
          let make = code_field needed planned.plan in
          let so = made make labelled.program.fields field.0 there
          (ap (λ list. slice_get list field.0)
          (sym (fields_numbered needed planned.plan 0 labelled.program.fields)) ∙ is) in
          let P : Option FieldTree → Type 0 = λ it. IsSomeAnd it (λ tree. IntegFlows label tree.label) in
          let Q : CodeFieldShape → Type 0 = λ it. Affects (label_at code it.label) in
          let flows : IntegFlows label so.of.label = subst Affects
          (field_labelled labelled hosts planned emissions field so.of so.there) (subst Q so.is own) in
          subst P (sym so.there) flows

  field_changed : (field : FieldId) → AffectsField labelled label field → MayChangeField code label field
  field_changed field affects = by (slice_get labelled.program.fields field.0) refl affects
    where
      by : (found : Option FieldTree) → slice_get labelled.program.fields field.0 ≡ found →
          IsSomeAnd found (λ tree. IntegFlows label tree.label) → MayChangeField code label field
      by None is never = absurd never
      by (Some tree) is flows =
          let P : Option CodeFieldShape → Type 0 = λ it. IsSomeAnd it (λ there. Affects (label_at code there.label)) in
          subst P (sym (field_in_code labelled hosts planned emissions field tree is))
          (subst Affects (sym (field_labelled labelled hosts planned emissions field tree is)) flows)

  variable_affected : (x : VarId) → MayChange code label x → AffectsVariable labelled label x
  variable_affected x may = by (variable_at code x) refl may
    where
      by : (found : Option CodeVariableShape) → variable_at code x ≡ found →
          IsSomeAnd found (λ there. Affects (label_at code there.label)) → AffectsVariable labelled label x
      by None is never = absurd never
      by (Some there) is own =
          let make = code_variable labelled.program needed in
          let so = mapped make (zip labelled.program.vars labelled.var_labels) x.0 there is in
          let both = zip_there labelled.program.vars labelled.var_labels x.0 so.0 so.1 in
          let P : Option Label → Type 0 = λ it. IsSomeAnd it (IntegFlows label) in
          let Q : CodeVariableShape → Type 0 = λ it. Affects (label_at code it.label) in
          let flows : IntegFlows label so.0.1 = subst Affects
          (variable_labelled labelled hosts planned emissions x so.0.1 both.1) (subst Q (sym so.2) own) in
          subst P (sym both.1) flows

  variable_changed : (x : VarId) → length labelled.var_labels ≡ length labelled.program.vars →
      AffectsVariable labelled label x → MayChange code label x
  variable_changed x many affects = by (slice_get labelled.var_labels x.0) refl affects
    where
      with_variable : (own : Label) → slice_get labelled.var_labels x.0 ≡ Some own → IntegFlows label own →
          (variable : VarTree) → slice_get labelled.program.vars x.0 ≡ Some variable → MayChange code label x
      with_variable own is flows variable there =
          let P : Option CodeVariableShape → Type 0 = λ it. IsSomeAnd it (λ one. Affects (label_at code one.label)) in
          subst P (sym (variable_in_code labelled hosts planned emissions x variable own there is))
          (subst Affects (sym (variable_labelled labelled hosts planned emissions x own is)) flows)

      by : (found : Option Label) → slice_get labelled.var_labels x.0 ≡ found → IsSomeAnd found (IntegFlows label) →
          MayChange code label x
      by None is never = absurd never
      by (Some own) is flows =
          let within = slice_get_within labelled.var_labels x.0 own is in
          elim ((slice_get_cases labelled.program.vars x.0).1) [
            | inl there ↦ with_variable own is flows there.0 there.2
            | inr past ↦ absurd (let over = past.0 in omega arith)
          ]

-- ---- hosts

host_trusted : (planned : PlannedShape) (host : HostId) (label : Label) (statement : StmtId) →
    option_map (λ row. row.label) (slice_get planned.hosts.hosts host.0) ≡ Some label →
    Decides (is_trusted_for planned host statement) (IsTrustedBy label (slice_index planned.needs.need statement.0))
host_trusted planned host label statement label_is = by (slice_get planned.hosts.hosts host.0) refl label_is
  where
    need : ℕ
    need = slice_index planned.needs.need statement.0

    by : (found : Option HostShape) → slice_get planned.hosts.hosts host.0 ≡ found →
        option_map (λ row. row.label) found ≡ Some label →
        Decides (is_trusted_for planned host statement) (IsTrustedBy label need)
    by None is none = absurd (cc)
    by (Some row) is own =
        let same : row.label ≡ label = cc in
        let P : Label → Type 0 = λ it. Decides (is_trusted_for planned host statement) (IsTrustedBy it need) in
        subst P same (rw is (test_decides row.label need))

pub own_labels : (placed : PlacedProgram) (emissions : List Emission) →
    length placed.labelled.var_labels ≡ length placed.labelled.program.vars →
    let planned = planned_from placed in
    HasOwnLabels placed.labelled planned (code_of_emissions placed.labelled placed.hosts planned emissions)
own_labels placed emissions many =
    let planned = planned_from placed in
    let of_host = host_label placed.labelled placed.hosts planned emissions in
    record {
      of_hosts = of_host;
      of_fields = λ label field. (
        field_affected placed.labelled placed.hosts planned emissions label field,
        field_changed placed.labelled placed.hosts planned emissions label field,
      );
      of_variables = λ label x. (
        variable_affected placed.labelled placed.hosts planned emissions label x,
        variable_changed placed.labelled placed.hosts planned emissions label x many,
      );
      of_trust = λ host label statement label_is.
          host_trusted planned host label statement (sym (of_host host) ∙ label_is);
    }
