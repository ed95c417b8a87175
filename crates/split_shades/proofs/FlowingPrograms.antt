-- In a program that was checked and placed, the values of each method flow to where they are kept.
use Rattle.std.proofs.Common.{◌≡◌, ◌∙◌, ℕ, suc, List, [], ◌∷◌, length, refl, subst}
use Rattle.std.specs.List.{AllByRecursion, flat_map}
use Rattle.std.proofs.lemmas.List.{length-map}
use Rattle.principals.specs.ActsFor.{Declared}
use Rattle.jif_tree.specs.Trees.{MethodTree}
use Rattle.jif_tree.specs.LabelRules.{VariableLabels, setting_of, labels_after, labels_after_methods, block_labels}
use Rattle.jif_tree.specs.LabelRules.{methods_labels, program_labels, declared_labels, Meets, obligations_of}
use Rattle.jif_tree.specs.Labelling.{AreLabelledMethods}
use Rattle.jif_tree.specs.ValueLabels.{AreAllValuesLabelled}
use Rattle.jif_tree.specs.WellNumbered.{AreMethodsIn, is_some}
use Rattle.jif_tree.proofs.LabelsKept.{Stay, stay_same, stay_then, block_stays}
use Rattle.need_labels.specs.Labelled.{Labelled}
use Rattle.need_labels.specs.Needs.{block_uses, method_uses, statement_uses}
use Rattle.msg_cost.specs.Moves.{PlannedShape}
use Rattle.split_rules.specs.Placed.{PlacedProgram, planned_from}
use Rattle.split_rules.specs.Allowed.{IsAllowed}
use Rattle.split_rules.specs.Held.{IsWellHeld}
use Rattle.split_rules.specs.Splittable.{IsSplittable}
use Rattle.split_rules.proofs.AllowedTyping.{by_recursion, each_there, met_from, methods_stay}
use Rattle.split_rules.proofs.BackedLabels.{all_first, all_second}
use Rattle.split_rules.proofs.LabelsKept.{AreFinal}
use Rattle.split_rules.proofs.SeenBlocks.{IsUseWell, IsMet, IsKept, AreLabelsKept, AreUsesWell}
use Rattle.split_rules.proofs.SeenPrograms.{Premises, use_well, labels_kept, program_well}
use Rattle.split_shades.specs.Flows.{AreResultsLabelled, MethodFlows, AllFlow}
use Rattle.split_shades.proofs.BasisLabels.{basis_of}
use Rattle.split_shades.proofs.FlowingBlocks.{block_flows}

methods_flow : (principals : Declared) (labelled : Labelled) (planned : PlannedShape) →
    AreResultsLabelled labelled.program → (final : VariableLabels) → AreFinal labelled final → (place : ℕ)
    (methods : List MethodTree) (labels : VariableLabels) → length labels ≡ length labelled.program.vars →
    Stay (declared_labels labelled.program) labels →
    labels_after_methods principals labelled.program labels methods ≡ final →
    AreMethodsIn labelled.program place methods →
    AreLabelledMethods principals labelled.program labels methods →
    AreAllValuesLabelled principals labelled.program labels methods →
    AllByRecursion (IsMet principals) (methods_labels principals labelled.program labels methods) →
    AreLabelsKept labelled (methods_labels principals labelled.program labels methods) →
    AreUsesWell labelled planned principals (flat_map (method_uses principals labelled) methods) →
    AllByRecursion (MethodFlows (basis_of principals labelled) planned) methods
methods_flow principals labelled planned results final are place [] labels many since end there has values met kept
    uses =
    tt
methods_flow principals labelled planned results final are place (method ∷ methods) labels many since end there has
    values met kept uses =
    let setting = setting_of principals labelled.program method in
    let after = labels_after setting method.begin labels method.body in
    let own = block_labels setting method.begin labels method.body in
    let own_uses = block_uses labelled setting method.body in
    let stays = block_stays setting method.begin labels method.body in
    let stay = subst (Stay after) end (methods_stay principals labelled.program after methods) in (
      block_flows principals labelled planned method results (record { 0 = place }) (is_some method.result) refl final
          are method.begin labels many since method.body stay there.0.body has.0.labelled values.0
          (all_first (IsMet principals) own _ met.1) (all_first (IsKept labelled) own _ kept.1)
          (all_first (IsUseWell labelled planned principals) own_uses _ uses.1),
      methods_flow principals labelled planned results final are (suc place) methods after (stays.many ∙ many)
          (stay_then (declared_labels labelled.program) labels after since stays) end there.1 has.1 values.1
          (all_second (IsMet principals) own _ met.1) (all_second (IsKept labelled) own _ kept.1)
          (all_second (IsUseWell labelled planned principals) own_uses _ uses.1),
    )

pub program_flows : (placed : PlacedProgram) → IsSplittable placed → IsAllowed placed → IsWellHeld placed →
    AreResultsLabelled placed.labelled.program →
    AllFlow (record { principals = placed.hosts.principals; labelled = placed.labelled }) (planned_from placed)
program_flows placed splittable allowed held results =
    let planned = planned_from placed in
    let principals = placed.hosts.principals in
    let program = placed.labelled.program in
    let declared = declared_labels program in
    let final = labels_after_methods principals program declared program.methods in
    let premises : Premises placed =
    record { splittable = splittable; allowed = allowed; held = held } in
    let well = program_well placed premises in
    let met = met_from principals (program_labels principals program)
    (by_recursion (Meets principals) (obligations_of (program_labels principals program)) allowed.well_labelled) in
    record {
      methods = methods_flow principals placed.labelled planned results final allowed.var_labels 0 program.methods
          declared
          (length-map program.vars (λ variable. variable.label)) (stay_same declared) refl allowed.numbered.methods
          allowed.methods held.values met (labels_kept placed.labelled principals allowed.statements held.pc)
          (each_there (IsUseWell placed.labelled planned principals) (statement_uses principals placed.labelled)
          (use_well placed premises));
      fields = well.fields;
      readers = well.readers;
    }
