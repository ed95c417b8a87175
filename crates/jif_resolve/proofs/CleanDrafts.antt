-- The parts of a draft without faults.
use Rattle.std.proofs.Common.{◌≡◌, []}
use Rattle.std.specs.List.{flat_map}
use Rattle.js_base.proofs.Lists.{none_in_three}
use Rattle.principals.specs.ActsFor.{Declared}
use Rattle.jif_grammar.specs.DraftShapes.{DraftShape}
use Rattle.jif_resolve.specs.Meanings.{globals_of}
use Rattle.jif_resolve.specs.Faults.{label_faults, global_faults, methods_faults, faults_of}
use Rattle.jif_resolve.specs.Variables.{variables_from}
use Rattle.jif_resolve.specs.AddedVariables.{AreLabelled}
use Rattle.jif_resolve.proofs.HasProgram.{all_labelled}

pub clean_draft : (principals : Declared) (draft : DraftShape) → faults_of principals draft ≡ [] →
    (flat_map (λ field. label_faults principals field.label) draft.fields ≡ [])
    × (methods_faults principals (globals_of draft) [] draft.methods ≡ [])
    × AreLabelled principals (variables_from 0 draft.methods)
clean_draft principals draft none =
    let globals = globals_of draft in
    let parts = none_in_three (flat_map (λ global. global_faults globals global.name) globals)
    (flat_map (λ field. label_faults principals field.label) draft.fields)
    (methods_faults principals globals [] draft.methods) none in
    (parts.1, parts.2, all_labelled principals globals [] draft.methods 0 parts.2)
