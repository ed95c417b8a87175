-- A variable that has a label at a place has it in the program too.
use Rattle.std.proofs.Common.{◌≡◌, ◌∙◌, map, ap, sym}
use Rattle.std.specs.Prelude.{Option, Some, None, slice_get, unwrap_or}
use Rattle.std.specs.Option.{option_map}
use Rattle.std.proofs.lemmas.Option.{slice_get-map}
use Rattle.js_base.specs.declared.ids.VarId.{VarId}
use Rattle.label_lattice.specs.declared.label.Label.{Label}
use Rattle.label_lattice.specs.Lattice.{empty_label}
use Rattle.jif_tree.specs.LabelRules.{VariableLabels, variable_label}
use Rattle.jif_tree.specs.Labelling.{IsLabelled}
use Rattle.jif_tree.proofs.LabelsKept.{Stay}
use Rattle.need_labels.specs.Labelled.{Labelled, all_labels}
use Rattle.need_labels.specs.Needs.{label_of}

-- the labels behind the whole program are those with which it is seen
abbrev pub AreFinal : Labelled → VariableLabels → Type 0
AreFinal labelled final = labelled.var_labels ≡ map (λ label. unwrap_or label empty_label) final

-- a variable that has a label has it in the program too
pub label_there : (labelled : Labelled) (labels final : VariableLabels) → AreFinal labelled final → Stay labels final →
    (x : VarId) → IsLabelled labels x → label_of labelled x ≡ variable_label labels x
label_there labelled labels final are stay x (label, there) =
    let own : Option Label → Label = λ it. unwrap_or it empty_label in
    let later = stay.kept x.0 label there in
    let found : slice_get (all_labels labelled) x.0 ≡ Some (Some label) =
    slice_get-map Some labelled.var_labels x.0
    ∙ ap (option_map Some) (ap (λ list. slice_get list x.0) are ∙ slice_get-map own final x.0
    ∙ ap (option_map own) later) in
    ap (λ it. unwrap_or (unwrap_or it None) empty_label) found
    ∙ ap (λ it. unwrap_or (unwrap_or it None) empty_label) (sym there)
