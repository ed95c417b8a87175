-- The hosts and the fields of a program in its places are those of its picture.
use Rattle.std.proofs.Common.{◌≡◌, ℕ, zero, suc, ◌+◌, List, [], ◌∷◌, ◌++◌, length, map, Option, Some, None, refl, sym}
use Rattle.std.proofs.Common.{ap, ◌∙◌, arith, inl, inr}
use Rattle.std.specs.Prelude.{slice_get}
use Rattle.std.specs.List.{flat_map}
use Rattle.std.specs.Option.{option_map}
use Rattle.std.specs.Str.{chars}
use Rattle.std.proofs.lemmas.List.{length-map}
use Rattle.std.proofs.lemmas.Option.{slice_get-map}
use Rattle.label_lattice.specs.Printed.{printed_label}
use Rattle.label_lattice.specs.declared.label.Label.{Label}
use Rattle.host_decl.specs.Hosts.{HostShape}
use Rattle.jif_tree.specs.Trees.{FieldTree}
use Rattle.need_labels.specs.Plan.{PlanShape, field_host}
use Rattle.host_code.specs.Code.{CodeFieldShape, CodeHostShape, field_at}
use Rattle.split_rules.specs.SplitCode.{code_labels, label_of_emission, label_place, placed_code_fields, with_labels}
use Rattle.split_rules.specs.Walk.{program_emissions}
use Rattle.split_rules.proofs.CodeLabels.{IsLabelIn, label_left, label_placed}
use Rattle.front_end.specs.PlacedCode.{program_of}
use Rattle.front_end.specs.PlacedSources.{PlacedSource, labelled_source}
use Rattle.plan_picture.specs.Boxes.{head_of, head_text, place_of}
use Rattle.plan_picture.specs.Columns.{has_part}
use Rattle.plan_picture.specs.Paths.{Grid}
use Rattle.plan_picture.specs.Texts.{field_label, label_of, label_there, name_letters, own_label}
use Rattle.plan_picture.specs.declared.rows.Row.{Row}
use Rattle.jifpicture.specs.Picture.{sheet_of}
use Rattle.jifpicture.specs.Standing.{IsDeclaredAs}

-- ---- hosts

abbrev code_host : HostShape → CodeHostShape
code_host host = record { name = host.name; label = host.label }

pub as_many_hosts : (placed : PlacedSource) →
    length (sheet_of placed).code.hosts ≡ length placed.source.file.hosts
as_many_hosts placed = length-map placed.source.file.hosts code_host

pub host_shown : (placed : PlacedSource) (grid : Grid) (rows : List Row) (number : ℕ) (host : HostShape) →
    slice_get placed.source.file.hosts number ≡ Some host →
    head_of (sheet_of placed) grid rows number
    ≡ head_text (chars host.name) (chars (printed_label placed.source.file.principals host.label))
    (has_part (record { 0 = number }) rows) (place_of grid (record { 0 = number }) 0 44)
host_shown placed grid rows number host here =
    let sheet = sheet_of placed in
    let part = has_part (record { 0 = number }) rows in
    let place = place_of grid (record { 0 = number }) 0 44 in
    let is : slice_get sheet.code.hosts number ≡ Some (code_host host) =
    slice_get-map code_host placed.source.file.hosts number ∙ ap (option_map code_host) here in
    ap (λ (found : Option CodeHostShape). head_text (name_letters found) (own_label sheet found) part place) is

-- ---- fields

-- a field of a number in the code
abbrev code_field : List Label → PlanShape → ℕ → FieldTree → CodeFieldShape
code_field labels plan number field = record {
  name = field.name;
  label = label_place 0 field.label labels;
  size = field.size;
  array = field.array;
  first = field.first;
  host = field_host plan (record { 0 = number });
}

fields_count : (labels : List Label) (plan : PlanShape) (number : ℕ) (fields : List FieldTree) →
    length (placed_code_fields labels plan number fields) ≡ length fields
fields_count labels plan number [] = refl
fields_count labels plan number (field ∷ fields) = ap suc (fields_count labels plan (suc number) fields)

field_placed : (labels : List Label) (plan : PlanShape) (from : ℕ) (fields : List FieldTree) (number place : ℕ)
    (field : FieldTree) → place ≡ from + number → slice_get fields number ≡ Some field →
    slice_get (placed_code_fields labels plan from fields) number ≡ Some (code_field labels plan place field)
field_placed labels plan from [] number place field is here = absurd (let no = here in cc)
field_placed labels plan from (other ∷ fields) zero place field is here =
    let both : Some other ≡ Some field = here in
    let same : other ≡ field = cc in
    let number : from ≡ place = omega arith in
    ap (λ (one : FieldTree). Some (code_field labels plan from one)) same
    ∙ ap (λ (n : ℕ). Some (code_field labels plan n field)) number
field_placed labels plan from (other ∷ fields) (suc number) place field is here =
    field_placed labels plan (suc from) fields number place field (omega arith) here

field_needed : (fields : List FieldTree) (number : ℕ) (field : FieldTree) → slice_get fields number ≡ Some field →
    IsLabelIn field.label (map (λ one. one.label) fields)
field_needed [] number field here = absurd (let no = here in cc)
field_needed (other ∷ fields) zero field here =
    let both : Some other ≡ Some field = here in
    let same : other ≡ field = cc in
    inl (ap (λ (one : FieldTree). one.label) same)
field_needed (other ∷ fields) (suc number) field here = inr (field_needed fields number field here)

pub as_many_fields : (placed : PlacedSource) →
    length (sheet_of placed).code.fields ≡ length placed.source.tree.fields
as_many_fields placed =
    let emissions = program_emissions (program_of placed) in
    fields_count (code_labels (labelled_source placed.source) emissions) placed.plan 0 placed.source.tree.fields

pub field_shown : (placed : PlacedSource) (number : ℕ) (field : FieldTree) →
    slice_get placed.source.tree.fields number ≡ Some field →
    ((shown : CodeFieldShape) × (field_at (sheet_of placed).code (record { 0 = number }) ≡ Some shown)
    × IsDeclaredAs field shown)
    × (field_label (sheet_of placed) (record { 0 = number })
    ≡ chars (printed_label placed.source.file.principals field.label))
field_shown placed number field here =
    let sheet = sheet_of placed in
    let labelled = labelled_source placed.source in
    let emissions = program_emissions (program_of placed) in
    let labels = code_labels labelled emissions in
    let shown = code_field labels placed.plan number field in
    let is : slice_get sheet.code.fields number ≡ Some shown =
    field_placed labels placed.plan 0 placed.source.tree.fields number number field (omega arith) here in
    let own = map (λ (one : FieldTree). one.label) placed.source.tree.fields in
    let others = flat_map label_of_emission emissions in
    let needed : IsLabelIn field.label (own ++ labelled.var_labels ++ others) =
    label_left field.label (own ++ labelled.var_labels) others
    (label_left field.label own labelled.var_labels (field_needed placed.source.tree.fields number field here)) in
    let label : slice_get sheet.code.labels shown.label ≡ Some field.label =
    label_placed field.label (own ++ labelled.var_labels ++ others) needed in (
      (shown, is, record { name = refl; array = refl; size = refl; first = refl }),
      ap (label_of sheet) is ∙ ap (label_there sheet) label,
    )
