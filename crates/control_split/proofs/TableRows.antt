-- Rows of fields and variables, whose labels keep their places as more are named.
use Rattle.std.proofs.Common.{◌≡◌, ◌∙◌, ℕ, suc, ◌+◌, ◌<◌, List, [], ◌∷◌, ◌++◌, length, map, ap, sym, refl}
use Rattle.std.proofs.Common.{subst, arith, take, get_or}
use Rattle.std.proofs.lemmas.List.{take_more, map-append, get_or-map, length-map, length-take-le}
use Rattle.std.specs.Bool.{⊤}
use Rattle.std.specs.List.{zip}
use Rattle.label_lattice.specs.declared.label.Label.{Label}
use Rattle.host_code.specs.Code.{CodeFieldShape, CodeVariableShape}
use Rattle.jif_tree.specs.declared.program.Field.{Field}
use Rattle.jif_tree.specs.declared.program.Var.{Var}
use Rattle.jif_tree.specs.Trees.{FieldTree, VarTree, ProgramTree, field_tree, var_tree}
use Rattle.need_labels.specs.Plan.{PlanShape}
use Rattle.split_rules.specs.SplitCode.{with_labels, placed_code_fields, code_variable}
use Rattle.split_rules.proofs.CodeItems.{code_field}
use Rattle.control_split.specs.Trace.{TraceShape}
use Rattle.control_split.specs.Tables.{naming}
use Rattle.control_split.proofs.LabelPlaces.{IsAmong, among_kept, among_named, place_kept, with_labels_append}

-- each of these labels is there
abbrev pub AreNamed : List Label → List Label → Type 0
AreNamed there [] = ⊤
AreNamed there (label ∷ others) = IsAmong label there × AreNamed there others

pub all_named : (there labels : List Label) → AreNamed (with_labels there labels) labels
all_named there [] = tt
all_named there (label ∷ others) =
    let next = with_labels there (label ∷ []) in
    let P : List Label → Type 0 = λ names. IsAmong label names × AreNamed names others in
    subst P (sym (with_labels_append there (label ∷ []) others))
    (among_kept label next others (among_named label there), all_named next others)

abbrev pub labels_in : List FieldTree → List Label
labels_in fields = map (λ field. field.label) fields

pub rows_kept : (there more : List Label) (plan : PlanShape) (number : ℕ) (fields : List FieldTree) →
    AreNamed there (labels_in fields) →
    placed_code_fields (with_labels there more) plan number fields ≡ placed_code_fields there plan number fields
rows_kept there more plan number [] named = refl
rows_kept there more plan number (field ∷ fields) named =
    rw (place_kept field.label there more named.0, rows_kept there more plan (suc number) fields named.1) refl

rows_push : (labels : List Label) (plan : PlanShape) (number : ℕ) (fields : List FieldTree) (field : FieldTree) →
    placed_code_fields labels plan number (fields ++ field ∷ [])
    ≡ placed_code_fields labels plan number fields ++ code_field labels plan (number + length fields) field ∷ []
rows_push labels plan number [] field =
    let same : number ≡ number + length {A = FieldTree} [] = omega arith in
    ap (λ (place : ℕ). code_field labels plan place field ∷ []) same
rows_push labels plan number (first ∷ fields) field =
    let same : suc number + length fields ≡ number + suc (length fields) = omega arith in
    ap (λ (rows : List CodeFieldShape). code_field labels plan number first ∷ rows)
    (rows_push labels plan (suc number) fields field
    ∙ ap (λ (place : ℕ). placed_code_fields labels plan (suc number) fields ++ code_field labels plan place field ∷ [])
    same)

-- one field further
pub rows_more : (there : List Label) (plan : PlanShape) (fields : List FieldTree) (field : FieldTree) →
    let before = with_labels there (labels_in fields) in
    let after = with_labels before (field.label ∷ []) in
    placed_code_fields after plan 0 (fields ++ field ∷ [])
    ≡ placed_code_fields before plan 0 fields ++ code_field after plan (length fields) field ∷ []
rows_more there plan fields field =
    let before = with_labels there (labels_in fields) in
    let after = with_labels before (field.label ∷ []) in
    let count : 0 + length fields ≡ length fields = omega arith in
    rows_push after plan 0 fields field
    ∙ ap (λ (place : ℕ). placed_code_fields after plan 0 fields ++ code_field after plan place field ∷ []) count
    ∙ ap (λ (rows : List CodeFieldShape). rows ++ code_field after plan (length fields) field ∷ [])
    (rows_kept before (field.label ∷ []) plan 0 fields (all_named there (labels_in fields)))

-- labels that a trace names in two goes
naming_more : (start before after : TraceShape) (labels : List Label) (label : Label) →
    before ≡ naming start labels → after ≡ naming before (label ∷ []) → after ≡ naming start (labels ++ label ∷ [])
naming_more start before after labels label was one =
    one
    ∙ ap (λ (trace : TraceShape). naming trace (label ∷ [])) was
    ∙ sym (ap (λ (names : List Label). record start { labels = names })
    (with_labels_append start.labels labels (label ∷ [])))

-- the fields so far, with the labels that are named for them
pub fields_further : (plan : PlanShape) (all : List Field) (number : ℕ) (field : Field)
    (start before after : TraceShape) (rows pushed : List CodeFieldShape) (row : CodeFieldShape) →
    number < length all → field ≡ get_or all number field →
    before ≡ naming start (labels_in (map field_tree (take number all))) →
    rows ≡ placed_code_fields before.labels plan 0 (map field_tree (take number all)) →
    after ≡ naming before (field.label ∷ []) →
    row ≡ code_field after.labels plan number (field_tree field) →
    pushed ≡ rows ++ row ∷ [] →
    (after ≡ naming start (labels_in (map field_tree (take (number + 1) all))))
    × (pushed ≡ placed_code_fields after.labels plan 0 (map field_tree (take (number + 1) all)))
fields_further plan all number field start before after rows pushed row within is was were one made last =
    let front = take number all in
    let trees : List FieldTree = map field_tree front in
    let tree : FieldTree = field_tree field in
    let more : map field_tree (take (number + 1) all) ≡ trees ++ tree ∷ [] =
    ap (map field_tree) (take_more all number field within
    ∙ ap (λ (next : Field). front ++ next ∷ []) (sym is))
    ∙ map-append field_tree front (field ∷ []) in
    let count : number ≡ length trees =
    sym (length-map front field_tree ∙ length-take-le number all (omega (arith, within))) in
    let first = with_labels start.labels (labels_in trees) in
    let names_before : before.labels ≡ first = ap (λ (trace : TraceShape). trace.labels) was in
    let names_after : after.labels ≡ with_labels first (tree.label ∷ []) =
    ap (λ (trace : TraceShape). trace.labels)
    (one ∙ ap (λ (trace : TraceShape). naming trace (tree.label ∷ [])) was) in (
      naming_more start before after (labels_in trees) tree.label was one
          ∙ ap (naming start) (sym (ap labels_in more ∙ map-append (λ (one : FieldTree). one.label) trees (tree ∷ []))),
      last
          ∙ ap (λ (some : List CodeFieldShape). some ++ row ∷ []) were
          ∙ ap (λ (next : CodeFieldShape). placed_code_fields before.labels plan 0 trees ++ next ∷ []) made
          ∙ ap (λ (place : ℕ). placed_code_fields before.labels plan 0 trees
          ++ code_field after.labels plan place tree ∷ [])
          count
          ∙ ap (λ (names : List Label). placed_code_fields names plan 0 trees
          ++ code_field after.labels plan (length trees) tree ∷ []) names_before
          ∙ ap (λ (names : List Label). placed_code_fields first plan 0 trees
          ++ code_field names plan (length trees) tree ∷ []) names_after
          ∙ sym (rows_more start.labels plan trees tree)
          ∙ ap (λ (names : List Label). placed_code_fields names plan 0 (trees ++ tree ∷ [])) (sym names_after)
          ∙ ap (λ (some : List FieldTree). placed_code_fields after.labels plan 0 some) (sym more),
    )

pub variables_kept : (there more : List Label) (program : ProgramTree) (vars : List VarTree) (labels : List Label) →
    AreNamed there labels →
    map (code_variable program (with_labels there more)) (zip vars labels)
    ≡ map (code_variable program there) (zip vars labels)
variables_kept there more program [] labels named = refl
variables_kept there more program (var ∷ vars) [] named = refl
variables_kept there more program (var ∷ vars) (label ∷ labels) named =
    rw (place_kept label there more named.0, variables_kept there more program vars labels named.1) refl

variables_push : (there : List Label) (program : ProgramTree) (vars : List VarTree) (labels : List Label)
    (var : VarTree) (label : Label) → length vars ≡ length labels →
    map (code_variable program there) (zip (vars ++ var ∷ []) (labels ++ label ∷ []))
    ≡ map (code_variable program there) (zip vars labels) ++ code_variable program there (var, label) ∷ []
variables_push there program [] [] var label same = refl
variables_push there program [] (other ∷ labels) var label same = absurd (omega (arith, same))
variables_push there program (first ∷ vars) [] var label same = absurd (omega (arith, same))
variables_push there program (first ∷ vars) (other ∷ labels) var label same =
    ap (λ (rows : List CodeVariableShape). code_variable program there (first, other) ∷ rows)
    (variables_push there program vars labels var label (omega (arith, same)))

-- one variable further
pub variables_more : (there : List Label) (program : ProgramTree) (vars : List VarTree) (labels : List Label)
    (var : VarTree) (label : Label) → length vars ≡ length labels →
    let before = with_labels there labels in
    let after = with_labels before (label ∷ []) in
    map (code_variable program after) (zip (vars ++ var ∷ []) (labels ++ label ∷ []))
    ≡ map (code_variable program before) (zip vars labels) ++ code_variable program after (var, label) ∷ []
variables_more there program vars labels var label same =
    let before = with_labels there labels in
    let after = with_labels before (label ∷ []) in
    variables_push after program vars labels var label same
    ∙ ap (λ (rows : List CodeVariableShape). rows ++ code_variable program after (var, label) ∷ [])
    (variables_kept before (label ∷ []) program vars labels (all_named there labels))

-- the variables so far, with the labels that are named for them
pub variables_further : (program : ProgramTree) (all : List Var) (labels : List Label) (number : ℕ) (var : Var)
    (other : Label) (start before after : TraceShape) (rows pushed : List CodeVariableShape)
    (row : CodeVariableShape) →
    number < length all → length labels ≡ length (map var_tree all) → var ≡ get_or all number var →
    before ≡ naming start (take number labels) →
    rows ≡ map (code_variable program before.labels) (zip (take number (map var_tree all)) (take number labels)) →
    after ≡ naming before (get_or labels number other ∷ []) →
    row ≡ code_variable program after.labels (var_tree var, get_or labels number other) →
    pushed ≡ rows ++ row ∷ [] →
    (after ≡ naming start (take (number + 1) labels))
    × (pushed ≡ map (code_variable program after.labels)
    (zip (take (number + 1) (map var_tree all)) (take (number + 1) labels)))
variables_further program all labels number var other start before after rows pushed row within same is was were one
    made last =
    let trees : List VarTree = map var_tree all in
    let tree : VarTree = var_tree var in
    let label = get_or labels number other in
    let size = length-map all var_tree in
    let vars = take number trees in
    let names = take number labels in
    let more_vars : take (number + 1) trees ≡ vars ++ tree ∷ [] =
    take_more trees number tree (omega (arith, within, size))
    ∙ ap (λ (next : VarTree). vars ++ next ∷ [])
    (get_or-map var_tree all number var tree within ∙ sym (ap var_tree is)) in
    let more_names : take (number + 1) labels ≡ names ++ label ∷ [] =
    take_more labels number other (omega (arith, within, same, size)) in
    let count : length vars ≡ length names =
    length-take-le number trees (omega (arith, within, size))
    ∙ sym (length-take-le number labels (omega (arith, within, same, size))) in
    let first = with_labels start.labels names in
    let names_before : before.labels ≡ first = ap (λ (trace : TraceShape). trace.labels) was in
    let names_after : after.labels ≡ with_labels first (label ∷ []) =
    ap (λ (trace : TraceShape). trace.labels) (one ∙ ap (λ (trace : TraceShape). naming trace (label ∷ [])) was) in (
      naming_more start before after names label was one ∙ ap (naming start) (sym more_names),
      last
          ∙ ap (λ (some : List CodeVariableShape). some ++ row ∷ []) were
          ∙ ap (λ (next : CodeVariableShape). map (code_variable program before.labels) (zip vars names)
          ++ next ∷ []) made
          ∙ ap (λ (there : List Label). map (code_variable program there) (zip vars names)
          ++ code_variable program after.labels (tree, label) ∷ []) names_before
          ∙ ap (λ (there : List Label). map (code_variable program first) (zip vars names)
          ++ code_variable program there (tree, label) ∷ []) names_after
          ∙ sym (variables_more start.labels program vars names tree label count)
          ∙ ap (λ (there : List Label). map (code_variable program there)
          (zip (vars ++ tree ∷ []) (names ++ label ∷ [])))
          (sym names_after)
          ∙ ap (λ (some : List VarTree). map (code_variable program after.labels) (zip some (names ++ label ∷ [])))
          (sym more_vars)
          ∙ ap (λ (some : List Label). map (code_variable program after.labels) (zip (take (number + 1) trees) some))
          (sym more_names),
    )
