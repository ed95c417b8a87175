-- No two fields of an accepted program have one name, and no two of its hosts.
use Rattle.std.proofs.Common.{◌≡◌, ◌∙◌, ℕ, suc, Bool, true, false, ◌||◌, List, [], ◌∷◌, ◌++◌, map, refl, ap, sym}
use Rattle.std.proofs.Common.{subst}
use Rattle.std.specs.List.{AllZip, AllByRecursion, IsDistinct, flat_map}
use Rattle.std.specs.Str.{bytes_eq}
use Rattle.js_base.proofs.Lists.{none_in_three}
use Rattle.principals.specs.ActsFor.{Declared}
use Rattle.host_decl.specs.Hosts.{HostShape, AreHosts}
use Rattle.host_code.specs.Code.{CodeFieldShape, CodeHostShape}
use Rattle.jif_tree.specs.Trees.{FieldTree}
use Rattle.jif_grammar.specs.DraftShapes.{FieldShape, DraftShape}
use Rattle.jif_grammar.specs.Programs.{line_at}
use Rattle.jif_resolve.specs.Faults.{global_faults, label_faults, methods_faults}
use Rattle.jif_resolve.specs.Meanings.{Global, fields_from, methods_from, globals_of}
use Rattle.jif_resolve.specs.Resolved.{IsFieldFor}
use Rattle.jif_parse.proofs.PrintedBackGlobals.{AllApart, Distinct, has_name, distinct_names, globals_apart}
use Rattle.label_lattice.specs.declared.label.Label.{Label}
use Rattle.need_labels.specs.Plan.{PlanShape}
use Rattle.split_rules.specs.SplitCode.{placed_code_fields}
use Rattle.front_end.specs.PlacedCode.{code_of}
use Rattle.front_end.specs.PlacedSources.{PlacedSource}
use Rattle.front_end.proofs.ReadSources.{IsReadSource}

-- ---- names of a draft

neither : (a b : Bool) → (a || b) ≡ false → (a ≡ false) × (b ≡ false)
neither false b is = (refl, is)
neither true b is = absurd cc

no_field_has : (name : List ℕ) (number : ℕ) (fields : List FieldShape) (others : List Global) →
    has_name name (fields_from number fields ++ others) ≡ false →
    AllByRecursion (λ other. bytes_eq name other ≡ false) (map (λ field. field.name.text) fields)
no_field_has name number [] others none = tt
no_field_has name number (field ∷ fields) others none =
    let both = neither (bytes_eq name field.name.text) (has_name name (fields_from (suc number) fields ++ others)) none
    in (both.0, no_field_has name (suc number) fields others both.1)

distinct_shapes : (number : ℕ) (fields : List FieldShape) (others : List Global) →
    Distinct (fields_from number fields ++ others) → IsDistinct bytes_eq (map (λ field. field.name.text) fields)
unfolding IsDistinct
distinct_shapes number [] others distinct = tt
distinct_shapes number (field ∷ fields) others distinct = (
  no_field_has field.name.text (suc number) fields others distinct.0,
  distinct_shapes (suc number) fields others distinct.1,
)

-- ---- names of a tree and of a code

tree_names : (principals : Declared) (fields : List FieldShape) (trees : List FieldTree) →
    AllZip (IsFieldFor principals) fields trees →
    map (λ (field : FieldShape). field.name.text) fields ≡ map (λ (tree : FieldTree). tree.name) trees
tree_names principals [] [] are = refl
tree_names principals [] (tree ∷ trees) are = absurd are
tree_names principals (field ∷ fields) [] are = absurd are
tree_names principals (field ∷ fields) (tree ∷ trees) are =
    ap (λ name. name ∷ map (λ (field : FieldShape). field.name.text) fields) (sym are.0.name)
    ∙ ap (λ names. tree.name ∷ names) (tree_names principals fields trees are.1)

code_names : (labels : List Label) (plan : PlanShape) (number : ℕ) (trees : List FieldTree) →
    map (λ (tree : FieldTree). tree.name) trees
    ≡ map (λ (field : CodeFieldShape). field.name) (placed_code_fields labels plan number trees)
code_names labels plan number [] = refl
code_names labels plan number (tree ∷ trees) =
    ap (λ names. tree.name ∷ names) (code_names labels plan (suc number) trees)

-- ---- fields and hosts of a code

pub fields_distinct : (program hosts : List ℕ) (placed : PlacedSource) → IsReadSource program hosts placed.source →
    IsDistinct bytes_eq (map (λ field. field.name) (code_of placed).fields)
fields_distinct program hosts placed read =
    let draft : DraftShape = read.draft in
    let principals : Declared = placed.source.file.principals in
    let globals : List Global = globals_of draft in
    let apart = subst (λ (d : DraftShape). AllApart (globals_of d)) (sym read.parsed.draft_is)
    (globals_apart (line_at read.list) read.parsed.program) in
    let faults = none_in_three (flat_map (λ global. global_faults globals global.name) globals)
    (flat_map (λ field. label_faults principals field.label) draft.fields)
    (methods_faults principals globals [] draft.methods) read.resolved.no_faults in
    subst (IsDistinct bytes_eq)
    (tree_names principals draft.fields placed.source.tree.fields read.resolved.is_tree.fields
    ∙ code_names (code_of placed).labels placed.plan 0 placed.source.tree.fields)
    (distinct_shapes 0 draft.fields (methods_from 0 draft.methods) (distinct_names globals apart faults.0))

-- the host of a code, by the host that was declared
code_host : HostShape → CodeHostShape
code_host row = record { name = row.name; label = row.label }

host_names : (rows : List HostShape) →
    map (λ (row : HostShape). row.name) rows ≡ map (λ (host : CodeHostShape). host.name) (map code_host rows)
unfolding code_host
host_names [] = refl
host_names (row ∷ rows) = ap (λ names. row.name ∷ names) (host_names rows)

pub hosts_distinct : (placed : PlacedSource) → AreHosts placed.source.file →
    IsDistinct bytes_eq (map (λ host. host.name) (code_of placed).hosts)
unfolding code_host
hosts_distinct placed are =
    subst (IsDistinct bytes_eq) (host_names placed.source.file.hosts) are.names.distinct
