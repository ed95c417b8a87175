-- The program of a draft that keeps the parser's limits keeps those of programs.
use Rattle.std.proofs.Common.{◌≡◌, ℕ, suc, ◌+◌, ◌≤◌, List, [], ◌∷◌, length, All, Some, slice_get, refl, ap, sym, ◌∙◌}
use Rattle.std.proofs.Common.{subst, arith}
use Rattle.std.specs.Prelude.{sum_by}
use Rattle.std.specs.List.{AllZip}
use Rattle.std.proofs.lemmas.List.Elements.{All-nil, All-cons}
use Rattle.std.proofs.lemmas.List.FromFn.{length-range_with_len}
use Rattle.std.proofs.lemmas.List.Sums.{sum_by-cons}
use Rattle.std.proofs.lemmas.Option.{slice_get_within, get_or_from_slice_get}
use Rattle.std.proofs.lemmas.Slice.Zip.{AllZip-long}
use Rattle.js_base.specs.declared.limits.TheConstants.{PARAMETERS, VARIABLES}
use Rattle.principals.specs.ActsFor.{Declared}
use Rattle.jif_grammar.specs.DraftShapes.{FieldShape, MethodShape, DraftShape}
use Rattle.jif_tree.specs.Trees.{FieldTree, MethodTree, ProgramTree}
use Rattle.jif_tree.specs.Numbering.{statement_numbers}
use Rattle.jif_tree.specs.Limits.{IsSizedField, IsWithinLimits}
use Rattle.jif_tree.specs.Sizes.{IsBlockNested, variables_in, results_in}
use Rattle.jif_resolve.specs.Meanings.{Global, globals_of}
use Rattle.jif_resolve.specs.Places.{Place, counted, numbered_in, body_place}
use Rattle.jif_resolve.specs.Resolved.{IsMethodFor, IsFieldFor, IsTreeOf}
use Rattle.jif_resolve.specs.Faults.{setting_of}
use Rattle.jif_resolve.specs.Sizes as drafts
use Rattle.jif_resolve.specs.Sizes.{elements_in, MethodKeepsLimits, KeepsLimits}
use Rattle.jif_resolve.specs.Verdicts.{IsProgramOf}
use Rattle.jif_resolve.proofs.EachMethod.{each_method, method_count}
use Rattle.jif_resolve.proofs.FewNodes.{few_nodes}
use Rattle.jif_resolve.proofs.FewVariables.{variables_in_method}
use Rattle.jif_resolve.proofs.Meant.{length_of_params}
use Rattle.jif_resolve.proofs.NestedPrograms.{block_nested}
use Rattle.jif_resolve.proofs.Numbers.{of_statements}

-- ---- fields

sized_fields : (principals : Declared) (fields : List FieldShape) (trees : List FieldTree) →
    AllZip (IsFieldFor principals) fields trees → All drafts.IsSizedField fields → All IsSizedField trees
sized_fields principals [] [] are sized = All-nil IsSizedField
sized_fields principals [] (tree ∷ trees) are sized = absurd are
sized_fields principals (field ∷ fields) [] are sized = absurd are
sized_fields principals (field ∷ fields) (tree ∷ trees) are sized =
    let one = sized 0 field (omega arith) in
    All-cons IsSizedField tree trees (record {
      some = omega (arith, are.0.size, one.least);
      few = omega (arith, are.0.size, one.most);
      plain = λ plain. are.0.size ∙ one.plain (sym are.0.array ∙ plain);
    })
    (sized_fields principals fields trees are.1 (λ k d within. sized (suc k) d (omega (arith, within))))

same_elements : (principals : Declared) (fields : List FieldShape) (trees : List FieldTree) →
    AllZip (IsFieldFor principals) fields trees → sum_by (λ (tree : FieldTree). tree.size) trees ≡ elements_in fields
same_elements principals [] [] are = refl
same_elements principals [] (tree ∷ trees) are = absurd are
same_elements principals (field ∷ fields) [] are = absurd are
same_elements principals (field ∷ fields) (tree ∷ trees) are =
    omega (
      arith,
      sum_by-cons (λ (one : FieldTree). one.size) tree trees,
      sum_by-cons (λ (one : FieldShape). one.size) field fields,
      are.0.size,
      same_elements principals fields trees are.1,
    )

-- ---- methods

few_params : (principals : Declared) (globals : List Global) (head : Place) (method : MethodShape)
    (tree : MethodTree) → IsMethodFor (setting_of principals globals method) head method tree →
    MethodKeepsLimits method → length tree.params ≤ PARAMETERS
few_params principals globals head method tree is kept =
    let few = kept.parameters in
    let count = ap length is.params ∙ length_of_params head.first method.params in
    omega arith

method_nested : (principals : Declared) (globals : List Global) (head : Place) (method : MethodShape)
    (tree : MethodTree) → IsMethodFor (setting_of principals globals method) head method tree →
    MethodKeepsLimits method → IsBlockNested 0 tree.body
method_nested principals globals head method tree is kept =
    block_nested (setting_of principals globals method) (body_place head method) 0 method.body tree.body is.body
    kept.nesting

few_variables : (principals : Declared) (draft : DraftShape) (tree : ProgramTree) →
    All MethodKeepsLimits draft.methods →
    IsTreeOf principals draft tree → (number : ℕ) (method : MethodTree) → slice_get tree.methods number ≡ Some method →
    length (variables_in tree number) ≤ VARIABLES + results_in method.result
few_variables principals draft tree kept is number method at =
    let found = variables_in_method principals draft tree is number method at in
    let there = slice_get_within draft.methods number found.0 found.1 in
    let own : MethodKeepsLimits found.0 =
    subst MethodKeepsLimits (get_or_from_slice_get draft.methods number found.0 found.0 found.1)
    (kept number found.0 there) in
    let few = own.variables in
    omega (arith, found.2, few)

-- ---- programs

pub within_limits : (principals : Declared) (draft : DraftShape) (tree : ProgramTree) → KeepsLimits draft →
    IsTreeOf principals draft tree → IsWithinLimits tree
within_limits principals draft tree kept is =
    let globals = globals_of draft in
    let fields = AllZip-long (IsFieldFor principals) draft.fields tree.fields is.fields in
    let elements = same_elements principals draft.fields tree.fields is.fields in
    let methods = method_count principals globals [] draft.methods tree.methods is.methods in
    let statements : length (statement_numbers tree) ≡ counted numbered_in draft.methods =
    ap length (of_statements principals globals [] draft.methods tree.methods is.methods)
    ∙ length-range_with_len 0 (counted numbered_in draft.methods) in
    let few_fields = kept.fields in
    let few_elements = kept.elements in
    let few_methods = kept.methods in
    let few_statements = kept.statements in
    record {
      fields = omega arith;
      sizes = sized_fields principals draft.fields tree.fields is.fields kept.sizes;
      elements = omega arith;
      methods = omega arith;
      params = each_method MethodKeepsLimits _ principals globals (few_params principals globals) [] draft.methods
          tree.methods is.methods kept.each;
      variables = few_variables principals draft tree kept.each is;
      statements = omega arith;
      nodes = few_nodes principals globals [] draft.methods tree.methods is.methods kept.each;
      nesting = each_method MethodKeepsLimits _ principals globals (method_nested principals globals) [] draft.methods
          tree.methods is.methods kept.each;
    }

pub program_within : (principals : Declared) (draft : DraftShape) (tree : ProgramTree) → KeepsLimits draft →
    IsProgramOf principals draft tree → IsWithinLimits tree
program_within principals draft tree kept is = within_limits principals draft tree kept is.is_tree
