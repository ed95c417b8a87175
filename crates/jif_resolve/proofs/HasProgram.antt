-- A draft without faults has a program, and one with faults is refused.
use Rattle.std.proofs.Common.{◌≡◌, ℕ, suc, not, ◌&&◌, ◌⊎◌, inl, inr, List, [], ◌∷◌, ◌++◌, map, length, Option, Some}
use Rattle.std.proofs.Common.{None, refl, ap, sym, ◌∙◌, subst}
use Rattle.std.specs.List.{flat_map}
use Rattle.std.specs.Option.{option_map}
use Rattle.std.proofs.lemmas.Grind.{flat_map-append}
use Rattle.std.proofs.lemmas.List.Folds.{flat_map-map}
use Rattle.js_base.specs.declared.ids.VarId.{VarId}
use Rattle.js_base.specs.declared.ids.MethodId.{MethodId}
use Rattle.js_base.proofs.Lists.{none_joined, none_in_two, none_in_three, none_in_four, none_in_six}
use Rattle.principals.specs.ActsFor.{Declared}
use Rattle.jif_tree.specs.Trees.{ExprTree, number, element, inverted, negated, binary, declassified}
use Rattle.jif_tree.specs.Trees.{endorsed, BlockTree, done, set_local, set_element, branch, loop}
use Rattle.jif_tree.specs.Trees.{call, give_back, FieldTree, VarTree, MethodTree, ProgramTree}
use Rattle.jif_grammar.specs.DraftShapes.{NameShape, LabelShape, ExprShape, number_shape, variable_shape}
use Rattle.jif_grammar.specs.DraftShapes.{element_shape, complement_shape, negation_shape, binary_shape}
use Rattle.jif_grammar.specs.DraftShapes.{release_shape, endorsement_shape, BlockShape, end_shape}
use Rattle.jif_grammar.specs.DraftShapes.{declaration_shape, assignment_shape, element_assignment_shape}
use Rattle.jif_grammar.specs.DraftShapes.{branch_shape, loop_shape, call_shape, return_shape, FieldShape, ParamShape}
use Rattle.jif_grammar.specs.DraftShapes.{MethodShape, DraftShape}
use Rattle.jif_resolve.specs.Counts.{LocalShape, locals_in}
use Rattle.jif_resolve.specs.Meanings.{Global, globals_of, main_of}
use Rattle.jif_resolve.specs.Places.{Setting, Place, next_variable, after_statement, after_call, after_declaration}
use Rattle.jif_resolve.specs.Places.{after_block, after_variable, head_after, body_place, meaning_at}
use Rattle.jif_resolve.specs.declared.fault.Fault.{Fault}
use Rattle.jif_resolve.specs.declared.fault.FaultKind.TheVariants.{WrongType}
use Rattle.jif_resolve.specs.Faults.{fault_where, label_faults, optional_label_faults, principals_faults}
use Rattle.jif_resolve.specs.Faults.{local_faults, global_faults, variable_faults, array_faults, called_faults}
use Rattle.jif_resolve.specs.Faults.{into_faults, is_kept, call_faults, expr_faults, block_faults, params_faults}
use Rattle.jif_resolve.specs.Faults.{ends_in_return, setting_of, method_faults, methods_faults, faults_of}
use Rattle.jif_resolve.specs.Variables.{VariableShape, variables_from, method_variables, result_variables, param_ids}
use Rattle.jif_resolve.specs.Variables.{result_id}
use Rattle.jif_resolve.specs.Resolved.{IsExprFor, heading_of, into_tree, IsBlockFor, IsFieldFor}
use Rattle.jif_resolve.specs.Resolved.{IsVariableFor, IsMethodFor, AreMethodsFor}
use Rattle.jif_resolve.specs.Verdicts.{Refusal, for_fault, no_main, IsRefused, IsProgramOf, IsFirst}
use Rattle.jif_resolve.proofs.FirstFault.{first_fault}
use Rattle.jif_resolve.proofs.Usable.{each_made}
use Rattle.jif_resolve.proofs.Usable.{principals_of, HasLabels}
use Rattle.jif_resolve.proofs.Usable.{optional_label, use_variable, use_assigned, use_array, use_keeper, use_called}

-- ---- expressions

expr_made : (s : Setting) → HasLabels s.principals → (p : Place) (e : ExprShape) → expr_faults s p e ≡ [] →
    (tree : ExprTree) × IsExprFor s p e tree
expr_made s labels p (number_shape value) none = (number value, refl)
expr_made s labels p (variable_shape name) none = use_variable name.at (meaning_at s p name.text) none
expr_made s labels p (element_shape name index) none =
    let means = meaning_at s p name.text in
    let both = none_in_two (array_faults name.at means) (expr_faults s p index) none in
    let array = use_array name.at means both.0 in
    let inner = expr_made s labels p index both.1 in
    (element array.0 inner.0, (array.0, inner.0, refl, array.1, inner.1))
expr_made s labels p (complement_shape operand) none =
    let inner = expr_made s labels p operand none in
    (inverted inner.0, (inner.0, refl, inner.1))
expr_made s labels p (negation_shape operand) none =
    let inner = expr_made s labels p operand none in
    (negated inner.0, (inner.0, refl, inner.1))
expr_made s labels p (binary_shape operator left right) none =
    let both = none_in_two (expr_faults s p left) (expr_faults s p right) none in
    let first = expr_made s labels p left both.0 in
    let second = expr_made s labels p right both.1 in
    (binary operator first.0 second.0, (first.0, second.0, refl, first.1, second.1))
expr_made s labels p (release_shape operand written) none =
    let both = none_in_two (expr_faults s p operand) (label_faults s.principals written) none in
    let inner = expr_made s labels p operand both.0 in
    let label = labels written both.1 in
    (declassified inner.0 label.0, (inner.0, label.0, refl, inner.1, label.1))
expr_made s labels p (endorsement_shape operand written) none =
    let both = none_in_two (expr_faults s p operand) (label_faults s.principals written) none in
    let inner = expr_made s labels p operand both.0 in
    let label = labels written both.1 in
    (endorsed inner.0 label.0, (inner.0, label.0, refl, inner.1, label.1))

-- ---- statements

into_made : (s : Setting) (p : Place) (into : Option NameShape) → into_faults s p into ≡ [] →
    (kept : Option VarId) × (into_tree s p into ≡ Some kept)
into_made s p None none = (None, refl)
into_made s p (Some name) none =
    let keeper = use_keeper name.at (meaning_at s p name.text) none in
    (Some keeper.0, ap (option_map Some) keeper.1)

block_made : (s : Setting) → HasLabels s.principals → (p : Place) (b : BlockShape) → block_faults s p b ≡ [] →
    (tree : BlockTree) × IsBlockFor s p b tree
block_made s labels p end_shape none = (done, refl)
block_made s labels p (declaration_shape start written name value rest) none =
    let parts = none_in_four (optional_label_faults s.principals written) (local_faults s p name)
    (expr_faults s p value) (block_faults s (after_declaration p name) rest) none in
    let first = expr_made s labels p value parts.2 in
    let behind = block_made s labels (after_declaration p name) rest parts.3 in (
      set_local (heading_of p start) (next_variable p) first.0 behind.0,
      (first.0, behind.0, refl, first.1, behind.1),
    )
block_made s labels p (assignment_shape start name value rest) none =
    let means = meaning_at s p name.text in
    let parts = none_in_three (variable_faults name.at means) (expr_faults s p value)
    (block_faults s (after_statement p) rest) none in
    let first = expr_made s labels p value parts.1 in
    let behind = block_made s labels (after_statement p) rest parts.2 in
    let tree = use_assigned name.at (heading_of p start) means first.0 behind.0 parts.0 in
    (tree.0, (first.0, behind.0, tree.1, first.1, behind.1))
block_made s labels p (element_assignment_shape start name index value rest) none =
    let means = meaning_at s p name.text in
    let parts = none_in_four (array_faults name.at means) (expr_faults s p index) (expr_faults s p value)
    (block_faults s (after_statement p) rest) none in
    let array = use_array name.at means parts.0 in
    let first = expr_made s labels p index parts.1 in
    let second = expr_made s labels p value parts.2 in
    let behind = block_made s labels (after_statement p) rest parts.3 in (
      set_element (heading_of p start) array.0 first.0 second.0 behind.0,
      (array.0, first.0, second.0, behind.0, refl, array.1, first.1, second.1, behind.1),
    )
block_made s labels p (branch_shape start guard first second rest) none =
    let inside = after_statement p in
    let between = after_block inside first in
    let parts = none_in_four (expr_faults s p guard) (block_faults s inside first) (block_faults s between second)
    (block_faults s (after_block between second) rest) none in
    let test = expr_made s labels p guard parts.0 in
    let one = block_made s labels inside first parts.1 in
    let other = block_made s labels between second parts.2 in
    let behind = block_made s labels (after_block between second) rest parts.3 in (
      branch (heading_of p start) test.0 one.0 other.0 behind.0,
      (test.0, one.0, other.0, behind.0, refl, test.1, one.1, other.1, behind.1),
    )
block_made s labels p (loop_shape start guard body rest) none =
    let inside = after_statement p in
    let parts = none_in_three (expr_faults s p guard) (block_faults s inside body)
    (block_faults s (after_block inside body) rest) none in
    let test = expr_made s labels p guard parts.0 in
    let one = block_made s labels inside body parts.1 in
    let behind = block_made s labels (after_block inside body) rest parts.2 in (
      loop (heading_of p start) test.0 one.0 behind.0,
      (test.0, one.0, behind.0, refl, test.1, one.1, behind.1),
    )
block_made s labels p (call_shape start name args into rest) none =
    let means = meaning_at s p name.text in
    let both = none_in_two (call_faults s p name args into) (block_faults s (after_call p) rest) none in
    let parts = none_in_three (called_faults name.at (is_kept into) (length args) means) (into_faults s p into)
    (flat_map (expr_faults s p) args) both.0 in
    let method = use_called name.at (is_kept into) (length args) means parts.0 in
    let kept = into_made s p into parts.1 in
    let values = each_made (expr_faults s p) (IsExprFor s p) (λ e clean. expr_made s labels p e clean) args parts.2 in
    let behind = block_made s labels (after_call p) rest both.1 in (
      call (heading_of p start) (record { 0 = p.site }) method.0 values.0 kept.0 behind.0,
      (method.0, values.0, kept.0, behind.0, refl, method.1, kept.1, values.1, behind.1),
    )
block_made s labels p (return_shape start value rest) none =
    let parts = none_in_three (fault_where (not s.gives) WrongType start.at) (expr_faults s p value)
    (block_faults s (after_statement p) rest) none in
    let first = expr_made s labels p value parts.1 in
    let behind = block_made s labels (after_statement p) rest parts.2 in
    (give_back (heading_of p start) first.0 behind.0, (first.0, behind.0, refl, first.1, behind.1))

-- ---- variables

abbrev local_label_faults : Declared → LocalShape → List Fault
local_label_faults principals declared = optional_label_faults principals declared.label

abbrev variable_label_faults : Declared → VariableShape → List Fault
variable_label_faults principals variable = optional_label_faults principals variable.label

abbrev labels_of : Declared → List LocalShape → List Fault
labels_of principals declared = flat_map (local_label_faults principals) declared

in_two_blocks : (principals : Declared) (front back : List LocalShape) → labels_of principals front ≡ [] →
    labels_of principals back ≡ [] → labels_of principals (front ++ back) ≡ []
in_two_blocks principals front back one two =
    flat_map-append (local_label_faults principals) front back
    ∙ none_joined (labels_of principals front) (labels_of principals back) one two

locals_labelled : (s : Setting) (p : Place) (b : BlockShape) → block_faults s p b ≡ [] →
    labels_of s.principals (locals_in b) ≡ []
locals_labelled s p end_shape none = refl
locals_labelled s p (declaration_shape start written name value rest) none =
    let parts = none_in_four (optional_label_faults s.principals written) (local_faults s p name)
    (expr_faults s p value) (block_faults s (after_declaration p name) rest) none in
    none_joined (optional_label_faults s.principals written) (labels_of s.principals (locals_in rest)) parts.0
    (locals_labelled s (after_declaration p name) rest parts.3)
locals_labelled s p (assignment_shape start name value rest) none =
    let parts = none_in_three (variable_faults name.at (meaning_at s p name.text)) (expr_faults s p value)
    (block_faults s (after_statement p) rest) none in
    locals_labelled s (after_statement p) rest parts.2
locals_labelled s p (element_assignment_shape start name index value rest) none =
    let parts = none_in_four (array_faults name.at (meaning_at s p name.text)) (expr_faults s p index)
    (expr_faults s p value) (block_faults s (after_statement p) rest) none in
    locals_labelled s (after_statement p) rest parts.3
locals_labelled s p (branch_shape start guard first second rest) none =
    let inside = after_statement p in
    let between = after_block inside first in
    let parts = none_in_four (expr_faults s p guard) (block_faults s inside first) (block_faults s between second)
    (block_faults s (after_block between second) rest) none in
    in_two_blocks s.principals (locals_in first ++ locals_in second) (locals_in rest)
    (in_two_blocks s.principals (locals_in first) (locals_in second) (locals_labelled s inside first parts.1)
    (locals_labelled s between second parts.2)) (locals_labelled s (after_block between second) rest parts.3)
locals_labelled s p (loop_shape start guard body rest) none =
    let inside = after_statement p in
    let parts = none_in_three (expr_faults s p guard) (block_faults s inside body)
    (block_faults s (after_block inside body) rest) none in
    in_two_blocks s.principals (locals_in body) (locals_in rest) (locals_labelled s inside body parts.1)
    (locals_labelled s (after_block inside body) rest parts.2)
locals_labelled s p (call_shape start name args into rest) none =
    let both = none_in_two (call_faults s p name args into) (block_faults s (after_call p) rest) none in
    locals_labelled s (after_call p) rest both.1
locals_labelled s p (return_shape start value rest) none =
    let parts = none_in_three (fault_where (not s.gives) WrongType start.at) (expr_faults s p value)
    (block_faults s (after_statement p) rest) none in
    locals_labelled s (after_statement p) rest parts.2

params_labelled : (s : Setting) (p : Place) (params : List ParamShape) → params_faults s p params ≡ [] →
    flat_map (λ param. label_faults s.principals param.label) params ≡ []
params_labelled s p [] none = refl
params_labelled s p (param ∷ params) none =
    let parts = none_in_three (label_faults s.principals param.label) (local_faults s p param.name)
    (params_faults s (after_variable p param.name) params) none in
    none_joined (label_faults s.principals param.label)
    (flat_map (λ next. label_faults s.principals next.label) params) parts.0
    (params_labelled s (after_variable p param.name) params parts.2)

result_labelled : (principals : Declared) (method : MethodId) (result : Option LabelShape) →
    optional_label_faults principals result ≡ [] →
    flat_map (variable_label_faults principals) (result_variables method result) ≡ []
result_labelled principals method None none = refl
result_labelled principals method (Some written) none = none_joined (label_faults principals written) [] none refl

variables_labelled : (s : Setting) (head : Place) (count : MethodId) (method : MethodShape) →
    optional_label_faults s.principals method.result ≡ [] → params_faults s head method.params ≡ [] →
    block_faults s (body_place head method) method.body ≡ [] →
    flat_map (variable_label_faults s.principals) (method_variables count method) ≡ []
variables_labelled s head count method result params body =
    let of = variable_label_faults s.principals in
    let param_variable : ParamShape → VariableShape =
    λ param. record { method = count; name = param.name.text; label = Some param.label } in
    let local_variable : LocalShape → VariableShape =
    λ local. record { method = count; name = local.name.text; label = local.label } in
    let front = map param_variable method.params in
    let middle = map local_variable (locals_in method.body) in
    let one : flat_map of front ≡ [] =
    flat_map-map of param_variable method.params ∙ params_labelled s head method.params params in
    let two : flat_map of middle ≡ [] =
    flat_map-map of local_variable (locals_in method.body)
    ∙ locals_labelled s (body_place head method) method.body body in
    flat_map-append of (front ++ middle) (result_variables count method.result)
    ∙ none_joined (flat_map of (front ++ middle)) (flat_map of (result_variables count method.result))
    (flat_map-append of front middle ∙ none_joined (flat_map of front) (flat_map of middle) one two)
    (result_labelled s.principals count method.result result)

-- ---- methods and programs

-- the parts of a method's faults
pub clean_parts : (s : Setting) (head : Place) (method : MethodShape) → method_faults s head method ≡ [] →
    (optional_label_faults s.principals method.result ≡ []) × (label_faults s.principals method.begin ≡ [])
    × (params_faults s head method.params ≡ []) × (principals_faults s.principals method.authority ≡ [])
    × (fault_where (s.gives && not (ends_in_return method.body)) WrongType method.name.at ≡ [])
    × (block_faults s (body_place head method) method.body ≡ [])
clean_parts s head method none =
    none_in_six (optional_label_faults s.principals method.result) (label_faults s.principals method.begin)
    (params_faults s head method.params) (principals_faults s.principals method.authority)
    (fault_where (s.gives && not (ends_in_return method.body)) WrongType method.name.at)
    (block_faults s (body_place head method) method.body) none

pub all_labelled : (principals : Declared) (globals : List Global) (before methods : List MethodShape) (count : ℕ) →
    methods_faults principals globals before methods ≡ [] →
    flat_map (variable_label_faults principals) (variables_from count methods) ≡ []
all_labelled principals globals before [] count none = refl
all_labelled principals globals before (method ∷ methods) count none =
    let s = setting_of principals globals method in
    let head = head_after before in
    let id : MethodId = record { 0 = count } in
    let both = none_in_two (method_faults s head method)
    (methods_faults principals globals (before ++ method ∷ []) methods) none in
    let parts = clean_parts s head method both.0 in
    flat_map-append (variable_label_faults principals) (method_variables id method)
    (variables_from (suc count) methods)
    ∙ none_joined (flat_map (variable_label_faults principals) (method_variables id method))
    (flat_map (variable_label_faults principals) (variables_from (suc count) methods))
    (variables_labelled s head id method parts.0 parts.2 parts.5)
    (all_labelled principals globals (before ++ method ∷ []) methods (suc count) both.1)

method_made : (s : Setting) → HasLabels s.principals → (head : Place) (method : MethodShape) →
    method_faults s head method ≡ [] → (tree : MethodTree) × IsMethodFor s head method tree
method_made s labels head method none =
    let parts = clean_parts s head method none in
    let begin = labels method.begin parts.1 in
    let authority = principals_of s.principals method.authority parts.3 in
    let body = block_made s labels (body_place head method) method.body parts.5 in
    let tree : MethodTree = record {
      name = method.name.text;
      begin = begin.0;
      params = param_ids head.first method.params;
      result = result_id head method;
      authority = authority.0;
      head = record { 0 = head.statement };
      line = method.line;
      body = body.0;
    } in (
      tree,
      record {
        name = refl;
        begin = begin.1;
        params = refl;
        result = refl;
        authority = authority.1;
        head_is = refl;
        line = refl;
        body = body.1;
      },
    )

methods_made : (principals : Declared) → HasLabels principals → (globals : List Global)
    (before methods : List MethodShape) → methods_faults principals globals before methods ≡ [] →
    (trees : List MethodTree) × AreMethodsFor principals globals before methods trees
methods_made principals labels globals before [] none = ([], refl)
methods_made principals labels globals before (method ∷ methods) none =
    let s = setting_of principals globals method in
    let both = none_in_two (method_faults s (head_after before) method)
    (methods_faults principals globals (before ++ method ∷ []) methods) none in
    let head = method_made s labels (head_after before) method both.0 in
    let rest = methods_made principals labels globals (before ++ method ∷ []) methods both.1 in
    (head.0 ∷ rest.0, (head.0, rest.0, refl, head.1, rest.1))

field_made : (principals : Declared) → HasLabels principals → (field : FieldShape) →
    label_faults principals field.label ≡ [] → (tree : FieldTree) × IsFieldFor principals field tree
field_made principals labels field none =
    let label = labels field.label none in
    let tree : FieldTree = record {
      name = field.name.text;
      label = label.0;
      size = field.size;
      array = field.array;
      first = field.first;
    } in
    (tree, record { name = refl; label = label.1; size = refl; array = refl; first = refl })

variable_made : (principals : Declared) → HasLabels principals → (variable : VariableShape) →
    variable_label_faults principals variable ≡ [] → (tree : VarTree) × IsVariableFor principals variable tree
variable_made principals labels variable none =
    let label = optional_label principals labels variable.label none in
    let tree : VarTree = record { method = variable.method; name = variable.name; label = label.0 } in
    (tree, record { method = refl; name = refl; label = label.1 })

program_made : (principals : Declared) (draft : DraftShape) (main : MethodId) → HasLabels principals →
    faults_of principals draft ≡ [] → main_of draft ≡ Some main →
    (tree : ProgramTree) × IsProgramOf principals draft tree
program_made principals draft main labels none is_main =
    let globals = globals_of draft in
    let parts = none_in_three (flat_map (λ global. global_faults globals global.name) globals)
    (flat_map (λ field. label_faults principals field.label) draft.fields)
    (methods_faults principals globals [] draft.methods) none in
    let fields = each_made (λ field. label_faults principals field.label) (IsFieldFor principals)
    (λ field clean. field_made principals labels field clean) draft.fields parts.1 in
    let vars = each_made (variable_label_faults principals) (IsVariableFor principals)
    (λ variable clean. variable_made principals labels variable clean) (variables_from 0 draft.methods)
    (all_labelled principals globals [] draft.methods 0 parts.2) in
    let methods = methods_made principals labels globals [] draft.methods parts.2 in
    let tree : ProgramTree = record { fields = fields.0; vars = vars.0; methods = methods.0; main = main } in (
      tree,
      record {
        no_faults = none;
        is_tree = record { fields = fields.1; vars = vars.1; methods = methods.1; main = is_main };
      },
    )

-- ---- one or the other

with_main : (principals : Declared) (draft : DraftShape) (main : Option MethodId) → HasLabels principals →
    faults_of principals draft ≡ [] → main_of draft ≡ main →
    ((tree : ProgramTree) × IsProgramOf principals draft tree)
    ⊎ ((refusal : Refusal) × IsRefused principals draft refusal)
with_main principals draft None labels none is = inr (no_main, (none, is))
with_main principals draft (Some main) labels none is = inl (program_made principals draft main labels none is)

with_faults : (principals : Declared) (draft : DraftShape) (faults : List Fault) → HasLabels principals →
    faults_of principals draft ≡ faults →
    ((tree : ProgramTree) × IsProgramOf principals draft tree)
    ⊎ ((refusal : Refusal) × IsRefused principals draft refusal)
with_faults principals draft [] labels is = with_main principals draft (main_of draft) labels is refl
with_faults principals draft (fault ∷ faults) labels is =
    let first = first_fault fault faults in
    inr (for_fault first.0, subst (λ fs. IsFirst fs first.0) (sym is) first.1)

pub program_or_refusal : (principals : Declared) (draft : DraftShape) → HasLabels principals →
    ((tree : ProgramTree) × IsProgramOf principals draft tree)
    ⊎ ((refusal : Refusal) × IsRefused principals draft refusal)
program_or_refusal principals draft labels =
    with_faults principals draft (faults_of principals draft) labels refl
