-- Expressions and statements name what is there.
use Rattle.std.proofs.Common.{◌≡◌, ℕ, ◌+◌, ◌<◌, ◌≤◌, ◌==◌, Bool, true, false, not, List, [], ◌∷◌, ◌++◌, map, length}
use Rattle.std.proofs.Common.{Option, Some, None, refl, ap, sym, ◌∙◌, subst, arith, rules}
use Rattle.std.specs.Option.{option_map}
use Rattle.std.specs.List.{AllZip, AllByRecursion, flat_map}
use Rattle.std.proofs.lemmas.Bool.{false≢true}
use Rattle.std.proofs.lemmas.List.{length-append, length-map}
use Rattle.std.proofs.lemmas.Slice.Zip.{AllZip-long}
use Rattle.js_base.specs.declared.ids.FieldId.{FieldId}
use Rattle.js_base.specs.declared.ids.VarId.{VarId}
use Rattle.js_base.specs.declared.ids.MethodId.{MethodId}
use Rattle.js_base.proofs.Lists.{none_in_two, none_in_three, none_in_four}
use Rattle.jif_tree.specs.Trees.{ExprTree, local, scalar}
use Rattle.jif_tree.specs.Trees.{Heading, BlockTree, set_local, set_field}
use Rattle.jif_tree.specs.Trees.{ProgramTree}
use Rattle.jif_tree.specs.WellNumbered.{is_some, HasField, HasVariable, HasOptionalVariable, HasMethod, IsExprIn}
use Rattle.jif_tree.specs.WellNumbered.{IsBlockIn}
use Rattle.jif_grammar.specs.DraftShapes.{NameShape, ExprShape, number_shape, variable_shape}
use Rattle.jif_grammar.specs.DraftShapes.{element_shape, complement_shape, negation_shape, binary_shape}
use Rattle.jif_grammar.specs.DraftShapes.{release_shape, endorsement_shape, BlockShape, end_shape}
use Rattle.jif_grammar.specs.DraftShapes.{declaration_shape, assignment_shape, element_assignment_shape}
use Rattle.jif_grammar.specs.DraftShapes.{branch_shape, loop_shape, call_shape, return_shape}
use Rattle.jif_resolve.specs.Counts.{locals_in}
use Rattle.jif_resolve.specs.Places.{Setting, Place, next_variable, after_statement, after_call, after_declaration}
use Rattle.jif_resolve.specs.Places.{after_block, meaning_at}
use Rattle.jif_resolve.specs.declared.fault.FaultKind.TheVariants.{WrongType, WrongCount}
use Rattle.jif_resolve.specs.Faults.{fault_where, optional_label_faults, local_faults, variable_faults, array_faults}
use Rattle.jif_resolve.specs.Faults.{called_faults, into_faults, is_kept, same_truth, call_faults, expr_faults}
use Rattle.jif_resolve.specs.Faults.{block_faults}
use Rattle.jif_resolve.specs.Resolved.{variable_tree, array_of, local_of, method_of, assignment_tree, IsExprFor}
use Rattle.jif_resolve.specs.Resolved.{heading_of, into_tree, IsBlockFor}
use Rattle.jif_resolve.proofs.Meant.{Means, GlobalIs, AreKnownIn, means_at}
use Rattle.jif_resolve.proofs.Usable.{none_where, not_false}
use Rattle.jif_resolve.specs.declared.meaning.Meaning.{Meaning}
use Rattle.jif_resolve.specs.declared.meaning.Meaning.TheVariants as sense

-- ---- uses of a name

variable_in : (program : ProgramTree) (own : MethodId) (means : Option Meaning) (tree : ExprTree) →
    Means program own means → variable_tree means ≡ Some tree → IsExprIn program own tree
variable_in program own None tree is made = absurd cc
variable_in program own (Some (sense.Variable variable)) tree is made =
    let same : local variable ≡ tree = cc in subst (IsExprIn program own) same is
variable_in program own (Some (sense.Plain field)) tree is made =
    let same : scalar field ≡ tree = cc in subst (IsExprIn program own) same is
variable_in program own (Some (sense.Array field)) tree is made = absurd cc
variable_in program own (Some (sense.Method method params gives)) tree is made = absurd cc

array_in : (program : ProgramTree) (own : MethodId) (means : Option Meaning) (field : FieldId) →
    Means program own means → array_of means ≡ Some field → HasField program true field
array_in program own None field is made = absurd cc
array_in program own (Some (sense.Variable variable)) field is made = absurd cc
array_in program own (Some (sense.Plain other)) field is made = absurd cc
array_in program own (Some (sense.Array other)) field is made =
    let same : other ≡ field = cc in subst (HasField program true) same is
array_in program own (Some (sense.Method method params gives)) field is made = absurd cc

assigned_in : (program : ProgramTree) (own : MethodId) (gives : Bool) (heading : Heading) (means : Option Meaning)
    (value : ExprTree) (rest tree : BlockTree) → Means program own means → IsExprIn program own value →
    IsBlockIn program own gives rest → assignment_tree heading means value rest ≡ Some tree →
    IsBlockIn program own gives tree
assigned_in program own gives heading None value rest tree is one behind made = absurd cc
assigned_in program own gives heading (Some (sense.Variable variable)) value rest tree is one behind made =
    let same : set_local heading variable value rest ≡ tree = cc in
    subst (IsBlockIn program own gives) same (is, one, behind)
assigned_in program own gives heading (Some (sense.Plain field)) value rest tree is one behind made =
    let same : set_field heading field value rest ≡ tree = cc in
    subst (IsBlockIn program own gives) same (is, one, behind)
assigned_in program own gives heading (Some (sense.Array field)) value rest tree is one behind made = absurd cc
assigned_in program own gives heading (Some (sense.Method method params g)) value rest tree is one behind made =
    absurd cc

kept_in : (program : ProgramTree) (own : MethodId) (means : Option Meaning) (kept : Option VarId) →
    Means program own means → option_map Some (local_of means) ≡ Some kept →
    (is_some kept ≡ true) × HasOptionalVariable program own kept
kept_in program own None kept is made = absurd cc
kept_in program own (Some (sense.Variable variable)) kept is made =
    let same : Some variable ≡ kept = cc in
    (ap is_some (sym same), subst (HasOptionalVariable program own) same is)
kept_in program own (Some (sense.Plain other)) kept is made = absurd cc
kept_in program own (Some (sense.Array other)) kept is made = absurd cc
kept_in program own (Some (sense.Method method params gives)) kept is made = absurd cc

into_in : (program : ProgramTree) (own : MethodId) (s : Setting) (p : Place) (into : Option NameShape)
    (kept : Option VarId) → AllByRecursion (GlobalIs program) s.globals → AreKnownIn program own p.known →
    into_tree s p into ≡ Some kept → (is_some kept ≡ is_kept into) × HasOptionalVariable program own kept
into_in program own s p None kept globals known made =
    let same : None ≡ kept = cc in
    (ap is_some (sym same), subst (HasOptionalVariable program own) same tt)
into_in program own s p (Some name) kept globals known made =
    kept_in program own (meaning_at s p name.text) kept (means_at program own s p globals known name.text) made

same_when : (a b : Bool) → not (same_truth a b) ≡ false → a ≡ b
same_when true true is = refl
same_when true false is = absurd (false≢true (sym is))
same_when false true is = absurd (false≢true (sym is))
same_when false false is = refl

same_count : (a b : ℕ) → not (a == b) ≡ false → a ≡ b
same_count a b is = let same : a == b ≡ true = not_false (a == b) is in search rules

called_in : (program : ProgramTree) (own : MethodId) (at : ℕ) (keeps : Bool) (args : ℕ) (means : Option Meaning)
    (method : MethodId) → Means program own means → called_faults at keeps args means ≡ [] →
    method_of means ≡ Some method → HasMethod program args keeps method
called_in program own at keeps args None method is none made = absurd cc
called_in program own at keeps args (Some (sense.Variable variable)) method is none made = absurd cc
called_in program own at keeps args (Some (sense.Plain field)) method is none made = absurd cc
called_in program own at keeps args (Some (sense.Array field)) method is none made = absurd cc
called_in program own at keeps args (Some (sense.Method other params gives)) method is none made =
    let same : other ≡ method = cc in
    let both = none_in_two (fault_where (not (same_truth keeps gives)) WrongType at)
    (fault_where (not (args == params)) WrongCount at) none in
    let kept = same_when keeps gives (none_where (not (same_truth keeps gives)) WrongType at both.0) in
    let counts = same_count args params (none_where (not (args == params)) WrongCount at both.1) in
    let here : HasMethod program params gives method = subst (HasMethod program params gives) same is in
    subst (λ g. HasMethod program args g method) (sym kept)
    (subst (λ n. HasMethod program n gives method) (sym counts) here)

-- ---- expressions

expr_in : (program : ProgramTree) (own : MethodId) (s : Setting) (p : Place) →
    AllByRecursion (GlobalIs program) s.globals → AreKnownIn program own p.known → (e : ExprShape) (tree : ExprTree) →
    IsExprFor s p e tree → IsExprIn program own tree
expr_in program own s p globals known (number_shape value) tree is = subst (IsExprIn program own) (sym is) tt
expr_in program own s p globals known (variable_shape name) tree is =
    variable_in program own (meaning_at s p name.text) tree (means_at program own s p globals known name.text) is
expr_in program own s p globals known (element_shape name index) tree (f, x, same, array, one) =
    subst (IsExprIn program own) (sym same) (
      array_in program own (meaning_at s p name.text) f (means_at program own s p globals known name.text) array,
      expr_in program own s p globals known index x one,
    )
expr_in program own s p globals known (complement_shape operand) tree (x, same, one) =
    subst (IsExprIn program own) (sym same) (expr_in program own s p globals known operand x one)
expr_in program own s p globals known (negation_shape operand) tree (x, same, one) =
    subst (IsExprIn program own) (sym same) (expr_in program own s p globals known operand x one)
expr_in program own s p globals known (binary_shape operator left right) tree (x, y, same, one, two) =
    subst (IsExprIn program own) (sym same)
    (expr_in program own s p globals known left x one, expr_in program own s p globals known right y two)
expr_in program own s p globals known (release_shape operand written) tree (x, l, same, one, label) =
    subst (IsExprIn program own) (sym same) (expr_in program own s p globals known operand x one)
expr_in program own s p globals known (endorsement_shape operand written) tree (x, l, same, one, label) =
    subst (IsExprIn program own) (sym same) (expr_in program own s p globals known operand x one)

args_in : (program : ProgramTree) (own : MethodId) (s : Setting) (p : Place) →
    AllByRecursion (GlobalIs program) s.globals → AreKnownIn program own p.known → (args : List ExprShape)
    (values : List ExprTree) → AllZip (IsExprFor s p) args values → AllByRecursion (IsExprIn program own) values
args_in program own s p globals known [] [] all = tt
args_in program own s p globals known [] (x ∷ xs) all = absurd all
args_in program own s p globals known (e ∷ es) [] all = absurd all
args_in program own s p globals known (e ∷ es) (x ∷ xs) all =
    (expr_in program own s p globals known e x all.0, args_in program own s p globals known es xs all.1)

-- ---- statements

-- the variables of the method, of which there are so many from the place's first on
abbrev pub HasVariables : ProgramTree → MethodId → ℕ → ℕ → Type 0
HasVariables program own first size = (k : ℕ) → k < size → HasVariable program own (record { 0 = first + k })

block_earlier : (p : Place) (b : BlockShape) →
    length (after_block p b).earlier ≡ length p.earlier + length (locals_in b)
block_earlier p b =
    length-append p.earlier (map (λ local. local.name.text) (locals_in b))
    ∙ ap (λ n. length p.earlier + n) (length-map (locals_in b) (λ local. local.name.text))

pub block_in : (program : ProgramTree) (own : MethodId) (s : Setting) (size : ℕ) →
    AllByRecursion (GlobalIs program) s.globals → (p : Place) → HasVariables program own p.first size →
    AreKnownIn program own p.known → (b : BlockShape) → length p.earlier + length (locals_in b) ≤ size →
    block_faults s p b ≡ [] → (tree : BlockTree) → IsBlockFor s p b tree → IsBlockIn program own s.gives tree
block_in program own s size globals p vars known end_shape room none tree is =
    subst (IsBlockIn program own s.gives) (sym is) tt
block_in program own s size globals p vars known (declaration_shape start written name value rest) room none tree
    (x, r, same, one, behind) =
    let parts = none_in_four (optional_label_faults s.principals written) (local_faults s p name)
    (expr_faults s p value) (block_faults s (after_declaration p name) rest) none in
    let grown : length (p.earlier ++ name.text ∷ []) ≡ length p.earlier + length (name.text ∷ []) =
    length-append p.earlier (name.text ∷ []) in
    let next : HasVariable program own (next_variable p) = vars (length p.earlier) (omega arith) in
    subst (IsBlockIn program own s.gives) (sym same) (
      next,
      expr_in program own s p globals known value x one,
      block_in program own s size globals (after_declaration p name) vars (next, known) rest
          (let left : length (p.earlier ++ name.text ∷ []) + length (locals_in rest) ≤ size = omega arith in
          left) parts.3 r
          behind,
    )
block_in program own s size globals p vars known (assignment_shape start name value rest) room none tree
    (x, r, same, one, behind) =
    let means = meaning_at s p name.text in
    let parts = none_in_three (variable_faults name.at means) (expr_faults s p value)
    (block_faults s (after_statement p) rest) none in
    assigned_in program own s.gives (heading_of p start) means x r tree
    (means_at program own s p globals known name.text) (expr_in program own s p globals known value x one)
    (block_in program own s size globals (after_statement p) vars known rest room parts.2 r behind) same
block_in program own s size globals p vars known (element_assignment_shape start name index value rest) room none tree
    (f, i, x, r, same, array, at, one, behind) =
    let means = meaning_at s p name.text in
    let parts = none_in_four (array_faults name.at means) (expr_faults s p index) (expr_faults s p value)
    (block_faults s (after_statement p) rest) none in
    subst (IsBlockIn program own s.gives) (sym same) (
      array_in program own means f (means_at program own s p globals known name.text) array,
      expr_in program own s p globals known index i at,
      expr_in program own s p globals known value x one,
      block_in program own s size globals (after_statement p) vars known rest room parts.3 r behind,
    )
block_in program own s size globals p vars known (branch_shape start guard first second rest) room none tree
    (x, t, u, r, same, one, front, middle, behind) =
    let inside = after_statement p in
    let between = after_block inside first in
    let parts = none_in_four (expr_faults s p guard) (block_faults s inside first) (block_faults s between second)
    (block_faults s (after_block between second) rest) none in
    let all : length (locals_in first ++ locals_in second ++ locals_in rest)
    ≡ length (locals_in first ++ locals_in second) + length (locals_in rest) =
    length-append (locals_in first ++ locals_in second) (locals_in rest) in
    let two : length (locals_in first ++ locals_in second) ≡ length (locals_in first) + length (locals_in second) =
    length-append (locals_in first) (locals_in second) in
    let room_now : length p.earlier + length (locals_in first ++ locals_in second ++ locals_in rest) ≤ size = room in
    let after_first : length between.earlier ≡ length p.earlier + length (locals_in first) =
    block_earlier inside first in
    let after_second : length (after_block between second).earlier
    ≡ length between.earlier + length (locals_in second) = block_earlier between second in
    subst (IsBlockIn program own s.gives) (sym same) (
      expr_in program own s p globals known guard x one,
      block_in program own s size globals inside vars known first
          (let left : length p.earlier + length (locals_in first) ≤ size = omega arith in left) parts.1 t front,
      block_in program own s size globals between vars known second
          (let left : length between.earlier + length (locals_in second) ≤ size = omega arith in left) parts.2 u middle,
      block_in program own s size globals (after_block between second) vars known rest
          (let left : length (after_block between second).earlier + length (locals_in rest) ≤ size = omega arith in
          left)
          parts.3 r behind,
    )
block_in program own s size globals p vars known (loop_shape start guard body rest) room none tree
    (x, t, r, same, one, front, behind) =
    let inside = after_statement p in
    let parts = none_in_three (expr_faults s p guard) (block_faults s inside body)
    (block_faults s (after_block inside body) rest) none in
    let all : length (locals_in body ++ locals_in rest) ≡ length (locals_in body) + length (locals_in rest) =
    length-append (locals_in body) (locals_in rest) in
    let room_now : length p.earlier + length (locals_in body ++ locals_in rest) ≤ size = room in
    let after_body : length (after_block inside body).earlier ≡ length p.earlier + length (locals_in body) =
    block_earlier inside body in
    subst (IsBlockIn program own s.gives) (sym same) (
      expr_in program own s p globals known guard x one,
      block_in program own s size globals inside vars known body
          (let left : length p.earlier + length (locals_in body) ≤ size = omega arith in left) parts.1 t front,
      block_in program own s size globals (after_block inside body) vars known rest
          (let left : length (after_block inside body).earlier + length (locals_in rest) ≤ size = omega arith in left)
          parts.2 r behind,
    )
block_in program own s size globals p vars known (call_shape start name args into rest) room none tree
    (f, xs, k, r, same, called, kept, all, behind) =
    let means = meaning_at s p name.text in
    let both = none_in_two (call_faults s p name args into) (block_faults s (after_call p) rest) none in
    let parts = none_in_three (called_faults name.at (is_kept into) (length args) means) (into_faults s p into)
    (flat_map (expr_faults s p) args) both.0 in
    let there : HasMethod program (length args) (is_kept into) f =
    called_in program own name.at (is_kept into) (length args) means f
    (means_at program own s p globals known name.text) parts.0 called in
    let goes = into_in program own s p into k globals known kept in
    let long : length xs ≡ length args = AllZip-long (IsExprFor s p) args xs all in
    let method : HasMethod program (length xs) (is_some k) f =
    subst (λ g. HasMethod program (length xs) g f) (sym goes.0)
    (subst (λ n. HasMethod program n (is_kept into) f) (sym long) there) in
    subst (IsBlockIn program own s.gives) (sym same) (
      method,
      args_in program own s p globals known args xs all,
      goes.1,
      block_in program own s size globals (after_call p) vars known rest room both.1 r behind,
    )
block_in program own s size globals p vars known (return_shape start value rest) room none tree
    (x, r, same, one, behind) =
    let parts = none_in_three (fault_where (not s.gives) WrongType start.at) (expr_faults s p value)
    (block_faults s (after_statement p) rest) none in
    subst (IsBlockIn program own s.gives) (sym same) (
      not_false s.gives (none_where (not s.gives) WrongType start.at parts.0),
      expr_in program own s p globals known value x one,
      block_in program own s size globals (after_statement p) vars known rest room parts.2 r behind,
    )
