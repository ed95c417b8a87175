-- The limits that the parser keeps of a draft. By them no count of a draft overflows.
use Rattle.std.specs.Prelude.{◌≡◌, ℕ, ◌+◌, ◌<◌, ◌≤◌, ⊤, false, List, All, length}
use Rattle.std.specs.List.{sum_by, AllByRecursion}
use Rattle.js_base.specs.declared.limits.TheConstants.{FIELDS, METHODS, PARAMETERS, VARIABLES, STATEMENTS}
use Rattle.js_base.specs.declared.limits.TheConstants.{EXPRESSION_NODES, ARRAY_SIZE, ELEMENTS, NESTING}
use Rattle.jif_grammar.specs.DraftShapes.{ExprShape, number_shape, variable_shape, element_shape, complement_shape}
use Rattle.jif_grammar.specs.DraftShapes.{negation_shape, binary_shape, release_shape, endorsement_shape}
use Rattle.jif_grammar.specs.DraftShapes.{BlockShape, end_shape, declaration_shape, assignment_shape}
use Rattle.jif_grammar.specs.DraftShapes.{element_assignment_shape, branch_shape, loop_shape, call_shape, return_shape}
use Rattle.jif_grammar.specs.DraftShapes.{FieldShape, MethodShape, DraftShape}
use Rattle.jif_resolve.specs.Counts.{locals_in, nodes_in, nodes_in_all}
use Rattle.jif_resolve.specs.Places.{numbered_in, counted}

-- ---- fields

-- all but an array is one element
pub record IsSizedField (field : FieldShape) : Type 0 where
  pub least : 1 ≤ field.size
  pub most : field.size ≤ ARRAY_SIZE
  pub plain : field.array ≡ false → field.size ≡ 1

-- the elements of all fields and arrays together
abbrev pub elements_in : List FieldShape → ℕ
elements_in fields = sum_by (λ field. field.size) fields

-- ---- statements

-- The nodes of all expressions of a statement. Those of the statements inside it count by themselves.
abbrev pub HasFewNodes : BlockShape → Type 0
HasFewNodes end_shape = ⊤
HasFewNodes (declaration_shape start label name value rest) =
    (nodes_in value ≤ EXPRESSION_NODES) × HasFewNodes rest
HasFewNodes (assignment_shape start name value rest) = (nodes_in value ≤ EXPRESSION_NODES) × HasFewNodes rest
HasFewNodes (element_assignment_shape start name index value rest) =
    (nodes_in index + nodes_in value ≤ EXPRESSION_NODES) × HasFewNodes rest
HasFewNodes (branch_shape start guard first second rest) =
    (nodes_in guard ≤ EXPRESSION_NODES) × HasFewNodes first × HasFewNodes second × HasFewNodes rest
HasFewNodes (loop_shape start guard body rest) =
    (nodes_in guard ≤ EXPRESSION_NODES) × HasFewNodes body × HasFewNodes rest
HasFewNodes (call_shape start name args into rest) = (nodes_in_all args ≤ EXPRESSION_NODES) × HasFewNodes rest
HasFewNodes (return_shape start value rest) = (nodes_in value ≤ EXPRESSION_NODES) × HasFewNodes rest

-- Few constructs are open at each place of an expression, with so many around it. Parentheses of the text leave nothing
-- in a draft.
abbrev pub IsExprNested : ℕ → ExprShape → Type 0
IsExprNested around (number_shape value) = ⊤
IsExprNested around (variable_shape name) = ⊤
IsExprNested around (element_shape name index) = (around < NESTING) × IsExprNested (around + 1) index
IsExprNested around (complement_shape operand) = (around < NESTING) × IsExprNested (around + 1) operand
IsExprNested around (negation_shape operand) = (around < NESTING) × IsExprNested (around + 1) operand
IsExprNested around (binary_shape operator left right) = IsExprNested around left × IsExprNested around right
IsExprNested around (release_shape operand label) = (around < NESTING) × IsExprNested (around + 1) operand
IsExprNested around (endorsement_shape operand label) = (around < NESTING) × IsExprNested (around + 1) operand

-- The same of statements. The index bracket of an assignment belongs to its statement, and opens nothing.
abbrev pub IsBlockNested : ℕ → BlockShape → Type 0
IsBlockNested around end_shape = ⊤
IsBlockNested around (declaration_shape start label name value rest) =
    IsExprNested around value × IsBlockNested around rest
IsBlockNested around (assignment_shape start name value rest) = IsExprNested around value × IsBlockNested around rest
IsBlockNested around (element_assignment_shape start name index value rest) =
    IsExprNested around index × IsExprNested around value × IsBlockNested around rest
IsBlockNested around (branch_shape start guard first second rest) =
    IsExprNested around guard × (around < NESTING) × IsBlockNested (around + 1) first
    × IsBlockNested (around + 1) second × IsBlockNested around rest
IsBlockNested around (loop_shape start guard body rest) =
    IsExprNested around guard × (around < NESTING) × IsBlockNested (around + 1) body × IsBlockNested around rest
IsBlockNested around (call_shape start name args into rest) =
    AllByRecursion (IsExprNested around) args × IsBlockNested around rest
IsBlockNested around (return_shape start value rest) = IsExprNested around value × IsBlockNested around rest

-- ---- methods and drafts

-- the parameters and locals of a method, without its result
abbrev pub declared_in : MethodShape → ℕ
declared_in method = length method.params + length (locals_in method.body)

pub record MethodKeepsLimits (method : MethodShape) : Type 0 where
  pub parameters : length method.params ≤ PARAMETERS
  pub variables : declared_in method ≤ VARIABLES
  pub nodes : HasFewNodes method.body
  pub nesting : IsBlockNested 0 method.body

pub record KeepsLimits (draft : DraftShape) : Type 0 where
  pub fields : length draft.fields ≤ FIELDS
  pub sizes : All IsSizedField draft.fields
  pub elements : elements_in draft.fields ≤ ELEMENTS
  pub methods : length draft.methods ≤ METHODS
  pub each : All MethodKeepsLimits draft.methods
  -- the heads of methods count as statements
  pub statements : counted numbered_in draft.methods ≤ STATEMENTS
