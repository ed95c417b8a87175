-- What an expression becomes in instructions: the reads of its fields, each of which leaves a temporary, and its nodes
-- over these. Temporaries are numbered in the order of reading, from the left and inner before outer.
use Rattle.std.specs.Prelude.{ℕ, ◌+◌, List, [], ◌∷◌, ◌++◌, pos}
use Rattle.js_base.specs.declared.ids.FieldId.{FieldId}
use Rattle.jif_tree.specs.Trees.{ExprTree, number, local, scalar, element, inverted, negated, binary, declassified}
use Rattle.jif_tree.specs.Trees.{endorsed}
use Rattle.host_code.specs.declared.code_expr.Node.{Node}
use Rattle.host_code.specs.declared.code_expr.Node.TheVariants as node

-- how many fields it reads
abbrev pub reads_in : ExprTree → ℕ
reads_in (number value) = 0
reads_in (local x) = 0
reads_in (scalar field) = 1
reads_in (element field index) = reads_in index + 1
reads_in (inverted operand) = reads_in operand
reads_in (negated operand) = reads_in operand
reads_in (binary operator left right) = reads_in left + reads_in right
reads_in (declassified operand label) = reads_in operand
reads_in (endorsed operand label) = reads_in operand

-- the nodes of an expression whose first read leaves the temporary of this number
abbrev pub nodes_of : ℕ → ExprTree → List Node
nodes_of first (number value) = node.Number value ∷ []
nodes_of first (local x) = node.Var x ∷ []
nodes_of first (scalar field) = node.Temp first ∷ []
nodes_of first (element field index) = node.Temp (first + reads_in index) ∷ []
nodes_of first (inverted operand) = nodes_of first operand ++ node.Not ∷ []
nodes_of first (negated operand) = nodes_of first operand ++ node.Negate ∷ []
nodes_of first (binary operator left right) =
    nodes_of first left ++ nodes_of (first + reads_in left) right ++ node.Binary operator ∷ []
nodes_of first (declassified operand label) = nodes_of first operand
nodes_of first (endorsed operand label) = nodes_of first operand

-- The operands that are released where an expression is evaluated whose first read left the temporary of this number,
-- inner before outer and from the left. What is released in an index is released where the element is read.
abbrev pub released_by : ℕ → ExprTree → List (List Node)
released_by first (number value) = []
released_by first (local x) = []
released_by first (scalar field) = []
released_by first (element field index) = []
released_by first (inverted operand) = released_by first operand
released_by first (negated operand) = released_by first operand
released_by first (binary operator left right) =
    released_by first left ++ released_by (first + reads_in left) right
released_by first (declassified operand label) = released_by first operand ++ nodes_of first operand ∷ []
released_by first (endorsed operand label) = released_by first operand

-- the index of a plain field
abbrev pub first_element : List Node
first_element = node.Number (pos 0) ∷ []

-- a read of an element, by the nodes of its index, with the operands that are released in the index
pub record ElementReading : Type 0 where
  pub field : FieldId
  pub index : List Node
  pub released : List (List Node)

-- its reads in order
abbrev pub readings_of : ℕ → ExprTree → List ElementReading
readings_of first (number value) = []
readings_of first (local x) = []
readings_of first (scalar field) = record { field = field; index = first_element; released = [] } ∷ []
readings_of first (element field index) =
    readings_of first index
    ++ record { field = field; index = nodes_of first index; released = released_by first index } ∷ []
readings_of first (inverted operand) = readings_of first operand
readings_of first (negated operand) = readings_of first operand
readings_of first (binary operator left right) =
    readings_of first left ++ readings_of (first + reads_in left) right
readings_of first (declassified operand label) = readings_of first operand
readings_of first (endorsed operand label) = readings_of first operand
