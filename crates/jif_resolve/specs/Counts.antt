-- How many nodes an expression has, and how many locals, statements and calls stand in a block, with those in the
-- blocks inside it.
use Rattle.std.specs.Prelude.{ℕ, ◌+◌, List, [], ◌∷◌, ◌++◌, Option}
use Rattle.jif_grammar.specs.DraftShapes.{ExprShape, number_shape, variable_shape, element_shape, complement_shape}
use Rattle.jif_grammar.specs.DraftShapes.{negation_shape, binary_shape, release_shape, endorsement_shape}
use Rattle.jif_grammar.specs.DraftShapes.{NameShape, LabelShape, BlockShape, end_shape, declaration_shape}
use Rattle.jif_grammar.specs.DraftShapes.{assignment_shape, element_assignment_shape, branch_shape, loop_shape}
use Rattle.jif_grammar.specs.DraftShapes.{call_shape, return_shape}

-- names and numbers, operators, signs, and changes of labels
abbrev pub nodes_in : ExprShape → ℕ
nodes_in (number_shape value) = 1
nodes_in (variable_shape name) = 1
nodes_in (element_shape name index) = 1 + nodes_in index
nodes_in (complement_shape operand) = 1 + nodes_in operand
nodes_in (negation_shape operand) = 1 + nodes_in operand
nodes_in (binary_shape operator left right) = 1 + nodes_in left + nodes_in right
nodes_in (release_shape operand label) = 1 + nodes_in operand
nodes_in (endorsement_shape operand label) = 1 + nodes_in operand

-- of all arguments of a call
abbrev pub nodes_in_all : List ExprShape → ℕ
nodes_in_all [] = 0
nodes_in_all (arg ∷ args) = nodes_in arg + nodes_in_all args

-- a local as it is declared
pub record LocalShape : Type 0 where
  pub name : NameShape
  pub label : Option LabelShape

-- the locals that are declared, in the order of the text
abbrev pub locals_in : BlockShape → List LocalShape
locals_in end_shape = []
locals_in (declaration_shape start label name value rest) = record { name = name; label = label } ∷ locals_in rest
locals_in (assignment_shape start name value rest) = locals_in rest
locals_in (element_assignment_shape start name index value rest) = locals_in rest
locals_in (branch_shape start guard first second rest) = locals_in first ++ locals_in second ++ locals_in rest
locals_in (loop_shape start guard body rest) = locals_in body ++ locals_in rest
locals_in (call_shape start name args into rest) = locals_in rest
locals_in (return_shape start value rest) = locals_in rest

-- a statement counts as one, and each of those in its blocks as one more
abbrev pub statements_in : BlockShape → ℕ
statements_in end_shape = 0
statements_in (declaration_shape start label name value rest) = 1 + statements_in rest
statements_in (assignment_shape start name value rest) = 1 + statements_in rest
statements_in (element_assignment_shape start name index value rest) = 1 + statements_in rest
statements_in (branch_shape start guard first second rest) =
    1 + statements_in first + statements_in second + statements_in rest
statements_in (loop_shape start guard body rest) = 1 + statements_in body + statements_in rest
statements_in (call_shape start name args into rest) = 1 + statements_in rest
statements_in (return_shape start value rest) = 1 + statements_in rest

abbrev pub calls_in : BlockShape → ℕ
calls_in end_shape = 0
calls_in (declaration_shape start label name value rest) = calls_in rest
calls_in (assignment_shape start name value rest) = calls_in rest
calls_in (element_assignment_shape start name index value rest) = calls_in rest
calls_in (branch_shape start guard first second rest) = calls_in first + calls_in second + calls_in rest
calls_in (loop_shape start guard body rest) = calls_in body + calls_in rest
calls_in (call_shape start name args into rest) = 1 + calls_in rest
calls_in (return_shape start value rest) = calls_in rest
