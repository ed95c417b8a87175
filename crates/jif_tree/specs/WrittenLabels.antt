-- The labels that are written in a program.
use Rattle.std.specs.Prelude.{List, [], ◌∷◌, ◌++◌, Option, Some, None}
use Rattle.std.specs.List.{flat_map}
use Rattle.label_lattice.specs.declared.label.Label.{Label}
use Rattle.jif_tree.specs.Trees.{ExprTree, number, local, scalar, element, inverted, negated, binary, declassified}
use Rattle.jif_tree.specs.Trees.{endorsed, BlockTree, done, set_local, set_field, set_element, branch, loop}
use Rattle.jif_tree.specs.Trees.{call, give_back}

abbrev pub written_in : ExprTree → List Label
written_in (number value) = []
written_in (local x) = []
written_in (scalar field) = []
written_in (element field index) = written_in index
written_in (inverted operand) = written_in operand
written_in (negated operand) = written_in operand
written_in (binary operator left right) = written_in left ++ written_in right
written_in (declassified operand label) = written_in operand ++ label ∷ []
written_in (endorsed operand label) = written_in operand ++ label ∷ []

abbrev pub written_in_block : BlockTree → List Label
written_in_block done = []
written_in_block (set_local heading x value rest) = written_in value ++ written_in_block rest
written_in_block (set_field heading field value rest) = written_in value ++ written_in_block rest
written_in_block (set_element heading field index value rest) =
    written_in index ++ written_in value ++ written_in_block rest
written_in_block (branch heading guard first second rest) =
    written_in guard ++ written_in_block first ++ written_in_block second ++ written_in_block rest
written_in_block (loop heading guard body rest) = written_in guard ++ written_in_block body ++ written_in_block rest
written_in_block (call heading site method arguments into rest) =
    flat_map written_in arguments ++ written_in_block rest
written_in_block (give_back heading value rest) = written_in value ++ written_in_block rest

abbrev pub label_of_variable : Option Label → List Label
label_of_variable None = []
label_of_variable (Some label) = label ∷ []
