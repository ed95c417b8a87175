-- The parts of a program that hosts hold: its fields, the heads of its methods, and its statements.
use Rattle.std.specs.Prelude.{ℕ, List, [], ◌∷◌, ◌++◌, map, length, Option}
use Rattle.std.specs.List.{flat_map, range_with_len}
use Rattle.js_base.specs.declared.ids.FieldId.{FieldId}
use Rattle.principals.specs.ActsFor.{Declared}
use Rattle.label_lattice.specs.declared.label.Label.{Label}
use Rattle.jif_tree.specs.Trees.{BlockTree, done, set_local, set_field, set_element, branch, loop, call, give_back}
use Rattle.jif_tree.specs.Trees.{MethodTree, ProgramTree, method_tree, tree_before}
use Rattle.need_labels.specs.Labelled.{Labelled}
use Rattle.place_reasons.specs.declared.reason.PlaceReason.{PlaceReason}
use Rattle.place_reasons.specs.Reasons.{field_reason, head_reason, statement_reason, id_of}
use Rattle.place_texts.specs.declared.part.Part.{Part}
use Rattle.place_texts.specs.declared.part.Part.TheVariants as part

-- a field, the head of a method, or the one statement of a block in a method
pub data PartShape : Type 0 where
  field : FieldId → PartShape
  head : MethodTree → PartShape
  statement : MethodTree → BlockTree → PartShape

abbrev pub part_shape : Part → PartShape
part_shape (part.Field number) = field number
part_shape (part.Head method) = head (method_tree method.now)
part_shape (part.Statement method one) = statement (method_tree method.now) (tree_before one.now done)

-- ---- all parts of a program

-- by their numbers
abbrev pub fields_of : ProgramTree → List PartShape
fields_of tree = map (λ number. field (record { 0 = number })) (range_with_len 0 (length tree.fields))

-- the statements of a block and of the blocks in it, in the order of the text
abbrev pub block_parts : MethodTree → BlockTree → List PartShape
block_parts method done = []
block_parts method (set_local heading x value rest) =
    statement method (set_local heading x value done) ∷ block_parts method rest
block_parts method (set_field heading to value rest) =
    statement method (set_field heading to value done) ∷ block_parts method rest
block_parts method (set_element heading to index value rest) =
    statement method (set_element heading to index value done) ∷ block_parts method rest
block_parts method (branch heading guard first second rest) =
    statement method (branch heading guard first second done)
    ∷ block_parts method first ++ block_parts method second ++ block_parts method rest
block_parts method (loop heading guard body rest) =
    statement method (loop heading guard body done) ∷ block_parts method body ++ block_parts method rest
block_parts method (call heading site called arguments into rest) =
    statement method (call heading site called arguments into done) ∷ block_parts method rest
block_parts method (give_back heading value rest) =
    statement method (give_back heading value done) ∷ block_parts method rest

-- a method's head, and then its statements
abbrev pub method_parts : MethodTree → List PartShape
method_parts method = head method ∷ block_parts method method.body

-- by their numbers, heads among them
abbrev pub statements_of : ProgramTree → List PartShape
statements_of tree = flat_map method_parts tree.methods

abbrev pub parts_of : ProgramTree → List PartShape
parts_of tree = fields_of tree ++ statements_of tree

-- ---- one part

-- the number of a field, or of a statement
abbrev pub number_of : PartShape → ℕ
number_of (field number) = number.0
number_of (head method) = method.head.0
number_of (statement method block) = (id_of block).0

-- the line of the first statement of a block
abbrev pub block_line : BlockTree → ℕ
block_line done = 0
block_line (set_local heading x value rest) = heading.line
block_line (set_field heading to value rest) = heading.line
block_line (set_element heading to index value rest) = heading.line
block_line (branch heading guard first second rest) = heading.line
block_line (loop heading guard body rest) = heading.line
block_line (call heading site called arguments into rest) = heading.line
block_line (give_back heading value rest) = heading.line

-- the line on which a statement or a head begins
abbrev pub line_of : PartShape → ℕ
line_of (field number) = 0
line_of (head method) = method.line
line_of (statement method block) = block_line block

-- why a host of this label may not hold it
abbrev pub reason_of : Declared → Labelled → Label → PartShape → Option PlaceReason
reason_of principals labelled host (field number) = field_reason principals labelled host number
reason_of principals labelled host (head method) = head_reason principals host method
reason_of principals labelled host (statement method block) = statement_reason principals labelled host method block
