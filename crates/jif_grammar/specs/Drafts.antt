-- The draft of a program's phrases. `at` is the number of the first token of what is meant, from 0.
use Rattle.std.specs.Prelude.{ℕ, ℤ, pos, neg_ℤ, ◌+◌, Bool, true, false, List, [], ◌∷◌, length, Option}
use Rattle.std.specs.Prelude.{Some, None}
use Rattle.label_lattice.specs.Written.{Part, policy, trust, part_tokens}
use Rattle.jif_grammar.specs.Phrases.{Sign, complement, minus, Change, release, acceptance}
use Rattle.jif_grammar.specs.Phrases.{LabelPhrase, ExprPhrase, number, variable, element, parenthesized, signed, binary}
use Rattle.jif_grammar.specs.Phrases.{relabelled, BlockPhrase, end, declaration, assignment, element_assignment, call}
use Rattle.jif_grammar.specs.Phrases.{call_into, branch, branch_else, loop, FieldEnd, unset, sized, set, FieldPhrase}
use Rattle.jif_grammar.specs.Phrases.{ParamPhrase, MethodPhrase, ItemPhrase, field, method, ProgramPhrase}
use Rattle.jif_grammar.specs.Marks.{nothing}
use Rattle.jif_grammar.specs.Spelling.{label_spelling, expr_spelling, args_spelling, optional_label_spelling}
use Rattle.jif_grammar.specs.Spelling.{block_spelling, param_spelling, params_spelling, authority_spelling}
use Rattle.jif_grammar.specs.Spelling.{head_spelling, item_spelling}
use Rattle.jif_grammar.specs.DraftShapes.{NameShape, PolicyShape, LabelShape, ExprShape, number_shape, variable_shape}
use Rattle.jif_grammar.specs.DraftShapes.{element_shape, complement_shape, negation_shape, binary_shape}
use Rattle.jif_grammar.specs.DraftShapes.{release_shape, endorsement_shape, Start, BlockShape, end_shape}
use Rattle.jif_grammar.specs.DraftShapes.{declaration_shape, assignment_shape, element_assignment_shape}
use Rattle.jif_grammar.specs.DraftShapes.{branch_shape, loop_shape, call_shape, return_shape, FieldShape, ParamShape}
use Rattle.jif_grammar.specs.DraftShapes.{MethodShape, DraftShape}

-- ---- labels

abbrev pub name_at : ℕ → List ℕ → NameShape
name_at at name = record { text = name; at = at }

-- a comma stands after each name
abbrev pub names_at : ℕ → List (List ℕ) → List NameShape
names_at at [] = []
names_at at (name ∷ names) = name_at at name ∷ names_at (at + 2) names

-- a semicolon stands after each part
abbrev pub after_part : ℕ → Part → ℕ
after_part at part = at + length (part_tokens part) + 1

abbrev pub policies_at : ℕ → LabelPhrase → List PolicyShape
policies_at at [] = []
policies_at at (policy owner readers ∷ parts) =
    record { owner = name_at at owner; readers = names_at (at + 2) readers }
    ∷ policies_at (after_part at (policy owner readers)) parts
policies_at at (trust members ∷ parts) = policies_at (after_part at (trust members)) parts

abbrev pub trust_at : ℕ → LabelPhrase → Option (List NameShape)
trust_at at [] = None
trust_at at (policy owner readers ∷ parts) = trust_at (after_part at (policy owner readers)) parts
trust_at at (trust members ∷ parts) = Some (names_at (at + 2) members)

abbrev pub label_at : ℕ → LabelPhrase → LabelShape
label_at at label = record { policies = policies_at (at + 1) label; trust = trust_at (at + 1) label }

abbrev pub label_width : LabelPhrase → ℕ
label_width label = length (label_spelling nothing 0 label)

-- ---- expressions

abbrev pub expr_width : ExprPhrase → ℕ
expr_width e = length (expr_spelling 0 e)

abbrev pub signed_shape : Sign → ExprShape → ExprShape
signed_shape complement operand = complement_shape operand
signed_shape minus operand = negation_shape operand

abbrev pub relabelled_shape : Change → ExprShape → LabelShape → ExprShape
relabelled_shape release inner label = release_shape inner label
relabelled_shape acceptance inner label = endorsement_shape inner label

abbrev pub expr_at : ℕ → ExprPhrase → ExprShape
expr_at at (number n) = number_shape (pos n)
expr_at at (variable name) = variable_shape (name_at at name)
expr_at at (element name index) = element_shape (name_at at name) (expr_at (at + 2) index)
expr_at at (parenthesized inner) = expr_at (at + 1) inner
expr_at at (signed sign operand) = signed_shape sign (expr_at (at + 1) operand)
expr_at at (binary operator left right) =
    binary_shape operator (expr_at at left) (expr_at (at + expr_width left + 1) right)
expr_at at (relabelled change inner label) =
    relabelled_shape change (expr_at (at + 2) inner) (label_at (at + 3 + expr_width inner) label)

-- a comma stands after each argument
abbrev pub args_at : ℕ → List ExprPhrase → List ExprShape
args_at at [] = []
args_at at (arg ∷ args) = expr_at at arg ∷ args_at (at + expr_width arg + 1) args

-- ---- statements. `lines` has the line of each token.

abbrev pub start_at : (ℕ → ℕ) → ℕ → Start
start_at lines at = record { at = at; line = lines at }

abbrev pub optional_label_at : ℕ → Option LabelPhrase → Option LabelShape
optional_label_at at None = None
optional_label_at at (Some label) = Some (label_at at label)

-- where the statements after the first stand
abbrev pub block_width : BlockPhrase → ℕ
block_width block = length (block_spelling 0 block)

-- the statements, and then those behind
abbrev pub block_at : (ℕ → ℕ) → ℕ → BlockPhrase → BlockShape → BlockShape
block_at lines at end behind = behind
block_at lines at (declaration label name value rest) behind =
    let name_place = at + 1 + length (optional_label_spelling 0 label) in
    declaration_shape (start_at lines at) (optional_label_at (at + 1) label) (name_at name_place name)
    (expr_at (name_place + 2) value) (block_at lines (name_place + 3 + expr_width value) rest behind)
block_at lines at (assignment name value rest) behind =
    assignment_shape (start_at lines at) (name_at at name) (expr_at (at + 2) value)
    (block_at lines (at + 3 + expr_width value) rest behind)
block_at lines at (element_assignment name index value rest) behind =
    let value_place = at + 4 + expr_width index in
    element_assignment_shape (start_at lines at) (name_at at name) (expr_at (at + 2) index) (expr_at value_place value)
    (block_at lines (value_place + 1 + expr_width value) rest behind)
block_at lines at (call name args rest) behind =
    call_shape (start_at lines at) (name_at at name) (args_at (at + 2) args) None
    (block_at lines (at + 4 + length (args_spelling 0 args)) rest behind)
block_at lines at (call_into into name args rest) behind =
    call_shape (start_at lines at) (name_at (at + 2) name) (args_at (at + 4) args) (Some (name_at at into))
    (block_at lines (at + 6 + length (args_spelling 0 args)) rest behind)
block_at lines at (branch guard first rest) behind =
    let first_place = at + 4 + expr_width guard in
    branch_shape (start_at lines at) (expr_at (at + 2) guard) (block_at lines first_place first end_shape) end_shape
    (block_at lines (first_place + 1 + block_width first) rest behind)
block_at lines at (branch_else guard first second rest) behind =
    let first_place = at + 4 + expr_width guard in
    let second_place = first_place + 3 + block_width first in
    branch_shape (start_at lines at) (expr_at (at + 2) guard) (block_at lines first_place first end_shape)
    (block_at lines second_place second end_shape)
    (block_at lines (second_place + 1 + block_width second) rest behind)
block_at lines at (loop guard body rest) behind =
    let body_place = at + 4 + expr_width guard in
    loop_shape (start_at lines at) (expr_at (at + 2) guard) (block_at lines body_place body end_shape)
    (block_at lines (body_place + 1 + block_width body) rest behind)

abbrev pub result_at : (ℕ → ℕ) → ℕ → Option ExprPhrase → BlockShape
result_at lines at None = end_shape
result_at lines at (Some value) = return_shape (start_at lines at) (expr_at (at + 1) value) end_shape

-- ---- fields and methods

abbrev pub size_of : FieldEnd → ℕ
size_of unset = 1
size_of (sized size) = size
size_of (set negative first) = 1

abbrev pub is_array : FieldEnd → Bool
is_array unset = false
is_array (sized size) = true
is_array (set negative first) = false

abbrev pub first_value : FieldEnd → ℤ
first_value unset = pos 0
first_value (sized size) = pos 0
first_value (set false first) = pos first
first_value (set true first) = neg_ℤ (pos first)

abbrev pub field_at : ℕ → FieldPhrase → FieldShape
field_at at phrase = record {
  label = label_at (at + 1) phrase.label;
  name = name_at (at + 1 + label_width phrase.label) phrase.name;
  size = size_of phrase.ending;
  array = is_array phrase.ending;
  first = first_value phrase.ending;
}

-- a comma stands after each parameter
abbrev pub params_at : ℕ → List ParamPhrase → List ParamShape
params_at at [] = []
params_at at (param ∷ params) =
    record { label = label_at (at + 1) param.label; name = name_at (at + 1 + label_width param.label) param.name }
    ∷ params_at (at + length (param_spelling param) + 1) params

-- where a method's name stands
abbrev pub method_name_place : ℕ → Option LabelPhrase → ℕ
method_name_place at kind = at + 1 + length (optional_label_spelling 0 kind)

abbrev pub method_at : (ℕ → ℕ) → ℕ → MethodPhrase → MethodShape
method_at lines at phrase =
    let name_place = method_name_place at phrase.kind in
    let params_place = at + length (head_spelling phrase.kind phrase.name phrase.begin) + 1 in
    let authority_place = params_place + length (params_spelling phrase.params) + 1 in
    let body_place = authority_place + length (authority_spelling phrase.authority) + 1 in
    record {
      result = optional_label_at (at + 1) phrase.kind;
      name = name_at name_place phrase.name;
      begin = label_at (name_place + 1) phrase.begin;
      params = params_at params_place phrase.params;
      authority = names_at (authority_place + 3) phrase.authority;
      line = lines at;
      body = block_at lines body_place phrase.body
          (result_at lines (body_place + block_width phrase.body) phrase.result);
    }

-- ---- programs

abbrev pub after_item : ℕ → ItemPhrase → ℕ
after_item at item = at + length (item_spelling item)

abbrev pub fields_at : ℕ → ProgramPhrase → List FieldShape
fields_at at [] = []
fields_at at (field phrase ∷ items) = field_at at phrase ∷ fields_at (after_item at (field phrase)) items
fields_at at (method phrase ∷ items) = fields_at (after_item at (method phrase)) items

abbrev pub methods_at : (ℕ → ℕ) → ℕ → ProgramPhrase → List MethodShape
methods_at lines at [] = []
methods_at lines at (field phrase ∷ items) = methods_at lines (after_item at (field phrase)) items
methods_at lines at (method phrase ∷ items) =
    method_at lines at phrase ∷ methods_at lines (after_item at (method phrase)) items

-- the draft of a program whose tokens stand on these lines
abbrev pub draft_of : (ℕ → ℕ) → ProgramPhrase → DraftShape
draft_of lines program = record { fields = fields_at 0 program; methods = methods_at lines 0 program }
