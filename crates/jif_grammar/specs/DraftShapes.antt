-- Drafts as contracts see them: without pointers, and the statements of a block one after the other.
use Rattle.std.specs.Prelude.{ℕ, ℤ, Bool, List, [], ◌∷◌, map, Option}
use Rattle.std.specs.String.{string_bytes}
use Rattle.std.specs.Option.{option_map}
use Rattle.js_base.specs.declared.binary_operator.BinOp.{BinOp}
use Rattle.jif_tree.specs.declared.draft.Draft.{Draft}
use Rattle.jif_tree.specs.declared.draft.NameDraft.{NameDraft}
use Rattle.jif_tree.specs.declared.draft.PolicyDraft.{PolicyDraft}
use Rattle.jif_tree.specs.declared.draft.LabelDraft.{LabelDraft}
use Rattle.jif_tree.specs.declared.draft.FieldDraft.{FieldDraft}
use Rattle.jif_tree.specs.declared.draft.ParamDraft.{ParamDraft}
use Rattle.jif_tree.specs.declared.draft.MethodDraft.{MethodDraft}
use Rattle.jif_tree.specs.declared.draft.ExprDraft as code
use Rattle.jif_tree.specs.declared.draft.ExprDraft.{ExprDraft}
use Rattle.jif_tree.specs.declared.draft.StmtKindDraft as kind
use Rattle.jif_tree.specs.declared.draft.StmtKindDraft.{StmtKindDraft}
use Rattle.jif_tree.specs.declared.draft.StmtDraft.{StmtDraft}

-- a name, and the number of its token
pub record NameShape : Type 0 where
  pub text : List ℕ
  pub at : ℕ

pub record PolicyShape : Type 0 where
  pub owner : NameShape
  pub readers : List NameShape

pub record LabelShape : Type 0 where
  pub policies : List PolicyShape
  pub trust : Option (List NameShape)

pub data ExprShape : Type 0 where
  number_shape : ℤ → ExprShape
  variable_shape : NameShape → ExprShape
  element_shape : NameShape → ExprShape → ExprShape
  complement_shape : ExprShape → ExprShape
  negation_shape : ExprShape → ExprShape
  binary_shape : BinOp → ExprShape → ExprShape → ExprShape
  release_shape : ExprShape → LabelShape → ExprShape
  endorsement_shape : ExprShape → LabelShape → ExprShape

-- the first token of a statement, and its line
pub record Start : Type 0 where
  pub at : ℕ
  pub line : ℕ

-- each statement has those after it as its last part
pub data BlockShape : Type 0 where
  end_shape : BlockShape
  declaration_shape : Start → Option LabelShape → NameShape → ExprShape → BlockShape → BlockShape
  assignment_shape : Start → NameShape → ExprShape → BlockShape → BlockShape
  element_assignment_shape : Start → NameShape → ExprShape → ExprShape → BlockShape → BlockShape
  branch_shape : Start → ExprShape → BlockShape → BlockShape → BlockShape → BlockShape
  loop_shape : Start → ExprShape → BlockShape → BlockShape → BlockShape
  call_shape : Start → NameShape → List ExprShape → Option NameShape → BlockShape → BlockShape
  return_shape : Start → ExprShape → BlockShape → BlockShape

pub record FieldShape : Type 0 where
  pub label : LabelShape
  pub name : NameShape
  pub size : ℕ
  pub array : Bool
  pub first : ℤ

pub record ParamShape : Type 0 where
  pub label : LabelShape
  pub name : NameShape

pub record MethodShape : Type 0 where
  pub result : Option LabelShape
  pub name : NameShape
  pub begin : LabelShape
  pub params : List ParamShape
  pub authority : List NameShape
  pub line : ℕ
  pub body : BlockShape

pub record DraftShape : Type 0 where
  pub fields : List FieldShape
  pub methods : List MethodShape

-- ---- the shape of a draft of the code

abbrev pub name_shape : NameDraft → NameShape
name_shape name = record { text = string_bytes name.text; at = name.at }

abbrev pub policy_shape : PolicyDraft → PolicyShape
policy_shape policy = record { owner = name_shape policy.owner; readers = map name_shape policy.readers.items }

abbrev pub label_shape : LabelDraft → LabelShape
label_shape label = record {
  policies = map policy_shape label.policies.items;
  trust = option_map (λ names. map name_shape names.items) label.trust;
}

abbrev pub expr_shape : ExprDraft → ExprShape
expr_shape (code.Number n) = number_shape n
expr_shape (code.Name name) = variable_shape (name_shape name)
expr_shape (code.Element' name p index) = element_shape (name_shape name) (expr_shape index)
expr_shape (code.Not' p operand) = complement_shape (expr_shape operand)
expr_shape (code.Negate' p operand) = negation_shape (expr_shape operand)
expr_shape (code.Binary' operator p left q right) = binary_shape operator (expr_shape left) (expr_shape right)
expr_shape (code.Declassify' p inner label) = release_shape (expr_shape inner) (label_shape label)
expr_shape (code.Endorse' p inner label) = endorsement_shape (expr_shape inner) (label_shape label)

-- a statement and those after it; `row_shape` has the same of a nested block
abbrev mutual
  pub statement_shape : StmtKindDraft → Start → BlockShape → BlockShape
  statement_shape (kind.Declare label name value) start rest =
      declaration_shape start (option_map label_shape label) (name_shape name) (expr_shape value) rest
  statement_shape (kind.Assign name value) start rest =
      assignment_shape start (name_shape name) (expr_shape value) rest
  statement_shape (kind.AssignElement name index value) start rest =
      element_assignment_shape start (name_shape name) (expr_shape index) (expr_shape value) rest
  statement_shape (kind.If' guard m first n second) start rest =
      branch_shape start (expr_shape guard) (row_shape first) (row_shape second) rest
  statement_shape (kind.While' guard m body) start rest =
      loop_shape start (expr_shape guard) (row_shape body) rest
  statement_shape (kind.Call name args into) start rest =
      call_shape start (name_shape name) (map expr_shape args.items) (option_map name_shape into) rest
  statement_shape (kind.Return value) start rest = return_shape start (expr_shape value) rest

  pub row_shape : {n : _} → kind.Row_of-StmtDraft n → BlockShape
  row_shape kind.end_of-StmtDraft = end_shape
  row_shape (kind.more_of-StmtDraft at line what rest) =
      statement_shape what (record { at = at; line = line }) (row_shape rest)

abbrev pub block_shape : List StmtDraft → BlockShape
block_shape [] = end_shape
block_shape (statement ∷ statements) =
    statement_shape statement.kind (record { at = statement.at; line = statement.line }) (block_shape statements)

abbrev pub field_shape : FieldDraft → FieldShape
field_shape field = record {
  label = label_shape field.label;
  name = name_shape field.name;
  size = field.size;
  array = field.array;
  first = field.first;
}

abbrev pub param_shape : ParamDraft → ParamShape
param_shape param = record { label = label_shape param.label; name = name_shape param.name }

abbrev pub method_shape : MethodDraft → MethodShape
method_shape method = record {
  result = option_map label_shape method.result;
  name = name_shape method.name;
  begin = label_shape method.begin;
  params = map param_shape method.params.items;
  authority = map name_shape method.authority.items;
  line = method.line;
  body = block_shape method.body.items;
}

abbrev pub draft_shape : Draft → DraftShape
draft_shape draft = record {
  fields = map field_shape draft.fields.items;
  methods = map method_shape draft.methods.items;
}
