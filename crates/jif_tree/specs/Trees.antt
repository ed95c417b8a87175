-- Programs as contracts see them: without pointers, and the statements of a block one after the other. Two programs
-- are the same where these are the same.
use Rattle.std.specs.Prelude.{ℕ, ℤ, Bool, List, [], ◌∷◌, map, Option}
use Rattle.std.specs.String.{string_bytes}
use Rattle.js_base.specs.declared.binary_operator.BinOp.{BinOp}
use Rattle.js_base.specs.declared.ids.FieldId.{FieldId}
use Rattle.js_base.specs.declared.ids.VarId.{VarId}
use Rattle.js_base.specs.declared.ids.MethodId.{MethodId}
use Rattle.js_base.specs.declared.ids.StmtId.{StmtId}
use Rattle.js_base.specs.declared.ids.SiteId.{SiteId}
use Rattle.js_base.specs.declared.ids.PrincipalId.{PrincipalId}
use Rattle.label_lattice.specs.declared.label.Label.{Label}
use Rattle.jif_tree.specs.declared.program.Program.{Program}
use Rattle.jif_tree.specs.declared.program.Field.{Field}
use Rattle.jif_tree.specs.declared.program.Var.{Var}
use Rattle.jif_tree.specs.declared.program.Method.{Method}
use Rattle.jif_tree.specs.declared.program.Stmt.{Stmt}
use Rattle.jif_tree.specs.declared.program.StmtKind.{StmtKind}
use Rattle.jif_tree.specs.declared.program.StmtKind as kind
use Rattle.jif_tree.specs.declared.program.Expr.{Expr}
use Rattle.jif_tree.specs.declared.program.Expr as expr

pub data ExprTree : Type 0 where
  number : ℤ → ExprTree
  local : VarId → ExprTree
  scalar : FieldId → ExprTree
  element : FieldId → ExprTree → ExprTree
  inverted : ExprTree → ExprTree
  negated : ExprTree → ExprTree
  binary : BinOp → ExprTree → ExprTree → ExprTree
  declassified : ExprTree → Label → ExprTree
  endorsed : ExprTree → Label → ExprTree

-- the number and the line of a statement
pub record Heading : Type 0 where
  pub id : StmtId
  pub line : ℕ

-- each statement has those after it as its last part
pub data BlockTree : Type 0 where
  done : BlockTree
  set_local : Heading → VarId → ExprTree → BlockTree → BlockTree
  set_field : Heading → FieldId → ExprTree → BlockTree → BlockTree
  set_element : Heading → FieldId → ExprTree → ExprTree → BlockTree → BlockTree
  branch : Heading → ExprTree → BlockTree → BlockTree → BlockTree → BlockTree
  loop : Heading → ExprTree → BlockTree → BlockTree → BlockTree
  call : Heading → SiteId → MethodId → List ExprTree → Option VarId → BlockTree → BlockTree
  give_back : Heading → ExprTree → BlockTree → BlockTree

pub record FieldTree : Type 0 where
  pub name : List ℕ
  pub label : Label
  pub size : ℕ
  pub array : Bool
  pub first : ℤ

pub record VarTree : Type 0 where
  pub method : MethodId
  pub name : List ℕ
  pub label : Option Label

pub record MethodTree : Type 0 where
  pub name : List ℕ
  pub begin : Label
  pub params : List VarId
  pub result : Option VarId
  pub authority : List PrincipalId
  pub head : StmtId
  pub line : ℕ
  pub body : BlockTree

pub record ProgramTree : Type 0 where
  pub fields : List FieldTree
  pub vars : List VarTree
  pub methods : List MethodTree
  pub main : MethodId

-- ---- the tree of a program of the code

abbrev pub expr_tree : Expr → ExprTree
expr_tree (expr.Number n) = number n
expr_tree (expr.Local x) = local x
expr_tree (expr.Scalar field) = scalar field
expr_tree (expr.Element' field p index) = element field (expr_tree index)
expr_tree (expr.Not' p operand) = inverted (expr_tree operand)
expr_tree (expr.Negate' p operand) = negated (expr_tree operand)
expr_tree (expr.Binary' operator p left q right) = binary operator (expr_tree left) (expr_tree right)
expr_tree (expr.Declassify' p inner label) = declassified (expr_tree inner) label.value
expr_tree (expr.Endorse' p inner label) = endorsed (expr_tree inner) label.value

-- a statement and those after it; `row_tree` has the same of a nested block
abbrev mutual
  pub statement_tree : StmtKind → Heading → BlockTree → BlockTree
  statement_tree (kind.Let x value) heading rest = set_local heading x (expr_tree value) rest
  statement_tree (kind.SetField field value) heading rest = set_field heading field (expr_tree value) rest
  statement_tree (kind.SetElement field index value) heading rest =
      set_element heading field (expr_tree index) (expr_tree value) rest
  statement_tree (kind.If' guard m first n second) heading rest =
      branch heading (expr_tree guard) (row_tree first) (row_tree second) rest
  statement_tree (kind.While' guard m body) heading rest = loop heading (expr_tree guard) (row_tree body) rest
  statement_tree (kind.Call site method args into) heading rest =
      call heading site method (map expr_tree args.items) into rest
  statement_tree (kind.Return value) heading rest = give_back heading (expr_tree value) rest

  pub row_tree : {n : _} → kind.Row_of-Stmt n → BlockTree
  row_tree kind.end_of-Stmt = done
  row_tree (kind.more_of-Stmt id line what rest) =
      statement_tree what (record { id = id; line = line }) (row_tree rest)

abbrev pub head_of : Stmt → Heading
head_of statement = record { id = statement.id; line = statement.line }

-- a statement and those after it, which may be of no list
abbrev pub tree_before : Stmt → BlockTree → BlockTree
tree_before statement rest = statement_tree statement.kind (head_of statement) rest

abbrev pub block_tree : List Stmt → BlockTree
block_tree [] = done
block_tree (statement ∷ statements) = tree_before statement (block_tree statements)

abbrev pub field_tree : Field → FieldTree
field_tree field = record {
  name = string_bytes field.name;
  label = field.label;
  size = field.size;
  array = field.array;
  first = field.first;
}

abbrev pub var_tree : Var → VarTree
var_tree var = record { method = var.method; name = string_bytes var.name; label = var.label }

abbrev pub method_tree : Method → MethodTree
method_tree method = record {
  name = string_bytes method.name;
  begin = method.begin;
  params = method.params.items;
  result = method.result;
  authority = method.authority.items;
  head = method.head;
  line = method.line;
  body = block_tree method.body.items;
}

abbrev pub program_tree : Program → ProgramTree
program_tree program = record {
  fields = map field_tree program.fields.items;
  vars = map var_tree program.vars.items;
  methods = map method_tree program.methods.items;
  main = program.main;
}
