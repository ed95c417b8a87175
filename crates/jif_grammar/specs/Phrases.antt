-- The phrases of a program: what the grammar makes of its tokens, with a node for each pair of parentheses.
use Rattle.std.specs.Prelude.{ℕ, Bool, List, Option}
use Rattle.js_base.specs.declared.binary_operator.BinOp.{BinOp}
use Rattle.label_lattice.specs.Written.{Part}

-- a label is its parts
abbrev pub LabelPhrase : Type 0
LabelPhrase = List Part

-- `!` and `-` before an operand
pub data Sign : Type 0 where
  complement : Sign
  minus : Sign

-- `declassify` and `endorse`
pub data Change : Type 0 where
  release : Change
  acceptance : Change

pub data ExprPhrase : Type 0 where
  number : ℕ → ExprPhrase
  variable : List ℕ → ExprPhrase
  -- an array and an index
  element : List ℕ → ExprPhrase → ExprPhrase
  parenthesized : ExprPhrase → ExprPhrase
  signed : Sign → ExprPhrase → ExprPhrase
  binary : BinOp → ExprPhrase → ExprPhrase → ExprPhrase
  relabelled : Change → ExprPhrase → LabelPhrase → ExprPhrase

-- Statements, one after the other: each has those after it as its last part.
pub data BlockPhrase : Type 0 where
  end : BlockPhrase
  declaration : Option LabelPhrase → List ℕ → ExprPhrase → BlockPhrase → BlockPhrase
  assignment : List ℕ → ExprPhrase → BlockPhrase → BlockPhrase
  -- an array, an index and a value
  element_assignment : List ℕ → ExprPhrase → ExprPhrase → BlockPhrase → BlockPhrase
  call : List ℕ → List ExprPhrase → BlockPhrase → BlockPhrase
  -- a local, a method and arguments
  call_into : List ℕ → List ℕ → List ExprPhrase → BlockPhrase → BlockPhrase
  branch : ExprPhrase → BlockPhrase → BlockPhrase → BlockPhrase
  branch_else : ExprPhrase → BlockPhrase → BlockPhrase → BlockPhrase → BlockPhrase
  loop : ExprPhrase → BlockPhrase → BlockPhrase → BlockPhrase

-- what follows a field's name
pub data FieldEnd : Type 0 where
  unset : FieldEnd
  sized : ℕ → FieldEnd
  -- whether a `-` stands before the number
  set : Bool → ℕ → FieldEnd

pub record FieldPhrase : Type 0 where
  pub label : LabelPhrase
  pub name : List ℕ
  pub ending : FieldEnd

pub record ParamPhrase : Type 0 where
  pub label : LabelPhrase
  pub name : List ℕ

pub record MethodPhrase : Type 0 where
  -- `None` for `void`
  pub kind : Option LabelPhrase
  pub name : List ℕ
  pub begin : LabelPhrase
  pub params : List ParamPhrase
  -- no names where nothing is said of authority
  pub authority : List (List ℕ)
  pub body : BlockPhrase
  pub result : Option ExprPhrase

pub data ItemPhrase : Type 0 where
  field : FieldPhrase → ItemPhrase
  method : MethodPhrase → ItemPhrase

abbrev pub ProgramPhrase : Type 0
ProgramPhrase = List ItemPhrase
