-- Tokens with what begins at them, how deeply they are nested, and what has begun up to a token.
use Rattle.std.specs.Prelude.{ℕ, ◌+◌, ◌<◌, ◌⊎◌, List, [], ◌∷◌}
use Rattle.jif_lex.specs.declared.token.TokenKind.{TokenKind}
use Rattle.js_base.specs.declared.limits.TheConstants.{FIELDS, METHODS, PARAMETERS, VARIABLES, STATEMENTS}
use Rattle.js_base.specs.declared.limits.TheConstants.{EXPRESSION_NODES, ARRAY_SIZE, ELEMENTS, NESTING}
use Rattle.jif_grammar.specs.declared.what.What.{What}
use Rattle.jif_grammar.specs.declared.what.What.TheVariants.{Fields, Methods, Parameters, Locals, Statements, Nodes}
use Rattle.jif_grammar.specs.declared.what.What.TheVariants.{Elements}

-- What is certain to begin at a token. A field or an `int` method begins at the symbol after its name, an array's
-- elements at the number of its size, and all else at its first token.
pub data Beginning : Type 0 where
  nothing : Beginning
  -- a field with its one element
  plain_field : Beginning
  array : Beginning
  -- so many elements of an array
  elements : ℕ → Beginning
  -- a method with its head, which counts as a statement
  method : Beginning
  parameter : Beginning
  -- a declaration of a local
  local : Beginning
  statement : Beginning
  node : Beginning
  -- The arguments of a call after `=`. Up to here the method's name could be a node, and counts as one.
  arguments : Beginning

-- A token. `nesting` counts the constructs that are open at it, with one that opens there: blocks of statements,
-- parentheses and index brackets of expressions, `declassify` and `endorse`, and signs before an operand.
pub record Marked : Type 0 where
  pub kind : TokenKind
  pub nesting : ℕ
  pub begins : Beginning

abbrev pub mark : Beginning → ℕ → TokenKind → Marked
mark begins nesting kind = record { kind = kind; nesting = nesting; begins = begins }

abbrev pub plain : ℕ → TokenKind → Marked
plain nesting kind = mark nothing nesting kind

-- What has begun so far: of the last method, its parameters and its variables, which are parameters and locals; of the
-- last statement, its nodes; of the last array, its size. `nesting` is that of the last token.
pub record Tally : Type 0 where
  pub nesting : ℕ
  pub methods : ℕ
  pub statements : ℕ
  pub parameters : ℕ
  pub variables : ℕ
  pub nodes : ℕ
  pub fields : ℕ
  pub size : ℕ
  pub elements : ℕ

abbrev pub tally_at_start : Tally
tally_at_start = record {
  nesting = 0;
  methods = 0;
  statements = 0;
  parameters = 0;
  variables = 0;
  nodes = 0;
  fields = 0;
  size = 0;
  elements = 0;
}

abbrev pub after_beginning : Tally → Beginning → Tally
after_beginning t nothing = t
after_beginning t plain_field = record t { fields = t.fields + 1; elements = t.elements + 1 }
after_beginning t array = record t { fields = t.fields + 1 }
after_beginning t (elements size) = record t { size = size; elements = t.elements + size }
after_beginning t method = record t {
  methods = t.methods + 1;
  statements = t.statements + 1;
  parameters = 0;
  variables = 0;
  nodes = 0;
}
after_beginning t parameter = record t { parameters = t.parameters + 1; variables = t.variables + 1 }
after_beginning t local = record t { statements = t.statements + 1; variables = t.variables + 1; nodes = 0 }
after_beginning t statement = record t { statements = t.statements + 1; nodes = 0 }
after_beginning t node = record t { nodes = t.nodes + 1 }
after_beginning t arguments = record t { nodes = 0 }

abbrev pub after_token : Tally → Marked → Tally
after_token t token = record (after_beginning t token.begins) { nesting = token.nesting }

abbrev pub after_tokens : Tally → List Marked → Tally
after_tokens t [] = t
after_tokens t (token ∷ tokens) = after_tokens (after_token t token) tokens

abbrev pub tally : List Marked → Tally
tally tokens = after_tokens tally_at_start tokens

abbrev pub IsTooDeep : Tally → Type 0
IsTooDeep t = NESTING < t.nesting

-- so many have begun that a limit is passed
abbrev pub HasTooMany : What → Tally → Type 0
HasTooMany Fields t = FIELDS < t.fields
HasTooMany Methods t = METHODS < t.methods
HasTooMany Parameters t = PARAMETERS < t.parameters
HasTooMany Locals t = VARIABLES < t.variables
HasTooMany Statements t = STATEMENTS < t.statements
HasTooMany Nodes t = EXPRESSION_NODES < t.nodes
HasTooMany Elements t = (ARRAY_SIZE < t.size) ⊎ (ELEMENTS < t.elements)
