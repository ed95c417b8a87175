-- What the tally of tokens says of what begins at them, where no token passes a limit.
use Rattle.std.proofs.Common.{◌≡◌, ℕ, suc, ◌+◌, ◌<◌, ◌≤◌, inl, inr, List, [], ◌∷◌, ◌++◌, length, take}
use Rattle.std.proofs.Common.{refl, ap, sym, ◌∙◌, subst, arith}
use Rattle.std.specs.Prelude.{⊤}
use Rattle.js_base.specs.declared.limits.TheConstants.{FIELDS, METHODS, PARAMETERS, VARIABLES, STATEMENTS}
use Rattle.js_base.specs.declared.limits.TheConstants.{EXPRESSION_NODES, ARRAY_SIZE, ELEMENTS}
use Rattle.jif_grammar.specs.declared.what.What.{What}
use Rattle.jif_grammar.specs.declared.what.What.TheVariants as counted
use Rattle.jif_grammar.specs.Marks as marks
use Rattle.jif_grammar.specs.Marks.{Beginning, Marked, Tally, tally_at_start, after_beginning, after_token}
use Rattle.jif_grammar.specs.Marks.{after_tokens}
use Rattle.jif_grammar.specs.Spelling.{spelling}
use Rattle.jif_grammar.specs.Phrases.{ProgramPhrase}
use Rattle.jif_grammar.specs.Programs.{IsWithin, IsWithinLimits}
use Rattle.jif_grammar.proofs.StaysWithin.{StaysWithin, tokens_behind, within_at_end, within_parts}
use Rattle.jif_resolve.proofs.Begun.{begun, begun_append}

-- ---- counts of a tally

-- A count goes up with what begins, but for tokens at which it may begin anew.
pub record Reading : Type 0 where
  pub read : Tally → ℕ
  pub amount : Beginning → ℕ
  pub anew : Beginning → ℕ
  pub goes_on : (t : Tally) (begins : Beginning) → anew begins ≡ 0 →
      read (after_beginning t begins) ≡ read t + amount begins
  -- it does not tell nesting
  pub nests : (t : Tally) (token : Marked) → read (after_token t token) ≡ read (after_beginning t token.begins)

pub read_after : (r : Reading) (t : Tally) (tokens : List Marked) → begun r.anew tokens ≡ 0 →
    r.read (after_tokens t tokens) ≡ r.read t + begun r.amount tokens
read_after r t [] on = omega arith
read_after r t (token ∷ tokens) on =
    omega (
      arith,
      read_after r (after_token t token) tokens (omega (arith, on)),
      r.nests t token,
      r.goes_on t token.begins (omega (arith, on)),
    )

-- whatever has begun before, the count is what begins at the tokens
abbrev pub IsRenewed : Reading → List Marked → Type 0
IsRenewed r tokens = (t : Tally) → r.read (after_tokens t tokens) ≡ begun r.amount tokens

pub renewed_append : (r : Reading) (front more : List Marked) → IsRenewed r front → begun r.anew more ≡ 0 →
    IsRenewed r (front ++ more)
renewed_append r front more renewed on t =
    ap r.read (tokens_behind t front more) ∙ read_after r (after_tokens t front) more on
    ∙ ap (λ n. n + begun r.amount more) (renewed t) ∙ sym (begun_append r.amount front more)

-- a count that never begins anew
abbrev pub never : Beginning → ℕ
never begins = 0

pub never_begun : (tokens : List Marked) → begun never tokens ≡ 0
never_begun [] = refl
never_begun (token ∷ tokens) = omega (arith, never_begun tokens)

-- ---- the counts

abbrev pub a_field : Beginning → ℕ
a_field marks.plain_field = 1
a_field marks.array = 1
a_field _ = 0

abbrev pub a_method : Beginning → ℕ
a_method marks.method = 1
a_method _ = 0

abbrev pub a_statement : Beginning → ℕ
a_statement marks.method = 1
a_statement marks.local = 1
a_statement marks.statement = 1
a_statement _ = 0

abbrev pub a_parameter : Beginning → ℕ
a_parameter marks.parameter = 1
a_parameter _ = 0

abbrev pub a_variable : Beginning → ℕ
a_variable marks.parameter = 1
a_variable marks.local = 1
a_variable _ = 0

abbrev pub elements_of : Beginning → ℕ
elements_of marks.plain_field = 1
elements_of (marks.elements size) = size
elements_of _ = 0

abbrev pub a_node : Beginning → ℕ
a_node marks.node = 1
a_node _ = 0

-- where the nodes of other expressions begin
abbrev pub other_nodes : Beginning → ℕ
other_nodes marks.method = 1
other_nodes marks.local = 1
other_nodes marks.statement = 1
other_nodes marks.arguments = 1
other_nodes _ = 0

pub field_counted : (t : Tally) (begins : Beginning) → (after_beginning t begins).fields ≡ t.fields + a_field begins
field_counted t marks.plain_field = refl
field_counted t marks.array = refl
field_counted t _ = omega arith

pub method_counted : (t : Tally) (begins : Beginning) → (after_beginning t begins).methods ≡ t.methods + a_method begins
method_counted t marks.method = refl
method_counted t _ = omega arith

pub statement_counted : (t : Tally) (begins : Beginning) →
    (after_beginning t begins).statements ≡ t.statements + a_statement begins
statement_counted t marks.method = refl
statement_counted t marks.local = refl
statement_counted t marks.statement = refl
statement_counted t _ = omega arith

pub parameter_counted : (t : Tally) (begins : Beginning) → a_method begins ≡ 0 →
    (after_beginning t begins).parameters ≡ t.parameters + a_parameter begins
parameter_counted t marks.method on = absurd (omega (arith, on))
parameter_counted t marks.parameter on = refl
parameter_counted t _ on = omega arith

pub variable_counted : (t : Tally) (begins : Beginning) → a_method begins ≡ 0 →
    (after_beginning t begins).variables ≡ t.variables + a_variable begins
variable_counted t marks.method on = absurd (omega (arith, on))
variable_counted t marks.parameter on = refl
variable_counted t marks.local on = refl
variable_counted t _ on = omega arith

pub elements_counted : (t : Tally) (begins : Beginning) →
    (after_beginning t begins).elements ≡ t.elements + elements_of begins
elements_counted t marks.plain_field = refl
elements_counted t (marks.elements size) = refl
elements_counted t _ = omega arith

pub node_counted : (t : Tally) (begins : Beginning) → other_nodes begins ≡ 0 →
    (after_beginning t begins).nodes ≡ t.nodes + a_node begins
node_counted t marks.method on = absurd (omega (arith, on))
node_counted t marks.local on = absurd (omega (arith, on))
node_counted t marks.statement on = absurd (omega (arith, on))
node_counted t marks.arguments on = absurd (omega (arith, on))
node_counted t marks.node on = refl
node_counted t _ on = omega arith

abbrev pub fields_read : Reading
fields_read = record {
  read = λ t. t.fields;
  amount = a_field;
  anew = never;
  goes_on = λ t begins on. field_counted t begins;
  nests = λ t token. refl;
}

abbrev pub methods_read : Reading
methods_read = record {
  read = λ t. t.methods;
  amount = a_method;
  anew = never;
  goes_on = λ t begins on. method_counted t begins;
  nests = λ t token. refl;
}

abbrev pub statements_read : Reading
statements_read = record {
  read = λ t. t.statements;
  amount = a_statement;
  anew = never;
  goes_on = λ t begins on. statement_counted t begins;
  nests = λ t token. refl;
}

abbrev pub parameters_read : Reading
parameters_read = record {
  read = λ t. t.parameters;
  amount = a_parameter;
  anew = a_method;
  goes_on = parameter_counted;
  nests = λ t token. refl;
}

abbrev pub variables_read : Reading
variables_read = record {
  read = λ t. t.variables;
  amount = a_variable;
  anew = a_method;
  goes_on = variable_counted;
  nests = λ t token. refl;
}

abbrev pub elements_read : Reading
elements_read = record {
  read = λ t. t.elements;
  amount = elements_of;
  anew = never;
  goes_on = λ t begins on. elements_counted t begins;
  nests = λ t token. refl;
}

abbrev pub nodes_read : Reading
nodes_read = record {
  read = λ t. t.nodes;
  amount = a_node;
  anew = other_nodes;
  goes_on = node_counted;
  nests = λ t token. refl;
}

-- ---- within the limits

at_most : (count limit : ℕ) → ¬ (limit < count) → count ≤ limit
at_most count limit within = omega (arith, within)

pub few_fields : (t : Tally) → IsWithin t → t.fields ≤ FIELDS
few_fields t within = at_most t.fields FIELDS (within.counts counted.Fields)

pub few_methods : (t : Tally) → IsWithin t → t.methods ≤ METHODS
few_methods t within = at_most t.methods METHODS (within.counts counted.Methods)

pub few_statements : (t : Tally) → IsWithin t → t.statements ≤ STATEMENTS
few_statements t within = at_most t.statements STATEMENTS (within.counts counted.Statements)

pub few_parameters : (t : Tally) → IsWithin t → t.parameters ≤ PARAMETERS
few_parameters t within = at_most t.parameters PARAMETERS (within.counts counted.Parameters)

pub few_variables : (t : Tally) → IsWithin t → t.variables ≤ VARIABLES
few_variables t within = at_most t.variables VARIABLES (within.counts counted.Locals)

pub few_elements : (t : Tally) → IsWithin t → t.elements ≤ ELEMENTS
few_elements t within = at_most t.elements ELEMENTS (λ many. within.counts counted.Elements (inr many))

pub small_array : (t : Tally) → IsWithin t → t.size ≤ ARRAY_SIZE
small_array t within = at_most t.size ARRAY_SIZE (λ many. within.counts counted.Elements (inl many))

pub few_nodes : (t : Tally) → IsWithin t → t.nodes ≤ EXPRESSION_NODES
few_nodes t within = at_most t.nodes EXPRESSION_NODES (within.counts counted.Nodes)

-- what is kept at the place between two parts
pub record Parted (t : Tally) (front more : List Marked) : Type 0 where
  pub front_is : StaysWithin t front
  pub between : IsWithin (after_tokens t front)
  pub more_is : StaysWithin (after_tokens t front) more

pub parted : (t : Tally) (front more : List Marked) → IsWithin t → StaysWithin t (front ++ more) → Parted t front more
parted t front more first within =
    let parts = within_parts t front more within in
    let front_is = parts.0 in
    record {
      front_is = front_is;
      between = within_at_end t front first front_is;
      more_is = parts.1;
    }
