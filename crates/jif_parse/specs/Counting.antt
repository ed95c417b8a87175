-- What has begun, as the parser counts it and as the grammar does.
use Rattle.std.specs.Prelude.{◌≡◌, ◌≤◌, ℕ, Some}
use Rattle.js_base.specs.declared.limits.TheConstants.{FIELDS, METHODS, PARAMETERS, VARIABLES, STATEMENTS}
use Rattle.js_base.specs.declared.limits.TheConstants.{EXPRESSION_NODES, ARRAY_SIZE, ELEMENTS, NESTING}
use Rattle.jif_grammar.specs.declared.what.What.{What}
use Rattle.jif_grammar.specs.Marks as marks
use Rattle.jif_grammar.specs.Marks.{Beginning, Tally, after_beginning}
use Rattle.jif_grammar.specs.Verdicts.{of_count, excess}
use Rattle.jif_parse.specs.declared.counts.Begins.{Begins}
use Rattle.jif_parse.specs.declared.counts.Begins.TheVariants as begins
use Rattle.jif_parse.specs.declared.counts.Counts.{Counts}

-- The counts are those of the tally, and within their limits. Of the tally's nesting nothing is said, since each token
-- has its own.
pub record IsTally (counts : Counts) (t : Tally) : Type 0 where
  pub methods : t.methods ≡ counts.methods
  pub statements : t.statements ≡ counts.statements
  pub parameters : t.parameters ≡ counts.parameters
  pub variables : t.variables ≡ counts.variables
  pub nodes : t.nodes ≡ counts.nodes
  pub fields : t.fields ≡ counts.fields
  pub elements : t.elements ≡ counts.elements
  pub most_methods : counts.methods ≤ METHODS
  pub most_statements : counts.statements ≤ STATEMENTS
  pub most_parameters : counts.parameters ≤ PARAMETERS
  pub most_variables : counts.variables ≤ VARIABLES
  pub most_nodes : counts.nodes ≤ EXPRESSION_NODES
  pub most_fields : counts.fields ≤ FIELDS
  pub most_elements : counts.elements ≤ ELEMENTS
  pub largest : t.size ≤ ARRAY_SIZE

abbrev pub beginning_of : Begins → Beginning
beginning_of begins.Nothing = marks.nothing
beginning_of begins.Node = marks.node
beginning_of begins.Statement = marks.statement
beginning_of begins.Local = marks.local
beginning_of begins.Parameter = marks.parameter
beginning_of begins.Method = marks.method
beginning_of begins.PlainField = marks.plain_field
beginning_of begins.Array = marks.array
beginning_of (begins.Elements size) = marks.elements size
beginning_of begins.Arguments = marks.arguments

-- the new counts have one more of what begins
abbrev pub HasCounted : Counts → Counts → Beginning → Type 0
HasCounted old new beginning = (t : Tally) → IsTally old t → IsTally new (after_beginning t beginning)

-- one more of what begins passes this limit
abbrev pub IsPast : Counts → Beginning → What → Type 0
IsPast old beginning what =
    (t : Tally) (nesting : ℕ) → IsTally old t → nesting ≤ NESTING →
    excess (record (after_beginning t beginning) { nesting = nesting }) ≡ Some (of_count what)
