-- Tokens that stand for others: no more begins at them, and no more constructs are open around them.
use Rattle.std.proofs.Common.{◌≡◌, ◌<◌, ◌≤◌, ℕ, zero, suc, ◌+◌, inl, inr}
use Rattle.std.proofs.Common.{List, [], ◌∷◌, ◌++◌, map, length, take, refl, sym}
use Rattle.std.proofs.Common.{subst, arith}
use Rattle.std.specs.Prelude.{⊤}
use Rattle.js_base.specs.declared.limits.TheConstants.{FIELDS}
use Rattle.js_base.specs.declared.limits.TheConstants.{ARRAY_SIZE, ELEMENTS, NESTING}
use Rattle.label_lattice.specs.Written.{symbol, parts_tokens}
use Rattle.jif_lex.specs.declared.token.TokenKind.{TokenKind}
use Rattle.jif_lex.specs.declared.token.Symbol.TheVariants.{LeftBrace, RightBrace}
use Rattle.jif_grammar.specs.declared.what.What.{What}
use Rattle.jif_grammar.specs.declared.what.What.TheVariants as counted
use Rattle.jif_grammar.specs.Phrases.{LabelPhrase}
use Rattle.jif_grammar.specs.Phrases.{ProgramPhrase}
use Rattle.jif_grammar.specs.Marks as marks
use Rattle.jif_grammar.specs.Marks.{Beginning, Marked, mark, plain, nothing, node, local, statement, parameter, Tally}
use Rattle.jif_grammar.specs.Marks.{tally_at_start, after_beginning, after_token, after_tokens, HasTooMany, IsTooDeep}
use Rattle.jif_grammar.specs.Spelling.{label_spelling}
use Rattle.jif_grammar.specs.Spelling.{spelling}
use Rattle.jif_grammar.specs.Programs.{IsWithin, IsWithinLimits}
use Rattle.jif_grammar.proofs.StaysWithin.{StaysWithin, tokens_behind, within_parts, within_joined}

-- ---- within the limits

-- ---- no more has begun

-- no more has begun of what begins in methods, and not too much of all else
pub record Below (low high : Tally) : Type 0 where
  pub methods : low.methods ≤ high.methods
  pub statements : low.statements ≤ high.statements
  pub parameters : low.parameters ≤ high.parameters
  pub variables : low.variables ≤ high.variables
  pub nodes : low.nodes ≤ high.nodes
  pub fields : low.fields ≤ FIELDS
  pub size : low.size ≤ ARRAY_SIZE
  pub elements : low.elements ≤ ELEMENTS

abbrev pub InMethod : Beginning → Type 0
InMethod marks.plain_field = ⊥
InMethod marks.array = ⊥
InMethod (marks.elements size) = ⊥
InMethod _ = ⊤

pub below_after : (b : Beginning) (low high : Tally) → InMethod b → Below low high →
    Below (after_beginning low b) (after_beginning high b)
below_after marks.nothing low high is below = below
below_after marks.plain_field low high is below = absurd is
below_after marks.array low high is below = absurd is
below_after (marks.elements size) low high is below = absurd is
below_after marks.method low high is below = record {
  methods = omega (arith, below.methods);
  statements = omega (arith, below.statements);
  parameters = omega arith;
  variables = omega arith;
  nodes = omega arith;
  fields = below.fields;
  size = below.size;
  elements = below.elements;
}
below_after marks.parameter low high is below = record {
  methods = below.methods;
  statements = below.statements;
  parameters = omega (arith, below.parameters);
  variables = omega (arith, below.variables);
  nodes = below.nodes;
  fields = below.fields;
  size = below.size;
  elements = below.elements;
}
below_after marks.local low high is below = record {
  methods = below.methods;
  statements = omega (arith, below.statements);
  parameters = below.parameters;
  variables = omega (arith, below.variables);
  nodes = omega arith;
  fields = below.fields;
  size = below.size;
  elements = below.elements;
}
below_after marks.statement low high is below = record {
  methods = below.methods;
  statements = omega (arith, below.statements);
  parameters = below.parameters;
  variables = below.variables;
  nodes = omega arith;
  fields = below.fields;
  size = below.size;
  elements = below.elements;
}
below_after marks.node low high is below = record {
  methods = below.methods;
  statements = below.statements;
  parameters = below.parameters;
  variables = below.variables;
  nodes = omega (arith, below.nodes);
  fields = below.fields;
  size = below.size;
  elements = below.elements;
}
below_after marks.arguments low high is below = record {
  methods = below.methods;
  statements = below.statements;
  parameters = below.parameters;
  variables = below.variables;
  nodes = omega arith;
  fields = below.fields;
  size = below.size;
  elements = below.elements;
}

abbrev pub nested_as : Tally → ℕ → Tally
nested_as t nesting = record t { nesting = nesting }

pub below_nested : (low high : Tally) (d e : ℕ) → Below low high → Below (nested_as low d) (nested_as high e)
below_nested low high d e below = record {
  methods = below.methods;
  statements = below.statements;
  parameters = below.parameters;
  variables = below.variables;
  nodes = below.nodes;
  fields = below.fields;
  size = below.size;
  elements = below.elements;
}

pub few : (low high : Tally) → Below low high → IsWithin high → (what : What) → ¬ HasTooMany what low
few low high below within counted.Fields many = omega (arith, below.fields, many)
few low high below within counted.Methods many = within.counts counted.Methods (omega (arith, below.methods, many))
few low high below within counted.Parameters many =
    within.counts counted.Parameters (omega (arith, below.parameters, many))
few low high below within counted.Locals many = within.counts counted.Locals (omega (arith, below.variables, many))
few low high below within counted.Statements many =
    within.counts counted.Statements (omega (arith, below.statements, many))
few low high below within counted.Nodes many = within.counts counted.Nodes (omega (arith, below.nodes, many))
few low high below within counted.Elements (inl many) = omega (arith, below.size, many)
few low high below within counted.Elements (inr many) = omega (arith, below.elements, many)

pub shallow : (t : Tally) → IsWithin t → t.nesting ≤ NESTING
shallow t within = by t.nesting within.nesting
  where
    by : (n : ℕ) → ¬ (NESTING < n) → n ≤ NESTING
    by n none = omega (arith, none)

pub within_low : (low high : Tally) → Below low high → low.nesting ≤ NESTING → IsWithin high → IsWithin low
within_low low high below nesting within =
    record { nesting = λ deep. omega (arith, nesting, deep); counts = few low high below within }

-- ---- tokens that stand for others

-- where the first tokens stay within the limits, so do the others
abbrev pub Stands : List Marked → List Marked → Type 0
Stands front others = (low high : Tally) → Below low high → StaysWithin high front →
    StaysWithin low others × Below (after_tokens low others) (after_tokens high front)

pub record Sim (front others : List Marked) : Type 0 where
  pub run : Stands front others

pub sim_nil : Sim [] []
sim_nil = record { run = λ low high below within. (tt, below) }

pub sim_both : (b : Beginning) (d e : ℕ) (kind other : TokenKind) {front others : List Marked} → InMethod b → e ≤ d →
    Sim front others → Sim (mark b d kind ∷ front) (mark b e other ∷ others)
sim_both b d e kind other {front = front} {others = others} is less sim = record { run = both }
  where
    both : Stands (mark b d kind ∷ front) (mark b e other ∷ others)
    both low high below within =
        let next = below_nested (after_beginning low b) (after_beginning high b) e d
        (below_after b low high is below) in
        let deep = shallow (after_token high (mark b d kind)) within.0 in
        let rest = sim.run (after_token low (mark b e other)) (after_token high (mark b d kind)) next within.1 in
        ((within_low _ _ next (omega (arith, deep, less)) within.0, rest.0), rest.1)

pub sim_skip : (d : ℕ) (kind : TokenKind) {front others : List Marked} → Sim front others →
    Sim (plain d kind ∷ front) others
sim_skip d kind sim = record {
  run = λ low high below within. sim.run low (after_token high (plain d kind))
      (below_nested low high low.nesting d below) within.1;
}

pub sim_append : {one two three four : List Marked} → Sim one two → Sim three four → Sim (one ++ three) (two ++ four)
sim_append {one = one} {two = two} {three = three} {four = four} first second = record { run = both }
  where
    both : Stands (one ++ three) (two ++ four)
    both low high below within =
        let parts = within_parts high one three within in
        let front = first.run low high below parts.0 in
        let back = second.run (after_tokens low two) (after_tokens high one) front.1 parts.1 in (
          within_joined low two four front.0 back.0,
          subst (λ t. Below (after_tokens low (two ++ four)) t) (sym (tokens_behind high one three))
              (subst (λ t. Below t (after_tokens (after_tokens high one) three))
              (sym (tokens_behind low two four)) back.1),
        )

pub skip_run : (low high : Tally) (d : ℕ) (kinds : List TokenKind) → Below low high →
    Below low (after_tokens high (map (plain d) kinds))
skip_run low high d [] below = below
skip_run low high d (kind ∷ kinds) below =
    skip_run low (after_token high (plain d kind)) d kinds (below_nested low high low.nesting d below)

pub same_counts : (t : Tally) (d : ℕ) → IsWithin t → (what : What) → ¬ HasTooMany what (nested_as t d)
same_counts t d within counted.Fields many = within.counts counted.Fields many
same_counts t d within counted.Methods many = within.counts counted.Methods many
same_counts t d within counted.Parameters many = within.counts counted.Parameters many
same_counts t d within counted.Locals many = within.counts counted.Locals many
same_counts t d within counted.Statements many = within.counts counted.Statements many
same_counts t d within counted.Nodes many = within.counts counted.Nodes many
same_counts t d within counted.Elements many = within.counts counted.Elements many

pub add_run : (low high : Tally) (d : ℕ) (kinds : List TokenKind) → d ≤ NESTING → IsWithin low → Below low high →
    StaysWithin low (map (plain d) kinds) × Below (after_tokens low (map (plain d) kinds)) high
add_run low high d [] less within below = (tt, below)
add_run low high d (kind ∷ kinds) less within below =
    let one : IsWithin (nested_as low d) =
    record { nesting = λ deep. omega (arith, less, deep); counts = same_counts low d within } in
    let rest = add_run (nested_as low d) high d kinds less one (below_nested low high d high.nesting below) in
    ((one, rest.0), rest.1)

-- a token and others at which nothing begins
pub sim_run : (b : Beginning) (d e : ℕ) (kind other : TokenKind) (kinds others : List TokenKind) → InMethod b → e ≤ d →
    Sim (mark b d kind ∷ map (plain d) kinds) (mark b e other ∷ map (plain e) others)
sim_run b d e kind other kinds others is less = record { run = all }
  where
    all : Stands (mark b d kind ∷ map (plain d) kinds) (mark b e other ∷ map (plain e) others)
    all low high below within =
        let next = below_nested (after_beginning low b) (after_beginning high b) e d
        (below_after b low high is below) in
        let deep = shallow (after_token high (mark b d kind)) within.0 in
        let here : e ≤ NESTING = omega (arith, deep, less) in
        let one = within_low (after_token low (mark b e other)) (after_token high (mark b d kind)) next here within.0 in
        let rest = add_run (after_token low (mark b e other)) (after_tokens (after_token high (mark b d kind))
        (map (plain d) kinds))
        e others here one (skip_run (after_token low (mark b e other))
        (after_token high (mark b d kind)) d kinds next) in
        ((one, rest.0), rest.1)

pub label_sim : (b : Beginning) (d e : ℕ) (label other : LabelPhrase) → InMethod b → e ≤ d →
    Sim (label_spelling b d label) (label_spelling b e other)
label_sim b d e label other is less =
    sim_run b d e (symbol LeftBrace) (symbol LeftBrace) (parts_tokens label ++ symbol RightBrace ∷ [])
    (parts_tokens other ++ symbol RightBrace ∷ []) is less

pub sim_plain : (d e : ℕ) (kind other : TokenKind) {front others : List Marked} → e ≤ d → Sim front others →
    Sim (plain d kind ∷ front) (plain e other ∷ others)
sim_plain d e kind other less sim = sim_both nothing d e kind other tt less sim
