-- No token of a printed program passes a limit.
use Rattle.std.proofs.Common.{◌≡◌, ◌<◌, ◌≤◌, ℕ, zero, suc, ℤ, pos, negsuc, inl, inr, Bool, true, false}
use Rattle.std.proofs.Common.{List, [], ◌∷◌, ◌++◌, map, refl, ap, sym, ◌∙◌}
use Rattle.std.proofs.Common.{subst, arith}
use Rattle.std.specs.List.{AllZip}
use Rattle.std.proofs.lemmas.List.{append_assoc}
use Rattle.js_base.specs.declared.limits.TheConstants.{FIELDS}
use Rattle.js_base.specs.declared.limits.TheConstants.{ARRAY_SIZE, ELEMENTS, NESTING}
use Rattle.principals.specs.ActsFor.{Declared}
use Rattle.label_lattice.specs.Written.{symbol, parts_tokens}
use Rattle.jif_lex.specs.declared.token.TokenKind.{TokenKind}
use Rattle.jif_lex.specs.declared.token.TokenKind.TheVariants.{Name, Number, Word}
use Rattle.jif_lex.specs.declared.token.Symbol.TheVariants.{LeftBrace, RightBrace}
use Rattle.jif_lex.specs.declared.token.Symbol.TheVariants.{Semicolon, Assign, Minus}
use Rattle.jif_lex.specs.declared.token.Word.TheVariants.{Int}
use Rattle.jif_tree.specs.Trees.{FieldTree}
use Rattle.jif_grammar.specs.declared.what.What.{What}
use Rattle.jif_grammar.specs.declared.what.What.TheVariants as counted
use Rattle.jif_grammar.specs.Phrases as phrase
use Rattle.jif_grammar.specs.Phrases.{LabelPhrase, ExprPhrase, BlockPhrase, FieldEnd, FieldPhrase, ParamPhrase}
use Rattle.jif_grammar.specs.Phrases.{MethodPhrase}
use Rattle.jif_grammar.specs.Phrases.{ItemPhrase, ProgramPhrase, complement, minus, Change, release, acceptance}
use Rattle.jif_grammar.specs.Grouping.{IsProgram}
use Rattle.jif_grammar.specs.Marks as marks
use Rattle.jif_grammar.specs.Marks.{Beginning, Marked, mark, plain, nothing, node, local, statement, parameter, Tally}
use Rattle.jif_grammar.specs.Marks.{tally_at_start, after_beginning, after_token, after_tokens, HasTooMany, IsTooDeep}
use Rattle.jif_grammar.specs.Spelling.{field_end_spelling, field_spelling}
use Rattle.jif_grammar.specs.Spelling.{method_spelling, item_spelling, spelling}
use Rattle.jif_grammar.specs.Programs.{IsWithin, IsWithinLimits}
use Rattle.jif_grammar.specs.Drafts.{methods_at, fields_at, after_item, size_of, is_array}
use Rattle.jif_grammar.proofs.StaysWithin.{StaysWithin, tokens_behind, program_stays, stays_program}
use Rattle.jif_grammar.proofs.StaysWithin.{within_parts, within_joined, within_at_start, within_at_end}
use Rattle.jif_resolve.specs.Resolved.{IsFieldFor}
use Rattle.jif_parse.specs.PrintedNames.{Naming}
use Rattle.jif_parse.proofs.PrintedPhrases.{field_end_phrase, field_phrase}
use Rattle.jif_parse.proofs.PrintedPhrases.{fields_phrases}
use Rattle.jif_parse.proofs.PrintedBackProgram.{MethodsAlike}
use Rattle.jif_parse.proofs.PrintedTallies.{Below, nested_as, same_counts}
use Rattle.jif_parse.proofs.PrintedMethodLimits.{InFields, methods_sim}

-- ---- the fields of a program

-- no more fields and elements, and nothing else has begun
pub record FieldsBelow (low high : Tally) : Type 0 where
  pub fields : low.fields ≤ high.fields
  pub elements : low.elements ≤ high.elements
  pub size : low.size ≤ ARRAY_SIZE
  pub methods : low.methods ≤ 0
  pub statements : low.statements ≤ 0
  pub parameters : low.parameters ≤ 0
  pub variables : low.variables ≤ 0
  pub nodes : low.nodes ≤ 0

pub fields_few : (low high : Tally) → FieldsBelow low high → IsWithin high → (what : What) → ¬ HasTooMany what low
fields_few low high below within counted.Fields many = within.counts counted.Fields (omega (arith, below.fields, many))
fields_few low high below within counted.Methods many = omega (arith, below.methods, many)
fields_few low high below within counted.Parameters many = omega (arith, below.parameters, many)
fields_few low high below within counted.Locals many = omega (arith, below.variables, many)
fields_few low high below within counted.Statements many = omega (arith, below.statements, many)
fields_few low high below within counted.Nodes many = omega (arith, below.nodes, many)
fields_few low high below within counted.Elements (inl many) = omega (arith, below.size, many)
fields_few low high below within counted.Elements (inr many) =
    within.counts counted.Elements (inr (omega (arith, below.elements, many)))

pub fields_within : (low high : Tally) → FieldsBelow low high → low.nesting ≤ NESTING → IsWithin high → IsWithin low
fields_within low high below nesting within =
    record { nesting = λ deep. omega (arith, nesting, deep); counts = fields_few low high below within }

pub fields_nested : (low high : Tally) (d e : ℕ) → FieldsBelow low high →
    FieldsBelow (nested_as low d) (nested_as high e)
fields_nested low high d e below = record {
  fields = below.fields;
  elements = below.elements;
  size = below.size;
  methods = below.methods;
  statements = below.statements;
  parameters = below.parameters;
  variables = below.variables;
  nodes = below.nodes;
}

-- fields and elements never become fewer
pub never_fewer : (t : Tally) (b : Beginning) →
    (t.fields ≤ (after_beginning t b).fields) × (t.elements ≤ (after_beginning t b).elements)
never_fewer t marks.nothing = (omega arith, omega arith)
never_fewer t marks.plain_field = (omega arith, omega arith)
never_fewer t marks.array = (omega arith, omega arith)
never_fewer t (marks.elements size) = (omega arith, omega arith)
never_fewer t marks.method = (omega arith, omega arith)
never_fewer t marks.parameter = (omega arith, omega arith)
never_fewer t marks.local = (omega arith, omega arith)
never_fewer t marks.statement = (omega arith, omega arith)
never_fewer t marks.node = (omega arith, omega arith)
never_fewer t marks.arguments = (omega arith, omega arith)

pub fields_skip : (low high : Tally) (tokens : List Marked) → FieldsBelow low high →
    FieldsBelow low (after_tokens high tokens)
fields_skip low high [] below = below
fields_skip low high (token ∷ tokens) below =
    let more = never_fewer high token.begins in
    fields_skip low (after_token high token) tokens (record {
      fields = omega (arith, below.fields, more.0);
      elements = omega (arith, below.elements, more.1);
      size = below.size;
      methods = below.methods;
      statements = below.statements;
      parameters = below.parameters;
      variables = below.variables;
      nodes = below.nodes;
    })

abbrev pub FieldsStand : List Marked → List Marked → Type 0
FieldsStand front others = (low high : Tally) → FieldsBelow low high → StaysWithin high front →
    StaysWithin low others × FieldsBelow (after_tokens low others) (after_tokens high front)

pub record FieldsSim (front others : List Marked) : Type 0 where
  pub run : FieldsStand front others

pub fields_nil : FieldsSim [] []
fields_nil = record { run = λ low high below within. (tt, below) }

pub small_size : (t : Tally) → IsWithin t → t.size ≤ ARRAY_SIZE
small_size t within = by t.size (λ many. within.counts counted.Elements (inl many))
  where
    by : (n : ℕ) → ¬ (ARRAY_SIZE < n) → n ≤ ARRAY_SIZE
    by n none = omega (arith, none)

pub fields_after : (b : Beginning) (low high : Tally) (d : ℕ) → InFields b → FieldsBelow low high →
    IsWithin (nested_as (after_beginning high b) d) → FieldsBelow (after_beginning low b) (after_beginning high b)
fields_after marks.nothing low high d is below within = below
fields_after marks.plain_field low high d is below within = record {
  fields = omega (arith, below.fields);
  elements = omega (arith, below.elements);
  size = below.size;
  methods = below.methods;
  statements = below.statements;
  parameters = below.parameters;
  variables = below.variables;
  nodes = below.nodes;
}
fields_after marks.array low high d is below within = record {
  fields = omega (arith, below.fields);
  elements = below.elements;
  size = below.size;
  methods = below.methods;
  statements = below.statements;
  parameters = below.parameters;
  variables = below.variables;
  nodes = below.nodes;
}
fields_after (marks.elements n) low high d is below within = record {
  fields = below.fields;
  elements = omega (arith, below.elements);
  size = small_size (nested_as (after_beginning high (marks.elements n)) d) within;
  methods = below.methods;
  statements = below.statements;
  parameters = below.parameters;
  variables = below.variables;
  nodes = below.nodes;
}
fields_after marks.method low high d is below within = absurd is
fields_after marks.parameter low high d is below within = absurd is
fields_after marks.local low high d is below within = absurd is
fields_after marks.statement low high d is below within = absurd is
fields_after marks.node low high d is below within = absurd is
fields_after marks.arguments low high d is below within = absurd is

pub fields_both : (b : Beginning) (kind other : TokenKind) {front others : List Marked} → InFields b →
    FieldsSim front others → FieldsSim (mark b 0 kind ∷ front) (mark b 0 other ∷ others)
fields_both b kind other {front = front} {others = others} is sim = record { run = both }
  where
    both : FieldsStand (mark b 0 kind ∷ front) (mark b 0 other ∷ others)
    both low high below within =
        let next = fields_nested (after_beginning low b) (after_beginning high b) 0 0
        (fields_after b low high 0 is below within.0) in
        let rest = sim.run (after_token low (mark b 0 other)) (after_token high (mark b 0 kind)) next within.1 in
        ((fields_within _ _ next (omega arith) within.0, rest.0), rest.1)

pub fields_append : {one two three four : List Marked} → FieldsSim one two → FieldsSim three four →
    FieldsSim (one ++ three) (two ++ four)
fields_append {one = one} {two = two} {three = three} {four = four} first second = record { run = both }
  where
    both : FieldsStand (one ++ three) (two ++ four)
    both low high below within =
        let parts = within_parts high one three within in
        let front = first.run low high below parts.0 in
        let back = second.run (after_tokens low two) (after_tokens high one) front.1 parts.1 in (
          within_joined low two four front.0 back.0,
          subst (λ t. FieldsBelow (after_tokens low (two ++ four)) t) (sym (tokens_behind high one three))
              (subst (λ t. FieldsBelow t (after_tokens (after_tokens high one) three))
              (sym (tokens_behind low two four))
              back.1),
        )

pub fields_add : (low high : Tally) (kinds : List TokenKind) → IsWithin low → FieldsBelow low high →
    StaysWithin low (map (plain 0) kinds) × FieldsBelow (after_tokens low (map (plain 0) kinds)) high
fields_add low high [] within below = (tt, below)
fields_add low high (kind ∷ kinds) within below =
    let one : IsWithin (nested_as low 0) =
    record { nesting = λ deep. omega (arith, deep); counts = same_counts low 0 within } in
    let rest = fields_add (nested_as low 0) high kinds one (fields_nested low high 0 high.nesting below) in
    ((one, rest.0), rest.1)

pub fields_run : (b : Beginning) (kind other : TokenKind) (kinds others : List TokenKind) → InFields b →
    FieldsSim (mark b 0 kind ∷ map (plain 0) kinds) (mark b 0 other ∷ map (plain 0) others)
fields_run b kind other kinds others is = record { run = all }
  where
    all : FieldsStand (mark b 0 kind ∷ map (plain 0) kinds) (mark b 0 other ∷ map (plain 0) others)
    all low high below within =
        let next = fields_nested (after_beginning low b) (after_beginning high b) 0 0
        (fields_after b low high 0 is below within.0) in
        let one = fields_within (after_token low (mark b 0 other)) (after_token high (mark b 0 kind)) next (omega arith)
        within.0 in
        let rest = fields_add (after_token low (mark b 0 other))
        (after_tokens (after_token high (mark b 0 kind)) (map (plain 0) kinds)) others one
        (fields_skip (after_token low (mark b 0 other)) (after_token high (mark b 0 kind))
        (map (plain 0) kinds) next) in
        ((one, rest.0), rest.1)

-- a plain field begins at the symbol after its name, and nothing begins behind it
pub plain_end : (ending : FieldEnd) → is_array ending ≡ false →
    (kind : TokenKind) × (kinds : List TokenKind)
    × (field_end_spelling ending ≡ mark marks.plain_field 0 kind ∷ map (plain 0) kinds)
plain_end phrase.unset is = (symbol Semicolon, [], refl)
plain_end (phrase.sized size) is = absurd cc
plain_end (phrase.set true n) is =
    (symbol Assign, symbol Minus ∷ Number (pos n) ∷ symbol Semicolon ∷ [], refl)
plain_end (phrase.set false n) is = (symbol Assign, Number (pos n) ∷ symbol Semicolon ∷ [], refl)

pub plain_ends_sim : (one two : FieldEnd) → is_array one ≡ false → is_array two ≡ false →
    FieldsSim (field_end_spelling one) (field_end_spelling two)
plain_ends_sim one two one_is two_is =
    let first = plain_end one one_is in
    let second = plain_end two two_is in
    subst (λ ts. FieldsSim ts (field_end_spelling two)) (sym first.2)
    (subst (λ ts. FieldsSim (mark marks.plain_field 0 first.0 ∷ map (plain 0) first.1) ts) (sym second.2)
    (fields_run marks.plain_field first.0 second.0 first.1 second.1 tt))

pub ends_sim : (one two : FieldEnd) → size_of two ≡ size_of one → is_array two ≡ is_array one →
    FieldsSim (field_end_spelling one) (field_end_spelling two)
ends_sim (phrase.sized n) (phrase.sized m) size array =
    subst (λ k. FieldsSim (field_end_spelling (phrase.sized n)) (field_end_spelling (phrase.sized k))) (sym size)
    (fields_both marks.array _ _ tt (fields_both (marks.elements n) _ _ tt (fields_both nothing _ _ tt
    (fields_both nothing _ _ tt fields_nil))))
ends_sim (phrase.sized n) phrase.unset size array = absurd cc
ends_sim (phrase.sized n) (phrase.set b m) size array = absurd cc
ends_sim phrase.unset two size array = plain_ends_sim phrase.unset two refl array
ends_sim (phrase.set b n) two size array = plain_ends_sim (phrase.set b n) two refl array

pub field_sim : (one two : FieldPhrase) → size_of two.ending ≡ size_of one.ending →
    is_array two.ending ≡ is_array one.ending → FieldsSim (field_spelling one) (field_spelling two)
field_sim one two size array =
    fields_append
    (fields_run nothing (Word Int) (Word Int) (symbol LeftBrace ∷ parts_tokens one.label ++ symbol RightBrace ∷ [])
    (symbol LeftBrace ∷ parts_tokens two.label ++ symbol RightBrace ∷ []) tt)
    (fields_both nothing (Name one.name) (Name two.name) tt (ends_sim one.ending two.ending size array))

pub end_size : (array : Bool) (size : ℕ) (first : ℤ) → (array ≡ false → size ≡ 1) →
    (size_of (field_end_phrase array size first) ≡ size) × (is_array (field_end_phrase array size first) ≡ array)
end_size true size first plain = (refl, refl)
end_size false size (pos zero) plain = (sym (plain refl), refl)
end_size false size (pos (suc n)) plain = (sym (plain refl), refl)
end_size false size (negsuc n) plain = (sym (plain refl), refl)

pub plain_size : (ending : FieldEnd) → is_array ending ≡ false → size_of ending ≡ 1
plain_size phrase.unset is = refl
plain_size (phrase.sized n) is = absurd cc
plain_size (phrase.set b n) is = refl

pub fields_sim : (principals : Declared) (program : ProgramPhrase) (at : ℕ) (trees : List FieldTree) →
    AllZip (IsFieldFor principals) (fields_at at program) trees →
    FieldsSim (spelling program) (spelling (fields_phrases principals trees))
fields_sim principals [] at [] are = fields_nil
fields_sim principals [] at (tree ∷ trees) are = absurd are
fields_sim principals (phrase.method method ∷ program) at trees are =
    let rest = fields_sim principals program (after_item at (phrase.method method)) trees are in
    record { run = λ low high below within. passed rest low high below within }
  where
    passed : FieldsSim (spelling program) (spelling (fields_phrases principals trees)) →
        FieldsStand (method_spelling method ++ spelling program) (spelling (fields_phrases principals trees))
    passed rest low high below within =
        let parts = within_parts high (method_spelling method) (spelling program) within in
        let next = rest.run low (after_tokens high (method_spelling method))
        (fields_skip low high (method_spelling method) below) parts.1 in (
          next.0,
          subst (λ t. FieldsBelow (after_tokens low (spelling (fields_phrases principals trees))) t)
              (sym (tokens_behind high (method_spelling method) (spelling program))) next.1,
        )
fields_sim principals (phrase.field field ∷ program) at [] are = absurd are
fields_sim principals (phrase.field field ∷ program) at (tree ∷ trees) are =
    let ends = end_size tree.array tree.size tree.first
    (λ b. are.0.size ∙ plain_size field.ending (sym are.0.array ∙ b)) in
    fields_append (field_sim field (field_phrase principals tree) (ends.0 ∙ are.0.size) (ends.1 ∙ are.0.array))
    (fields_sim principals program (after_item at (phrase.field field)) trees are.1)

-- ---- programs

pub spelling_append : (front more : ProgramPhrase) → spelling (front ++ more) ≡ spelling front ++ spelling more
spelling_append [] more = refl
spelling_append (item ∷ front) more =
    ap (λ (ts : List Marked). item_spelling item ++ ts) (spelling_append front more)
    ∙ sym (append_assoc (item_spelling item) (spelling front) (spelling more))

pub few_in : (t : Tally) → IsWithin t → (t.fields ≤ FIELDS) × (t.elements ≤ ELEMENTS)
few_in t within = (
  by t.fields FIELDS (within.counts counted.Fields),
  by t.elements ELEMENTS (λ many. within.counts counted.Elements (inr many)),
)
  where
    by : (n limit : ℕ) → ¬ (limit < n) → n ≤ limit
    by n limit none = omega (arith, none)

-- the phrases that a program is printed as stay within the limits where those do that it was read from
pub printed_within : (principals : Declared) (naming : Naming) (lines : ℕ → ℕ) (program : ProgramPhrase)
    (fields : List FieldTree) (items : ProgramPhrase) → IsProgram program → IsWithinLimits program →
    AllZip (IsFieldFor principals) (fields_at 0 program) fields →
    MethodsAlike naming (methods_at lines 0 program) items →
    IsWithinLimits (fields_phrases principals fields ++ items)
printed_within principals naming lines program fields items grouped limits are alike =
    let start : Tally = tally_at_start in
    let within : StaysWithin start (spelling program) = program_stays program limits in
    let front : List Marked = spelling (fields_phrases principals fields) in
    let nothing_yet : FieldsBelow start start = record {
      fields = omega arith;
      elements = omega arith;
      size = omega arith;
      methods = omega arith;
      statements = omega arith;
      parameters = omega arith;
      variables = omega arith;
      nodes = omega arith;
    } in
    let one = (fields_sim principals program 0 fields are).run start start nothing_yet within in
    let last = few_in (after_tokens start (spelling program))
    (within_at_end start (spelling program) within_at_start within) in
    let below : Below (after_tokens start front) start = record {
      methods = one.1.methods;
      statements = one.1.statements;
      parameters = one.1.parameters;
      variables = one.1.variables;
      nodes = one.1.nodes;
      fields = omega (arith, one.1.fields, last.0);
      size = one.1.size;
      elements = omega (arith, one.1.elements, last.1);
    } in
    let two = (methods_sim naming lines 0 program items alike grouped).run
    (after_tokens start front) start below within in
    stays_program (fields_phrases principals fields ++ items)
    (subst (λ ts. StaysWithin start ts) (sym (spelling_append (fields_phrases principals fields) items))
    (within_joined start front (spelling items) one.0 two.0))
