-- The tokens of printed methods stand for those that they were read from.
use Rattle.std.proofs.Common.{◌≡◌, ◌≤◌, ℕ, suc, ◌+◌, true, false}
use Rattle.std.proofs.Common.{List, [], ◌∷◌, ◌++◌, map, length, Option, Some, None, refl, ap, sym, ◌∙◌}
use Rattle.std.proofs.Common.{subst, arith}
use Rattle.std.specs.Prelude.{⊤}
use Rattle.std.specs.List.{AllByRecursion}
use Rattle.std.proofs.lemmas.List.{map-append}
use Rattle.label_lattice.specs.Written.{symbol, parts_tokens, names_tokens}
use Rattle.jif_lex.specs.declared.token.TokenKind.{TokenKind}
use Rattle.jif_lex.specs.declared.token.TokenKind.TheVariants.{Name, Word}
use Rattle.jif_lex.specs.declared.token.Symbol.TheVariants.{RightBrace, LeftParenthesis, RightParenthesis}
use Rattle.jif_lex.specs.declared.token.Word.TheVariants.{Int, Where, Authority}
use Rattle.jif_grammar.specs.Phrases as phrase
use Rattle.jif_grammar.specs.Phrases.{LabelPhrase, ExprPhrase, BlockPhrase, FieldEnd, FieldPhrase, ParamPhrase}
use Rattle.jif_grammar.specs.Phrases.{MethodPhrase}
use Rattle.jif_grammar.specs.Phrases.{ItemPhrase, ProgramPhrase, complement, minus, Change, release, acceptance}
use Rattle.jif_grammar.specs.Grouping.{IsItem, IsProgram}
use Rattle.jif_grammar.specs.Marks as marks
use Rattle.jif_grammar.specs.Marks.{Beginning, Marked, mark, plain, nothing, node, local, statement, parameter, Tally}
use Rattle.jif_grammar.specs.Marks.{tally_at_start, after_beginning, after_token, after_tokens, HasTooMany, IsTooDeep}
use Rattle.jif_grammar.specs.Spelling.{label_spelling}
use Rattle.jif_grammar.specs.Spelling.{field_end_spelling, field_spelling}
use Rattle.jif_grammar.specs.Spelling.{param_spelling, params_spelling, authority_spelling}
use Rattle.jif_grammar.specs.Spelling.{head_spelling, method_spelling, spelling}
use Rattle.jif_grammar.specs.Drafts.{optional_label_at, params_at}
use Rattle.jif_grammar.specs.Drafts.{method_at, methods_at, after_item}
use Rattle.jif_grammar.proofs.StaysWithin.{tokens_behind, within_parts}
use Rattle.jif_parse.specs.PrintedNames.{Naming}
use Rattle.jif_parse.proofs.PrintedAlike.{SameSome}
use Rattle.jif_parse.proofs.PrintedBackMethods.{MethodAlike}
use Rattle.jif_parse.proofs.PrintedBackProgram.{MethodsAlike}
use Rattle.jif_parse.proofs.PrintedTallies.{Below, nested_as, below_nested, Stands, Sim}
use Rattle.jif_parse.proofs.PrintedTallies.{sim_nil, sim_both, sim_append, sim_run, label_sim, sim_plain}
use Rattle.jif_parse.proofs.PrintedStatementLimits.{block_sim, result_of, result_sim}

-- ---- methods

pub zero_less : 0 ≤ 0
zero_less = omega arith

pub param_sim : (param other : ParamPhrase) → Sim (param_spelling param) (param_spelling other)
param_sim param other =
    sim_append (sim_both parameter 0 0 _ _ tt zero_less (label_sim nothing 0 0 param.label other.label tt zero_less))
    (sim_plain 0 0 _ _ zero_less sim_nil)

pub params_sim : (params others : List ParamPhrase) → length params ≡ length others →
    Sim (params_spelling params) (params_spelling others)
params_sim [] [] same = sim_nil
params_sim [] (other ∷ others) same = absurd (omega (arith, same))
params_sim (param ∷ params) [] same = absurd (omega (arith, same))
params_sim (param ∷ []) (other ∷ []) same = param_sim param other
params_sim (param ∷ []) (other ∷ more ∷ others) same = absurd (omega (arith, same))
params_sim (param ∷ next ∷ params) (other ∷ []) same = absurd (omega (arith, same))
params_sim (param ∷ next ∷ params) (other ∷ more ∷ others) same =
    sim_append (param_sim param other)
    (sim_plain 0 0 _ _ zero_less (params_sim (next ∷ params) (more ∷ others) (omega (arith, same))))

-- nothing begins at the names of an authority
pub authority_plain : (names : List (List ℕ)) →
    (kinds : List TokenKind) × (authority_spelling names ≡ map (plain 0) kinds)
authority_plain [] = ([], refl)
authority_plain (name ∷ names) = (
  Word Where ∷ Word Authority ∷ symbol LeftParenthesis ∷ names_tokens (name ∷ names) ++ symbol RightParenthesis ∷ [],
  ap (λ (ts : List Marked). plain 0 (Word Where) ∷ plain 0 (Word Authority) ∷ plain 0 (symbol LeftParenthesis) ∷ ts)
      (sym (map-append (plain 0) (names_tokens (name ∷ names)) (symbol RightParenthesis ∷ []))),
)

pub authority_sim : (kind : TokenKind) (names others : List (List ℕ)) →
    Sim (plain 0 kind ∷ authority_spelling names) (plain 0 kind ∷ authority_spelling others)
authority_sim kind names others =
    let one = authority_plain names in
    let two = authority_plain others in
    subst (λ ts. Sim (plain 0 kind ∷ ts) (plain 0 kind ∷ authority_spelling others)) (sym one.1)
    (subst (λ ts. Sim (plain 0 kind ∷ map (plain 0) one.0) (plain 0 kind ∷ ts)) (sym two.1)
    (sim_run nothing 0 0 kind kind one.0 two.0 tt zero_less))

pub head_sim : (kind other : Option LabelPhrase) (name printed : List ℕ) (begin label : LabelPhrase) →
    SameSome kind other →
    Sim (head_spelling kind name begin) (head_spelling other printed label)
head_sim None None name printed begin label same =
    sim_both marks.method 0 0 _ _ tt zero_less (sim_plain 0 0 _ _ zero_less
    (label_sim nothing 0 0 begin label tt zero_less))
head_sim None (Some other) name printed begin label same = absurd same
head_sim (Some kind) None name printed begin label same = absurd same
head_sim (Some kind) (Some other) name printed begin label same =
    sim_append (sim_plain 0 0 _ _ zero_less (label_sim nothing 0 0 kind other tt zero_less))
    (sim_plain 0 0 _ _ zero_less (label_sim marks.method 0 0 begin label tt zero_less))

pub some_both : (at : ℕ) (kind other : Option LabelPhrase) → SameSome (optional_label_at at kind) other →
    SameSome kind other
some_both at None None same = tt
some_both at None (Some other) same = absurd same
some_both at (Some kind) None same = absurd same
some_both at (Some kind) (Some other) same = tt

pub params_long : (at : ℕ) (params : List ParamPhrase) → length (params_at at params) ≡ length params
params_long at [] = refl
params_long at (param ∷ params) = ap suc (params_long (at + length (param_spelling param) + 1) params)

pub method_sim : (naming : Naming) (lines : ℕ → ℕ) (at : ℕ) (q own : MethodPhrase) →
    MethodAlike naming (method_at lines at q) own → IsItem (phrase.method q) →
    Sim (method_spelling q) (method_spelling own)
method_sim naming lines at q own alike grouped =
    let result = result_of naming q.body lines _ _ q.result own.body own.result alike.body in
    sim_append (sim_append (sim_append (sim_append (sim_append
    (head_sim q.kind own.kind q.name own.name q.begin own.begin (some_both (at + 1) q.kind own.kind alike.kind))
    (sim_plain 0 0 _ _ zero_less (params_sim q.params own.params (sym (params_long _ q.params) ∙ alike.count))))
    (authority_sim (symbol RightParenthesis) q.authority own.authority))
    (sim_plain 0 0 _ _ zero_less (block_sim naming q.body lines _ _ q.result own.body own.result alike.body grouped.3 0
    0
    zero_less)))
    (result_sim naming _ q.result own.result result grouped.4))
    (sim_plain 0 0 _ _ zero_less sim_nil)

-- ---- fields, which begin nothing of what begins in methods

abbrev pub InFields : Beginning → Type 0
InFields marks.nothing = ⊤
InFields marks.plain_field = ⊤
InFields marks.array = ⊤
InFields (marks.elements size) = ⊤
InFields _ = ⊥

abbrev pub AreInFields : List Marked → Type 0
AreInFields tokens = AllByRecursion (λ token. InFields token.begins) tokens

pub pass_beginning : (b : Beginning) (low high : Tally) (d : ℕ) → InFields b → Below low high →
    Below low (nested_as (after_beginning high b) d)
pass_beginning marks.nothing low high d is below = below_nested low high low.nesting d below
pass_beginning marks.plain_field low high d is below = record {
  methods = below.methods;
  statements = below.statements;
  parameters = below.parameters;
  variables = below.variables;
  nodes = below.nodes;
  fields = below.fields;
  size = below.size;
  elements = below.elements;
}
pass_beginning marks.array low high d is below = record {
  methods = below.methods;
  statements = below.statements;
  parameters = below.parameters;
  variables = below.variables;
  nodes = below.nodes;
  fields = below.fields;
  size = below.size;
  elements = below.elements;
}
pass_beginning (marks.elements n) low high d is below = record {
  methods = below.methods;
  statements = below.statements;
  parameters = below.parameters;
  variables = below.variables;
  nodes = below.nodes;
  fields = below.fields;
  size = below.size;
  elements = below.elements;
}
pass_beginning marks.method low high d is below = absurd is
pass_beginning marks.parameter low high d is below = absurd is
pass_beginning marks.local low high d is below = absurd is
pass_beginning marks.statement low high d is below = absurd is
pass_beginning marks.node low high d is below = absurd is
pass_beginning marks.arguments low high d is below = absurd is

pub pass_fields : (low high : Tally) (tokens : List Marked) → AreInFields tokens → Below low high →
    Below low (after_tokens high tokens)
pass_fields low high [] are below = below
pass_fields low high (token ∷ tokens) are below =
    pass_fields low (after_token high token) tokens are.1
    (pass_beginning token.begins low high token.nesting are.0 below)

pub in_both : (front more : List Marked) → AreInFields front → AreInFields more → AreInFields (front ++ more)
in_both [] more one two = two
in_both (token ∷ front) more one two = (one.0, in_both front more one.1 two)

pub plain_in : (d : ℕ) (kinds : List TokenKind) → AreInFields (map (plain d) kinds)
plain_in d [] = tt
plain_in d (kind ∷ kinds) = (tt, plain_in d kinds)

pub label_in : (label : LabelPhrase) → AreInFields (label_spelling nothing 0 label)
label_in label = (tt, plain_in 0 (parts_tokens label ++ symbol RightBrace ∷ []))

pub end_in : (ending : FieldEnd) → AreInFields (field_end_spelling ending)
end_in phrase.unset = (tt, tt)
end_in (phrase.sized size) = (tt, (tt, (tt, (tt, tt))))
end_in (phrase.set true n) = (tt, (tt, (tt, (tt, tt))))
end_in (phrase.set false n) = (tt, (tt, (tt, tt)))

pub field_in : (field : FieldPhrase) → AreInFields (field_spelling field)
field_in field =
    in_both (plain 0 (Word Int) ∷ label_spelling nothing 0 field.label)
    (plain 0 (Name field.name) ∷ field_end_spelling field.ending) (tt, label_in field.label) (tt, end_in field.ending)

-- ---- the methods of a program

pub methods_sim : (naming : Naming) (lines : ℕ → ℕ) (at : ℕ) (program items : ProgramPhrase) →
    MethodsAlike naming (methods_at lines at program) items → IsProgram program →
    Sim (spelling program) (spelling items)
methods_sim naming lines at [] [] alike grouped = sim_nil
methods_sim naming lines at [] (item ∷ items) alike grouped = absurd alike
methods_sim naming lines at (phrase.field field ∷ program) items alike grouped =
    let rest = methods_sim naming lines (after_item at (phrase.field field)) program items alike grouped.1 in
    record { run = λ low high below within. passed rest low high below within }
  where
    passed : Sim (spelling program) (spelling items) → Stands (field_spelling field ++ spelling program)
        (spelling items)
    passed rest low high below within =
        let parts = within_parts high (field_spelling field) (spelling program) within in
        let next = rest.run low (after_tokens high (field_spelling field))
        (pass_fields low high (field_spelling field) (field_in field) below) parts.1 in (
          next.0,
          subst (λ t. Below (after_tokens low (spelling items)) t)
              (sym (tokens_behind high (field_spelling field) (spelling program))) next.1,
        )
methods_sim naming lines at (phrase.method method ∷ program) [] alike grouped = absurd alike
methods_sim naming lines at (phrase.method method ∷ program) (phrase.field own ∷ items) alike grouped = absurd alike
methods_sim naming lines at (phrase.method method ∷ program) (phrase.method own ∷ items) alike grouped =
    sim_append (method_sim naming lines at method own alike.0 grouped.0)
    (methods_sim naming lines (after_item at (phrase.method method)) program items alike.1 grouped.1)
