-- The names and numbers of a draft are those of its tokens.
use Rattle.std.proofs.Common.{ℕ, zero, suc, ◌+◌, true, false, List, []}
use Rattle.std.proofs.Common.{◌∷◌, length, Option, Some, None, ◌∙◌, subst, arith}
use Rattle.std.specs.Prelude.{⊤, All}
use Rattle.std.specs.List.{AllByRecursion}
use Rattle.std.proofs.lemmas.Int.{ints}
use Rattle.js_base.specs.Name.{IsName}
use Rattle.jif_lex.specs.declared.token.Token.{Token}
use Rattle.jif_lex.specs.declared.token.TokenKind.{TokenKind}
use Rattle.jif_lex.specs.declared.token.TokenKind.TheVariants.{Name}
use Rattle.jif_lex.specs.declared.token.Symbol.TheVariants.{Semicolon, Comma, RightBrace}
use Rattle.jif_lex.specs.TokenLists.{FitsText, AreTokens}
use Rattle.jif_tree.specs.Named.{IsNameInText}
use Rattle.label_lattice.specs.Written.{Part, policy, trust, symbol, kinds}
use Rattle.jif_grammar.specs.Phrases as phrase
use Rattle.jif_grammar.specs.Phrases.{LabelPhrase, ExprPhrase, BlockPhrase, FieldEnd, ParamPhrase, MethodPhrase}
use Rattle.jif_grammar.specs.Phrases.{ItemPhrase, ProgramPhrase, complement, minus, release, acceptance}
use Rattle.jif_grammar.specs.Unmarked.{joined_then, name_then, names_then, part_then, label_then, expr_then, args_then}
use Rattle.jif_grammar.specs.Unmarked.{optional_label_then, block_then, field_end_then, param_then}
use Rattle.jif_grammar.specs.Unmarked.{authority_then, result_then, head_then, item_then, program_then}
use Rattle.jif_grammar.specs.Spelling.{param_spelling}
use Rattle.jif_grammar.specs.DraftShapes.{BlockShape, FieldShape, end_shape}
use Rattle.jif_grammar.specs.Drafts.{names_at, expr_at, expr_width, args_at, block_at, result_at, params_at}
use Rattle.jif_grammar.specs.Drafts.{method_at, methods_at, fields_at, first_value, after_item}
use Rattle.jif_grammar.specs.Programs.{Spells}
use Rattle.jif_grammar.proofs.Continued.{program_unmarked}
use Rattle.jif_parse.proofs.PrintedApart.{IsSmall}
use Rattle.jif_parse.proofs.PrintedBackExprs.{IsNamedShape}
use Rattle.jif_parse.proofs.PrintedAlike.{IsNamedBlockShape}
use Rattle.jif_parse.proofs.PrintedBackMethods.{AreNamedParams, AreNamedShapes, IsNamedMethod}
use Rattle.jif_parse.proofs.PrintedBackProgram.{IsSmallFirst}

abbrev AllFit : List TokenKind → Type 0
AllFit kinds = AllByRecursion FitsText kinds

-- what holds of the phrase by its tokens, and of the tokens behind it
abbrev Found : {X : Type 0} → (X → List TokenKind → List TokenKind) → (X → Type 0) → X → Type 0
Found tokens R x = (rest : List TokenKind) → AllFit (tokens x rest) → R x × AllFit rest

joined_found : {X : Type 0} (separator : TokenKind) (tokens : X → List TokenKind → List TokenKind) (R : X → Type 0) →
    ((x : X) → Found tokens R x) → (items : List X) →
    Found (joined_then separator tokens) (AllByRecursion R) items
joined_found separator tokens R each [] rest all = (tt, all)
joined_found separator tokens R each (item ∷ []) rest all =
    let one = each item rest all in ((one.0, tt), one.1)
joined_found separator tokens R each (item ∷ next ∷ items) rest all =
    let one = each item (separator ∷ joined_then separator tokens (next ∷ items) rest) all in
    let behind = joined_found separator tokens R each (next ∷ items) rest one.1.1 in
    ((one.0, behind.0), behind.1)

names_found : (names : List (List ℕ)) → Found names_then (AllByRecursion IsName) names
names_found names rest all =
    joined_found (symbol Comma) name_then IsName (λ name more each. (each.0.0, each.1)) names rest all

-- a name of a text as a record
in_text : (name : List ℕ) → FitsText (Name name) → IsNameInText name
in_text name fits = record { name = fits.0; short = fits.1 }

abbrev Anything : {X : Type 0} → X → Type 0
Anything x = ⊤

part_found : (part : Part) → Found part_then (λ p. Anything p) part
part_found (policy owner readers) rest all = (tt, (names_found readers rest all.1.1).1)
part_found (trust members) rest all = (tt, (names_found members rest all.1.1).1)

label_found : (label : LabelPhrase) (rest : List TokenKind) → AllFit (label_then label rest) → AllFit rest
label_found label rest all =
    (joined_found (symbol Semicolon) part_then (λ p. Anything p) part_found label (symbol RightBrace ∷ rest) all.1).1.1

abbrev IsNamedAnywhere : ExprPhrase → Type 0
IsNamedAnywhere e = (at : ℕ) → IsNamedShape (expr_at at e)

expr_found : (e : ExprPhrase) → Found expr_then IsNamedAnywhere e
expr_found (phrase.number n) rest all = (λ at. all.0.1, all.1)
expr_found (phrase.variable name) rest all = (λ at. all.0.0, all.1)
expr_found (phrase.element name index) rest all =
    let inner = expr_found index _ all.1.1 in (λ at. (all.0.0, inner.0 (at + 2)), inner.1.1)
expr_found (phrase.parenthesized inside) rest all =
    let inner = expr_found inside _ all.1 in (λ at. inner.0 (at + 1), inner.1.1)
expr_found (phrase.signed complement inside) rest all =
    let inner = expr_found inside rest all.1 in (λ at. inner.0 (at + 1), inner.1)
expr_found (phrase.signed minus inside) rest all =
    let inner = expr_found inside rest all.1 in (λ at. inner.0 (at + 1), inner.1)
expr_found (phrase.binary operator left right) rest all =
    let one = expr_found left _ all in
    let two = expr_found right rest one.1.1 in
    (λ at. (one.0 at, two.0 (at + expr_width left + 1)), two.1)
expr_found (phrase.relabelled release inside label) rest all =
    let inner = expr_found inside _ all.1.1 in
    (λ at. inner.0 (at + 2), (label_found label _ inner.1.1).1)
expr_found (phrase.relabelled acceptance inside label) rest all =
    let inner = expr_found inside _ all.1.1 in
    (λ at. inner.0 (at + 2), (label_found label _ inner.1.1).1)

args_found : (args : List ExprPhrase) → Found args_then (AllByRecursion IsNamedAnywhere) args
args_found args rest all = joined_found (symbol Comma) expr_then IsNamedAnywhere expr_found args rest all

args_named : (args : List ExprPhrase) → AllByRecursion IsNamedAnywhere args → (at : ℕ) →
    AllByRecursion IsNamedShape (args_at at args)
args_named [] named at = tt
args_named (arg ∷ args) named at = (named.0 at, args_named args named.1 (at + expr_width arg + 1))

optional_found : (label : Option LabelPhrase) (rest : List TokenKind) → AllFit (optional_label_then label rest) →
    AllFit rest
optional_found None rest all = all
optional_found (Some label) rest all = label_found label rest all

abbrev IsNamedBefore : BlockPhrase → Type 0
IsNamedBefore block = (lines : ℕ → ℕ) (at : ℕ) (behind : BlockShape) → IsNamedBlockShape behind →
    IsNamedBlockShape (block_at lines at block behind)

block_found : (block : BlockPhrase) → Found block_then IsNamedBefore block
block_found phrase.end rest all = (λ lines at behind named. named, all)
block_found (phrase.declaration label name value more) rest all =
    let own = optional_found label _ all.1 in
    let one = expr_found value _ own.1.1 in
    let two = block_found more rest one.1.1 in (
      λ lines at behind named. (in_text name own.0, one.0 _, two.0 lines _ behind named),
      two.1,
    )
block_found (phrase.assignment name value more) rest all =
    let one = expr_found value _ all.1.1 in
    let two = block_found more rest one.1.1 in
    (λ lines at behind named. (all.0.0, one.0 (at + 2), two.0 lines _ behind named), two.1)
block_found (phrase.element_assignment name index value more) rest all =
    let one = expr_found index _ all.1.1 in
    let two = expr_found value _ one.1.1.1 in
    let three = block_found more rest two.1.1 in
    (λ lines at behind named. (all.0.0, one.0 (at + 2), two.0 _, three.0 lines _ behind named), three.1)
block_found (phrase.call name args more) rest all =
    let one = args_found args _ all.1.1 in
    let two = block_found more rest one.1.1.1 in
    (λ lines at behind named. (all.0.0, args_named args one.0 (at + 2), tt, two.0 lines _ behind named), two.1)
block_found (phrase.call_into into name args more) rest all =
    let one = args_found args _ all.1.1.1.1 in
    let two = block_found more rest one.1.1.1 in
    let named = args_named args one.0 in
    (λ lines at behind last. (all.1.1.0.0, named (at + 4), all.0.0, two.0 lines _ behind last), two.1)
block_found (phrase.branch guard first more) rest all =
    let one = expr_found guard _ all.1.1 in
    let two = block_found first _ one.1.1.1 in
    let three = block_found more rest two.1.1 in (
      λ lines at behind named.
          (one.0 (at + 2), two.0 lines _ end_shape tt, tt, three.0 lines _ behind named),
      three.1,
    )
block_found (phrase.branch_else guard first second more) rest all =
    let one = expr_found guard _ all.1.1 in
    let two = block_found first _ one.1.1.1 in
    let three = block_found second _ two.1.1.1.1 in
    let four = block_found more rest three.1.1 in (
      λ lines at behind named.
          (one.0 (at + 2), two.0 lines _ end_shape tt, three.0 lines _ end_shape tt, four.0 lines _ behind named),
      four.1,
    )
block_found (phrase.loop guard body more) rest all =
    let one = expr_found guard _ all.1.1 in
    let two = block_found body _ one.1.1.1 in
    let three = block_found more rest two.1.1 in
    (λ lines at behind named. (one.0 (at + 2), two.0 lines _ end_shape tt, three.0 lines _ behind named), three.1)

result_found : (result : Option ExprPhrase) →
    Found result_then (λ r. (lines : ℕ → ℕ) (at : ℕ) → IsNamedBlockShape (result_at lines at r)) result
result_found None rest all = (λ lines at. tt, all)
result_found (Some value) rest all =
    let one = expr_found value _ all.1 in (λ lines at. (one.0 (at + 1), tt), one.1.1)

-- ---- methods

abbrev IsNamedParamPhrase : ParamPhrase → Type 0
IsNamedParamPhrase param = IsNameInText param.name

param_found : (param : ParamPhrase) → Found param_then IsNamedParamPhrase param
param_found param rest all = let behind = label_found param.label _ all.1 in (in_text param.name behind.0, behind.1)

params_named : (params : List ParamPhrase) → AllByRecursion IsNamedParamPhrase params → (at : ℕ) →
    AreNamedParams (params_at at params)
params_named [] named at = tt
params_named (param ∷ params) named at =
    (named.0, params_named params named.1 (at + length (param_spelling param) + 1))

names_named : (names : List (List ℕ)) → AllByRecursion IsName names → (at : ℕ) → AreNamedShapes (names_at at names)
names_named [] named at = tt
names_named (name ∷ names) named at = (named.0, names_named names named.1 (at + 2))

authority_found : (names : List (List ℕ)) → Found authority_then (AllByRecursion IsName) names
authority_found [] rest all = (tt, all)
authority_found (name ∷ names) rest all =
    let found = names_found (name ∷ names) _ all.1.1.1 in (found.0, found.1.1)

head_found : (kind : Option LabelPhrase) (name : List ℕ) (begin : LabelPhrase) (rest : List TokenKind) →
    AllFit (head_then kind name begin rest) → IsNameInText name × AllFit rest
head_found None name begin rest all = (in_text name all.1.0, label_found begin rest all.1.1)
head_found (Some label) name begin rest all =
    let behind = label_found label _ all.1 in (in_text name behind.0, label_found begin rest behind.1)

method_found : (method : MethodPhrase) (rest : List TokenKind) → AllFit (item_then (phrase.method method) rest) →
    ((lines : ℕ → ℕ) (at : ℕ) → IsNamedMethod (method_at lines at method)) × AllFit rest
method_found method rest all =
    let head = head_found method.kind method.name method.begin _ all in
    let params = joined_found (symbol Comma) param_then IsNamedParamPhrase param_found method.params _ head.1.1 in
    let authority = authority_found method.authority _ params.1.1 in
    let body = block_found method.body _ authority.1.1 in
    let result = result_found method.result _ body.1 in (
      λ lines at. (
        head.0,
        params_named method.params params.0 _,
        names_named method.authority authority.0 _,
        body.0 lines _ _ (result.0 lines _),
      ),
      result.1.1,
    )

-- ---- fields

zero_small : IsSmall 0
zero_small = grind (arith, ints)

end_found : (ending : FieldEnd) →
    Found field_end_then (λ e. IsSmallFirst (first_value e)) ending
end_found phrase.unset rest all = (zero_small, all.1)
end_found (phrase.sized size) rest all = (zero_small, all.1.1.1.1)
end_found (phrase.set false n) rest all = (all.1.0.1, all.1.1.1)
end_found (phrase.set true zero) rest all = (zero_small, all.1.1.1.1)
end_found (phrase.set true (suc n)) rest all = (all.1.1.0.1, all.1.1.1.1)

-- a field has a name, and starts with a small number
abbrev pub StartsSmall : FieldShape → Type 0
StartsSmall field = IsNameInText field.name.text × IsSmallFirst field.first

items_found : (program : ProgramPhrase) → AllFit (program_then program []) → (lines : ℕ → ℕ) (at : ℕ) →
    AllByRecursion StartsSmall (fields_at at program) × AllByRecursion IsNamedMethod (methods_at lines at program)
items_found [] all lines at = (tt, tt)
items_found (phrase.field field ∷ items) all lines at =
    let name = label_found field.label _ all.1 in
    let ending = end_found field.ending _ name.1 in
    let rest = items_found items ending.1 lines (after_item at (phrase.field field)) in
    (((in_text field.name name.0, ending.0), rest.0), rest.1)
items_found (phrase.method method ∷ items) all lines at =
    let own = method_found method _ all in
    let rest = items_found items own.1 lines (after_item at (phrase.method method)) in
    (rest.0, (own.0 lines at, rest.1))

all_fit : (list : List Token) → All (λ token. FitsText token.kind) list → AllFit (kinds list)
all_fit [] all = tt
all_fit (token ∷ list) all =
    (all 0 token (omega arith), all_fit list (λ k d within. all (suc k) d (omega (arith, within))))

-- the names and numbers of a program whose tokens are those of a text
pub phrases_found : (list : List Token) (program : ProgramPhrase) → AreTokens list → Spells list program →
    (lines : ℕ → ℕ) →
    AllByRecursion StartsSmall (fields_at 0 program) × AllByRecursion IsNamedMethod (methods_at lines 0 program)
phrases_found list program fits spells lines =
    items_found program
    (subst AllFit (spells.written ∙ program_unmarked program) (all_fit list fits.1)) lines 0
