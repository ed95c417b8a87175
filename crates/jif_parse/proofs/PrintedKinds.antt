-- The parts of printed phrases have the tokens of the phrases.
use Rattle.std.proofs.Common.{◌≡◌, ℕ, true, false, List, [], ◌∷◌, Option, Some, None, refl, ap, ◌∙◌}
use Rattle.jif_lex.specs.declared.token.TokenKind.{TokenKind}
use Rattle.jif_lex.specs.declared.token.TokenKind.TheVariants.{Name, Word}
use Rattle.jif_lex.specs.declared.token.Symbol.TheVariants.{LeftBrace, RightBrace, LeftParenthesis, RightParenthesis}
use Rattle.jif_lex.specs.declared.token.Symbol.TheVariants.{LeftBracket, RightBracket, Semicolon, Comma, Assign}
use Rattle.jif_lex.specs.declared.token.Symbol.TheVariants.{Colon, Question}
use Rattle.jif_lex.specs.declared.token.Word.TheVariants.{Int, Void, If, Else, While, Return, Where, Authority}
use Rattle.jif_lex.specs.Spelled.{Spelled, token_part, space_part, line_end_part, spelled_kinds}
use Rattle.label_lattice.specs.Written.{Part, policy, trust, symbol}
use Rattle.jif_grammar.specs.Phrases.{LabelPhrase, ExprPhrase, number, variable, element, parenthesized, signed, binary}
use Rattle.jif_grammar.specs.Phrases.{relabelled, BlockPhrase, end, declaration, assignment, element_assignment, call}
use Rattle.jif_grammar.specs.Phrases.{call_into, branch, branch_else, loop, FieldEnd, unset, sized, set}
use Rattle.jif_grammar.specs.Phrases.{ParamPhrase, MethodPhrase, ItemPhrase, field, method, ProgramPhrase}
use Rattle.jif_grammar.specs.Operators.{operator_symbol, sign_symbol, change_word}
use Rattle.jif_grammar.specs.Unmarked.{joined_then, names_then, part_then, label_then, expr_then, args_then}
use Rattle.jif_grammar.specs.Unmarked.{name_then, optional_label_then, block_then, field_end_then}
use Rattle.jif_grammar.specs.Unmarked.{param_then}
use Rattle.jif_grammar.specs.Unmarked.{params_then, authority_then, result_then, head_then, tail_then, item_then}
use Rattle.jif_grammar.specs.Unmarked.{program_then}
use Rattle.jif_parse.proofs.PrintedPieces.{symbol_part, word_part, name_part, joined_pieces, name_pieces, names_pieces}
use Rattle.jif_parse.proofs.PrintedPieces.{part_pieces, label_pieces, expr_pieces, args_pieces, optional_label_pieces}
use Rattle.jif_parse.proofs.PrintedPieces.{end_pieces, set_pieces, call_pieces, guard_pieces, block_pieces}
use Rattle.jif_parse.proofs.PrintedPieces.{result_pieces, field_end_pieces, param_pieces, params_pieces}
use Rattle.jif_parse.proofs.PrintedPieces.{authority_pieces, head_pieces, tail_pieces, item_pieces, program_pieces}

-- the tokens of a phrase before others
abbrev HasTokens : {X : Type 0} → (X → List Spelled → List Spelled) → (X → List TokenKind → List TokenKind) → X → Type 0
HasTokens pieces tokens x = (rest : List Spelled) → spelled_kinds (pieces x rest) ≡ tokens x (spelled_kinds rest)

joined_kinds : {X : Type 0} (separator : TokenKind) (pieces : X → List Spelled → List Spelled)
    (tokens : X → List TokenKind → List TokenKind) → ((x : X) → HasTokens pieces tokens x) → (items : List X) →
    HasTokens (joined_pieces separator pieces) (joined_then separator tokens) items
joined_kinds separator pieces tokens each [] rest = refl
joined_kinds separator pieces tokens each (item ∷ []) rest = each item rest
joined_kinds separator pieces tokens each (item ∷ next ∷ items) rest =
    each item (token_part separator ∷ space_part ∷ joined_pieces separator pieces (next ∷ items) rest)
    ∙ ap (λ (ks : List TokenKind). tokens item (separator ∷ ks))
    (joined_kinds separator pieces tokens each (next ∷ items) rest)

names_kinds : (names : List (List ℕ)) → HasTokens names_pieces names_then names
names_kinds names rest = joined_kinds (symbol Comma) name_pieces name_then (λ name more. refl) names rest

part_kinds : (part : Part) → HasTokens part_pieces part_then part
part_kinds (policy owner readers) rest =
    ap (λ (ks : List TokenKind). Name owner ∷ symbol Colon ∷ ks) (names_kinds readers rest)
part_kinds (trust members) rest =
    ap (λ (ks : List TokenKind). symbol Question ∷ symbol Colon ∷ ks) (names_kinds members rest)

pub label_kinds : (parts : LabelPhrase) → HasTokens label_pieces label_then parts
label_kinds parts rest =
    ap (λ (ks : List TokenKind). symbol LeftBrace ∷ ks)
    (joined_kinds (symbol Semicolon) part_pieces part_then part_kinds parts (symbol_part RightBrace ∷ rest))

pub expr_kinds : (e : ExprPhrase) → HasTokens expr_pieces expr_then e
expr_kinds (number n) rest = refl
expr_kinds (variable name) rest = refl
expr_kinds (element name index) rest =
    ap (λ (ks : List TokenKind). Name name ∷ symbol LeftBracket ∷ ks)
    (expr_kinds index (symbol_part RightBracket ∷ rest))
expr_kinds (parenthesized inner) rest =
    ap (λ (ks : List TokenKind). symbol LeftParenthesis ∷ ks) (expr_kinds inner (symbol_part RightParenthesis ∷ rest))
expr_kinds (signed sign inner) rest =
    ap (λ (ks : List TokenKind). symbol (sign_symbol sign) ∷ ks) (expr_kinds inner rest)
expr_kinds (binary operator left right) rest =
    expr_kinds left (space_part ∷ symbol_part (operator_symbol operator) ∷ space_part ∷ expr_pieces right rest)
    ∙ ap (λ (ks : List TokenKind). expr_then left (symbol (operator_symbol operator) ∷ ks)) (expr_kinds right rest)
expr_kinds (relabelled change inner label) rest =
    ap (λ (ks : List TokenKind). Word (change_word change) ∷ symbol LeftParenthesis ∷ ks)
    (expr_kinds inner (symbol_part Comma ∷ space_part ∷ label_pieces label (symbol_part RightParenthesis ∷ rest))
    ∙ ap (λ (ks : List TokenKind). expr_then inner (symbol Comma ∷ ks))
    (label_kinds label (symbol_part RightParenthesis ∷ rest)))

args_kinds : (args : List ExprPhrase) → HasTokens args_pieces args_then args
args_kinds args rest = joined_kinds (symbol Comma) expr_pieces expr_then expr_kinds args rest

optional_label_kinds : (label : Option LabelPhrase) → HasTokens optional_label_pieces optional_label_then label
optional_label_kinds None rest = refl
optional_label_kinds (Some label) rest = label_kinds label rest

-- ---- statements

set_kinds : (value : ExprPhrase) (rest : List Spelled) (tokens : List TokenKind) → spelled_kinds rest ≡ tokens →
    spelled_kinds (set_pieces value rest) ≡ symbol Assign ∷ expr_then value (symbol Semicolon ∷ tokens)
set_kinds value rest tokens is =
    ap (λ (ks : List TokenKind). symbol Assign ∷ ks) (expr_kinds value (end_pieces rest)
    ∙ ap (λ (ks : List TokenKind). expr_then value (symbol Semicolon ∷ ks)) is)

call_kinds : (name : List ℕ) (args : List ExprPhrase) (rest : List Spelled) (tokens : List TokenKind) →
    spelled_kinds rest ≡ tokens →
    spelled_kinds (call_pieces name args rest)
    ≡ Name name ∷ symbol LeftParenthesis ∷ args_then args (symbol RightParenthesis ∷ symbol Semicolon ∷ tokens)
call_kinds name args rest tokens is =
    ap (λ (ks : List TokenKind). Name name ∷ symbol LeftParenthesis ∷ ks)
    (args_kinds args (symbol_part RightParenthesis ∷ end_pieces rest)
    ∙ ap (λ (ks : List TokenKind). args_then args (symbol RightParenthesis ∷ symbol Semicolon ∷ ks)) is)

guard_kinds : (guard : ExprPhrase) (rest : List Spelled) (tokens : List TokenKind) → spelled_kinds rest ≡ tokens →
    spelled_kinds (guard_pieces guard rest)
    ≡ symbol LeftParenthesis ∷ expr_then guard (symbol RightParenthesis ∷ symbol LeftBrace ∷ tokens)
guard_kinds guard rest tokens is =
    ap (λ (ks : List TokenKind). symbol LeftParenthesis ∷ ks)
    (expr_kinds guard (symbol_part RightParenthesis ∷ space_part ∷ symbol_part LeftBrace ∷ line_end_part ∷ rest)
    ∙ ap (λ (ks : List TokenKind). expr_then guard (symbol RightParenthesis ∷ symbol LeftBrace ∷ ks)) is)

pub block_kinds : (block : BlockPhrase) → HasTokens block_pieces block_then block
block_kinds end more = refl
block_kinds (declaration label name value rest) more =
    ap (λ (ks : List TokenKind). Word Int ∷ ks)
    (optional_label_kinds label (space_part ∷ name_part name ∷ set_pieces value (block_pieces rest more))
    ∙ ap (λ (ks : List TokenKind). optional_label_then label (Name name ∷ ks))
    (set_kinds value (block_pieces rest more) (block_then rest (spelled_kinds more)) (block_kinds rest more)))
block_kinds (assignment name value rest) more =
    ap (λ (ks : List TokenKind). Name name ∷ ks)
    (set_kinds value (block_pieces rest more) (block_then rest (spelled_kinds more)) (block_kinds rest more))
block_kinds (element_assignment name index value rest) more =
    ap (λ (ks : List TokenKind). Name name ∷ symbol LeftBracket ∷ ks)
    (expr_kinds index (symbol_part RightBracket ∷ set_pieces value (block_pieces rest more))
    ∙ ap (λ (ks : List TokenKind). expr_then index (symbol RightBracket ∷ ks))
    (set_kinds value (block_pieces rest more) (block_then rest (spelled_kinds more)) (block_kinds rest more)))
block_kinds (call name args rest) more =
    call_kinds name args (block_pieces rest more) (block_then rest (spelled_kinds more)) (block_kinds rest more)
block_kinds (call_into into name args rest) more =
    ap (λ (ks : List TokenKind). Name into ∷ symbol Assign ∷ ks)
    (call_kinds name args (block_pieces rest more) (block_then rest (spelled_kinds more)) (block_kinds rest more))
block_kinds (branch guard first rest) more =
    let behind : List Spelled = symbol_part RightBrace ∷ line_end_part ∷ block_pieces rest more in
    ap (λ (ks : List TokenKind). Word If ∷ ks)
    (guard_kinds guard (block_pieces first behind)
    (block_then first (symbol RightBrace ∷ block_then rest (spelled_kinds more)))
    (block_kinds first behind
    ∙ ap (λ (ks : List TokenKind). block_then first (symbol RightBrace ∷ ks)) (block_kinds rest more)))
block_kinds (branch_else guard first second rest) more =
    let behind : List Spelled = symbol_part RightBrace ∷ line_end_part ∷ block_pieces rest more in
    let between : List Spelled =
    symbol_part RightBrace ∷ space_part ∷ word_part Else ∷ space_part ∷ symbol_part LeftBrace ∷ line_end_part
    ∷ block_pieces second behind in
    ap (λ (ks : List TokenKind). Word If ∷ ks)
    (guard_kinds guard (block_pieces first between)
    (block_then first (symbol RightBrace ∷ Word Else ∷ symbol LeftBrace
    ∷ block_then second (symbol RightBrace ∷ block_then rest (spelled_kinds more))))
    (block_kinds first between
    ∙ ap (λ (ks : List TokenKind). block_then first (symbol RightBrace ∷ Word Else ∷ symbol LeftBrace ∷ ks))
    (block_kinds second behind
    ∙ ap (λ (ks : List TokenKind). block_then second (symbol RightBrace ∷ ks)) (block_kinds rest more))))
block_kinds (loop guard body rest) more =
    let behind : List Spelled = symbol_part RightBrace ∷ line_end_part ∷ block_pieces rest more in
    ap (λ (ks : List TokenKind). Word While ∷ ks)
    (guard_kinds guard (block_pieces body behind)
    (block_then body (symbol RightBrace ∷ block_then rest (spelled_kinds more)))
    (block_kinds body behind
    ∙ ap (λ (ks : List TokenKind). block_then body (symbol RightBrace ∷ ks)) (block_kinds rest more)))

result_kinds : (result : Option ExprPhrase) → HasTokens result_pieces result_then result
result_kinds None rest = refl
result_kinds (Some value) rest =
    ap (λ (ks : List TokenKind). Word Return ∷ ks) (expr_kinds value (end_pieces rest))

-- ---- fields and methods

field_end_kinds : (ending : FieldEnd) → HasTokens field_end_pieces field_end_then ending
field_end_kinds unset rest = refl
field_end_kinds (sized size) rest = refl
field_end_kinds (set true first) rest = refl
field_end_kinds (set false first) rest = refl

param_kinds : (param : ParamPhrase) → HasTokens param_pieces param_then param
param_kinds param rest =
    ap (λ (ks : List TokenKind). Word Int ∷ ks) (label_kinds param.label (space_part ∷ name_part param.name ∷ rest))

params_kinds : (params : List ParamPhrase) → HasTokens params_pieces params_then params
params_kinds params rest = joined_kinds (symbol Comma) param_pieces param_then param_kinds params rest

authority_kinds : (names : List (List ℕ)) → HasTokens authority_pieces authority_then names
authority_kinds [] rest = refl
authority_kinds (name ∷ names) rest =
    ap (λ (ks : List TokenKind). Word Where ∷ Word Authority ∷ symbol LeftParenthesis ∷ ks)
    (names_kinds (name ∷ names) (symbol_part RightParenthesis ∷ rest))

head_kinds : (kind : Option LabelPhrase) (name : List ℕ) (begin : LabelPhrase) (rest : List Spelled) →
    spelled_kinds (head_pieces kind name begin rest) ≡ head_then kind name begin (spelled_kinds rest)
head_kinds None name begin rest =
    ap (λ (ks : List TokenKind). Word Void ∷ Name name ∷ ks) (label_kinds begin rest)
head_kinds (Some label) name begin rest =
    ap (λ (ks : List TokenKind). Word Int ∷ ks)
    (label_kinds label (space_part ∷ name_part name ∷ label_pieces begin rest)
    ∙ ap (λ (ks : List TokenKind). label_then label (Name name ∷ ks)) (label_kinds begin rest))

tail_kinds : (phrase : MethodPhrase) → HasTokens tail_pieces tail_then phrase
tail_kinds phrase rest =
    let last : List Spelled = symbol_part RightBrace ∷ line_end_part ∷ rest in
    let body : List Spelled = block_pieces phrase.body (result_pieces phrase.result last) in
    let inside : List Spelled = space_part ∷ symbol_part LeftBrace ∷ line_end_part ∷ body in
    ap (λ (ks : List TokenKind). symbol LeftParenthesis ∷ ks)
    (params_kinds phrase.params (symbol_part RightParenthesis ∷ authority_pieces phrase.authority inside)
    ∙ ap (λ (ks : List TokenKind). params_then phrase.params (symbol RightParenthesis ∷ ks))
    (authority_kinds phrase.authority inside
    ∙ ap (λ (ks : List TokenKind). authority_then phrase.authority (symbol LeftBrace ∷ ks))
    (block_kinds phrase.body (result_pieces phrase.result last)
    ∙ ap (λ (ks : List TokenKind). block_then phrase.body ks) (result_kinds phrase.result last))))

item_kinds : (item : ItemPhrase) → HasTokens item_pieces item_then item
item_kinds (field phrase) rest =
    ap (λ (ks : List TokenKind). Word Int ∷ ks)
    (label_kinds phrase.label (space_part ∷ name_part phrase.name ∷ field_end_pieces phrase.ending rest)
    ∙ ap (λ (ks : List TokenKind). label_then phrase.label (Name phrase.name ∷ ks))
    (field_end_kinds phrase.ending rest))
item_kinds (method phrase) rest =
    head_kinds phrase.kind phrase.name phrase.begin (tail_pieces phrase rest)
    ∙ ap (λ (ks : List TokenKind). head_then phrase.kind phrase.name phrase.begin ks) (tail_kinds phrase rest)

pub program_kinds : (program : ProgramPhrase) → HasTokens program_pieces program_then program
program_kinds [] rest = refl
program_kinds (item ∷ items) rest =
    item_kinds item (program_pieces items rest)
    ∙ ap (λ (ks : List TokenKind). item_then item ks) (program_kinds items rest)
