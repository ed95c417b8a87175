-- Phrases as tokens before others are what is spelled, without the marks.
use Rattle.std.proofs.Common.{◌≡◌, ℕ, suc, true, false, List, [], ◌∷◌, refl, ap, ◌∙◌, Option, Some, None}
use Rattle.jif_lex.specs.declared.token.TokenKind.{TokenKind}
use Rattle.jif_lex.specs.declared.token.TokenKind.TheVariants.{Name, Word}
use Rattle.jif_lex.specs.declared.token.Symbol.TheVariants.{LeftBrace, RightBrace, LeftParenthesis, RightParenthesis}
use Rattle.jif_lex.specs.declared.token.Symbol.TheVariants.{LeftBracket, RightBracket, Semicolon, Comma, Assign}
use Rattle.jif_lex.specs.declared.token.Symbol.TheVariants.{Colon, Question}
use Rattle.jif_lex.specs.declared.token.Word.TheVariants.{Int, Void, If, Else, While, Return, Where, Authority}
use Rattle.label_lattice.specs.Written.{Part, policy, trust, symbol}
use Rattle.jif_grammar.specs.Phrases.{LabelPhrase, ExprPhrase, number, variable, element, parenthesized, signed, binary}
use Rattle.jif_grammar.specs.Phrases.{relabelled, BlockPhrase, end, declaration, assignment, element_assignment, call}
use Rattle.jif_grammar.specs.Phrases.{call_into, branch, branch_else, loop, FieldEnd, unset, sized, set}
use Rattle.jif_grammar.specs.Phrases.{ParamPhrase, MethodPhrase, ItemPhrase, field, method, ProgramPhrase}
use Rattle.jif_grammar.specs.Operators.{operator_symbol, sign_symbol, change_word}
use Rattle.jif_grammar.specs.Marks as marks
use Rattle.jif_grammar.specs.Marks.{Beginning, Marked, mark, plain, nothing, node}
use Rattle.jif_grammar.specs.Spelling.{spelling}
use Rattle.jif_grammar.specs.Programs.{token_kinds}
use Rattle.jif_grammar.specs.Unmarked.{args_then, authority_then, block_then, expr_then, field_end_then, head_then}
use Rattle.jif_grammar.specs.Unmarked.{item_then, joined_then, label_then, name_then, names_then, optional_label_then}
use Rattle.jif_grammar.specs.Unmarked.{param_then, params_then, part_then, program_then, result_then, tail_then}
use Rattle.jif_grammar.proofs.Marked.{joined_before, name_before, names_before, part_before, label_before, expr_before}
use Rattle.jif_grammar.proofs.Marked.{args_before, optional_label_before, value_before, arguments_before}
use Rattle.jif_grammar.proofs.Marked.{guard_before, block_before, field_end_before, param_before, params_before}
use Rattle.jif_grammar.proofs.Marked.{authority_before, result_before, head_before, tail_before, item_before}
use Rattle.jif_grammar.proofs.Marked.{program_before, program_marked}

-- ---- they are what is spelled, without the marks

unmarked_joined : {X : Type 0} (separator : Marked) (before : X → List Marked → List Marked)
    (continued : X → List TokenKind → List TokenKind) →
    ((x : X) (tokens : List Marked) → token_kinds (before x tokens) ≡ continued x (token_kinds tokens)) →
    (items : List X)
    (tokens : List Marked) →
    token_kinds (joined_before separator before items tokens)
    ≡ joined_then separator.kind continued items (token_kinds tokens)
unmarked_joined separator before continued each [] tokens = refl
unmarked_joined separator before continued each (item ∷ []) tokens = each item tokens
unmarked_joined separator before continued each (item ∷ next ∷ items) tokens =
    each item (separator ∷ joined_before separator before (next ∷ items) tokens)
    ∙ ap (λ ts. continued item (separator.kind ∷ ts))
    (unmarked_joined separator before continued each (next ∷ items) tokens)

pub unmarked_names : (depth : ℕ) (names : List (List ℕ)) (tokens : List Marked) →
    token_kinds (names_before depth names tokens) ≡ names_then names (token_kinds tokens)
unmarked_names depth names tokens =
    unmarked_joined (plain depth (symbol Comma)) (name_before depth) name_then (λ x ts. refl) names tokens

pub unmarked_part : (depth : ℕ) (part : Part) (tokens : List Marked) →
    token_kinds (part_before depth part tokens) ≡ part_then part (token_kinds tokens)
unmarked_part depth (policy owner readers) tokens =
    ap (λ ts. Name owner ∷ symbol Colon ∷ ts) (unmarked_names depth readers tokens)
unmarked_part depth (trust members) tokens =
    ap (λ ts. symbol Question ∷ symbol Colon ∷ ts) (unmarked_names depth members tokens)

pub unmarked_label : (begins : Beginning) (depth : ℕ) (label : LabelPhrase) (tokens : List Marked) →
    token_kinds (label_before begins depth label tokens) ≡ label_then label (token_kinds tokens)
unmarked_label begins depth label tokens =
    ap (λ ts. symbol LeftBrace ∷ ts) (unmarked_joined (plain depth (symbol Semicolon)) (part_before depth) part_then
    (unmarked_part depth) label (plain depth (symbol RightBrace) ∷ tokens))

pub unmarked_expr : (depth : ℕ) (e : ExprPhrase) (tokens : List Marked) →
    token_kinds (expr_before depth e tokens) ≡ expr_then e (token_kinds tokens)
unmarked_expr depth (number n) tokens = refl
unmarked_expr depth (variable name) tokens = refl
unmarked_expr depth (element name index) tokens =
    ap (λ ts. Name name ∷ symbol LeftBracket ∷ ts)
    (unmarked_expr (suc depth) index (plain (suc depth) (symbol RightBracket) ∷ tokens))
unmarked_expr depth (parenthesized inner) tokens =
    ap (λ ts. symbol LeftParenthesis ∷ ts)
    (unmarked_expr (suc depth) inner (plain (suc depth) (symbol RightParenthesis) ∷ tokens))
unmarked_expr depth (signed sign operand) tokens =
    ap (λ ts. symbol (sign_symbol sign) ∷ ts) (unmarked_expr (suc depth) operand tokens)
unmarked_expr depth (binary operator left right) tokens =
    unmarked_expr depth left (mark node depth (symbol (operator_symbol operator)) ∷ expr_before depth right tokens)
    ∙ ap (λ ts. expr_then left (symbol (operator_symbol operator) ∷ ts)) (unmarked_expr depth right tokens)
unmarked_expr depth (relabelled change inner label) tokens =
    ap (λ ts. Word (change_word change) ∷ symbol LeftParenthesis ∷ ts)
    (unmarked_expr (suc depth) inner (plain (suc depth) (symbol Comma)
    ∷ label_before nothing (suc depth) label (plain (suc depth) (symbol RightParenthesis) ∷ tokens))
    ∙ ap (λ ts. expr_then inner (symbol Comma ∷ ts))
    (unmarked_label nothing (suc depth) label (plain (suc depth) (symbol RightParenthesis) ∷ tokens)))

pub unmarked_args : (depth : ℕ) (args : List ExprPhrase) (tokens : List Marked) →
    token_kinds (args_before depth args tokens) ≡ args_then args (token_kinds tokens)
unmarked_args depth args tokens =
    unmarked_joined (plain depth (symbol Comma)) (expr_before depth) expr_then (unmarked_expr depth) args tokens

pub unmarked_optional_label : (depth : ℕ) (label : Option LabelPhrase) (tokens : List Marked) →
    token_kinds (optional_label_before depth label tokens) ≡ optional_label_then label (token_kinds tokens)
unmarked_optional_label depth None tokens = refl
unmarked_optional_label depth (Some label) tokens = unmarked_label nothing depth label tokens

-- before tokens of which is known what they are without their marks
unmarked_value : (depth : ℕ) (value : ExprPhrase) (tokens : List Marked) (rest : List TokenKind) →
    token_kinds tokens ≡ rest →
    token_kinds (value_before depth value tokens) ≡ expr_then value (symbol Semicolon ∷ rest)
unmarked_value depth value tokens rest is =
    unmarked_expr depth value (plain depth (symbol Semicolon) ∷ tokens)
    ∙ ap (λ ts. expr_then value (symbol Semicolon ∷ ts)) is

unmarked_arguments : (depth : ℕ) (args : List ExprPhrase) (tokens : List Marked) (rest : List TokenKind) →
    token_kinds tokens ≡ rest →
    token_kinds (arguments_before depth args tokens)
    ≡ args_then args (symbol RightParenthesis ∷ symbol Semicolon ∷ rest)
unmarked_arguments depth args tokens rest is =
    unmarked_args depth args (plain depth (symbol RightParenthesis) ∷ plain depth (symbol Semicolon) ∷ tokens)
    ∙ ap (λ ts. args_then args (symbol RightParenthesis ∷ symbol Semicolon ∷ ts)) is

unmarked_guard : (depth : ℕ) (guard : ExprPhrase) (tokens : List Marked) (rest : List TokenKind) →
    token_kinds tokens ≡ rest →
    token_kinds (guard_before depth guard tokens)
    ≡ symbol LeftParenthesis ∷ expr_then guard (symbol RightParenthesis ∷ symbol LeftBrace ∷ rest)
unmarked_guard depth guard tokens rest is =
    ap (λ ts. symbol LeftParenthesis ∷ ts) (unmarked_expr depth guard
    (plain depth (symbol RightParenthesis) ∷ plain (suc depth) (symbol LeftBrace) ∷ tokens)
    ∙ ap (λ ts. expr_then guard (symbol RightParenthesis ∷ symbol LeftBrace ∷ ts)) is)

pub unmarked_block : (depth : ℕ) (block : BlockPhrase) (tokens : List Marked) →
    token_kinds (block_before depth block tokens) ≡ block_then block (token_kinds tokens)
unmarked_block depth end tokens = refl
unmarked_block depth (declaration label name value rest) tokens =
    ap (λ ts. Word Int ∷ ts) (unmarked_optional_label depth label (plain depth (Name name)
    ∷ plain depth (symbol Assign) ∷ value_before depth value (block_before depth rest tokens))
    ∙ ap (λ ts. optional_label_then label (Name name ∷ symbol Assign ∷ ts)) (unmarked_value depth value
    (block_before depth rest tokens) (block_then rest (token_kinds tokens)) (unmarked_block depth rest tokens)))
unmarked_block depth (assignment name value rest) tokens =
    ap (λ ts. Name name ∷ symbol Assign ∷ ts) (unmarked_value depth value (block_before depth rest tokens)
    (block_then rest (token_kinds tokens)) (unmarked_block depth rest tokens))
unmarked_block depth (element_assignment name index value rest) tokens =
    ap (λ ts. Name name ∷ symbol LeftBracket ∷ ts) (unmarked_expr depth index (plain depth (symbol RightBracket)
    ∷ plain depth (symbol Assign) ∷ value_before depth value (block_before depth rest tokens))
    ∙ ap (λ ts. expr_then index (symbol RightBracket ∷ symbol Assign ∷ ts)) (unmarked_value depth value
    (block_before depth rest tokens) (block_then rest (token_kinds tokens)) (unmarked_block depth rest tokens)))
unmarked_block depth (call name args rest) tokens =
    ap (λ ts. Name name ∷ symbol LeftParenthesis ∷ ts) (unmarked_arguments depth args
    (block_before depth rest tokens) (block_then rest (token_kinds tokens)) (unmarked_block depth rest tokens))
unmarked_block depth (call_into into name args rest) tokens =
    ap (λ ts. Name into ∷ symbol Assign ∷ Name name ∷ symbol LeftParenthesis ∷ ts) (unmarked_arguments depth args
    (block_before depth rest tokens) (block_then rest (token_kinds tokens)) (unmarked_block depth rest tokens))
unmarked_block depth (branch guard first rest) tokens =
    ap (λ ts. Word If ∷ ts) (unmarked_guard depth guard (block_before (suc depth) first
    (plain (suc depth) (symbol RightBrace) ∷ block_before depth rest tokens)) _
    (unmarked_block (suc depth) first (plain (suc depth) (symbol RightBrace) ∷ block_before depth rest tokens)
    ∙ ap (λ ts. block_then first (symbol RightBrace ∷ ts)) (unmarked_block depth rest tokens)))
unmarked_block depth (branch_else guard first second rest) tokens =
    let other = block_before (suc depth) second (plain (suc depth) (symbol RightBrace)
    ∷ block_before depth rest tokens) in
    ap (λ ts. Word If ∷ ts) (unmarked_guard depth guard (block_before (suc depth) first
    (plain (suc depth) (symbol RightBrace) ∷ plain depth (Word Else) ∷ plain (suc depth) (symbol LeftBrace)
    ∷ other)) _
    (unmarked_block (suc depth) first (plain (suc depth) (symbol RightBrace) ∷ plain depth (Word Else)
    ∷ plain (suc depth) (symbol LeftBrace) ∷ other)
    ∙ ap (λ ts. block_then first (symbol RightBrace ∷ Word Else ∷ symbol LeftBrace ∷ ts))
    (unmarked_block (suc depth) second (plain (suc depth) (symbol RightBrace) ∷ block_before depth rest tokens)
    ∙ ap (λ ts. block_then second (symbol RightBrace ∷ ts)) (unmarked_block depth rest tokens))))
unmarked_block depth (loop guard body rest) tokens =
    ap (λ ts. Word While ∷ ts) (unmarked_guard depth guard (block_before (suc depth) body
    (plain (suc depth) (symbol RightBrace) ∷ block_before depth rest tokens)) _
    (unmarked_block (suc depth) body (plain (suc depth) (symbol RightBrace) ∷ block_before depth rest tokens)
    ∙ ap (λ ts. block_then body (symbol RightBrace ∷ ts)) (unmarked_block depth rest tokens)))

unmarked_field_end : (ending : FieldEnd) (tokens : List Marked) →
    token_kinds (field_end_before ending tokens) ≡ field_end_then ending (token_kinds tokens)
unmarked_field_end unset tokens = refl
unmarked_field_end (sized size) tokens = refl
unmarked_field_end (set false first) tokens = refl
unmarked_field_end (set true first) tokens = refl

pub unmarked_param : (param : ParamPhrase) (tokens : List Marked) →
    token_kinds (param_before param tokens) ≡ param_then param (token_kinds tokens)
unmarked_param param tokens =
    ap (λ ts. Word Int ∷ ts) (unmarked_label nothing 0 param.label (plain 0 (Name param.name) ∷ tokens))

pub unmarked_params : (params : List ParamPhrase) (tokens : List Marked) →
    token_kinds (params_before params tokens) ≡ params_then params (token_kinds tokens)
unmarked_params params tokens =
    unmarked_joined (plain 0 (symbol Comma)) param_before param_then unmarked_param params tokens

pub unmarked_authority : (authority : List (List ℕ)) (tokens : List Marked) →
    token_kinds (authority_before authority tokens) ≡ authority_then authority (token_kinds tokens)
unmarked_authority [] tokens = refl
unmarked_authority (name ∷ names) tokens =
    ap (λ ts. Word Where ∷ Word Authority ∷ symbol LeftParenthesis ∷ ts)
    (unmarked_names 0 (name ∷ names) (plain 0 (symbol RightParenthesis) ∷ tokens))

unmarked_result : (result : Option ExprPhrase) (tokens : List Marked) →
    token_kinds (result_before result tokens) ≡ result_then result (token_kinds tokens)
unmarked_result None tokens = refl
unmarked_result (Some value) tokens =
    ap (λ ts. Word Return ∷ ts) (unmarked_value 0 value tokens (token_kinds tokens) refl)

pub unmarked_head : (kind : Option LabelPhrase) (name : List ℕ) (begin : LabelPhrase) (tokens : List Marked) →
    token_kinds (head_before kind name begin tokens) ≡ head_then kind name begin (token_kinds tokens)
unmarked_head None name begin tokens =
    ap (λ ts. Word Void ∷ Name name ∷ ts) (unmarked_label nothing 0 begin tokens)
unmarked_head (Some label) name begin tokens =
    ap (λ ts. Word Int ∷ ts) (unmarked_label nothing 0 label
    (plain 0 (Name name) ∷ label_before marks.method 0 begin tokens)
    ∙ ap (λ ts. label_then label (Name name ∷ ts)) (unmarked_label marks.method 0 begin tokens))

unmarked_tail : (phrase : MethodPhrase) (tokens : List Marked) →
    token_kinds (tail_before phrase tokens) ≡ tail_then phrase (token_kinds tokens)
unmarked_tail phrase tokens =
    let after_body = result_before phrase.result (plain 0 (symbol RightBrace) ∷ tokens) in
    let after_authority = plain 0 (symbol LeftBrace) ∷ block_before 0 phrase.body after_body in
    ap (λ ts. symbol LeftParenthesis ∷ ts) (unmarked_params phrase.params (plain 0 (symbol RightParenthesis)
    ∷ authority_before phrase.authority after_authority)
    ∙ ap (λ ts. params_then phrase.params (symbol RightParenthesis ∷ ts))
    (unmarked_authority phrase.authority after_authority
    ∙ ap (λ ts. authority_then phrase.authority (symbol LeftBrace ∷ ts)) (unmarked_block 0 phrase.body after_body
    ∙ ap (block_then phrase.body) (unmarked_result phrase.result (plain 0 (symbol RightBrace) ∷ tokens)))))

pub unmarked_item : (item : ItemPhrase) (tokens : List Marked) →
    token_kinds (item_before item tokens) ≡ item_then item (token_kinds tokens)
unmarked_item (field phrase) tokens =
    ap (λ ts. Word Int ∷ ts) (unmarked_label nothing 0 phrase.label
    (plain 0 (Name phrase.name) ∷ field_end_before phrase.ending tokens)
    ∙ ap (λ ts. label_then phrase.label (Name phrase.name ∷ ts)) (unmarked_field_end phrase.ending tokens))
unmarked_item (method phrase) tokens =
    unmarked_head phrase.kind phrase.name phrase.begin (tail_before phrase tokens)
    ∙ ap (head_then phrase.kind phrase.name phrase.begin) (unmarked_tail phrase tokens)

pub unmarked_program : (program : ProgramPhrase) (tokens : List Marked) →
    token_kinds (program_before program tokens) ≡ program_then program (token_kinds tokens)
unmarked_program [] tokens = refl
unmarked_program (item ∷ items) tokens =
    unmarked_item item (program_before items tokens) ∙ ap (item_then item) (unmarked_program items tokens)

-- the tokens of a program
pub program_unmarked : (program : ProgramPhrase) → token_kinds (spelling program) ≡ program_then program []
program_unmarked program = ap token_kinds (program_marked program) ∙ unmarked_program program []
