-- Phrases as marked tokens before others: `expr_before depth e tokens` is what `e` is spelled as, and then the tokens.
use Rattle.std.proofs.Common.{◌≡◌, ℕ, suc, pos, Bool, true, false, List, [], ◌∷◌, ◌++◌, map, refl, ap, sym, ◌∙◌}
use Rattle.std.proofs.Common.{Option, Some, None, append_assoc}
use Rattle.std.proofs.lemmas.List.{append-nil, map-append}
use Rattle.jif_lex.specs.declared.token.TokenKind.{TokenKind}
use Rattle.jif_lex.specs.declared.token.TokenKind.TheVariants.{Name, Number, Word}
use Rattle.jif_lex.specs.declared.token.Symbol.TheVariants.{LeftBrace, RightBrace, LeftParenthesis, RightParenthesis}
use Rattle.jif_lex.specs.declared.token.Symbol.TheVariants.{LeftBracket, RightBracket, Semicolon, Comma, Assign, Minus}
use Rattle.jif_lex.specs.declared.token.Symbol.TheVariants.{Colon, Question}
use Rattle.jif_lex.specs.declared.token.Word.TheVariants.{Int, Void, If, Else, While, Return, Where, Authority}
use Rattle.label_lattice.specs.Written.{Part, policy, trust, symbol, parts_tokens, names_tokens, with_separator}
use Rattle.label_lattice.specs.Written.{part_tokens, name_tokens}
use Rattle.jif_grammar.specs.Phrases.{LabelPhrase, ExprPhrase, number, variable, element, parenthesized, signed, binary}
use Rattle.jif_grammar.specs.Phrases.{relabelled, BlockPhrase, end, declaration, assignment, element_assignment, call}
use Rattle.jif_grammar.specs.Phrases.{call_into, branch, branch_else, loop, FieldEnd, unset, sized, set, FieldPhrase}
use Rattle.jif_grammar.specs.Phrases.{ParamPhrase, MethodPhrase, ItemPhrase, field, method, ProgramPhrase}
use Rattle.jif_grammar.specs.Operators.{operator_symbol, sign_symbol, change_word}
use Rattle.jif_grammar.specs.Marks as marks
use Rattle.jif_grammar.specs.Marks.{Beginning, Marked, mark, plain, nothing, node, local, statement, parameter}
use Rattle.jif_grammar.specs.Spelling.{joined_spelling, label_spelling, expr_spelling, args_spelling}
use Rattle.jif_grammar.specs.Spelling.{optional_label_spelling}
use Rattle.jif_grammar.specs.Spelling.{block_spelling, field_end_spelling, field_spelling}
use Rattle.jif_grammar.specs.Spelling.{param_spelling, params_spelling, authority_spelling, result_spelling}
use Rattle.jif_grammar.specs.Spelling.{head_spelling, method_spelling, item_spelling, spelling}

-- ---- the phrases

abbrev pub joined_before : {X : Type 0} → Marked → (X → List Marked → List Marked) → List X → List Marked → List Marked
joined_before separator item_before [] tokens = tokens
joined_before separator item_before (item ∷ []) tokens = item_before item tokens
joined_before separator item_before (item ∷ next ∷ items) tokens =
    item_before item (separator ∷ joined_before separator item_before (next ∷ items) tokens)

abbrev pub name_before : ℕ → List ℕ → List Marked → List Marked
name_before depth name tokens = plain depth (Name name) ∷ tokens

abbrev pub names_before : ℕ → List (List ℕ) → List Marked → List Marked
names_before depth names tokens = joined_before (plain depth (symbol Comma)) (name_before depth) names tokens

abbrev pub part_before : ℕ → Part → List Marked → List Marked
part_before depth (policy owner readers) tokens =
    plain depth (Name owner) ∷ plain depth (symbol Colon) ∷ names_before depth readers tokens
part_before depth (trust members) tokens =
    plain depth (symbol Question) ∷ plain depth (symbol Colon) ∷ names_before depth members tokens

abbrev pub label_before : Beginning → ℕ → LabelPhrase → List Marked → List Marked
label_before begins depth parts tokens =
    mark begins depth (symbol LeftBrace)
    ∷ joined_before (plain depth (symbol Semicolon)) (part_before depth) parts
    (plain depth (symbol RightBrace) ∷ tokens)

abbrev pub expr_before : ℕ → ExprPhrase → List Marked → List Marked
expr_before depth (number n) tokens = mark node depth (Number (pos n)) ∷ tokens
expr_before depth (variable name) tokens = mark node depth (Name name) ∷ tokens
expr_before depth (element name index) tokens =
    mark node depth (Name name) ∷ plain (suc depth) (symbol LeftBracket)
    ∷ expr_before (suc depth) index (plain (suc depth) (symbol RightBracket) ∷ tokens)
expr_before depth (parenthesized inner) tokens =
    plain (suc depth) (symbol LeftParenthesis)
    ∷ expr_before (suc depth) inner (plain (suc depth) (symbol RightParenthesis) ∷ tokens)
expr_before depth (signed sign operand) tokens =
    mark node (suc depth) (symbol (sign_symbol sign)) ∷ expr_before (suc depth) operand tokens
expr_before depth (binary operator left right) tokens =
    expr_before depth left (mark node depth (symbol (operator_symbol operator)) ∷ expr_before depth right tokens)
expr_before depth (relabelled change inner label) tokens =
    mark node (suc depth) (Word (change_word change)) ∷ plain (suc depth) (symbol LeftParenthesis)
    ∷ expr_before (suc depth) inner (plain (suc depth) (symbol Comma)
    ∷ label_before nothing (suc depth) label (plain (suc depth) (symbol RightParenthesis) ∷ tokens))

abbrev pub args_before : ℕ → List ExprPhrase → List Marked → List Marked
args_before depth args tokens = joined_before (plain depth (symbol Comma)) (expr_before depth) args tokens

abbrev pub optional_label_before : ℕ → Option LabelPhrase → List Marked → List Marked
optional_label_before depth None tokens = tokens
optional_label_before depth (Some label) tokens = label_before nothing depth label tokens

-- a value and its semicolon
abbrev pub value_before : ℕ → ExprPhrase → List Marked → List Marked
value_before depth value tokens = expr_before depth value (plain depth (symbol Semicolon) ∷ tokens)

-- arguments up to the semicolon
abbrev pub arguments_before : ℕ → List ExprPhrase → List Marked → List Marked
arguments_before depth args tokens =
    args_before depth args (plain depth (symbol RightParenthesis) ∷ plain depth (symbol Semicolon) ∷ tokens)

-- a guard up to the brace behind it
abbrev pub guard_before : ℕ → ExprPhrase → List Marked → List Marked
guard_before depth guard tokens =
    plain depth (symbol LeftParenthesis) ∷ expr_before depth guard (plain depth (symbol RightParenthesis)
    ∷ plain (suc depth) (symbol LeftBrace) ∷ tokens)

abbrev pub block_before : ℕ → BlockPhrase → List Marked → List Marked
block_before depth end tokens = tokens
block_before depth (declaration label name value rest) tokens =
    mark local depth (Word Int) ∷ optional_label_before depth label (plain depth (Name name)
    ∷ plain depth (symbol Assign) ∷ value_before depth value (block_before depth rest tokens))
block_before depth (assignment name value rest) tokens =
    mark statement depth (Name name) ∷ plain depth (symbol Assign)
    ∷ value_before depth value (block_before depth rest tokens)
block_before depth (element_assignment name index value rest) tokens =
    mark statement depth (Name name) ∷ plain depth (symbol LeftBracket)
    ∷ expr_before depth index (plain depth (symbol RightBracket) ∷ plain depth (symbol Assign)
    ∷ value_before depth value (block_before depth rest tokens))
block_before depth (call name args rest) tokens =
    mark statement depth (Name name) ∷ plain depth (symbol LeftParenthesis)
    ∷ arguments_before depth args (block_before depth rest tokens)
block_before depth (call_into into name args rest) tokens =
    mark statement depth (Name into) ∷ plain depth (symbol Assign) ∷ mark node depth (Name name)
    ∷ mark marks.arguments depth (symbol LeftParenthesis)
    ∷ arguments_before depth args (block_before depth rest tokens)
block_before depth (branch guard first rest) tokens =
    mark statement depth (Word If) ∷ guard_before depth guard (block_before (suc depth) first
    (plain (suc depth) (symbol RightBrace) ∷ block_before depth rest tokens))
block_before depth (branch_else guard first second rest) tokens =
    mark statement depth (Word If) ∷ guard_before depth guard (block_before (suc depth) first
    (plain (suc depth) (symbol RightBrace) ∷ plain depth (Word Else) ∷ plain (suc depth) (symbol LeftBrace)
    ∷ block_before (suc depth) second (plain (suc depth) (symbol RightBrace) ∷ block_before depth rest tokens)))
block_before depth (loop guard body rest) tokens =
    mark statement depth (Word While) ∷ guard_before depth guard (block_before (suc depth) body
    (plain (suc depth) (symbol RightBrace) ∷ block_before depth rest tokens))

abbrev pub sign_before : Bool → List Marked → List Marked
sign_before false tokens = tokens
sign_before true tokens = plain 0 (symbol Minus) ∷ tokens

abbrev pub field_end_before : FieldEnd → List Marked → List Marked
field_end_before unset tokens = mark marks.plain_field 0 (symbol Semicolon) ∷ tokens
field_end_before (sized size) tokens =
    mark marks.array 0 (symbol LeftBracket) ∷ mark (marks.elements size) 0 (Number (pos size))
    ∷ plain 0 (symbol RightBracket) ∷ plain 0 (symbol Semicolon) ∷ tokens
field_end_before (set negative first) tokens =
    mark marks.plain_field 0 (symbol Assign) ∷ sign_before negative (plain 0 (Number (pos first))
    ∷ plain 0 (symbol Semicolon) ∷ tokens)

abbrev pub field_before : FieldPhrase → List Marked → List Marked
field_before phrase tokens =
    plain 0 (Word Int) ∷ label_before nothing 0 phrase.label (plain 0 (Name phrase.name)
    ∷ field_end_before phrase.ending tokens)

abbrev pub param_before : ParamPhrase → List Marked → List Marked
param_before phrase tokens =
    mark parameter 0 (Word Int) ∷ label_before nothing 0 phrase.label (plain 0 (Name phrase.name) ∷ tokens)

abbrev pub params_before : List ParamPhrase → List Marked → List Marked
params_before params tokens = joined_before (plain 0 (symbol Comma)) param_before params tokens

abbrev pub authority_before : List (List ℕ) → List Marked → List Marked
authority_before [] tokens = tokens
authority_before (name ∷ names) tokens =
    plain 0 (Word Where) ∷ plain 0 (Word Authority) ∷ plain 0 (symbol LeftParenthesis)
    ∷ names_before 0 (name ∷ names) (plain 0 (symbol RightParenthesis) ∷ tokens)

abbrev pub result_before : Option ExprPhrase → List Marked → List Marked
result_before None tokens = tokens
result_before (Some value) tokens = mark statement 0 (Word Return) ∷ value_before 0 value tokens

abbrev pub head_before : Option LabelPhrase → List ℕ → LabelPhrase → List Marked → List Marked
head_before None name begin tokens =
    mark marks.method 0 (Word Void) ∷ plain 0 (Name name) ∷ label_before nothing 0 begin tokens
head_before (Some label) name begin tokens =
    plain 0 (Word Int) ∷ label_before nothing 0 label (plain 0 (Name name) ∷ label_before marks.method 0 begin tokens)

abbrev pub tail_before : MethodPhrase → List Marked → List Marked
tail_before phrase tokens =
    plain 0 (symbol LeftParenthesis) ∷ params_before phrase.params (plain 0 (symbol RightParenthesis)
    ∷ authority_before phrase.authority (plain 0 (symbol LeftBrace)
    ∷ block_before 0 phrase.body (result_before phrase.result (plain 0 (symbol RightBrace) ∷ tokens))))

abbrev pub item_before : ItemPhrase → List Marked → List Marked
item_before (field phrase) tokens = field_before phrase tokens
item_before (method phrase) tokens = head_before phrase.kind phrase.name phrase.begin (tail_before phrase tokens)

abbrev pub program_before : ProgramPhrase → List Marked → List Marked
program_before [] tokens = tokens
program_before (item ∷ items) tokens = item_before item (program_before items tokens)

-- ---- they are what is spelled

spelled_joined : {X : Type 0} (separator : Marked) (spelled : X → List Marked)
    (before : X → List Marked → List Marked) →
    ((x : X) (tokens : List Marked) → spelled x ++ tokens ≡ before x tokens) → (items : List X) (tokens : List Marked) →
    joined_spelling separator spelled items ++ tokens ≡ joined_before separator before items tokens
spelled_joined separator spelled before each [] tokens = refl
spelled_joined separator spelled before each (item ∷ []) tokens = each item tokens
spelled_joined separator spelled before each (item ∷ next ∷ items) tokens =
    append_assoc (spelled item) (separator ∷ joined_spelling separator spelled (next ∷ items)) tokens
    ∙ ap (λ ts. spelled item ++ separator ∷ ts) (spelled_joined separator spelled before each (next ∷ items) tokens)
    ∙ each item (separator ∷ joined_before separator before (next ∷ items) tokens)

plain_joined : {X : Type 0} (depth : ℕ) (separator : TokenKind) (written : X → List TokenKind)
    (before : X → List Marked → List Marked) →
    ((x : X) (tokens : List Marked) → map (plain depth) (written x) ++ tokens ≡ before x tokens) →
    (items : List X) (tokens : List Marked) →
    map (plain depth) (with_separator separator (map written items)) ++ tokens
    ≡ joined_before (plain depth separator) before items tokens
plain_joined depth separator written before each [] tokens = refl
plain_joined depth separator written before each (item ∷ []) tokens = each item tokens
plain_joined depth separator written before each (item ∷ next ∷ items) tokens =
    ap (λ ts. ts ++ tokens) (map-append (plain depth) (written item)
    (separator ∷ with_separator separator (map written (next ∷ items))))
    ∙ append_assoc (map (plain depth) (written item))
    (plain depth separator ∷ map (plain depth) (with_separator separator (map written (next ∷ items)))) tokens
    ∙ ap (λ ts. map (plain depth) (written item) ++ plain depth separator ∷ ts)
    (plain_joined depth separator written before each (next ∷ items) tokens)
    ∙ each item (plain depth separator ∷ joined_before (plain depth separator) before (next ∷ items) tokens)

pub spelled_names : (depth : ℕ) (names : List (List ℕ)) (tokens : List Marked) →
    map (plain depth) (names_tokens names) ++ tokens ≡ names_before depth names tokens
spelled_names depth names tokens =
    plain_joined depth (symbol Comma) name_tokens (name_before depth) (λ x r. refl) names tokens

pub spelled_part : (depth : ℕ) (part : Part) (tokens : List Marked) →
    map (plain depth) (part_tokens part) ++ tokens ≡ part_before depth part tokens
spelled_part depth (policy owner readers) tokens =
    ap (λ ts. plain depth (Name owner) ∷ plain depth (symbol Colon) ∷ ts) (spelled_names depth readers tokens)
spelled_part depth (trust members) tokens =
    ap (λ ts. plain depth (symbol Question) ∷ plain depth (symbol Colon) ∷ ts) (spelled_names depth members tokens)

pub spelled_label : (begins : Beginning) (depth : ℕ) (label : LabelPhrase) (tokens : List Marked) →
    label_spelling begins depth label ++ tokens ≡ label_before begins depth label tokens
spelled_label begins depth label tokens =
    ap (λ ts. mark begins depth (symbol LeftBrace) ∷ ts)
    (ap (λ ts. ts ++ tokens) (map-append (plain depth) (parts_tokens label) (symbol RightBrace ∷ []))
    ∙ append_assoc (map (plain depth) (parts_tokens label)) (plain depth (symbol RightBrace) ∷ []) tokens
    ∙ plain_joined depth (symbol Semicolon) part_tokens (part_before depth) (spelled_part depth) label
    (plain depth (symbol RightBrace) ∷ tokens))

-- a spelled phrase, other tokens, and the rest
through : (first second tokens rest : List Marked) (before : List Marked → List Marked) →
    ((r : List Marked) → first ++ r ≡ before r) → second ++ tokens ≡ rest → first ++ second ++ tokens ≡ before rest
through first second tokens rest before each is =
    append_assoc first second tokens ∙ ap (λ ts. first ++ ts) is ∙ each rest

pub spelled_expr : (depth : ℕ) (e : ExprPhrase) (tokens : List Marked) →
    expr_spelling depth e ++ tokens ≡ expr_before depth e tokens
spelled_expr depth (number n) tokens = refl
spelled_expr depth (variable name) tokens = refl
spelled_expr depth (element name index) tokens =
    ap (λ ts. mark node depth (Name name) ∷ plain (suc depth) (symbol LeftBracket) ∷ ts)
    (through (expr_spelling (suc depth) index) (plain (suc depth) (symbol RightBracket) ∷ []) tokens _
    (expr_before (suc depth) index) (spelled_expr (suc depth) index) refl)
spelled_expr depth (parenthesized inner) tokens =
    ap (λ ts. plain (suc depth) (symbol LeftParenthesis) ∷ ts)
    (through (expr_spelling (suc depth) inner) (plain (suc depth) (symbol RightParenthesis) ∷ []) tokens _
    (expr_before (suc depth) inner) (spelled_expr (suc depth) inner) refl)
spelled_expr depth (signed sign operand) tokens =
    ap (λ ts. mark node (suc depth) (symbol (sign_symbol sign)) ∷ ts) (spelled_expr (suc depth) operand tokens)
spelled_expr depth (binary operator left right) tokens =
    through (expr_spelling depth left)
    (mark node depth (symbol (operator_symbol operator)) ∷ expr_spelling depth right) tokens _
    (expr_before depth left) (spelled_expr depth left)
    (ap (λ ts. mark node depth (symbol (operator_symbol operator)) ∷ ts) (spelled_expr depth right tokens))
spelled_expr depth (relabelled change inner label) tokens =
    ap (λ ts. mark node (suc depth) (Word (change_word change)) ∷ plain (suc depth) (symbol LeftParenthesis) ∷ ts)
    (append_assoc (expr_spelling (suc depth) inner ++ plain (suc depth) (symbol Comma)
    ∷ label_spelling nothing (suc depth) label) (plain (suc depth) (symbol RightParenthesis) ∷ []) tokens
    ∙ through (expr_spelling (suc depth) inner)
    (plain (suc depth) (symbol Comma) ∷ label_spelling nothing (suc depth) label)
    (plain (suc depth) (symbol RightParenthesis) ∷ tokens) _ (expr_before (suc depth) inner)
    (spelled_expr (suc depth) inner) (ap (λ ts. plain (suc depth) (symbol Comma) ∷ ts)
    (spelled_label nothing (suc depth) label (plain (suc depth) (symbol RightParenthesis) ∷ tokens))))

pub spelled_args : (depth : ℕ) (args : List ExprPhrase) (tokens : List Marked) →
    args_spelling depth args ++ tokens ≡ args_before depth args tokens
spelled_args depth args tokens =
    spelled_joined (plain depth (symbol Comma)) (expr_spelling depth) (expr_before depth) (spelled_expr depth) args
    tokens

pub spelled_optional_label : (depth : ℕ) (label : Option LabelPhrase) (tokens : List Marked) →
    optional_label_spelling depth label ++ tokens ≡ optional_label_before depth label tokens
spelled_optional_label depth None tokens = refl
spelled_optional_label depth (Some label) tokens = spelled_label nothing depth label tokens

spelled_value : (depth : ℕ) (value : ExprPhrase) (behind tokens rest : List Marked) → behind ++ tokens ≡ rest →
    expr_spelling depth value ++ plain depth (symbol Semicolon) ∷ (behind ++ tokens) ≡ value_before depth value rest
spelled_value depth value behind tokens rest is =
    ap (λ ts. expr_spelling depth value ++ plain depth (symbol Semicolon) ∷ ts) is
    ∙ spelled_expr depth value (plain depth (symbol Semicolon) ∷ rest)

spelled_nested : (depth : ℕ) (block : BlockPhrase) (behind tokens rest : List Marked) →
    ((r : List Marked) → block_spelling (suc depth) block ++ r ≡ block_before (suc depth) block r) →
    behind ++ tokens ≡ rest →
    block_spelling (suc depth) block ++ plain (suc depth) (symbol RightBrace) ∷ (behind ++ tokens)
    ≡ block_before (suc depth) block (plain (suc depth) (symbol RightBrace) ∷ rest)
spelled_nested depth block behind tokens rest each is =
    ap (λ ts. block_spelling (suc depth) block ++ plain (suc depth) (symbol RightBrace) ∷ ts) is
    ∙ each (plain (suc depth) (symbol RightBrace) ∷ rest)

-- from the end of a guard to that of the block, without its brace
abbrev guarded : ℕ → BlockPhrase → List Marked
guarded depth block =
    plain depth (symbol RightParenthesis) ∷ plain (suc depth) (symbol LeftBrace) ∷ block_spelling (suc depth) block

pub spelled_block : (depth : ℕ) (block : BlockPhrase) (tokens : List Marked) →
    block_spelling depth block ++ tokens ≡ block_before depth block tokens
spelled_block depth end tokens = refl
spelled_block depth (declaration label name value rest) tokens =
    let behind = plain depth (symbol Semicolon) ∷ block_spelling depth rest in
    let first = plain depth (Name name) ∷ plain depth (symbol Assign) ∷ expr_spelling depth value in
    ap (λ ts. mark local depth (Word Int) ∷ ts)
    (append_assoc (optional_label_spelling depth label ++ first) behind tokens
    ∙ through (optional_label_spelling depth label) first (behind ++ tokens) _ (optional_label_before depth label)
    (spelled_optional_label depth label) (ap (λ ts. plain depth (Name name) ∷ plain depth (symbol Assign) ∷ ts)
    (spelled_value depth value (block_spelling depth rest) tokens (block_before depth rest tokens)
    (spelled_block depth rest tokens))))
spelled_block depth (assignment name value rest) tokens =
    ap (λ ts. mark statement depth (Name name) ∷ plain depth (symbol Assign) ∷ ts)
    (through (expr_spelling depth value) (plain depth (symbol Semicolon) ∷ block_spelling depth rest) tokens _
    (expr_before depth value) (spelled_expr depth value)
    (ap (λ ts. plain depth (symbol Semicolon) ∷ ts) (spelled_block depth rest tokens)))
spelled_block depth (element_assignment name index value rest) tokens =
    let behind = plain depth (symbol Semicolon) ∷ block_spelling depth rest in
    let first = plain depth (symbol RightBracket) ∷ plain depth (symbol Assign) ∷ expr_spelling depth value in
    ap (λ ts. mark statement depth (Name name) ∷ plain depth (symbol LeftBracket) ∷ ts)
    (append_assoc (expr_spelling depth index ++ first) behind tokens
    ∙ through (expr_spelling depth index) first (behind ++ tokens) _ (expr_before depth index)
    (spelled_expr depth index) (ap (λ ts. plain depth (symbol RightBracket) ∷ plain depth (symbol Assign) ∷ ts)
    (spelled_value depth value (block_spelling depth rest) tokens (block_before depth rest tokens)
    (spelled_block depth rest tokens))))
spelled_block depth (call name args rest) tokens =
    ap (λ ts. mark statement depth (Name name) ∷ plain depth (symbol LeftParenthesis) ∷ ts)
    (through (args_spelling depth args)
    (plain depth (symbol RightParenthesis) ∷ plain depth (symbol Semicolon) ∷ block_spelling depth rest) tokens _
    (args_before depth args) (spelled_args depth args)
    (ap (λ ts. plain depth (symbol RightParenthesis) ∷ plain depth (symbol Semicolon) ∷ ts)
    (spelled_block depth rest tokens)))
spelled_block depth (call_into into name args rest) tokens =
    ap (λ ts. mark statement depth (Name into) ∷ plain depth (symbol Assign) ∷ mark node depth (Name name)
    ∷ mark marks.arguments depth (symbol LeftParenthesis) ∷ ts)
    (through (args_spelling depth args)
    (plain depth (symbol RightParenthesis) ∷ plain depth (symbol Semicolon) ∷ block_spelling depth rest) tokens _
    (args_before depth args) (spelled_args depth args)
    (ap (λ ts. plain depth (symbol RightParenthesis) ∷ plain depth (symbol Semicolon) ∷ ts)
    (spelled_block depth rest tokens)))
spelled_block depth (branch guard first rest) tokens =
    let behind = plain (suc depth) (symbol RightBrace) ∷ block_spelling depth rest in
    ap (λ ts. mark statement depth (Word If) ∷ plain depth (symbol LeftParenthesis) ∷ ts)
    (append_assoc (expr_spelling depth guard ++ guarded depth first) behind tokens
    ∙ through (expr_spelling depth guard) (guarded depth first) (behind ++ tokens) _ (expr_before depth guard)
    (spelled_expr depth guard)
    (ap (λ ts. plain depth (symbol RightParenthesis) ∷ plain (suc depth) (symbol LeftBrace) ∷ ts)
    (spelled_nested depth first (block_spelling depth rest) tokens (block_before depth rest tokens)
    (spelled_block (suc depth) first) (spelled_block depth rest tokens))))
spelled_block depth (branch_else guard first second rest) tokens =
    let behind = plain (suc depth) (symbol RightBrace) ∷ block_spelling depth rest in
    let other = plain (suc depth) (symbol RightBrace) ∷ plain depth (Word Else) ∷ plain (suc depth) (symbol LeftBrace)
    ∷ block_spelling (suc depth) second in
    ap (λ ts. mark statement depth (Word If) ∷ plain depth (symbol LeftParenthesis) ∷ ts)
    (append_assoc (expr_spelling depth guard ++ guarded depth first ++ other) behind tokens
    ∙ append_assoc (expr_spelling depth guard ++ guarded depth first) other (behind ++ tokens)
    ∙ through (expr_spelling depth guard) (guarded depth first) (other ++ (behind ++ tokens)) _
    (expr_before depth guard) (spelled_expr depth guard)
    (ap (λ ts. plain depth (symbol RightParenthesis) ∷ plain (suc depth) (symbol LeftBrace)
    ∷ (block_spelling (suc depth) first ++ plain (suc depth) (symbol RightBrace) ∷ plain depth (Word Else)
    ∷ plain (suc depth) (symbol LeftBrace) ∷ ts))
    (spelled_nested depth second (block_spelling depth rest) tokens (block_before depth rest tokens)
    (spelled_block (suc depth) second) (spelled_block depth rest tokens))
    ∙ ap (λ ts. plain depth (symbol RightParenthesis) ∷ plain (suc depth) (symbol LeftBrace) ∷ ts)
    (spelled_block (suc depth) first (plain (suc depth) (symbol RightBrace) ∷ plain depth (Word Else)
    ∷ plain (suc depth) (symbol LeftBrace) ∷ block_before (suc depth) second
    (plain (suc depth) (symbol RightBrace) ∷ block_before depth rest tokens)))))
spelled_block depth (loop guard body rest) tokens =
    let behind = plain (suc depth) (symbol RightBrace) ∷ block_spelling depth rest in
    ap (λ ts. mark statement depth (Word While) ∷ plain depth (symbol LeftParenthesis) ∷ ts)
    (append_assoc (expr_spelling depth guard ++ guarded depth body) behind tokens
    ∙ through (expr_spelling depth guard) (guarded depth body) (behind ++ tokens) _ (expr_before depth guard)
    (spelled_expr depth guard)
    (ap (λ ts. plain depth (symbol RightParenthesis) ∷ plain (suc depth) (symbol LeftBrace) ∷ ts)
    (spelled_nested depth body (block_spelling depth rest) tokens (block_before depth rest tokens)
    (spelled_block (suc depth) body) (spelled_block depth rest tokens))))

spelled_field_end : (ending : FieldEnd) (tokens : List Marked) →
    field_end_spelling ending ++ tokens ≡ field_end_before ending tokens
spelled_field_end unset tokens = refl
spelled_field_end (sized size) tokens = refl
spelled_field_end (set false first) tokens = refl
spelled_field_end (set true first) tokens = refl

spelled_field : (phrase : FieldPhrase) (tokens : List Marked) →
    field_spelling phrase ++ tokens ≡ field_before phrase tokens
spelled_field phrase tokens =
    ap (λ ts. plain 0 (Word Int) ∷ ts) (through (label_spelling nothing 0 phrase.label)
    (plain 0 (Name phrase.name) ∷ field_end_spelling phrase.ending) tokens _ (label_before nothing 0 phrase.label)
    (spelled_label nothing 0 phrase.label)
    (ap (λ ts. plain 0 (Name phrase.name) ∷ ts) (spelled_field_end phrase.ending tokens)))

pub spelled_param : (param : ParamPhrase) (tokens : List Marked) →
    param_spelling param ++ tokens ≡ param_before param tokens
spelled_param param tokens =
    ap (λ ts. mark parameter 0 (Word Int) ∷ ts) (through (label_spelling nothing 0 param.label)
    (plain 0 (Name param.name) ∷ []) tokens _ (label_before nothing 0 param.label)
    (spelled_label nothing 0 param.label) refl)

pub spelled_params : (params : List ParamPhrase) (tokens : List Marked) →
    params_spelling params ++ tokens ≡ params_before params tokens
spelled_params params tokens =
    spelled_joined (plain 0 (symbol Comma)) param_spelling param_before spelled_param params tokens

pub spelled_authority : (authority : List (List ℕ)) (tokens : List Marked) →
    authority_spelling authority ++ tokens ≡ authority_before authority tokens
spelled_authority [] tokens = refl
spelled_authority (name ∷ names) tokens =
    ap (λ ts. plain 0 (Word Where) ∷ plain 0 (Word Authority) ∷ plain 0 (symbol LeftParenthesis) ∷ ts)
    (through (map (plain 0) (names_tokens (name ∷ names))) (plain 0 (symbol RightParenthesis) ∷ []) tokens _
    (names_before 0 (name ∷ names)) (spelled_names 0 (name ∷ names)) refl)

spelled_result : (result : Option ExprPhrase) (tokens : List Marked) →
    result_spelling result ++ tokens ≡ result_before result tokens
spelled_result None tokens = refl
spelled_result (Some value) tokens =
    ap (λ ts. mark statement 0 (Word Return) ∷ ts) (through (expr_spelling 0 value)
    (plain 0 (symbol Semicolon) ∷ []) tokens _ (expr_before 0 value) (spelled_expr 0 value) refl)

pub spelled_head : (kind : Option LabelPhrase) (name : List ℕ) (begin : LabelPhrase) (tokens : List Marked) →
    head_spelling kind name begin ++ tokens ≡ head_before kind name begin tokens
spelled_head None name begin tokens =
    ap (λ ts. mark marks.method 0 (Word Void) ∷ plain 0 (Name name) ∷ ts) (spelled_label nothing 0 begin tokens)
spelled_head (Some label) name begin tokens =
    ap (λ ts. plain 0 (Word Int) ∷ ts) (through (label_spelling nothing 0 label)
    (plain 0 (Name name) ∷ label_spelling marks.method 0 begin) tokens _ (label_before nothing 0 label)
    (spelled_label nothing 0 label)
    (ap (λ ts. plain 0 (Name name) ∷ ts) (spelled_label marks.method 0 begin tokens)))

spelled_method : (phrase : MethodPhrase) (tokens : List Marked) →
    method_spelling phrase ++ tokens ≡ head_before phrase.kind phrase.name phrase.begin (tail_before phrase tokens)
spelled_method phrase tokens =
    let head = head_spelling phrase.kind phrase.name phrase.begin in
    let params = plain 0 (symbol LeftParenthesis) ∷ params_spelling phrase.params in
    let authority = plain 0 (symbol RightParenthesis) ∷ authority_spelling phrase.authority in
    let body = plain 0 (symbol LeftBrace) ∷ block_spelling 0 phrase.body in
    let result = result_spelling phrase.result in
    let at_end : List Marked = plain 0 (symbol RightBrace) ∷ tokens in
    let after_body : List Marked = result_before phrase.result at_end in
    let after_authority : List Marked = plain 0 (symbol LeftBrace) ∷ block_before 0 phrase.body after_body in
    let after_params : List Marked =
    plain 0 (symbol RightParenthesis) ∷ authority_before phrase.authority after_authority in
    append_assoc (head ++ params ++ authority ++ body ++ result) (plain 0 (symbol RightBrace) ∷ []) tokens
    ∙ append_assoc (head ++ params ++ authority ++ body) result at_end
    ∙ ap (λ ts. (head ++ params ++ authority ++ body) ++ ts) (spelled_result phrase.result at_end)
    ∙ append_assoc (head ++ params ++ authority) body after_body
    ∙ ap (λ ts. (head ++ params ++ authority) ++ plain 0 (symbol LeftBrace) ∷ ts)
    (spelled_block 0 phrase.body after_body)
    ∙ append_assoc (head ++ params) authority after_authority
    ∙ ap (λ ts. (head ++ params) ++ plain 0 (symbol RightParenthesis) ∷ ts)
    (spelled_authority phrase.authority after_authority)
    ∙ append_assoc head params after_params
    ∙ ap (λ ts. head ++ plain 0 (symbol LeftParenthesis) ∷ ts) (spelled_params phrase.params after_params)
    ∙ spelled_head phrase.kind phrase.name phrase.begin (tail_before phrase tokens)

pub spelled_item : (item : ItemPhrase) (tokens : List Marked) → item_spelling item ++ tokens ≡ item_before item tokens
spelled_item (field phrase) tokens = spelled_field phrase tokens
spelled_item (method phrase) tokens = spelled_method phrase tokens

pub spelled_program : (program : ProgramPhrase) (tokens : List Marked) →
    spelling program ++ tokens ≡ program_before program tokens
spelled_program [] tokens = refl
spelled_program (item ∷ items) tokens =
    append_assoc (item_spelling item) (spelling items) tokens
    ∙ ap (λ ts. item_spelling item ++ ts) (spelled_program items tokens)
    ∙ spelled_item item (program_before items tokens)

-- the marked tokens of a program
pub program_marked : (program : ProgramPhrase) → spelling program ≡ program_before program []
program_marked program = sym (append-nil (spelling program)) ∙ spelled_program program []
