-- How phrases are written: the tokens of each phrase, with their marks. `depth` is the nesting around the phrase.
--
-- A method that is called after `=` counts as a node until its parenthesis. There the count starts again. So what has
-- begun at a token depends on the tokens so far alone, and no refusal changes by it.
use Rattle.std.specs.Prelude.{ℕ, suc, pos, Bool, true, false, List, [], ◌∷◌, ◌++◌, map, Option, Some, None}
use Rattle.jif_lex.specs.declared.token.TokenKind.TheVariants.{Name, Number, Word}
use Rattle.jif_lex.specs.declared.token.Symbol.TheVariants.{LeftBrace, RightBrace, LeftParenthesis, RightParenthesis}
use Rattle.jif_lex.specs.declared.token.Symbol.TheVariants.{LeftBracket, RightBracket, Semicolon, Comma, Assign, Minus}
use Rattle.jif_lex.specs.declared.token.Word.TheVariants.{Int, Void, If, Else, While, Return, Where, Authority}
use Rattle.label_lattice.specs.Written.{symbol, parts_tokens, names_tokens}
use Rattle.jif_grammar.specs.Phrases.{LabelPhrase, ExprPhrase, number, variable, element, parenthesized, signed, binary}
use Rattle.jif_grammar.specs.Phrases.{relabelled, BlockPhrase, end, declaration, assignment, element_assignment, call}
use Rattle.jif_grammar.specs.Phrases.{call_into, branch, branch_else, loop, FieldEnd, unset, sized, set, FieldPhrase}
use Rattle.jif_grammar.specs.Phrases.{ParamPhrase, MethodPhrase, ItemPhrase, field, method, ProgramPhrase}
use Rattle.jif_grammar.specs.Operators.{operator_symbol, sign_symbol, change_word}
use Rattle.jif_grammar.specs.Marks as marks
use Rattle.jif_grammar.specs.Marks.{Beginning, Marked, mark, plain, nothing, node, local, statement, parameter}

-- the items with the separator between each two
abbrev pub joined_spelling : {X : Type 0} → Marked → (X → List Marked) → List X → List Marked
joined_spelling separator item_spelling [] = []
joined_spelling separator item_spelling (item ∷ []) = item_spelling item
joined_spelling separator item_spelling (item ∷ next ∷ items) =
    item_spelling item ++ separator ∷ joined_spelling separator item_spelling (next ∷ items)

-- ---- labels

-- something may begin at the first brace
abbrev pub label_spelling : Beginning → ℕ → LabelPhrase → List Marked
label_spelling begins depth parts =
    mark begins depth (symbol LeftBrace) ∷ map (plain depth) (parts_tokens parts ++ symbol RightBrace ∷ [])

-- ---- expressions

abbrev pub expr_spelling : ℕ → ExprPhrase → List Marked
expr_spelling depth (number n) = mark node depth (Number (pos n)) ∷ []
expr_spelling depth (variable name) = mark node depth (Name name) ∷ []
expr_spelling depth (element name index) =
    mark node depth (Name name) ∷ plain (suc depth) (symbol LeftBracket)
    ∷ expr_spelling (suc depth) index ++ plain (suc depth) (symbol RightBracket) ∷ []
expr_spelling depth (parenthesized inner) =
    plain (suc depth) (symbol LeftParenthesis)
    ∷ expr_spelling (suc depth) inner ++ plain (suc depth) (symbol RightParenthesis) ∷ []
expr_spelling depth (signed sign operand) =
    mark node (suc depth) (symbol (sign_symbol sign)) ∷ expr_spelling (suc depth) operand
expr_spelling depth (binary operator left right) =
    expr_spelling depth left ++ mark node depth (symbol (operator_symbol operator)) ∷ expr_spelling depth right
expr_spelling depth (relabelled change inner label) =
    mark node (suc depth) (Word (change_word change)) ∷ plain (suc depth) (symbol LeftParenthesis)
    ∷ expr_spelling (suc depth) inner ++ plain (suc depth) (symbol Comma)
    ∷ label_spelling nothing (suc depth) label ++ plain (suc depth) (symbol RightParenthesis) ∷ []

-- ---- statements

abbrev pub args_spelling : ℕ → List ExprPhrase → List Marked
args_spelling depth args = joined_spelling (plain depth (symbol Comma)) (expr_spelling depth) args

abbrev pub optional_label_spelling : ℕ → Option LabelPhrase → List Marked
optional_label_spelling depth None = []
optional_label_spelling depth (Some label) = label_spelling nothing depth label

abbrev pub block_spelling : ℕ → BlockPhrase → List Marked
block_spelling depth end = []
block_spelling depth (declaration label name value rest) =
    mark local depth (Word Int) ∷ optional_label_spelling depth label ++ plain depth (Name name)
    ∷ plain depth (symbol Assign) ∷ expr_spelling depth value ++ plain depth (symbol Semicolon)
    ∷ block_spelling depth rest
block_spelling depth (assignment name value rest) =
    mark statement depth (Name name) ∷ plain depth (symbol Assign)
    ∷ expr_spelling depth value ++ plain depth (symbol Semicolon) ∷ block_spelling depth rest
block_spelling depth (element_assignment name index value rest) =
    mark statement depth (Name name) ∷ plain depth (symbol LeftBracket)
    ∷ expr_spelling depth index ++ plain depth (symbol RightBracket) ∷ plain depth (symbol Assign)
    ∷ expr_spelling depth value ++ plain depth (symbol Semicolon) ∷ block_spelling depth rest
block_spelling depth (call name args rest) =
    mark statement depth (Name name) ∷ plain depth (symbol LeftParenthesis)
    ∷ args_spelling depth args ++ plain depth (symbol RightParenthesis) ∷ plain depth (symbol Semicolon)
    ∷ block_spelling depth rest
block_spelling depth (call_into into name args rest) =
    mark statement depth (Name into) ∷ plain depth (symbol Assign) ∷ mark node depth (Name name)
    ∷ mark marks.arguments depth (symbol LeftParenthesis) ∷ args_spelling depth args
    ++ plain depth (symbol RightParenthesis) ∷ plain depth (symbol Semicolon) ∷ block_spelling depth rest
block_spelling depth (branch guard first rest) =
    mark statement depth (Word If) ∷ plain depth (symbol LeftParenthesis)
    ∷ expr_spelling depth guard ++ plain depth (symbol RightParenthesis)
    ∷ plain (suc depth) (symbol LeftBrace) ∷ block_spelling (suc depth) first
    ++ plain (suc depth) (symbol RightBrace) ∷ block_spelling depth rest
block_spelling depth (branch_else guard first second rest) =
    mark statement depth (Word If) ∷ plain depth (symbol LeftParenthesis)
    ∷ expr_spelling depth guard ++ plain depth (symbol RightParenthesis)
    ∷ plain (suc depth) (symbol LeftBrace) ∷ block_spelling (suc depth) first
    ++ plain (suc depth) (symbol RightBrace) ∷ plain depth (Word Else)
    ∷ plain (suc depth) (symbol LeftBrace) ∷ block_spelling (suc depth) second
    ++ plain (suc depth) (symbol RightBrace) ∷ block_spelling depth rest
block_spelling depth (loop guard body rest) =
    mark statement depth (Word While) ∷ plain depth (symbol LeftParenthesis)
    ∷ expr_spelling depth guard ++ plain depth (symbol RightParenthesis)
    ∷ plain (suc depth) (symbol LeftBrace) ∷ block_spelling (suc depth) body
    ++ plain (suc depth) (symbol RightBrace) ∷ block_spelling depth rest

-- ---- fields

abbrev pub sign_of_number : Bool → List Marked
sign_of_number false = []
sign_of_number true = plain 0 (symbol Minus) ∷ []

abbrev pub field_end_spelling : FieldEnd → List Marked
field_end_spelling unset = mark marks.plain_field 0 (symbol Semicolon) ∷ []
field_end_spelling (sized size) =
    mark marks.array 0 (symbol LeftBracket) ∷ mark (marks.elements size) 0 (Number (pos size))
    ∷ plain 0 (symbol RightBracket) ∷ plain 0 (symbol Semicolon) ∷ []
field_end_spelling (set negative first) =
    mark marks.plain_field 0 (symbol Assign) ∷ sign_of_number negative ++ plain 0 (Number (pos first))
    ∷ plain 0 (symbol Semicolon) ∷ []

abbrev pub field_spelling : FieldPhrase → List Marked
field_spelling phrase =
    plain 0 (Word Int) ∷ label_spelling nothing 0 phrase.label ++ plain 0 (Name phrase.name)
    ∷ field_end_spelling phrase.ending

-- ---- methods

abbrev pub param_spelling : ParamPhrase → List Marked
param_spelling phrase =
    mark parameter 0 (Word Int) ∷ label_spelling nothing 0 phrase.label ++ plain 0 (Name phrase.name) ∷ []

abbrev pub params_spelling : List ParamPhrase → List Marked
params_spelling params = joined_spelling (plain 0 (symbol Comma)) param_spelling params

abbrev pub authority_spelling : List (List ℕ) → List Marked
authority_spelling [] = []
authority_spelling (name ∷ names) =
    plain 0 (Word Where) ∷ plain 0 (Word Authority) ∷ plain 0 (symbol LeftParenthesis)
    ∷ map (plain 0) (names_tokens (name ∷ names)) ++ plain 0 (symbol RightParenthesis) ∷ []

abbrev pub result_spelling : Option ExprPhrase → List Marked
result_spelling None = []
result_spelling (Some value) =
    mark statement 0 (Word Return) ∷ expr_spelling 0 value ++ plain 0 (symbol Semicolon) ∷ []

-- up to the parameters: a `void` method begins at once, and an `int` method at its begin label
abbrev pub head_spelling : Option LabelPhrase → List ℕ → LabelPhrase → List Marked
head_spelling None name begin =
    mark marks.method 0 (Word Void) ∷ plain 0 (Name name) ∷ label_spelling nothing 0 begin
head_spelling (Some label) name begin =
    plain 0 (Word Int) ∷ label_spelling nothing 0 label ++ plain 0 (Name name)
    ∷ label_spelling marks.method 0 begin

abbrev pub method_spelling : MethodPhrase → List Marked
method_spelling phrase =
    head_spelling phrase.kind phrase.name phrase.begin ++ plain 0 (symbol LeftParenthesis)
    ∷ params_spelling phrase.params ++ plain 0 (symbol RightParenthesis)
    ∷ authority_spelling phrase.authority ++ plain 0 (symbol LeftBrace)
    ∷ block_spelling 0 phrase.body ++ result_spelling phrase.result ++ plain 0 (symbol RightBrace) ∷ []

-- ---- programs

abbrev pub item_spelling : ItemPhrase → List Marked
item_spelling (field phrase) = field_spelling phrase
item_spelling (method phrase) = method_spelling phrase

abbrev pub spelling : ProgramPhrase → List Marked
spelling [] = []
spelling (item ∷ items) = item_spelling item ++ spelling items
