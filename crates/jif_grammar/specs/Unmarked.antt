-- Phrases as tokens before others: `expr_then e rest` is the tokens of `e` without their marks and then the rest. So no
-- append stands within the tokens of a phrase.
use Rattle.std.specs.Prelude.{ℕ, pos, Bool, true, false, List, [], ◌∷◌, Option, Some, None}
use Rattle.jif_lex.specs.declared.token.TokenKind.{TokenKind}
use Rattle.jif_lex.specs.declared.token.TokenKind.TheVariants.{Name, Number, Word}
use Rattle.jif_lex.specs.declared.token.Symbol.TheVariants.{LeftBrace, RightBrace, LeftParenthesis, RightParenthesis}
use Rattle.jif_lex.specs.declared.token.Symbol.TheVariants.{LeftBracket, RightBracket, Semicolon, Comma, Assign, Minus}
use Rattle.jif_lex.specs.declared.token.Symbol.TheVariants.{Colon, Question}
use Rattle.jif_lex.specs.declared.token.Word.TheVariants.{Int, Void, If, Else, While, Return, Where, Authority}
use Rattle.label_lattice.specs.Written.{Part, policy, trust, symbol}
use Rattle.jif_grammar.specs.Phrases.{LabelPhrase, ExprPhrase, number, variable, element, parenthesized, signed, binary}
use Rattle.jif_grammar.specs.Phrases.{relabelled, BlockPhrase, end, declaration, assignment, element_assignment, call}
use Rattle.jif_grammar.specs.Phrases.{call_into, branch, branch_else, loop, FieldEnd, unset, sized, set}
use Rattle.jif_grammar.specs.Phrases.{ParamPhrase, MethodPhrase, ItemPhrase, field, method, ProgramPhrase}
use Rattle.jif_grammar.specs.Operators.{operator_symbol, sign_symbol, change_word}

abbrev pub joined_then : {X : Type 0} → TokenKind → (X → List TokenKind → List TokenKind) → List X →
    List TokenKind → List TokenKind
joined_then separator item_then [] rest = rest
joined_then separator item_then (item ∷ []) rest = item_then item rest
joined_then separator item_then (item ∷ next ∷ items) rest =
    item_then item (separator ∷ joined_then separator item_then (next ∷ items) rest)

abbrev pub name_then : List ℕ → List TokenKind → List TokenKind
name_then name rest = Name name ∷ rest

abbrev pub names_then : List (List ℕ) → List TokenKind → List TokenKind
names_then names rest = joined_then (symbol Comma) name_then names rest

abbrev pub part_then : Part → List TokenKind → List TokenKind
part_then (policy owner readers) rest = Name owner ∷ symbol Colon ∷ names_then readers rest
part_then (trust members) rest = symbol Question ∷ symbol Colon ∷ names_then members rest

abbrev pub label_then : LabelPhrase → List TokenKind → List TokenKind
label_then parts rest =
    symbol LeftBrace ∷ joined_then (symbol Semicolon) part_then parts (symbol RightBrace ∷ rest)

abbrev pub expr_then : ExprPhrase → List TokenKind → List TokenKind
expr_then (number n) rest = Number (pos n) ∷ rest
expr_then (variable name) rest = Name name ∷ rest
expr_then (element name index) rest =
    Name name ∷ symbol LeftBracket ∷ expr_then index (symbol RightBracket ∷ rest)
expr_then (parenthesized inner) rest = symbol LeftParenthesis ∷ expr_then inner (symbol RightParenthesis ∷ rest)
expr_then (signed sign operand) rest = symbol (sign_symbol sign) ∷ expr_then operand rest
expr_then (binary operator left right) rest =
    expr_then left (symbol (operator_symbol operator) ∷ expr_then right rest)
expr_then (relabelled change inner label) rest =
    Word (change_word change) ∷ symbol LeftParenthesis
    ∷ expr_then inner (symbol Comma ∷ label_then label (symbol RightParenthesis ∷ rest))

abbrev pub args_then : List ExprPhrase → List TokenKind → List TokenKind
args_then args rest = joined_then (symbol Comma) expr_then args rest

abbrev pub optional_label_then : Option LabelPhrase → List TokenKind → List TokenKind
optional_label_then None rest = rest
optional_label_then (Some label) rest = label_then label rest

abbrev pub block_then : BlockPhrase → List TokenKind → List TokenKind
block_then end more = more
block_then (declaration label name value rest) more =
    Word Int ∷ optional_label_then label (Name name ∷ symbol Assign
    ∷ expr_then value (symbol Semicolon ∷ block_then rest more))
block_then (assignment name value rest) more =
    Name name ∷ symbol Assign ∷ expr_then value (symbol Semicolon ∷ block_then rest more)
block_then (element_assignment name index value rest) more =
    Name name ∷ symbol LeftBracket ∷ expr_then index (symbol RightBracket ∷ symbol Assign
    ∷ expr_then value (symbol Semicolon ∷ block_then rest more))
block_then (call name args rest) more =
    Name name ∷ symbol LeftParenthesis
    ∷ args_then args (symbol RightParenthesis ∷ symbol Semicolon ∷ block_then rest more)
block_then (call_into into name args rest) more =
    Name into ∷ symbol Assign ∷ Name name ∷ symbol LeftParenthesis
    ∷ args_then args (symbol RightParenthesis ∷ symbol Semicolon ∷ block_then rest more)
block_then (branch guard first rest) more =
    Word If ∷ symbol LeftParenthesis ∷ expr_then guard (symbol RightParenthesis ∷ symbol LeftBrace
    ∷ block_then first (symbol RightBrace ∷ block_then rest more))
block_then (branch_else guard first second rest) more =
    Word If ∷ symbol LeftParenthesis ∷ expr_then guard (symbol RightParenthesis ∷ symbol LeftBrace
    ∷ block_then first (symbol RightBrace ∷ Word Else ∷ symbol LeftBrace
    ∷ block_then second (symbol RightBrace ∷ block_then rest more)))
block_then (loop guard body rest) more =
    Word While ∷ symbol LeftParenthesis ∷ expr_then guard (symbol RightParenthesis ∷ symbol LeftBrace
    ∷ block_then body (symbol RightBrace ∷ block_then rest more))

abbrev pub sign_then : Bool → List TokenKind → List TokenKind
sign_then false rest = rest
sign_then true rest = symbol Minus ∷ rest

abbrev pub field_end_then : FieldEnd → List TokenKind → List TokenKind
field_end_then unset rest = symbol Semicolon ∷ rest
field_end_then (sized size) rest =
    symbol LeftBracket ∷ Number (pos size) ∷ symbol RightBracket ∷ symbol Semicolon ∷ rest
field_end_then (set negative first) rest =
    symbol Assign ∷ sign_then negative (Number (pos first) ∷ symbol Semicolon ∷ rest)

abbrev pub param_then : ParamPhrase → List TokenKind → List TokenKind
param_then phrase rest = Word Int ∷ label_then phrase.label (Name phrase.name ∷ rest)

abbrev pub params_then : List ParamPhrase → List TokenKind → List TokenKind
params_then params rest = joined_then (symbol Comma) param_then params rest

abbrev pub authority_then : List (List ℕ) → List TokenKind → List TokenKind
authority_then [] rest = rest
authority_then (name ∷ names) rest =
    Word Where ∷ Word Authority ∷ symbol LeftParenthesis
    ∷ names_then (name ∷ names) (symbol RightParenthesis ∷ rest)

abbrev pub result_then : Option ExprPhrase → List TokenKind → List TokenKind
result_then None rest = rest
result_then (Some value) rest = Word Return ∷ expr_then value (symbol Semicolon ∷ rest)

abbrev pub head_then : Option LabelPhrase → List ℕ → LabelPhrase → List TokenKind → List TokenKind
head_then None name begin rest = Word Void ∷ Name name ∷ label_then begin rest
head_then (Some label) name begin rest = Word Int ∷ label_then label (Name name ∷ label_then begin rest)

abbrev pub tail_then : MethodPhrase → List TokenKind → List TokenKind
tail_then phrase rest =
    symbol LeftParenthesis ∷ params_then phrase.params (symbol RightParenthesis
    ∷ authority_then phrase.authority (symbol LeftBrace
    ∷ block_then phrase.body (result_then phrase.result (symbol RightBrace ∷ rest))))

abbrev pub item_then : ItemPhrase → List TokenKind → List TokenKind
item_then (field phrase) rest =
    Word Int ∷ label_then phrase.label (Name phrase.name ∷ field_end_then phrase.ending rest)
item_then (method phrase) rest = head_then phrase.kind phrase.name phrase.begin (tail_then phrase rest)

abbrev pub program_then : ProgramPhrase → List TokenKind → List TokenKind
program_then [] rest = rest
program_then (item ∷ items) rest = item_then item (program_then items rest)
