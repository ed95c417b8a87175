-- The parts of printed phrases: their tokens with the blanks between them, before other parts.
use Rattle.std.proofs.Common.{ℕ, pos, Bool, true, false, List, [], ◌∷◌, Option, Some, None}
use Rattle.jif_lex.specs.declared.token.TokenKind.{TokenKind}
use Rattle.jif_lex.specs.declared.token.TokenKind.TheVariants.{Name, Number, Word}
use Rattle.jif_lex.specs.declared.token.Symbol.TheVariants.{LeftBrace, RightBrace, LeftParenthesis, RightParenthesis}
use Rattle.jif_lex.specs.declared.token.Symbol.TheVariants.{LeftBracket, RightBracket, Semicolon, Comma, Assign, Minus}
use Rattle.jif_lex.specs.declared.token.Symbol.TheVariants.{Colon, Question}
use Rattle.jif_lex.specs.declared.token.Symbol as symbols
use Rattle.jif_lex.specs.declared.token.Word.TheVariants.{Int, Void, If, Else, While, Return, Where, Authority}
use Rattle.jif_lex.specs.declared.token.Word as words
use Rattle.jif_lex.specs.Spelled.{Spelled, token_part, space_part, line_end_part}
use Rattle.label_lattice.specs.Written.{Part, policy, trust, symbol}
use Rattle.jif_grammar.specs.Phrases.{LabelPhrase, ExprPhrase, number, variable, element, parenthesized, signed, binary}
use Rattle.jif_grammar.specs.Phrases.{relabelled, BlockPhrase, end, declaration, assignment, element_assignment, call}
use Rattle.jif_grammar.specs.Phrases.{call_into, branch, branch_else, loop, FieldEnd, unset, sized, set}
use Rattle.jif_grammar.specs.Phrases.{ParamPhrase, MethodPhrase, ItemPhrase, field, method, ProgramPhrase}
use Rattle.jif_grammar.specs.Operators.{operator_symbol, sign_symbol, change_word}

abbrev pub symbol_part : symbols.Symbol → Spelled
symbol_part written = token_part (symbol written)

abbrev pub word_part : words.Word → Spelled
word_part word = token_part (Word word)

abbrev pub name_part : List ℕ → Spelled
name_part name = token_part (Name name)

-- a blank stands behind each separator
abbrev pub joined_pieces : {X : Type 0} → TokenKind → (X → List Spelled → List Spelled) → List X → List Spelled →
    List Spelled
joined_pieces separator item_pieces [] rest = rest
joined_pieces separator item_pieces (item ∷ []) rest = item_pieces item rest
joined_pieces separator item_pieces (item ∷ next ∷ items) rest =
    item_pieces item (token_part separator ∷ space_part ∷ joined_pieces separator item_pieces (next ∷ items) rest)

abbrev pub name_pieces : List ℕ → List Spelled → List Spelled
name_pieces name rest = name_part name ∷ rest

abbrev pub names_pieces : List (List ℕ) → List Spelled → List Spelled
names_pieces names rest = joined_pieces (symbol Comma) name_pieces names rest

abbrev pub part_pieces : Part → List Spelled → List Spelled
part_pieces (policy owner readers) rest =
    name_part owner ∷ symbol_part Colon ∷ space_part ∷ names_pieces readers rest
part_pieces (trust members) rest =
    symbol_part Question ∷ symbol_part Colon ∷ space_part ∷ names_pieces members rest

abbrev pub label_pieces : LabelPhrase → List Spelled → List Spelled
label_pieces parts rest =
    symbol_part LeftBrace ∷ joined_pieces (symbol Semicolon) part_pieces parts (symbol_part RightBrace ∷ rest)

abbrev pub expr_pieces : ExprPhrase → List Spelled → List Spelled
expr_pieces (number n) rest = token_part (Number (pos n)) ∷ rest
expr_pieces (variable name) rest = name_part name ∷ rest
expr_pieces (element name index) rest =
    name_part name ∷ symbol_part LeftBracket ∷ expr_pieces index (symbol_part RightBracket ∷ rest)
expr_pieces (parenthesized inner) rest =
    symbol_part LeftParenthesis ∷ expr_pieces inner (symbol_part RightParenthesis ∷ rest)
expr_pieces (signed sign inner) rest = symbol_part (sign_symbol sign) ∷ expr_pieces inner rest
expr_pieces (binary operator left right) rest =
    expr_pieces left (space_part ∷ symbol_part (operator_symbol operator) ∷ space_part ∷ expr_pieces right rest)
expr_pieces (relabelled change inner label) rest =
    word_part (change_word change) ∷ symbol_part LeftParenthesis
    ∷ expr_pieces inner (symbol_part Comma ∷ space_part ∷ label_pieces label (symbol_part RightParenthesis ∷ rest))

abbrev pub args_pieces : List ExprPhrase → List Spelled → List Spelled
args_pieces args rest = joined_pieces (symbol Comma) expr_pieces args rest

abbrev pub optional_label_pieces : Option LabelPhrase → List Spelled → List Spelled
optional_label_pieces None rest = rest
optional_label_pieces (Some label) rest = label_pieces label rest

-- a statement ends
abbrev pub end_pieces : List Spelled → List Spelled
end_pieces rest = symbol_part Semicolon ∷ line_end_part ∷ rest

-- `= e;` behind what is assigned to
abbrev pub set_pieces : ExprPhrase → List Spelled → List Spelled
set_pieces value rest = space_part ∷ symbol_part Assign ∷ space_part ∷ expr_pieces value (end_pieces rest)

-- `m(..);`
abbrev pub call_pieces : List ℕ → List ExprPhrase → List Spelled → List Spelled
call_pieces name args rest =
    name_part name ∷ symbol_part LeftParenthesis
    ∷ args_pieces args (symbol_part RightParenthesis ∷ end_pieces rest)

-- `(e) {` behind `if` and `while`
abbrev pub guard_pieces : ExprPhrase → List Spelled → List Spelled
guard_pieces guard rest =
    space_part ∷ symbol_part LeftParenthesis
    ∷ expr_pieces guard (symbol_part RightParenthesis ∷ space_part ∷ symbol_part LeftBrace ∷ line_end_part ∷ rest)

abbrev pub block_pieces : BlockPhrase → List Spelled → List Spelled
block_pieces end more = more
block_pieces (declaration label name value rest) more =
    word_part Int ∷ optional_label_pieces label
    (space_part ∷ name_part name ∷ set_pieces value (block_pieces rest more))
block_pieces (assignment name value rest) more = name_part name ∷ set_pieces value (block_pieces rest more)
block_pieces (element_assignment name index value rest) more =
    name_part name ∷ symbol_part LeftBracket
    ∷ expr_pieces index (symbol_part RightBracket ∷ set_pieces value (block_pieces rest more))
block_pieces (call name args rest) more = call_pieces name args (block_pieces rest more)
block_pieces (call_into into name args rest) more =
    name_part into ∷ space_part ∷ symbol_part Assign ∷ space_part ∷ call_pieces name args (block_pieces rest more)
block_pieces (branch guard first rest) more =
    word_part If ∷ guard_pieces guard (block_pieces first
    (symbol_part RightBrace ∷ line_end_part ∷ block_pieces rest more))
block_pieces (branch_else guard first second rest) more =
    word_part If ∷ guard_pieces guard (block_pieces first
    (symbol_part RightBrace ∷ space_part ∷ word_part Else ∷ space_part ∷ symbol_part LeftBrace ∷ line_end_part
    ∷ block_pieces second (symbol_part RightBrace ∷ line_end_part ∷ block_pieces rest more)))
block_pieces (loop guard body rest) more =
    word_part While ∷ guard_pieces guard (block_pieces body
    (symbol_part RightBrace ∷ line_end_part ∷ block_pieces rest more))

abbrev pub result_pieces : Option ExprPhrase → List Spelled → List Spelled
result_pieces None rest = rest
result_pieces (Some value) rest = word_part Return ∷ space_part ∷ expr_pieces value (end_pieces rest)

abbrev pub sign_pieces : Bool → List Spelled → List Spelled
sign_pieces false rest = rest
sign_pieces true rest = symbol_part Minus ∷ rest

abbrev pub field_end_pieces : FieldEnd → List Spelled → List Spelled
field_end_pieces unset rest = end_pieces rest
field_end_pieces (sized size) rest =
    symbol_part LeftBracket ∷ token_part (Number (pos size)) ∷ symbol_part RightBracket ∷ end_pieces rest
field_end_pieces (set negative first) rest =
    space_part ∷ symbol_part Assign ∷ space_part
    ∷ sign_pieces negative (token_part (Number (pos first)) ∷ end_pieces rest)

abbrev pub param_pieces : ParamPhrase → List Spelled → List Spelled
param_pieces phrase rest = word_part Int ∷ label_pieces phrase.label (space_part ∷ name_part phrase.name ∷ rest)

abbrev pub params_pieces : List ParamPhrase → List Spelled → List Spelled
params_pieces params rest = joined_pieces (symbol Comma) param_pieces params rest

abbrev pub authority_pieces : List (List ℕ) → List Spelled → List Spelled
authority_pieces [] rest = rest
authority_pieces (name ∷ names) rest =
    space_part ∷ word_part Where ∷ space_part ∷ word_part Authority ∷ symbol_part LeftParenthesis
    ∷ names_pieces (name ∷ names) (symbol_part RightParenthesis ∷ rest)

abbrev pub head_pieces : Option LabelPhrase → List ℕ → LabelPhrase → List Spelled → List Spelled
head_pieces None name begin rest = word_part Void ∷ space_part ∷ name_part name ∷ label_pieces begin rest
head_pieces (Some label) name begin rest =
    word_part Int ∷ label_pieces label (space_part ∷ name_part name ∷ label_pieces begin rest)

abbrev pub tail_pieces : MethodPhrase → List Spelled → List Spelled
tail_pieces phrase rest =
    symbol_part LeftParenthesis ∷ params_pieces phrase.params (symbol_part RightParenthesis
    ∷ authority_pieces phrase.authority (space_part ∷ symbol_part LeftBrace ∷ line_end_part
    ∷ block_pieces phrase.body (result_pieces phrase.result (symbol_part RightBrace ∷ line_end_part ∷ rest))))

abbrev pub item_pieces : ItemPhrase → List Spelled → List Spelled
item_pieces (field phrase) rest =
    word_part Int ∷ label_pieces phrase.label
    (space_part ∷ name_part phrase.name ∷ field_end_pieces phrase.ending rest)
item_pieces (method phrase) rest = head_pieces phrase.kind phrase.name phrase.begin (tail_pieces phrase rest)

abbrev pub program_pieces : ProgramPhrase → List Spelled → List Spelled
program_pieces [] rest = rest
program_pieces (item ∷ items) rest = item_pieces item (program_pieces items rest)
