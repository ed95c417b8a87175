-- The parts of printed phrases are apart: each token ends where the next part begins.
use Rattle.std.proofs.Common.{◌≡◌, ℕ, pos, ◌≤ℤ◌, Bool, true, false, not, List, [], ◌∷◌, ◌++◌, Option, Some, None}
use Rattle.std.proofs.Common.{refl, arith}
use Rattle.std.specs.Prelude.{IsTrue, ⊤}
use Rattle.std.proofs.Common.{◌<◌, ◌^◌, ◌==◌, length}
use Rattle.std.specs.List.{AllByRecursion}
use Rattle.std.specs.Char.{digit_value}
use Rattle.std.specs.Fmt.{decimal}
use Rattle.std.specs.Str.Parse.{AllDigits}
use Rattle.std.proofs.lemmas.Bool.{and_parts}
use Rattle.std.proofs.lemmas.Bool.Decides.{nat_tests}
use Rattle.std.proofs.lemmas.Fmt.{decimal_is_IsNumeral}
use Rattle.std.proofs.lemmas.Int.{ints}
use Rattle.std.proofs.lemmas.Str.Parse.{digit_from_value}
use Rattle.js_base.specs.Name.{IsName, starts_name, continues_name}
use Rattle.js_base.specs.declared.binary_operator.BinOp.{BinOp}
use Rattle.js_base.specs.declared.binary_operator.BinOp.TheVariants as operators
use Rattle.js_base.specs.declared.limits.TheConstants.{LARGEST_NUMBER}
use Rattle.jif_lex.specs.declared.token.TokenKind.{TokenKind}
use Rattle.jif_lex.specs.declared.token.TokenKind.TheVariants.{Name, Number, Word}
use Rattle.jif_lex.specs.declared.token.Symbol.TheVariants.{LeftBrace, RightBrace, LeftParenthesis, RightParenthesis}
use Rattle.jif_lex.specs.declared.token.Symbol.TheVariants.{LeftBracket, RightBracket, Semicolon, Comma, Assign, Minus}
use Rattle.jif_lex.specs.declared.token.Symbol.TheVariants.{Colon, Not}
use Rattle.jif_lex.specs.declared.token.Symbol as symbols
use Rattle.jif_lex.specs.declared.token.Word.TheVariants.{Int, If, Else, While}
use Rattle.jif_lex.specs.declared.token.Word as words
use Rattle.jif_lex.specs.Spelled.{Spelled, token_part, space_part, line_end_part, spelled_text, AreApart, ends_before}
use Rattle.label_lattice.specs.Written.{Part, policy, trust, symbol}
use Rattle.jif_grammar.specs.Phrases.{LabelPhrase, ExprPhrase, number, variable, element, parenthesized, signed, binary}
use Rattle.jif_grammar.specs.Phrases.{relabelled, BlockPhrase, end, declaration, assignment, element_assignment, call}
use Rattle.jif_grammar.specs.Phrases.{call_into, branch, branch_else, loop, FieldEnd, unset, sized, set}
use Rattle.jif_grammar.specs.Phrases.{ParamPhrase, MethodPhrase, ItemPhrase, field, method, ProgramPhrase}
use Rattle.jif_grammar.specs.Phrases.{complement, minus, release, acceptance}
use Rattle.jif_grammar.specs.Operators.{operator_symbol, change_word}
use Rattle.jif_parse.proofs.PrintedPieces.{symbol_part, word_part, name_part, joined_pieces, name_pieces, names_pieces}
use Rattle.jif_parse.proofs.PrintedPieces.{part_pieces, label_pieces, expr_pieces, args_pieces, optional_label_pieces}
use Rattle.jif_parse.proofs.PrintedPieces.{end_pieces, set_pieces, call_pieces, guard_pieces, block_pieces}
use Rattle.jif_parse.proofs.PrintedPieces.{result_pieces, field_end_pieces, param_pieces, params_pieces}
use Rattle.jif_parse.proofs.PrintedPieces.{authority_pieces, head_pieces, tail_pieces, item_pieces, program_pieces}

-- ---- what can be spelled

abbrev pub AreNames : List (List ℕ) → Type 0
AreNames names = AllByRecursion IsName names

abbrev pub IsNamedPart : Part → Type 0
IsNamedPart (policy owner readers) = IsName owner × AreNames readers
IsNamedPart (trust members) = AreNames members

abbrev pub IsNamedLabel : LabelPhrase → Type 0
IsNamedLabel parts = AllByRecursion IsNamedPart parts

abbrev pub IsSmall : ℕ → Type 0
IsSmall n = pos n ≤ℤ LARGEST_NUMBER

-- its names are names, and its numbers small
abbrev pub IsNamed : ExprPhrase → Type 0
IsNamed (number n) = IsSmall n
IsNamed (variable name) = IsName name
IsNamed (element name index) = IsName name × IsNamed index
IsNamed (parenthesized inner) = IsNamed inner
IsNamed (signed sign inner) = IsNamed inner
IsNamed (binary operator left right) = IsNamed left × IsNamed right
IsNamed (relabelled change inner label) = IsNamed inner × IsNamedLabel label

abbrev pub AreNamed : List ExprPhrase → Type 0
AreNamed args = AllByRecursion IsNamed args

abbrev pub IsNamedOptional : Option LabelPhrase → Type 0
IsNamedOptional None = ⊤
IsNamedOptional (Some label) = IsNamedLabel label

abbrev pub IsNamedBlock : BlockPhrase → Type 0
IsNamedBlock end = ⊤
IsNamedBlock (declaration label name value rest) =
    IsNamedOptional label × IsName name × IsNamed value × IsNamedBlock rest
IsNamedBlock (assignment name value rest) = IsName name × IsNamed value × IsNamedBlock rest
IsNamedBlock (element_assignment name index value rest) =
    IsName name × IsNamed index × IsNamed value × IsNamedBlock rest
IsNamedBlock (call name args rest) = IsName name × AreNamed args × IsNamedBlock rest
IsNamedBlock (call_into into name args rest) = IsName into × IsName name × AreNamed args × IsNamedBlock rest
IsNamedBlock (branch guard first rest) = IsNamed guard × IsNamedBlock first × IsNamedBlock rest
IsNamedBlock (branch_else guard first second rest) =
    IsNamed guard × IsNamedBlock first × IsNamedBlock second × IsNamedBlock rest
IsNamedBlock (loop guard body rest) = IsNamed guard × IsNamedBlock body × IsNamedBlock rest

abbrev pub IsNamedResult : Option ExprPhrase → Type 0
IsNamedResult None = ⊤
IsNamedResult (Some value) = IsNamed value

abbrev pub IsNamedEnd : FieldEnd → Type 0
IsNamedEnd unset = ⊤
IsNamedEnd (sized size) = IsSmall size
IsNamedEnd (set negative first) = IsSmall first

abbrev pub IsNamedParam : ParamPhrase → Type 0
IsNamedParam param = IsNamedLabel param.label × IsName param.name

abbrev pub IsNamedItem : ItemPhrase → Type 0
IsNamedItem (field phrase) = IsNamedLabel phrase.label × IsName phrase.name × IsNamedEnd phrase.ending
IsNamedItem (method phrase) =
    IsNamedOptional phrase.kind × IsName phrase.name × IsNamedLabel phrase.begin
    × AllByRecursion IsNamedParam phrase.params × AreNames phrase.authority × IsNamedBlock phrase.body
    × IsNamedResult phrase.result

abbrev pub IsNamedProgram : ProgramPhrase → Type 0
IsNamedProgram items = AllByRecursion IsNamedItem items

-- ---- what follows

-- a word or a number ends before this text
abbrev stops : List ℕ → Bool
stops [] = true
stops (byte ∷ bytes) = not (continues_name byte)

pub record Ends (rest : List Spelled) : Type 0 where
  pub apart : AreApart rest
  pub stops : stops (spelled_text rest) ≡ true

word_ends : (word : words.Word) (text : List ℕ) → stops text ≡ true → IsTrue (ends_before text (Word word))
word_ends word [] is = refl
word_ends word (byte ∷ bytes) is = is

name_ends : (name text : List ℕ) → stops text ≡ true → IsTrue (ends_before text (Name name))
name_ends name [] is = refl
name_ends name (byte ∷ bytes) is = is

number_ends : (n : ℕ) (text : List ℕ) → stops text ≡ true → IsTrue (ends_before text (Number (pos n)))
number_ends n [] is = refl
number_ends n (byte ∷ bytes) is = is

-- symbols that are no part of longer ones
data Alone : symbols.Symbol → Type 0 where
  left_brace : Alone LeftBrace
  right_brace : Alone RightBrace
  left_parenthesis : Alone LeftParenthesis
  right_parenthesis : Alone RightParenthesis
  left_bracket : Alone LeftBracket
  right_bracket : Alone RightBracket
  semicolon : Alone Semicolon
  comma : Alone Comma
  minus_sign : Alone Minus

alone_ends : {written : symbols.Symbol} → Alone written → (text : List ℕ) → IsTrue (ends_before text (symbol written))
alone_ends left_brace [] = refl
alone_ends left_brace (byte ∷ bytes) = refl
alone_ends right_brace [] = refl
alone_ends right_brace (byte ∷ bytes) = refl
alone_ends left_parenthesis [] = refl
alone_ends left_parenthesis (byte ∷ bytes) = refl
alone_ends right_parenthesis [] = refl
alone_ends right_parenthesis (byte ∷ bytes) = refl
alone_ends left_bracket [] = refl
alone_ends left_bracket (byte ∷ bytes) = refl
alone_ends right_bracket [] = refl
alone_ends right_bracket (byte ∷ bytes) = refl
alone_ends semicolon [] = refl
alone_ends semicolon (byte ∷ bytes) = refl
alone_ends comma [] = refl
alone_ends comma (byte ∷ bytes) = refl
alone_ends minus_sign [] = refl
alone_ends minus_sign (byte ∷ bytes) = refl

behind : {written : symbols.Symbol} → Alone written → (rest : List Spelled) → AreApart rest →
    AreApart (symbol_part written ∷ rest)
behind alone rest apart = (tt, alone_ends alone (spelled_text rest), apart)

named : (name : List ℕ) (rest : List Spelled) → IsName name → Ends rest → AreApart (name_part name ∷ rest)
named name rest is ends = (is, name_ends name (spelled_text rest) ends.stops, ends.apart)

worded : (word : words.Word) (rest : List Spelled) → Ends rest → AreApart (word_part word ∷ rest)
worded word rest ends = (tt, word_ends word (spelled_text rest) ends.stops, ends.apart)

numbered : (n : ℕ) (rest : List Spelled) → IsSmall n → Ends rest → AreApart (token_part (Number (pos n)) ∷ rest)
numbered n rest small ends = ((grind (arith, ints), small), number_ends n (spelled_text rest) ends.stops, ends.apart)

-- ---- items, names and labels

abbrev EachApart : {X : Type 0} → (X → List Spelled → List Spelled) → (X → Type 0) → Type 0
EachApart {X = X} pieces Good = (x : X) (rest : List Spelled) → Good x → Ends rest → AreApart (pieces x rest)

abbrev Parts : TokenKind → Type 0
Parts separator = (rest : List Spelled) → AreApart rest → Ends (token_part separator ∷ space_part ∷ rest)

comma_parts : Parts (symbol Comma)
comma_parts rest apart = record { apart = (tt, refl, apart); stops = refl }

semicolon_parts : Parts (symbol Semicolon)
semicolon_parts rest apart = record { apart = (tt, refl, apart); stops = refl }

joined_apart : {X : Type 0} (separator : TokenKind) (pieces : X → List Spelled → List Spelled) (Good : X → Type 0) →
    Parts separator → EachApart pieces Good → (items : List X) (rest : List Spelled) → AllByRecursion Good items →
    Ends rest → AreApart (joined_pieces separator pieces items rest)
joined_apart separator pieces Good parts each [] rest good ends = ends.apart
joined_apart separator pieces Good parts each (item ∷ []) rest good ends = each item rest good.0 ends
joined_apart separator pieces Good parts each (item ∷ next ∷ items) rest good ends =
    each item (token_part separator ∷ space_part ∷ joined_pieces separator pieces (next ∷ items) rest) good.0
    (parts (joined_pieces separator pieces (next ∷ items) rest)
    (joined_apart separator pieces Good parts each (next ∷ items) rest good.1 ends))

names_apart : (names : List (List ℕ)) (rest : List Spelled) → AreNames names → Ends rest →
    AreApart (names_pieces names rest)
names_apart names rest are ends =
    joined_apart (symbol Comma) name_pieces IsName comma_parts (λ name more is end. named name more is end) names rest
    are ends

part_apart : (part : Part) (rest : List Spelled) → IsNamedPart part → Ends rest → AreApart (part_pieces part rest)
part_apart (policy owner readers) rest is ends =
    named owner (symbol_part Colon ∷ space_part ∷ names_pieces readers rest) is.0
    (record { apart = (tt, refl, names_apart readers rest is.1 ends); stops = refl })
part_apart (trust members) rest is ends = (tt, refl, (tt, refl, names_apart members rest is ends))

pub label_apart : (parts : LabelPhrase) (rest : List Spelled) → IsNamedLabel parts → AreApart rest →
    AreApart (label_pieces parts rest)
label_apart parts rest is apart =
    behind left_brace (joined_pieces (symbol Semicolon) part_pieces parts (symbol_part RightBrace ∷ rest))
    (joined_apart (symbol Semicolon) part_pieces IsNamedPart semicolon_parts part_apart parts
    (symbol_part RightBrace ∷ rest) is (record { apart = behind right_brace rest apart; stops = refl }))

-- ---- expressions

-- `!` is no `!=` before these bytes
abbrev AfterNot : List ℕ → Type 0
AfterNot text = IsTrue (ends_before text (symbol Not))

not_before : (byte : ℕ) (bytes : List ℕ) → (byte == 61) ≡ false → AfterNot (byte ∷ bytes)
not_before byte bytes other = grind (arith, nat_tests)

name_other : (byte : ℕ) → starts_name byte ≡ true → (byte == 61) ≡ false
name_other byte starts = grind (arith, nat_tests)

not_name : (name text : List ℕ) → IsName name → AfterNot (name ++ text)
not_name [] text is = absurd (cc)
not_name (byte ∷ bytes) text is =
    not_before byte (bytes ++ text) (name_other byte (and_parts _ _ (and_parts _ _ is).0).0)

digit_other : (byte : ℕ) → digit_value byte < 10 → (byte == 61) ≡ false
digit_other byte small = let range = digit_from_value byte small in grind (arith, nat_tests)

not_digits : (digits text : List ℕ) → 0 < length digits → AllDigits 10 digits → AfterNot (digits ++ text)
not_digits [] text some all = absurd (omega (arith, some))
not_digits (byte ∷ bytes) text some all = not_before byte (bytes ++ text) (digit_other byte all.0)

fits_word : (n : ℕ) → IsSmall n → n < 2 ^ 64
fits_word n fits = grind (arith, ints)

not_number : (n : ℕ) (text : List ℕ) → IsSmall n → AfterNot (decimal n ++ text)
not_number n text small =
    let is = decimal_is_IsNumeral n (fits_word n small) in
    not_digits (decimal n) text is.0.0 is.0.1

not_expr : (e : ExprPhrase) (rest : List Spelled) → IsNamed e → AfterNot (spelled_text (expr_pieces e rest))
not_expr (number n) rest is = not_number n (spelled_text rest) is
not_expr (variable name) rest is = not_name name (spelled_text rest) is
not_expr (element name index) rest is =
    not_name name (spelled_text (symbol_part LeftBracket ∷ expr_pieces index (symbol_part RightBracket ∷ rest))) is.0
not_expr (parenthesized inner) rest is = refl
not_expr (signed complement inner) rest is = refl
not_expr (signed minus inner) rest is = refl
not_expr (binary operator left right) rest is =
    not_expr left (space_part ∷ symbol_part (operator_symbol operator) ∷ space_part ∷ expr_pieces right rest) is.0
not_expr (relabelled release inner label) rest is = refl
not_expr (relabelled acceptance inner label) rest is = refl

operator_ends : (operator : BinOp) (text : List ℕ) →
    IsTrue (ends_before (32 ∷ text) (symbol (operator_symbol operator)))
operator_ends operator text =
    elim operator as (λ o. IsTrue (ends_before (32 ∷ text) (symbol (operator_symbol o))))
    [ operators.Or ↦ refl | _ ↦ refl ]

pub expr_apart : (e : ExprPhrase) (rest : List Spelled) → IsNamed e → Ends rest → AreApart (expr_pieces e rest)
expr_apart (number n) rest is ends = numbered n rest is ends
expr_apart (variable name) rest is ends = named name rest is ends
expr_apart (element name index) rest is ends =
    let inside = expr_apart index (symbol_part RightBracket ∷ rest) is.1
    (record { apart = behind right_bracket rest ends.apart; stops = refl }) in
    named name (symbol_part LeftBracket ∷ expr_pieces index (symbol_part RightBracket ∷ rest)) is.0
    (record { apart = behind left_bracket (expr_pieces index (symbol_part RightBracket ∷ rest)) inside; stops = refl })
expr_apart (parenthesized inner) rest is ends =
    behind left_parenthesis (expr_pieces inner (symbol_part RightParenthesis ∷ rest))
    (expr_apart inner (symbol_part RightParenthesis ∷ rest) is
    (record { apart = behind right_parenthesis rest ends.apart; stops = refl }))
expr_apart (signed complement inner) rest is ends = (tt, not_expr inner rest is, expr_apart inner rest is ends)
expr_apart (signed minus inner) rest is ends =
    behind minus_sign (expr_pieces inner rest) (expr_apart inner rest is ends)
expr_apart (binary operator left right) rest is ends =
    expr_apart left (space_part ∷ symbol_part (operator_symbol operator) ∷ space_part ∷ expr_pieces right rest) is.0
    (record {
      apart = (tt, operator_ends operator (spelled_text (expr_pieces right rest)), expr_apart right rest is.1 ends);
      stops = refl;
    })
expr_apart (relabelled change inner label) rest is ends =
    let last = label_apart label (symbol_part RightParenthesis ∷ rest) is.1
    (behind right_parenthesis rest ends.apart) in
    let behind_inner : List Spelled =
    symbol_part Comma ∷ space_part ∷ label_pieces label (symbol_part RightParenthesis ∷ rest) in
    let inside = expr_apart inner behind_inner is.0
    (comma_parts (label_pieces label (symbol_part RightParenthesis ∷ rest)) last) in
    worded (change_word change) (symbol_part LeftParenthesis ∷ expr_pieces inner behind_inner)
    (record { apart = behind left_parenthesis (expr_pieces inner behind_inner) inside; stops = refl })

args_apart : (args : List ExprPhrase) (rest : List Spelled) → AreNamed args → Ends rest →
    AreApart (args_pieces args rest)
args_apart args rest are ends =
    joined_apart (symbol Comma) expr_pieces IsNamed comma_parts expr_apart args rest are ends

-- ---- statements

end_apart : (rest : List Spelled) → AreApart rest → Ends (end_pieces rest)
end_apart rest apart = record { apart = (tt, refl, apart); stops = refl }

set_apart : (value : ExprPhrase) (rest : List Spelled) → IsNamed value → AreApart rest → Ends (set_pieces value rest)
set_apart value rest is apart =
    record { apart = (tt, refl, expr_apart value (end_pieces rest) is (end_apart rest apart)); stops = refl }

call_apart : (name : List ℕ) (args : List ExprPhrase) (rest : List Spelled) → IsName name → AreNamed args →
    AreApart rest → AreApart (call_pieces name args rest)
call_apart name args rest is are apart =
    let end = end_apart rest apart in
    let inside = args_apart args (symbol_part RightParenthesis ∷ end_pieces rest) are
    (record { apart = behind right_parenthesis (end_pieces rest) end.apart; stops = refl }) in
    named name (symbol_part LeftParenthesis ∷ args_pieces args (symbol_part RightParenthesis ∷ end_pieces rest)) is
    (record {
      apart = behind left_parenthesis (args_pieces args (symbol_part RightParenthesis ∷ end_pieces rest)) inside;
      stops = refl;
    })

guard_apart : (guard : ExprPhrase) (rest : List Spelled) → IsNamed guard → AreApart rest →
    Ends (guard_pieces guard rest)
guard_apart guard rest is apart =
    let after : List Spelled =
    symbol_part RightParenthesis ∷ space_part ∷ symbol_part LeftBrace ∷ line_end_part ∷ rest in
    let inside = expr_apart guard after is (record { apart = (tt, refl, (tt, refl, apart)); stops = refl }) in
    record { apart = behind left_parenthesis (expr_pieces guard after) inside; stops = refl }

optional_apart : (label : Option LabelPhrase) (rest : List Spelled) → IsNamedOptional label → AreApart rest →
    Ends (optional_label_pieces label (space_part ∷ rest))
optional_apart None rest is apart = record { apart = apart; stops = refl }
optional_apart (Some label) rest is apart =
    record { apart = label_apart label (space_part ∷ rest) is apart; stops = refl }

pub block_apart : (block : BlockPhrase) (more : List Spelled) → IsNamedBlock block → AreApart more →
    AreApart (block_pieces block more)
block_apart end more is apart = apart
block_apart (declaration label name value rest) more is apart =
    let left = block_apart rest more is.3 apart in
    worded Int (optional_label_pieces label (space_part ∷ name_part name ∷ set_pieces value (block_pieces rest more)))
    (optional_apart label (name_part name ∷ set_pieces value (block_pieces rest more)) is.0
    (named name (set_pieces value (block_pieces rest more)) is.1 (set_apart value (block_pieces rest more) is.2 left)))
block_apart (assignment name value rest) more is apart =
    named name (set_pieces value (block_pieces rest more)) is.0
    (set_apart value (block_pieces rest more) is.1 (block_apart rest more is.2 apart))
block_apart (element_assignment name index value rest) more is apart =
    let set = set_apart value (block_pieces rest more) is.2 (block_apart rest more is.3 apart) in
    let after : List Spelled = symbol_part RightBracket ∷ set_pieces value (block_pieces rest more) in
    let inside = expr_apart index after is.1 (record { apart = (tt, refl, set.apart); stops = refl }) in
    named name (symbol_part LeftBracket ∷ expr_pieces index after) is.0
    (record { apart = behind left_bracket (expr_pieces index after) inside; stops = refl })
block_apart (call name args rest) more is apart =
    call_apart name args (block_pieces rest more) is.0 is.1 (block_apart rest more is.2 apart)
block_apart (call_into into name args rest) more is apart =
    named into (space_part ∷ symbol_part Assign ∷ space_part ∷ call_pieces name args (block_pieces rest more)) is.0
    (record {
      apart = (tt, refl, call_apart name args (block_pieces rest more) is.1 is.2 (block_apart rest more is.3 apart));
      stops = refl;
    })
block_apart (branch guard first rest) more is apart =
    let after : List Spelled = symbol_part RightBrace ∷ line_end_part ∷ block_pieces rest more in
    let inside = block_apart first after is.1 (tt, refl, block_apart rest more is.2 apart) in
    worded If (guard_pieces guard (block_pieces first after)) (guard_apart guard (block_pieces first after) is.0 inside)
block_apart (branch_else guard first second rest) more is apart =
    let after : List Spelled = symbol_part RightBrace ∷ line_end_part ∷ block_pieces rest more in
    let otherwise = block_apart second after is.2 (tt, refl, block_apart rest more is.3 apart) in
    let between : List Spelled =
    symbol_part RightBrace ∷ space_part ∷ word_part Else ∷ space_part ∷ symbol_part LeftBrace ∷ line_end_part
    ∷ block_pieces second after in
    let inside = block_apart first between is.1 (tt, refl, (tt, refl, (tt, refl, otherwise))) in
    worded If (guard_pieces guard (block_pieces first between))
    (guard_apart guard (block_pieces first between) is.0 inside)
block_apart (loop guard body rest) more is apart =
    let after : List Spelled = symbol_part RightBrace ∷ line_end_part ∷ block_pieces rest more in
    let inside = block_apart body after is.1 (tt, refl, block_apart rest more is.2 apart) in
    worded While (guard_pieces guard (block_pieces body after))
    (guard_apart guard (block_pieces body after) is.0 inside)

result_apart : (result : Option ExprPhrase) (rest : List Spelled) → IsNamedResult result → AreApart rest →
    AreApart (result_pieces result rest)
result_apart None rest is apart = apart
result_apart (Some value) rest is apart =
    (tt, refl, expr_apart value (end_pieces rest) is (end_apart rest apart))

-- ---- fields and methods

field_end_apart : (ending : FieldEnd) (rest : List Spelled) → IsNamedEnd ending → AreApart rest →
    Ends (field_end_pieces ending rest)
field_end_apart unset rest is apart = end_apart rest apart
field_end_apart (sized size) rest is apart =
    let last = behind right_bracket (end_pieces rest) (end_apart rest apart).apart in
    record {
      apart = behind left_bracket (token_part (Number (pos size)) ∷ symbol_part RightBracket ∷ end_pieces rest)
          (numbered size (symbol_part RightBracket ∷ end_pieces rest) is (record { apart = last; stops = refl }));
      stops = refl;
    }
field_end_apart (set false first) rest is apart =
    record { apart = (tt, refl, numbered first (end_pieces rest) is (end_apart rest apart)); stops = refl }
field_end_apart (set true first) rest is apart =
    let last = numbered first (end_pieces rest) is (end_apart rest apart) in
    record {
      apart = (tt, refl, behind minus_sign (token_part (Number (pos first)) ∷ end_pieces rest) last);
      stops = refl;
    }

label_ends : (label : LabelPhrase) (rest : List Spelled) → IsNamedLabel label → AreApart rest →
    Ends (label_pieces label rest)
label_ends label rest is apart = record { apart = label_apart label rest is apart; stops = refl }

param_apart : (param : ParamPhrase) (rest : List Spelled) → IsNamedParam param → Ends rest →
    AreApart (param_pieces param rest)
param_apart param rest is ends =
    worded Int (label_pieces param.label (space_part ∷ name_part param.name ∷ rest))
    (label_ends param.label (space_part ∷ name_part param.name ∷ rest) is.0 (named param.name rest is.1 ends))

authority_apart : (names : List (List ℕ)) (rest : List Spelled) → AreNames names → AreApart rest →
    AreApart (authority_pieces names (space_part ∷ rest))
authority_apart [] rest are apart = apart
authority_apart (name ∷ names) rest are apart =
    let after : List Spelled = symbol_part RightParenthesis ∷ space_part ∷ rest in
    let inside = names_apart (name ∷ names) after are (record { apart = (tt, refl, apart); stops = refl }) in
    (tt, refl, (tt, refl, behind left_parenthesis (names_pieces (name ∷ names) after) inside))

head_apart : (kind : Option LabelPhrase) (name : List ℕ) (begin : LabelPhrase) (rest : List Spelled) →
    IsNamedOptional kind → IsName name → IsNamedLabel begin → AreApart rest →
    AreApart (head_pieces kind name begin rest)
head_apart None name begin rest is name_is begin_is apart =
    (tt, refl, named name (label_pieces begin rest) name_is (label_ends begin rest begin_is apart))
head_apart (Some label) name begin rest is name_is begin_is apart =
    worded Int (label_pieces label (space_part ∷ name_part name ∷ label_pieces begin rest))
    (label_ends label (space_part ∷ name_part name ∷ label_pieces begin rest) is
    (named name (label_pieces begin rest) name_is (label_ends begin rest begin_is apart)))

tail_apart : (phrase : MethodPhrase) (rest : List Spelled) → AllByRecursion IsNamedParam phrase.params →
    AreNames phrase.authority → IsNamedBlock phrase.body → IsNamedResult phrase.result → AreApart rest →
    AreApart (tail_pieces phrase rest)
tail_apart phrase rest params names body result apart =
    let last : List Spelled = symbol_part RightBrace ∷ line_end_part ∷ rest in
    let statements : List Spelled = block_pieces phrase.body (result_pieces phrase.result last) in
    let in_body = block_apart phrase.body (result_pieces phrase.result last) body
    (result_apart phrase.result last result (tt, refl, apart)) in
    let inside : List Spelled = symbol_part LeftBrace ∷ line_end_part ∷ statements in
    let with_authority = authority_apart phrase.authority inside names (tt, refl, in_body) in
    let after : List Spelled =
    symbol_part RightParenthesis ∷ authority_pieces phrase.authority (space_part ∷ inside) in
    behind left_parenthesis (params_pieces phrase.params after)
    (joined_apart (symbol Comma) param_pieces IsNamedParam comma_parts param_apart phrase.params after params
    (record {
      apart = behind right_parenthesis (authority_pieces phrase.authority (space_part ∷ inside)) with_authority;
      stops = refl;
    }))

item_apart : (item : ItemPhrase) (rest : List Spelled) → IsNamedItem item → AreApart rest →
    AreApart (item_pieces item rest)
item_apart (field phrase) rest is apart =
    worded Int (label_pieces phrase.label (space_part ∷ name_part phrase.name ∷ field_end_pieces phrase.ending rest))
    (label_ends phrase.label (space_part ∷ name_part phrase.name ∷ field_end_pieces phrase.ending rest) is.0
    (named phrase.name (field_end_pieces phrase.ending rest) is.1 (field_end_apart phrase.ending rest is.2 apart)))
item_apart (method phrase) rest is apart =
    head_apart phrase.kind phrase.name phrase.begin (tail_pieces phrase rest) is.0 is.1 is.2
    (tail_apart phrase rest is.3 is.4 is.5 is.6 apart)

pub program_apart : (program : ProgramPhrase) (rest : List Spelled) → IsNamedProgram program → AreApart rest →
    AreApart (program_pieces program rest)
program_apart [] rest is apart = apart
program_apart (item ∷ items) rest is apart =
    item_apart item (program_pieces items rest) is.0 (program_apart items rest is.1 apart)
