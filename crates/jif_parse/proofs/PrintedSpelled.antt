-- The text of a program is that of the parts of its phrases.
use Rattle.std.proofs.Common.{◌≡◌, ℕ, zero, suc, ℤ, pos, negsuc, Bool, true, false, List, [], ◌∷◌, ◌++◌, map, Option}
use Rattle.std.proofs.Common.{Some, None, refl, ap, sym, ◌∙◌, codes}
use Rattle.std.specs.Prelude.{nat_lt, if◌then◌else◌, ⊤}
use Rattle.std.specs.Fmt.{decimal}
use Rattle.std.specs.List.{join_by, flat_map, AllByRecursion}
use Rattle.std.proofs.lemmas.List.{append_assoc, append-nil}
use Rattle.js_base.specs.declared.ids.VarId.{VarId}
use Rattle.js_base.specs.declared.ids.PrincipalId.{PrincipalId}
use Rattle.principals.specs.ActsFor.{Declared}
use Rattle.jif_lex.specs.declared.token.TokenKind.{TokenKind}
use Rattle.jif_lex.specs.declared.token.Symbol.TheVariants.{LeftBrace, RightBrace, RightParenthesis}
use Rattle.jif_lex.specs.declared.token.Symbol.TheVariants.{RightBracket, Semicolon, Comma}
use Rattle.jif_lex.specs.declared.token.Word.TheVariants.{Int, Else}
use Rattle.jif_lex.specs.Symbols.{symbol_text, word_text}
use Rattle.jif_lex.specs.Spelled.{Spelled, token_part, space_part, line_end_part, spelled_text, kind_text}
use Rattle.label_lattice.specs.declared.label.Label.{Label}
use Rattle.label_lattice.specs.Written.{Part, policy, trust, symbol}
use Rattle.label_lattice.specs.Printed.{printed_part, printed_parts, printed_label, joined}
use Rattle.jif_tree.specs.Trees.{ExprTree, BlockTree, done, set_local, set_field, set_element, branch, loop, call}
use Rattle.jif_tree.specs.Trees.{give_back, FieldTree, MethodTree, ProgramTree}
use Rattle.jif_grammar.specs.Phrases as phrase
use Rattle.jif_grammar.specs.Phrases.{LabelPhrase, ExprPhrase, BlockPhrase, FieldEnd}
use Rattle.jif_grammar.specs.Operators.{operator_symbol, sign_symbol, change_word}
use Rattle.jif_parse.specs.PrintedNames.{Naming, field_name, variable_name, variable_label, method_name, principal_name}
use Rattle.jif_parse.specs.PrintedExprs.{label_phrase_text, phrase_text, expr_phrase, expr_text}
use Rattle.jif_parse.specs.PrintedProgram as text
use Rattle.jif_parse.specs.PrintedProgram.{seen_after, seen_behind, seen_in, seen_after_method, is_done, block_text}
use Rattle.jif_parse.specs.PrintedProgram.{optional_label_text, declared_text, assigned_text, into_text, else_text}
use Rattle.jif_parse.specs.PrintedProgram.{field_end_text, field_text, authority_text, method_text, methods_text}
use Rattle.jif_parse.specs.PrintedProgram.{printed_program}
use Rattle.jif_parse.proofs.PrintedPieces.{symbol_part, word_part, name_part, joined_pieces, name_pieces, names_pieces}
use Rattle.jif_parse.proofs.PrintedPieces.{part_pieces, label_pieces, expr_pieces, args_pieces, optional_label_pieces}
use Rattle.jif_parse.proofs.PrintedPieces.{end_pieces, set_pieces, call_pieces, guard_pieces, block_pieces}
use Rattle.jif_parse.proofs.PrintedPieces.{result_pieces, field_end_pieces, param_pieces, params_pieces}
use Rattle.jif_parse.proofs.PrintedPieces.{authority_pieces, head_pieces, tail_pieces, item_pieces, program_pieces}
use Rattle.jif_parse.proofs.PrintedPhrases.{label_phrase, label_or_none, assigned_phrase, branch_phrase}
use Rattle.jif_parse.proofs.PrintedPhrases.{block_phrase, result_phrase, first_phrase, field_end_phrase, field_phrase}
use Rattle.jif_parse.proofs.PrintedPhrases.{param_phrase, kind_phrase, method_phrase, methods_phrases, fields_phrases}
use Rattle.jif_parse.proofs.PrintedPhrases.{program_phrase}

-- the parts are this text, before others
abbrev Reads : {X : Type 0} → (X → List Spelled → List Spelled) → (X → List ℕ) → X → Type 0
Reads pieces text x = (rest : List Spelled) → spelled_text (pieces x rest) ≡ text x ++ spelled_text rest

-- the separator with its blank
abbrev IsSeparator : TokenKind → List ℕ → Type 0
IsSeparator kind separator = (t : List ℕ) → kind_text kind ++ 32 ∷ t ≡ separator ++ t

joined_more : (first separator next others rest : List ℕ) →
    first ++ (separator ++ (next ++ others ++ rest)) ≡ first ++ (separator ++ next ++ others) ++ rest
joined_more first separator next others rest = simp append_assoc

joined_spelled : {X Y : Type 0} (kind : TokenKind) (separator : List ℕ) → IsSeparator kind separator →
    (phrase : X → Y) (pieces : Y → List Spelled → List Spelled) (text : X → List ℕ) (Good : X → Type 0) →
    ((x : X) → Good x → Reads (λ x. pieces (phrase x)) text x) →
    (items : List X) → AllByRecursion Good items → (rest : List Spelled) →
    spelled_text (joined_pieces kind pieces (map phrase items) rest) ≡ join_by text separator items ++ spelled_text rest
joined_spelled kind separator same phrase pieces text Good each [] good rest = refl
joined_spelled kind separator same phrase pieces text Good each (item ∷ []) good rest =
    each item good.0 rest ∙ ap (λ (t : List ℕ). t ++ spelled_text rest) (sym (append-nil (text item)))
joined_spelled kind separator same phrase pieces text Good each (item ∷ next ∷ items) good rest =
    let behind : List Spelled = joined_pieces kind pieces (map phrase (next ∷ items)) rest in
    each item good.0 (token_part kind ∷ space_part ∷ behind)
    ∙ ap (λ (t : List ℕ). text item ++ t) (same (spelled_text behind)
    ∙ ap (λ (t : List ℕ). separator ++ t)
    (joined_spelled kind separator same phrase pieces text Good each (next ∷ items) good.1 rest))
    ∙ joined_more (text item) separator (text next) (flat_map (λ y. separator ++ text y) items) (spelled_text rest)

abbrev Any : {X : Type 0} → X → Type 0
Any x = ⊤

all_any : {X : Type 0} (items : List X) → AllByRecursion (λ x. Any x) items
all_any [] = tt
all_any (item ∷ items) = (tt, all_any items)

same_items : {X : Type 0} (items : List X) → map (λ x. x) items ≡ items
same_items [] = refl
same_items (item ∷ items) = ap (λ r. item ∷ r) (same_items items)

-- items that are their own phrases
own_spelled : {X : Type 0} (kind : TokenKind) (separator : List ℕ) → IsSeparator kind separator →
    (pieces : X → List Spelled → List Spelled) (text : X → List ℕ) → ((x : X) → Reads pieces text x) →
    (items : List X) →
    Reads (joined_pieces kind pieces) (join_by text separator) items
own_spelled kind separator same pieces text each items rest =
    ap (λ xs. spelled_text (joined_pieces kind pieces xs rest)) (sym (same_items items))
    ∙ joined_spelled kind separator same (λ x. x) pieces text (λ x. Any x) (λ x any. each x) items (all_any items) rest

comma_is : IsSeparator (symbol Comma) (codes ", ")
comma_is t = refl

semicolon_is : IsSeparator (symbol Semicolon) (codes "; ")
semicolon_is t = refl

-- ---- labels

names_spelled : (names : List (List ℕ)) → Reads names_pieces (joined (codes ", ")) names
names_spelled names rest =
    own_spelled (symbol Comma) (codes ", ") comma_is name_pieces (λ t. t) (λ name more. refl) names rest

part_spelled : (part : Part) → Reads part_pieces printed_part part
part_spelled (policy owner readers) rest =
    let all : List ℕ = joined (codes ", ") readers in
    let grouped : owner ++ codes ": " ++ all ++ spelled_text rest ≡ owner ++ 58 ∷ 32 ∷ (all ++ spelled_text rest)
    = simp append_assoc in
    ap (λ (t : List ℕ). owner ++ 58 ∷ 32 ∷ t) (names_spelled readers rest) ∙ sym grouped
part_spelled (trust members) rest = ap (λ (t : List ℕ). 63 ∷ 58 ∷ 32 ∷ t) (names_spelled members rest)

label_spelled : (parts : LabelPhrase) → Reads label_pieces label_phrase_text parts
label_spelled parts rest =
    let all : List ℕ = join_by printed_part (codes "; ") parts in
    let grouped : codes "{" ++ all ++ codes "}" ++ spelled_text rest ≡ 123 ∷ (all ++ 125 ∷ spelled_text rest)
    = simp append_assoc in
    ap (λ (t : List ℕ). 123 ∷ t) (own_spelled (symbol Semicolon) (codes "; ") semicolon_is part_pieces printed_part
    part_spelled parts (symbol_part RightBrace ∷ rest)) ∙ sym grouped

optional_spelled : (principals : Declared) (label : Option Label) →
    Reads (λ l. optional_label_pieces (label_phrase principals l)) (optional_label_text principals) label
optional_spelled principals None rest = refl
optional_spelled principals (Some label) rest = label_spelled (printed_parts principals label) rest

-- ---- expressions

expr_spelled : (e : ExprPhrase) → Reads expr_pieces phrase_text e
expr_spelled (phrase.number n) rest = refl
expr_spelled (phrase.variable name) rest = refl
expr_spelled (phrase.element name index) rest =
    let inside : List ℕ = phrase_text index in
    let grouped : name ++ codes "[" ++ inside ++ codes "]" ++ spelled_text rest
    ≡ name ++ 91 ∷ (inside ++ 93 ∷ spelled_text rest) = simp append_assoc in
    ap (λ (t : List ℕ). name ++ 91 ∷ t) (expr_spelled index (symbol_part RightBracket ∷ rest)) ∙ sym grouped
expr_spelled (phrase.parenthesized inner) rest =
    let inside : List ℕ = phrase_text inner in
    let grouped : codes "(" ++ inside ++ codes ")" ++ spelled_text rest ≡ 40 ∷ (inside ++ 41 ∷ spelled_text rest)
    = simp append_assoc in
    ap (λ (t : List ℕ). 40 ∷ t) (expr_spelled inner (symbol_part RightParenthesis ∷ rest)) ∙ sym grouped
expr_spelled (phrase.signed sign inner) rest =
    let before : List ℕ = symbol_text (sign_symbol sign) in
    ap (λ (t : List ℕ). before ++ t) (expr_spelled inner rest)
    ∙ sym (append_assoc before (phrase_text inner) (spelled_text rest))
expr_spelled (phrase.binary operator left right) rest =
    let one : List ℕ = phrase_text left in
    let two : List ℕ = phrase_text right in
    let between : List ℕ = symbol_text (operator_symbol operator) in
    let grouped : one ++ codes " " ++ between ++ codes " " ++ two ++ spelled_text rest
    ≡ one ++ 32 ∷ (between ++ 32 ∷ (two ++ spelled_text rest)) = simp append_assoc in
    expr_spelled left (space_part ∷ symbol_part (operator_symbol operator) ∷ space_part ∷ expr_pieces right rest)
    ∙ ap (λ (t : List ℕ). one ++ 32 ∷ (between ++ 32 ∷ t)) (expr_spelled right rest) ∙ sym grouped
expr_spelled (phrase.relabelled change inner label) rest =
    let one : List ℕ = phrase_text inner in
    let two : List ℕ = label_phrase_text label in
    let word : List ℕ = word_text (change_word change) in
    let grouped : word ++ codes "(" ++ one ++ codes ", " ++ two ++ codes ")" ++ spelled_text rest
    ≡ word ++ 40 ∷ (one ++ 44 ∷ 32 ∷ (two ++ 41 ∷ spelled_text rest)) = simp append_assoc in
    ap (λ (t : List ℕ). word ++ 40 ∷ t)
    (expr_spelled inner (symbol_part Comma ∷ space_part ∷ label_pieces label (symbol_part RightParenthesis ∷ rest))
    ∙ ap (λ (t : List ℕ). one ++ 44 ∷ 32 ∷ t) (label_spelled label (symbol_part RightParenthesis ∷ rest)))
    ∙ sym grouped

args_spelled : (naming : Naming) (args : List ExprTree) (rest : List Spelled) →
    spelled_text (args_pieces (map (expr_phrase naming) args) rest)
    ≡ join_by (expr_text naming) (codes ", ") args ++ spelled_text rest
args_spelled naming args rest =
    joined_spelled (symbol Comma) (codes ", ") comma_is (expr_phrase naming) expr_pieces (expr_text naming) (λ x. Any x)
    (λ x any. expr_spelled (expr_phrase naming x)) args (all_any args) rest

-- ---- statements

-- where a `return` stands, no statement follows it, and no block is around it
abbrev pub HasNone : BlockTree → Type 0
HasNone done = ⊤
HasNone (set_local heading x value rest) = HasNone rest
HasNone (set_field heading field value rest) = HasNone rest
HasNone (set_element heading field index value rest) = HasNone rest
HasNone (branch heading guard first second rest) = HasNone first × HasNone second × HasNone rest
HasNone (loop heading guard body rest) = HasNone body × HasNone rest
HasNone (call heading site method args into rest) = HasNone rest
HasNone (give_back heading value rest) = ⊥

abbrev pub HasLast : BlockTree → Type 0
HasLast done = ⊤
HasLast (set_local heading x value rest) = HasLast rest
HasLast (set_field heading field value rest) = HasLast rest
HasLast (set_element heading field index value rest) = HasLast rest
HasLast (branch heading guard first second rest) = HasNone first × HasNone second × HasLast rest
HasLast (loop heading guard body rest) = HasNone body × HasLast rest
HasLast (call heading site method args into rest) = HasLast rest
HasLast (give_back heading value rest) = rest ≡ done

pub none_last : (block : BlockTree) → HasNone block → HasLast block
none_last done none = tt
none_last (set_local heading x value rest) none = none_last rest none
none_last (set_field heading field value rest) none = none_last rest none
none_last (set_element heading field index value rest) none = none_last rest none
none_last (branch heading guard first second rest) none = (none.0, none.1, none_last rest none.2)
none_last (loop heading guard body rest) none = (none.0, none_last rest none.1)
none_last (call heading site method args into rest) none = none_last rest none
none_last (give_back heading value rest) none = absurd none

pub no_result : (naming : Naming) (block : BlockTree) → HasNone block → result_phrase naming block ≡ None
no_result naming done none = refl
no_result naming (set_local heading x value rest) none = no_result naming rest none
no_result naming (set_field heading field value rest) none = no_result naming rest none
no_result naming (set_element heading field index value rest) none = no_result naming rest none
no_result naming (branch heading guard first second rest) none = no_result naming rest none.2
no_result naming (loop heading guard body rest) none = no_result naming rest none.1
no_result naming (call heading site method args into rest) none = no_result naming rest none
no_result naming (give_back heading value rest) none = absurd none

set_spelled : (value : ExprPhrase) (rest : List Spelled) (behind : List ℕ) (all : List ℕ) →
    spelled_text rest ≡ behind ++ all →
    (before : List ℕ) →
    before ++ spelled_text (set_pieces value rest)
    ≡ before ++ codes " = " ++ phrase_text value ++ codes ";\n" ++ behind ++ all
set_spelled value rest behind all is before =
    let inside : List ℕ = phrase_text value in
    let grouped : before ++ codes " = " ++ inside ++ codes ";\n" ++ behind ++ all
    ≡ before ++ 32 ∷ 61 ∷ 32 ∷ (inside ++ 59 ∷ 10 ∷ (behind ++ all)) = simp append_assoc in
    ap (λ (t : List ℕ). before ++ 32 ∷ 61 ∷ 32 ∷ t) (expr_spelled value (end_pieces rest)
    ∙ ap (λ (t : List ℕ). inside ++ 59 ∷ 10 ∷ t) is) ∙ sym grouped

call_spelled : (naming : Naming) (name : List ℕ) (args : List ExprTree) (rest : List Spelled) (behind all : List ℕ) →
    spelled_text rest ≡ behind ++ all → (before : List ℕ) →
    before ++ spelled_text (call_pieces name (map (expr_phrase naming) args) rest)
    ≡ before ++ name ++ codes "(" ++ join_by (expr_text naming) (codes ", ") args ++ codes ");\n" ++ behind ++ all
call_spelled naming name args rest behind all is before =
    let inside : List ℕ = join_by (expr_text naming) (codes ", ") args in
    let grouped : before ++ name ++ codes "(" ++ inside ++ codes ");\n" ++ behind ++ all
    ≡ before ++ (name ++ 40 ∷ (inside ++ 41 ∷ 59 ∷ 10 ∷ (behind ++ all))) = simp append_assoc in
    ap (λ (t : List ℕ). before ++ (name ++ 40 ∷ t))
    (args_spelled naming args (symbol_part RightParenthesis ∷ end_pieces rest)
    ∙ ap (λ (t : List ℕ). inside ++ 41 ∷ 59 ∷ 10 ∷ t) is) ∙ sym grouped

guard_spelled : (guard : ExprPhrase) (rest : List Spelled) →
    spelled_text (guard_pieces guard rest) ≡ 32 ∷ 40 ∷ (phrase_text guard ++ 41 ∷ 32 ∷ 123 ∷ 10 ∷ spelled_text rest)
guard_spelled guard rest =
    ap (λ (t : List ℕ). 32 ∷ 40 ∷ t)
    (expr_spelled guard (symbol_part RightParenthesis ∷ space_part ∷ symbol_part LeftBrace ∷ line_end_part ∷ rest))

declared_spelled : (naming : Naming) (x : VarId) (rest : List Spelled) →
    spelled_text (word_part Int ∷ optional_label_pieces (label_phrase naming.principals (variable_label naming x))
    (space_part ∷ name_part (variable_name naming x) ∷ rest))
    ≡ declared_text naming x ++ spelled_text rest
declared_spelled naming x rest =
    let label : List ℕ = optional_label_text naming.principals (variable_label naming x) in
    let name : List ℕ = variable_name naming x in
    let grouped : codes "int" ++ label ++ codes " " ++ name ++ spelled_text rest
    ≡ 105 ∷ 110 ∷ 116 ∷ (label ++ 32 ∷ (name ++ spelled_text rest)) = simp append_assoc in
    ap (λ (t : List ℕ). 105 ∷ 110 ∷ 116 ∷ t)
    (optional_spelled naming.principals (variable_label naming x) (space_part ∷ name_part name ∷ rest)) ∙ sym grouped

assigned_spelled : (naming : Naming) (known : Bool) (x : VarId) (value : ExprPhrase) (block : BlockPhrase)
    (more : List Spelled) (behind all : List ℕ) → spelled_text (block_pieces block more) ≡ behind ++ all →
    spelled_text (block_pieces (assigned_phrase known (label_phrase naming.principals (variable_label naming x))
    (variable_name naming x) value block) more)
    ≡ (if known then variable_name naming x else declared_text naming x)
    ++ codes " = " ++ phrase_text value ++ codes ";\n"
    ++ behind ++ all
assigned_spelled naming true x value block more behind all is =
    set_spelled value (block_pieces block more) behind all is (variable_name naming x)
assigned_spelled naming false x value block more behind all is =
    declared_spelled naming x (set_pieces value (block_pieces block more))
    ∙ set_spelled value (block_pieces block more) behind all is (declared_text naming x)

if_grouped : (guard first otherwise behind all : List ℕ) →
    codes "if (" ++ guard ++ codes ") {\n" ++ first ++ codes "}" ++ otherwise ++ codes "\n" ++ behind ++ all
    ≡ 105 ∷ 102 ∷ 32 ∷ 40 ∷ (guard ++ 41 ∷ 32 ∷ 123 ∷ 10 ∷ (first ++ 125 ∷ (otherwise ++ 10 ∷ (behind ++ all))))
if_grouped guard first otherwise behind all = simp append_assoc

else_grouped : (second behind all : List ℕ) →
    codes " else {\n" ++ second ++ codes "}" ++ 10 ∷ (behind ++ all)
    ≡ 32 ∷ 101 ∷ 108 ∷ 115 ∷ 101 ∷ 32 ∷ 123 ∷ 10 ∷ (second ++ 125 ∷ 10 ∷ (behind ++ all))
else_grouped second behind all = simp append_assoc

while_grouped : (guard body behind all : List ℕ) →
    codes "while (" ++ guard ++ codes ") {\n" ++ body ++ codes "}\n" ++ behind ++ all
    ≡ 119 ∷ 104 ∷ 105 ∷ 108 ∷ 101 ∷ 32 ∷ 40 ∷ (guard ++ 41 ∷ 32 ∷ 123 ∷ 10 ∷ (body ++ 125 ∷ 10 ∷ (behind ++ all)))
while_grouped guard body behind all = simp append_assoc

branch_spelled : (is_empty : Bool) (guard : ExprPhrase) (first second rest : BlockPhrase) (more : List Spelled)
    (first_text second_text behind all : List ℕ) →
    ((after : List Spelled) → spelled_text (block_pieces first after) ≡ first_text ++ spelled_text after) →
    ((after : List Spelled) → spelled_text (block_pieces second after) ≡ second_text ++ spelled_text after) →
    spelled_text (block_pieces rest more) ≡ behind ++ all →
    spelled_text (block_pieces (branch_phrase is_empty guard first second rest) more)
    ≡ codes "if (" ++ phrase_text guard ++ codes ") {\n" ++ first_text ++ codes "}" ++ else_text is_empty second_text
    ++ codes "\n" ++ behind ++ all
branch_spelled true guard first second rest more first_text second_text behind all one two is =
    let after : List Spelled = symbol_part RightBrace ∷ line_end_part ∷ block_pieces rest more in
    ap (λ (t : List ℕ). 105 ∷ 102 ∷ t) (guard_spelled guard (block_pieces first after)
    ∙ ap (λ (t : List ℕ). 32 ∷ 40 ∷ (phrase_text guard ++ 41 ∷ 32 ∷ 123 ∷ 10 ∷ t)) (one after
    ∙ ap (λ (t : List ℕ). first_text ++ 125 ∷ 10 ∷ t) is))
    ∙ sym (if_grouped (phrase_text guard) first_text [] behind all)
branch_spelled false guard first second rest more first_text second_text behind all one two is =
    let after : List Spelled = symbol_part RightBrace ∷ line_end_part ∷ block_pieces rest more in
    let between : List Spelled =
    symbol_part RightBrace ∷ space_part ∷ word_part Else ∷ space_part ∷ symbol_part LeftBrace ∷ line_end_part
    ∷ block_pieces second after in
    let otherwise : 32 ∷ 101 ∷ 108 ∷ 115 ∷ 101 ∷ 32 ∷ 123 ∷ 10 ∷ spelled_text (block_pieces second after)
    ≡ codes " else {\n" ++ second_text ++ codes "}" ++ 10 ∷ (behind ++ all) =
    ap (λ (t : List ℕ). 32 ∷ 101 ∷ 108 ∷ 115 ∷ 101 ∷ 32 ∷ 123 ∷ 10 ∷ t) (two after
    ∙ ap (λ (t : List ℕ). second_text ++ 125 ∷ 10 ∷ t) is) ∙ sym (else_grouped second_text behind all) in
    ap (λ (t : List ℕ). 105 ∷ 102 ∷ t) (guard_spelled guard (block_pieces first between)
    ∙ ap (λ (t : List ℕ). 32 ∷ 40 ∷ (phrase_text guard ++ 41 ∷ 32 ∷ 123 ∷ 10 ∷ t)) (one between
    ∙ ap (λ (t : List ℕ). first_text ++ 125 ∷ t) otherwise))
    ∙ sym (if_grouped (phrase_text guard) first_text (codes " else {\n" ++ second_text ++ codes "}") behind all)

-- without a `return` there is nothing behind the statements
plain_spelled : (naming : Naming) (seen : ℕ) (block : BlockTree) → HasNone block →
    ((rest : List Spelled) →
    spelled_text (block_pieces (block_phrase naming seen block) (result_pieces (result_phrase naming block) rest))
    ≡ block_text naming seen block ++ spelled_text rest) → (rest : List Spelled) →
    spelled_text (block_pieces (block_phrase naming seen block) rest) ≡ block_text naming seen block
    ++ spelled_text rest
plain_spelled naming seen block none whole rest =
    ap (λ result. spelled_text (block_pieces (block_phrase naming seen block) (result_pieces result rest)))
    (sym (no_result naming block none)) ∙ whole rest

pub block_spelled : (naming : Naming) (seen : ℕ) (block : BlockTree) → HasLast block → (rest : List Spelled) →
    spelled_text (block_pieces (block_phrase naming seen block) (result_pieces (result_phrase naming block) rest))
    ≡ block_text naming seen block ++ spelled_text rest
block_spelled naming seen done last rest = refl
block_spelled naming seen (set_local heading x value behind) last rest =
    let more : List Spelled = result_pieces (result_phrase naming behind) rest in
    assigned_spelled naming (nat_lt x.0 seen) x (expr_phrase naming value)
    (block_phrase naming (seen_after seen x) behind)
    more (block_text naming (seen_after seen x) behind) (spelled_text rest)
    (block_spelled naming (seen_after seen x) behind last rest)
block_spelled naming seen (set_field heading field value behind) last rest =
    let more : List Spelled = result_pieces (result_phrase naming behind) rest in
    set_spelled (expr_phrase naming value) (block_pieces (block_phrase naming seen behind) more)
    (block_text naming seen behind) (spelled_text rest) (block_spelled naming seen behind last rest)
    (field_name naming field)
block_spelled naming seen (set_element heading field index value behind) last rest =
    let more : List Spelled = result_pieces (result_phrase naming behind) rest in
    let left : List Spelled = block_pieces (block_phrase naming seen behind) more in
    let name : List ℕ = field_name naming field in
    let inside : List ℕ = expr_text naming index in
    let one : List ℕ = expr_text naming value in
    let two : List ℕ = block_text naming seen behind in
    let grouped : name ++ codes "[" ++ inside ++ codes "] = " ++ one ++ codes ";\n" ++ two ++ spelled_text rest
    ≡ name ++ 91 ∷ (inside ++ 93 ∷ 32 ∷ 61 ∷ 32 ∷ (one ++ 59 ∷ 10 ∷ (two ++ spelled_text rest))) = simp append_assoc in
    ap (λ (t : List ℕ). name ++ 91 ∷ t)
    (expr_spelled (expr_phrase naming index) (symbol_part RightBracket ∷ set_pieces (expr_phrase naming value) left)
    ∙ ap (λ (t : List ℕ). inside ++ 93 ∷ 32 ∷ 61 ∷ 32 ∷ t) (expr_spelled (expr_phrase naming value) (end_pieces left)
    ∙ ap (λ (t : List ℕ). one ++ 59 ∷ 10 ∷ t) (block_spelled naming seen behind last rest)))
    ∙ sym grouped
block_spelled naming seen (branch heading guard first second behind) last rest =
    let middle : ℕ = seen_behind seen first in
    let after : ℕ = seen_behind middle second in
    let more : List Spelled = result_pieces (result_phrase naming behind) rest in
    branch_spelled (is_done second) (expr_phrase naming guard) (block_phrase naming seen first)
    (block_phrase naming middle second) (block_phrase naming after behind) more (block_text naming seen first)
    (block_text naming middle second) (block_text naming after behind) (spelled_text rest)
    (plain_spelled naming seen first last.0 (block_spelled naming seen first (none_last first last.0)))
    (plain_spelled naming middle second last.1 (block_spelled naming middle second (none_last second last.1)))
    (block_spelled naming after behind last.2 rest)
block_spelled naming seen (loop heading guard body behind) last rest =
    let after : ℕ = seen_behind seen body in
    let more : List Spelled = result_pieces (result_phrase naming behind) rest in
    let left : List Spelled = symbol_part RightBrace ∷ line_end_part ∷ block_pieces
    (block_phrase naming after behind) more in
    let one : List ℕ = block_text naming seen body in
    ap (λ (t : List ℕ). 119 ∷ 104 ∷ 105 ∷ 108 ∷ 101 ∷ t)
    (guard_spelled (expr_phrase naming guard) (block_pieces (block_phrase naming seen body) left)
    ∙ ap (λ (t : List ℕ). 32 ∷ 40 ∷ (expr_text naming guard ++ 41 ∷ 32 ∷ 123 ∷ 10 ∷ t))
    (plain_spelled naming seen body last.0 (block_spelled naming seen body (none_last body last.0)) left
    ∙ ap (λ (t : List ℕ). one ++ 125 ∷ 10 ∷ t) (block_spelled naming after behind last.1 rest)))
    ∙ sym (while_grouped (expr_text naming guard) one (block_text naming after behind) (spelled_text rest))
block_spelled naming seen (call heading site method args None behind) last rest =
    let more : List Spelled = result_pieces (result_phrase naming behind) rest in
    call_spelled naming (method_name naming method) args (block_pieces (block_phrase naming seen behind) more)
    (block_text naming seen behind) (spelled_text rest) (block_spelled naming seen behind last rest) []
block_spelled naming seen (call heading site method args (Some into) behind) last rest =
    let more : List Spelled = result_pieces (result_phrase naming behind) rest in
    let left : List Spelled =
    call_pieces (method_name naming method) (map (expr_phrase naming) args)
    (block_pieces (block_phrase naming seen behind) more) in
    sym (append_assoc (variable_name naming into) (codes " = ") (spelled_text left))
    ∙ call_spelled naming (method_name naming method) args (block_pieces (block_phrase naming seen behind) more)
    (block_text naming seen behind) (spelled_text rest) (block_spelled naming seen behind last rest)
    (variable_name naming into ++ codes " = ")
block_spelled naming seen (give_back heading value behind) last rest =
    let one : List ℕ = expr_text naming value in
    let grouped : codes "return " ++ one ++ codes ";\n" ++ [] ++ spelled_text rest
    ≡ 114 ∷ 101 ∷ 116 ∷ 117 ∷ 114 ∷ 110 ∷ 32 ∷ (one ++ 59 ∷ 10 ∷ spelled_text rest) = simp append_assoc in
    ap (λ (t : List ℕ). 114 ∷ 101 ∷ 116 ∷ 117 ∷ 114 ∷ 110 ∷ 32 ∷ t) (expr_spelled (expr_phrase naming value)
    (end_pieces rest))
    ∙ sym grouped
    ∙ ap (λ b. codes "return " ++ one ++ codes ";\n" ++ block_text naming seen b ++ spelled_text rest) (sym last)

-- ---- fields

first_spelled : (size : ℕ) (first : ℤ) →
    Reads (λ f. field_end_pieces (first_phrase f)) (λ f. field_end_text false size f ++ codes ";\n") first
first_spelled size (pos zero) rest = refl
first_spelled size (pos (suc n)) rest =
    let value : List ℕ = decimal (suc n) in
    let grouped : codes " = " ++ value ++ codes ";\n" ++ spelled_text rest
    ≡ 32 ∷ 61 ∷ 32 ∷ (value ++ 59 ∷ 10 ∷ spelled_text rest) = simp append_assoc in
    sym grouped
first_spelled size (negsuc n) rest =
    let value : List ℕ = decimal (suc n) in
    let grouped : codes " = -" ++ value ++ codes ";\n" ++ spelled_text rest
    ≡ 32 ∷ 61 ∷ 32 ∷ 45 ∷ (value ++ 59 ∷ 10 ∷ spelled_text rest) = simp append_assoc in
    sym grouped

field_end_spelled : (array : Bool) (size : ℕ) (first : ℤ) (rest : List Spelled) →
    spelled_text (field_end_pieces (field_end_phrase array size first) rest)
    ≡ field_end_text array size first ++ codes ";\n" ++ spelled_text rest
field_end_spelled true size first rest =
    let value : List ℕ = decimal size in
    let grouped : codes "[" ++ value ++ codes "]" ++ codes ";\n" ++ spelled_text rest
    ≡ 91 ∷ (value ++ 93 ∷ 59 ∷ 10 ∷ spelled_text rest) = simp append_assoc in
    sym grouped
field_end_spelled false size first rest = first_spelled size first rest

field_grouped : (label name ending rest : List ℕ) →
    codes "int" ++ label ++ codes " " ++ name ++ ending ++ codes ";\n" ++ rest
    ≡ 105 ∷ 110 ∷ 116 ∷ (label ++ 32 ∷ (name ++ (ending ++ codes ";\n" ++ rest)))
field_grouped label name ending rest = simp append_assoc

field_spelled : (principals : Declared) (field : FieldTree) →
    Reads (λ f. item_pieces (phrase.field (field_phrase principals f))) (field_text principals) field
field_spelled principals field rest =
    let label : List ℕ = printed_label principals field.label in
    let name : List ℕ = field.name in
    let ending : List ℕ = field_end_text field.array field.size field.first in
    ap (λ (t : List ℕ). 105 ∷ 110 ∷ 116 ∷ t)
    (label_spelled (printed_parts principals field.label)
    (space_part ∷ name_part name ∷ field_end_pieces (field_end_phrase field.array field.size field.first) rest)
    ∙ ap (λ (t : List ℕ). label ++ 32 ∷ (name ++ t)) (field_end_spelled field.array field.size field.first rest))
    ∙ sym (field_grouped label name ending (spelled_text rest))

-- ---- methods

-- a parameter or a result has a label
abbrev pub HasLabel : Naming → VarId → Type 0
HasLabel naming x = (label : Label) × (variable_label naming x ≡ Some label)

abbrev pub HasLabelWhere : Naming → Option VarId → Type 0
HasLabelWhere naming None = ⊤
HasLabelWhere naming (Some x) = HasLabel naming x

or_none_spelled : (naming : Naming) (x : VarId) → HasLabel naming x → (rest : List Spelled) →
    spelled_text (label_pieces (label_or_none naming.principals (variable_label naming x)) rest)
    ≡ optional_label_text naming.principals (variable_label naming x) ++ spelled_text rest
or_none_spelled naming x (label, is) rest =
    ap (λ l. spelled_text (label_pieces (label_or_none naming.principals l) rest)) is
    ∙ label_spelled (printed_parts naming.principals label) rest
    ∙ ap (λ l. optional_label_text naming.principals l ++ spelled_text rest) (sym is)

param_spelled : (naming : Naming) (x : VarId) → HasLabel naming x →
    Reads (λ y. param_pieces (param_phrase naming y)) (declared_text naming) x
param_spelled naming x has rest =
    let label : List ℕ = optional_label_text naming.principals (variable_label naming x) in
    let name : List ℕ = variable_name naming x in
    let grouped : codes "int" ++ label ++ codes " " ++ name ++ spelled_text rest
    ≡ 105 ∷ 110 ∷ 116 ∷ (label ++ 32 ∷ (name ++ spelled_text rest)) = simp append_assoc in
    ap (λ (t : List ℕ). 105 ∷ 110 ∷ 116 ∷ t) (or_none_spelled naming x has (space_part ∷ name_part name ∷ rest))
    ∙ sym grouped

params_spelled : (naming : Naming) (params : List VarId) → AllByRecursion (HasLabel naming) params →
    (rest : List Spelled) →
    spelled_text (params_pieces (map (param_phrase naming) params) rest)
    ≡ join_by (declared_text naming) (codes ", ") params ++ spelled_text rest
params_spelled naming params have rest =
    joined_spelled (symbol Comma) (codes ", ") comma_is (param_phrase naming) param_pieces (declared_text naming)
    (HasLabel naming) (param_spelled naming) params have rest

authority_spelled : (naming : Naming) (names : List PrincipalId) →
    Reads (λ ps. authority_pieces (map (principal_name naming) ps)) (authority_text naming) names
authority_spelled naming [] rest = refl
authority_spelled naming (name ∷ names) rest =
    let all : List ℕ = join_by (principal_name naming) (codes ", ") (name ∷ names) in
    let grouped : codes " where authority(" ++ all ++ codes ")" ++ spelled_text rest
    ≡ codes " where authority(" ++ (all ++ 41 ∷ spelled_text rest) = simp append_assoc in
    ap (λ (t : List ℕ). codes " where authority(" ++ t)
    (joined_spelled (symbol Comma) (codes ", ") comma_is (principal_name naming) name_pieces (principal_name naming)
    (λ x. Any x) (λ x any more. refl) (name ∷ names) (all_any (name ∷ names)) (symbol_part RightParenthesis ∷ rest))
    ∙ sym grouped

head_spelled : (naming : Naming) (result : Option VarId) → HasLabelWhere naming result → (name : List ℕ) (begin : Label)
    (rest : List Spelled) →
    spelled_text (head_pieces (kind_phrase naming result) name (printed_parts naming.principals begin) rest)
    ≡ text.kind_text naming result ++ 32 ∷ (name ++ (printed_label naming.principals begin ++ spelled_text rest))
head_spelled naming None has name begin rest =
    ap (λ (t : List ℕ). 118 ∷ 111 ∷ 105 ∷ 100 ∷ 32 ∷ (name ++ t))
    (label_spelled (printed_parts naming.principals begin) rest)
head_spelled naming (Some x) has name begin rest =
    let label : List ℕ = optional_label_text naming.principals (variable_label naming x) in
    ap (λ (t : List ℕ). 105 ∷ 110 ∷ 116 ∷ t)
    (or_none_spelled naming x has (space_part ∷ name_part name ∷ label_pieces
    (printed_parts naming.principals begin) rest)
    ∙ ap (λ (t : List ℕ). label ++ 32 ∷ (name ++ t)) (label_spelled (printed_parts naming.principals begin) rest))

-- what is asked of a method
pub record IsPrintable (naming : Naming) (method : MethodTree) : Type 0 where
  pub params : AllByRecursion (HasLabel naming) method.params
  pub result : HasLabelWhere naming method.result
  pub returns : HasLast method.body

method_spelled : (naming : Naming) (seen : ℕ) (method : MethodTree) → IsPrintable naming method →
    (rest : List Spelled) →
    spelled_text (item_pieces (phrase.method (method_phrase naming seen method)) rest)
    ≡ method_text naming seen method ++ spelled_text rest
method_spelled naming seen method is rest =
    let kind : List ℕ = text.kind_text naming method.result in
    let name : List ℕ = method.name in
    let begin : List ℕ = printed_label naming.principals method.begin in
    let params : List ℕ = join_by (declared_text naming) (codes ", ") method.params in
    let authority : List ℕ = authority_text naming method.authority in
    let body : List ℕ = block_text naming (seen_in seen method) method.body in
    let last : List Spelled = symbol_part RightBrace ∷ line_end_part ∷ rest in
    let statements : List Spelled =
    block_pieces (block_phrase naming (seen_in seen method) method.body)
    (result_pieces (result_phrase naming method.body) last) in
    let inside : List Spelled = space_part ∷ symbol_part LeftBrace ∷ line_end_part ∷ statements in
    let grouped : kind ++ codes " " ++ name ++ begin ++ codes "(" ++ params ++ codes ")" ++ authority ++ codes " {\n"
    ++ body ++ codes "}\n" ++ spelled_text rest
    ≡ kind ++ 32 ∷ (name ++ (begin ++ 40 ∷ (params
    ++ 41 ∷ (authority ++ 32 ∷ 123 ∷ 10 ∷ (body ++ 125 ∷ 10 ∷ spelled_text rest)))))
    = simp append_assoc in
    head_spelled naming method.result is.result name method.begin
    (tail_pieces (method_phrase naming seen method) rest)
    ∙ ap (λ (t : List ℕ). kind ++ 32 ∷ (name ++ (begin ++ 40 ∷ t)))
    (params_spelled naming method.params is.params
    (symbol_part RightParenthesis ∷ authority_pieces (map (principal_name naming) method.authority) inside)
    ∙ ap (λ (t : List ℕ). params ++ 41 ∷ t) (authority_spelled naming method.authority inside
    ∙ ap (λ (t : List ℕ). authority ++ 32 ∷ 123 ∷ 10 ∷ t)
    (block_spelled naming (seen_in seen method) method.body is.returns last)))
    ∙ sym grouped

methods_spelled : (naming : Naming) (seen : ℕ) (methods : List MethodTree) →
    AllByRecursion (IsPrintable naming) methods → (rest : List Spelled) →
    spelled_text (program_pieces (methods_phrases naming seen methods) rest)
    ≡ methods_text naming seen methods ++ spelled_text rest
methods_spelled naming seen [] are rest = refl
methods_spelled naming seen (method ∷ methods) are rest =
    let after : ℕ = seen_after_method seen method in
    method_spelled naming seen method are.0 (program_pieces (methods_phrases naming after methods) rest)
    ∙ ap (λ (t : List ℕ). method_text naming seen method ++ t) (methods_spelled naming after methods are.1 rest)
    ∙ sym (append_assoc (method_text naming seen method) (methods_text naming after methods) (spelled_text rest))

fields_spelled : (principals : Declared) (fields : List FieldTree) (after : List phrase.ItemPhrase)
    (rest : List Spelled)
    (behind : List ℕ) → spelled_text (program_pieces after rest) ≡ behind →
    spelled_text (program_pieces (fields_phrases principals fields ++ after) rest)
    ≡ flat_map (field_text principals) fields ++ behind
fields_spelled principals [] after rest behind is = is
fields_spelled principals (field ∷ fields) after rest behind is =
    field_spelled principals field (program_pieces (fields_phrases principals fields ++ after) rest)
    ∙ ap (λ (t : List ℕ). field_text principals field ++ t) (fields_spelled principals fields after rest behind is)
    ∙ sym (append_assoc (field_text principals field) (flat_map (field_text principals) fields) behind)

-- the text of a program of which each method can be printed
pub program_spelled : (principals : Declared) (program : ProgramTree) →
    AllByRecursion (IsPrintable (record { principals = principals; program = program })) program.methods →
    spelled_text (program_pieces (program_phrase principals program) []) ≡ printed_program principals program
program_spelled principals program are =
    let naming : Naming = record { principals = principals; program = program } in
    let methods : List ℕ = methods_text naming 0 program.methods in
    fields_spelled principals program.fields (methods_phrases naming 0 program.methods) [] methods
    (methods_spelled naming 0 program.methods are [] ∙ append-nil methods)
