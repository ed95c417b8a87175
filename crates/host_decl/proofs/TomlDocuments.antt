-- The keys and the strings of a TOML document are texts, none of them longer than the document's text.
use Rattle.std.proofs.Common.{◌≡◌, ◌⊎◌, ◌∙◌, ℕ, zero, suc, ◌+◌, ◌<◌, ◌≤◌, Bool, true, false, ◌&&◌, ◌==◌}
use Rattle.std.proofs.Common.{if◌then◌else◌, List, [], ◌∷◌, ◌++◌, length, take, drop, get_or, get_or-drop}
use Rattle.std.proofs.Common.{length-drop}
use Rattle.std.proofs.Common.{Option, Some, None, inl, inr, ap, subst, arith, add-zero, eqb-true, lit<}
use Rattle.std.proofs.Common.{nat_cmp, IsUtf8, drop-drop}
use Rattle.std.specs.Prelude.{⊤, slice_index, option_map, option_and_then}
use Rattle.std.specs.Char.{is_ascii_digit}
use Rattle.std.specs.Cmp.Lexicographic.{slice_cmp}
use Rattle.std.specs.List.{AllByRecursion, prefix_len}
use Rattle.std.proofs.lemmas.Bool.{cases_Bool, false≢true, and_parts}
use Rattle.std.proofs.lemmas.Bool.Decides.{nat_tests}
use Rattle.std.proofs.lemmas.List.{length-take}
use Rattle.std.proofs.lemmas.Str.{IsUtf8-nil, IsUtf8-take, IsUtf8-drop}
use Rattle.js_base.specs.declared.limits.TheConstants.{HOSTS_BYTES}
use Rattle.toml_parser.specs.Lexical.{Read, first, is_bare, is_word, starts_newline, split_while, skip_ws, skip_blank}
use Rattle.toml_parser.specs.Strings.{body, trim_newline, one_line, quoted, starts_string, simple_key, Key}
use Rattle.toml_parser.specs.Strings.{key_after, key}
use Rattle.toml_parser.specs.Strings.{recursion_limit}
use Rattle.toml_parser.specs.Numbers.{word_len, word_value, unquoted}
use Rattle.toml_parser.specs.declared.scalar.Scalar.{Scalar}
use Rattle.toml_parser.specs.declared.scalar.Scalar.TheVariants.{Boolean, Integer, Float, Datetime}
use Rattle.toml_parser.proofs.LexicalLemmas.{IsCharBoundary-ascii_run}
use Rattle.toml.specs.Data.{Data, string, array, table, Items, no_items, item, Members, same_key, push_item}
use Rattle.toml.specs.Tables.{implicit, dotted, header, Node, value, open_table, open_array, Nodes, no_nodes, node}
use Rattle.toml.specs.Tables.{get_node, insert, replace, close_node, close, Edit, header_node, dot_node, by_header}
use Rattle.toml.specs.Tables.{by_dot}
use Rattle.toml.specs.Tables.{along_header, along_dots, Definition, key_value, std_table, array_table, Expression}
use Rattle.toml.specs.Tables.{new_node}
use Rattle.toml.specs.Tables.{redefine, at_found, at_key, put, Document, define_as, define}
use Rattle.toml.specs.Parse.{read_map, after_byte, after_element, key_equals, keyval, items, members, scalar_data}
use Rattle.toml.specs.Parse.{atom}
use Rattle.toml.specs.Parse.{val, header_key, expression, ends_line, line, lines, skip_bom, parse_document}
use Rattle.toml.proofs.Turns.{bom_boundary}
use Rattle.host_decl.specs.Reading.{IsDocument}
use Rattle.host_decl.proofs.DocumentTexts.{HasTexts, HaveTexts, AreTexts, of_order}
use Rattle.host_decl.proofs.OwnedTexts.{IsText}
use Rattle.host_decl.proofs.TomlTexts.{by_test, If, if_then, if_map, drop_one, is_byte, skip_ws_text, skip_blank_text}
use Rattle.host_decl.proofs.TomlTexts.{body_read, behind_run}

-- what was read has the property, and what is left is a text
abbrev Reads : {X : Type 0} → (X → Type 0) → ℕ → X × List ℕ → Type 0
Reads P most read = P read.0 × IsText most read.1

-- ---- strings

string_is : (text : List ℕ) → starts_string text ≡ true → (0 < first text) × (first text < 128)
string_is text is = by_cases (cases_Bool (first text == 34)) (cases_Bool (first text == 39))
  where
    by_cases : ((first text == 34) ≡ true) ⊎ ((first text == 34) ≡ false) →
        ((first text == 39) ≡ true) ⊎ ((first text == 39) ≡ false) → (0 < first text) × (first text < 128)
    by_cases (inl quote) other =
        (omega (arith, eqb-true (first text) 34 quote), is_byte (first text) 34 (lit< tt) quote)
    by_cases (inr other) (inl quote) =
        (omega (arith, eqb-true (first text) 39 quote), is_byte (first text) 39 (lit< tt) quote)
    by_cases (inr other) (inr none) =
        let clash : false ≡ true = rw (other, none) at is in absurd (false≢true clash)

content_read : (most delim n : ℕ) (multi : Bool) (text : List ℕ) → (0 < delim) × (delim < 128) → IsText most text →
    If (Reads (IsText most) most) (body delim multi n text)
content_read most delim n multi text is has =
    of_read (body delim multi n text) (body_read delim multi n [] text is has.0)
  where
    of_read : (found : Option (List ℕ × List ℕ)) →
        If (λ read. IsUtf8 ([] ++ read.0) × IsUtf8 read.1 × (length read.0 + length read.1 ≤ length text)) found →
        If (Reads (IsText most) most) found
    of_read None read = tt
    of_read (Some found) read =
        ((read.0, omega (arith, read.2, has.1)), (read.1, omega (arith, read.2, has.1)))

one_line_read : (most : ℕ) (text : List ℕ) → starts_string text ≡ true → IsText most text →
    If (Reads (IsText most) most) (one_line text)
unfolding one_line
one_line_read most text is has =
    let delim = string_is text is in
    content_read most (first text) (length text) false (drop 1 text) delim (drop_one most text delim.1 has)

drop_three : (most : ℕ) (text : List ℕ) → first text < 128 → slice_index text 1 < 128 → slice_index text 2 < 128 →
    IsText most text → IsText most (drop 3 text)
drop_three most [] one two three has = has
drop_three most (a ∷ []) one two three has = (IsUtf8-nil, omega arith)
drop_three most (a ∷ b ∷ []) one two three has = (IsUtf8-nil, omega arith)
drop_three most (a ∷ b ∷ c ∷ rest) one two three has =
    drop_one most (c ∷ rest) three (drop_one most (b ∷ c ∷ rest) two (drop_one most (a ∷ b ∷ c ∷ rest) one has))

drop_two : (most : ℕ) (text : List ℕ) → first text < 128 → slice_index text 1 < 128 → IsText most text →
    IsText most (drop 2 text)
drop_two most [] one two has = has
drop_two most (a ∷ []) one two has = (IsUtf8-nil, omega arith)
drop_two most (a ∷ b ∷ rest) one two has = drop_one most (b ∷ rest) two (drop_one most (a ∷ b ∷ rest) one has)

trimmed : (most : ℕ) (text : List ℕ) → IsText most text → IsText most (trim_newline text)
trimmed most text has =
    by_test (IsText most) (first text == 10) (drop 1 text) (if starts_newline text then drop 2 text else text)
    (λ feed. drop_one most text (is_byte (first text) 10 (lit< tt) feed) has)
    (λ other. by_test (IsText most) (starts_newline text) (drop 2 text) text
    (λ newline.
    let both : (first text == 13 && slice_index text 1 == 10) ≡ true = rw other at newline in
    let parts = and_parts (first text == 13) (slice_index text 1 == 10) both in
    drop_two most text (is_byte (first text) 13 (lit< tt) parts.0) (is_byte (slice_index text 1) 10 (lit< tt) parts.1)
    has)
    (λ _. has))

quoted_read : (most : ℕ) (text : List ℕ) → starts_string text ≡ true → IsText most text →
    If (Reads (IsText most) most) (quoted text)
unfolding quoted
quoted_read most text is has =
    let delim = string_is text is in
    by_test (If (Reads (IsText most) most)) (slice_index text 1 == first text && slice_index text 2 == first text)
    (body (first text) true (length text) (trim_newline (drop 3 text))) (one_line text)
    (λ three.
    let parts = and_parts (slice_index text 1 == first text) (slice_index text 2 == first text) three in
    content_read most (first text) (length text) true (trim_newline (drop 3 text)) delim
    (trimmed most (drop 3 text) (drop_three most text delim.1
    (is_byte (slice_index text 1) (first text) delim.1 parts.0)
    (is_byte (slice_index text 2) (first text) delim.1 parts.1) has)))
    (λ _. one_line_read most text is has)

-- ---- keys

bare_ascii : (c : ℕ) → is_bare c ≡ true → c < 128
bare_ascii c is = grind (arith, nat_tests)

bare_read : (most : ℕ) (text : List ℕ) → IsText most text → Reads (IsText most) most (split_while is_bare text)
bare_read most text has =
    let count = prefix_len is_bare text in (
      (
        IsUtf8-take text count has.0 (IsCharBoundary-ascii_run is_bare text has.0 bare_ascii),
        omega (arith, length-take count text, has.1),
      ),
      (behind_run is_bare text bare_ascii has.0, omega (arith, length-drop count text, has.1)),
    )

simple_key_read : (most : ℕ) (text : List ℕ) → IsText most text → If (Reads (IsText most) most) (simple_key text)
unfolding simple_key
simple_key_read most text has =
    by_test (If (Reads (IsText most) most)) (starts_string text) (one_line text)
    (if is_bare (first text) then Some (split_while is_bare text) else None)
    (λ is. one_line_read most text is has)
    (λ _. by_test (If (Reads (IsText most) most)) (is_bare (first text)) (Some (split_while is_bare text)) None
    (λ _. bare_read most text has) (λ _. tt))

abbrev IsKey : ℕ → Key → Type 0
IsKey most parts = AllByRecursion (IsText most) parts.0 × IsText most parts.1

all_push : {X : Type 0} (P : X → Type 0) (xs : List X) (x : X) → AllByRecursion P xs → P x →
    AllByRecursion P (xs ++ x ∷ [])
all_push P [] x all is = (is, tt)
all_push P (y ∷ xs) x all is = (all.0, all_push P xs x all.1 is)

key_after_read : (most n : ℕ) (path : List (List ℕ)) (text : List ℕ) → AllByRecursion (IsText most) path →
    IsText most text → If (Reads (IsKey most) most) (key_after n path text)
unfolding key_after
key_after_read most zero path text all has = tt
key_after_read most (suc n) path text all has =
    if_then (Reads (IsText most) most) (Reads (IsKey most) most) (simple_key text) _ (simple_key_read most text has)
    (λ part is.
    let rest = skip_ws part.1 in
    let left = skip_ws_text most part.1 is.1 in
    by_test (If (Reads (IsKey most) most)) (first rest == 46)
    (key_after n (path ++ part.0 ∷ []) (skip_ws (drop 1 rest)))
    (Some ((path, part.0), rest))
    (λ dot. key_after_read most n (path ++ part.0 ∷ []) (skip_ws (drop 1 rest))
    (all_push (IsText most) path part.0 all is.0)
    (skip_ws_text most (drop 1 rest) (drop_one most rest (is_byte (first rest) 46 (lit< tt) dot) left)))
    (λ _. ((all, is.0), left)))

key_read : (most : ℕ) (text : List ℕ) → IsText most text → If (Reads (IsKey most) most) (key text)
key_read most text has = key_after_read most recursion_limit [] text tt has

after_byte_read : (most byte : ℕ) (text : List ℕ) → byte < 128 → IsText most text →
    If (IsText most) (after_byte byte text)
after_byte_read most byte text ascii has =
    by_test (If (IsText most)) (first text == byte) (Some (drop 1 text)) None
    (λ same. drop_one most text (is_byte (first text) byte ascii same) has) (λ _. tt)

-- ---- scalars

scalar_has : (most : ℕ) (scalar : Scalar) → HasTexts most (scalar_data scalar)
scalar_has most (Boolean b) = tt
scalar_has most (Integer z) = tt
scalar_has most (Float x) = tt
scalar_has most (Datetime dt) = tt

word_ascii : (c : ℕ) → is_word c ≡ true → c < 128
word_ascii c is = grind (arith, nat_tests)

first_dropped : (text : List ℕ) (n : ℕ) → first (drop n text) ≡ slice_index text n
first_dropped text n = get_or-drop n text 0 0 ∙ ap (λ k. get_or text k 0) (add-zero n)

behind_word : (most : ℕ) (text : List ℕ) → IsText most text → IsText most (drop (word_len text) text)
unfolding word_len
behind_word most text has =
    let len = prefix_len is_word text in
    let joined = slice_index text len == 32 && is_ascii_digit (slice_index text (len + 1)) in
    by_test (λ n. IsText most (drop n text)) joined (len + 1 + prefix_len is_word (drop (len + 1) text)) len
    (λ is.
    let space = (and_parts (slice_index text len == 32) (is_ascii_digit (slice_index text (len + 1))) is).0 in
    let after = drop (len + 1) text in
    let one : IsText most (drop 1 (drop len text)) =
    drop_one most (drop len text)
    (omega (arith, first_dropped text len, eqb-true (slice_index text len) 32 space)) (run most text has) in
    let same : drop 1 (drop len text) ≡ after = drop-drop 1 len text in
    subst (IsText most) (drop-drop (prefix_len is_word after) (len + 1) text)
    (run most after (subst (IsText most) same one)))
    (λ _. run most text has)
  where
    run : (most : ℕ) (text : List ℕ) → IsText most text → IsText most (drop (prefix_len is_word text) text)
    run most text has =
        (behind_run is_word text word_ascii has.0, omega (arith, length-drop (prefix_len is_word text) text, has.1))

unquoted_read : (most : ℕ) (text : List ℕ) → IsText most text →
    If (Reads (λ scalar. HasTexts most (scalar_data scalar)) most) (unquoted text)
unfolding unquoted
unquoted_read most text has =
    by_test (If (Reads (λ scalar. HasTexts most (scalar_data scalar)) most)) (word_len text == 0) None
    (option_map (λ d. (d, drop (word_len text) text)) (word_value (take (word_len text) text)))
    (λ _. tt)
    (λ _. if_map (λ scalar. ⊤) (Reads (λ scalar. HasTexts most (scalar_data scalar)) most)
    (word_value (take (word_len text) text)) (λ d. (d, drop (word_len text) text)) (any (word_value _))
    (λ d _. (scalar_has most d, behind_word most text has)))
  where
    any : {X : Type 0} (found : Option X) → If {X = X} (λ x. ⊤) found
    any None = tt
    any (Some x) = tt

atom_read : (most : ℕ) (text : List ℕ) → IsText most text → If (Reads (HasTexts most) most) (atom text)
unfolding atom
atom_read most text has =
    by_test (If (Reads (HasTexts most) most)) (starts_string text) (read_map string (quoted text))
    (read_map scalar_data (unquoted text))
    (λ is. if_map (Reads (IsText most) most) (Reads (HasTexts most) most) (quoted text) (λ p. (string p.0, p.1))
    (quoted_read most text is has) (λ p read. read))
    (λ _. if_map (Reads (λ scalar. HasTexts most (scalar_data scalar)) most) (Reads (HasTexts most) most)
    (unquoted text) (λ p. (scalar_data p.0, p.1)) (unquoted_read most text has) (λ p read. read))

-- ---- tables

abbrev mutual
  NodeHas : ℕ → Node → Type 0
  NodeHas most (value d) = HasTexts most d
  NodeHas most (open_table origin inner) = NodesHave most inner
  NodeHas most (open_array done last) = HaveTexts most done × NodesHave most last

  NodesHave : ℕ → Nodes → Type 0
  NodesHave most no_nodes = ⊤
  NodesHave most (node own x rest) = IsText most own × NodeHas most x × NodesHave most rest

pushed : (most : ℕ) (found : Items) (d : Data) → HaveTexts most found → HasTexts most d →
    HaveTexts most (push_item found d)
pushed most no_items d all is = (is, tt)
pushed most (item first found) d all is = (all.0, pushed most found d all.1 is)

mutual
  closed_node : (most : ℕ) (x : Node) → NodeHas most x → HasTexts most (close_node x)
  closed_node most (value d) has = has
  closed_node most (open_table origin inner) has = closed most inner has
  closed_node most (open_array done last) has = pushed most done (table (close last)) has.0 (closed most last has.1)

  closed : (most : ℕ) (nodes : Nodes) → NodesHave most nodes → AreTexts most (close nodes)
  closed most no_nodes has = tt
  closed most (node own x rest) has = (has.0, closed_node most x has.1, closed most rest has.2)

got_node : (most : ℕ) (k : List ℕ) (nodes : Nodes) → NodesHave most nodes → If (NodeHas most) (get_node k nodes)
got_node most k no_nodes has = tt
got_node most k (node own x rest) has =
    by_test (If (NodeHas most)) (same_key k own) (Some x) (get_node k rest) (λ _. has.1)
    (λ _. got_node most k rest has.2)

inserted : (most : ℕ) (k : List ℕ) (x : Node) (nodes : Nodes) → IsText most k → NodeHas most x → NodesHave most nodes →
    NodesHave most (insert k x nodes)
inserted most k x no_nodes text is has = (text, is, tt)
inserted most k x (node own y rest) text is has =
    of_order (NodesHave most) (slice_cmp nat_cmp k own) (node k x (node own y rest)) (node own x rest)
    (node own y (insert k x rest)) (text, is, has) (has.0, is, has.2)
    (has.0, has.1, inserted most k x rest text is has.2)

replaced : (most : ℕ) (k : List ℕ) (x : Node) (nodes : Nodes) → NodeHas most x → NodesHave most nodes →
    NodesHave most (replace k x nodes)
replaced most k x no_nodes is has = tt
replaced most k x (node own y rest) is has =
    by_test (NodesHave most) (same_key k own) (node own x rest) (node own y (replace k x rest))
    (λ _. (has.0, is, has.2)) (λ _. (has.0, has.1, replaced most k x rest is has.2))

-- the change leaves texts as it found them
abbrev Keeps : ℕ → Edit → Type 0
Keeps most edit = (nodes : Nodes) → NodesHave most nodes → If (NodesHave most) (edit nodes)

header_keeps : (most : ℕ) (edit : Edit) → Keeps most edit → (x : Node) → NodeHas most x →
    If (NodeHas most) (header_node edit x)
header_keeps most edit keeps (value d) has = tt
header_keeps most edit keeps (open_table origin inner) has =
    if_map (NodesHave most) (NodeHas most) (edit inner) (open_table origin) (keeps inner has) (λ new is. is)
header_keeps most edit keeps (open_array done last) has =
    if_map (NodesHave most) (NodeHas most) (edit last) (open_array done) (keeps last has.1) (λ new is. (has.0, is))

dot_keeps : (most : ℕ) (edit : Edit) → Keeps most edit → (x : Node) → NodeHas most x →
    If (NodeHas most) (dot_node edit x)
dot_keeps most edit keeps (value d) has = tt
dot_keeps most edit keeps (open_table header inner) has = tt
dot_keeps most edit keeps (open_table implicit inner) has =
    if_map (NodesHave most) (NodeHas most) (edit inner) (open_table dotted) (keeps inner has) (λ new is. is)
dot_keeps most edit keeps (open_table dotted inner) has =
    if_map (NodesHave most) (NodeHas most) (edit inner) (open_table dotted) (keeps inner has) (λ new is. is)
dot_keeps most edit keeps (open_array done last) has = tt

by_header_keeps : (most : ℕ) (k : List ℕ) (edit : Edit) (nodes : Nodes) (found : Option Node) → IsText most k →
    Keeps most edit → NodesHave most nodes → If (NodeHas most) found →
    If (NodesHave most) (by_header k edit nodes found)
by_header_keeps most k edit nodes None text keeps has is =
    if_map (NodesHave most) (NodesHave most) (edit no_nodes) (λ new. insert k (open_table implicit new) nodes)
    (keeps no_nodes tt) (λ new now. inserted most k (open_table implicit new) nodes text now has)
by_header_keeps most k edit nodes (Some x) text keeps has is =
    if_map (NodeHas most) (NodesHave most) (header_node edit x) (λ new. replace k new nodes)
    (header_keeps most edit keeps x is) (λ new now. replaced most k new nodes now has)

by_dot_keeps : (most : ℕ) (k : List ℕ) (edit : Edit) (nodes : Nodes) (found : Option Node) → IsText most k →
    Keeps most edit → NodesHave most nodes → If (NodeHas most) found → If (NodesHave most) (by_dot k edit nodes found)
by_dot_keeps most k edit nodes None text keeps has is =
    if_map (NodesHave most) (NodesHave most) (edit no_nodes) (λ new. insert k (open_table dotted new) nodes)
    (keeps no_nodes tt) (λ new now. inserted most k (open_table dotted new) nodes text now has)
by_dot_keeps most k edit nodes (Some x) text keeps has is =
    if_map (NodeHas most) (NodesHave most) (dot_node edit x) (λ new. replace k new nodes)
    (dot_keeps most edit keeps x is) (λ new now. replaced most k new nodes now has)

along_header_keeps : (most : ℕ) (path : List (List ℕ)) (edit : Edit) → AllByRecursion (IsText most) path →
    Keeps most edit → Keeps most (along_header path edit)
unfolding along_header
along_header_keeps most [] edit all keeps nodes has = keeps nodes has
along_header_keeps most (k ∷ path) edit all keeps nodes has =
    by_header_keeps most k (along_header path edit) nodes (get_node k nodes) all.0
    (along_header_keeps most path edit all.1 keeps) has (got_node most k nodes has)

along_dots_keeps : (most : ℕ) (path : List (List ℕ)) (edit : Edit) → AllByRecursion (IsText most) path →
    Keeps most edit → Keeps most (along_dots path edit)
unfolding along_dots
along_dots_keeps most [] edit all keeps nodes has = keeps nodes has
along_dots_keeps most (k ∷ path) edit all keeps nodes has =
    by_dot_keeps most k (along_dots path edit) nodes (get_node k nodes) all.0
    (along_dots_keeps most path edit all.1 keeps) has (got_node most k nodes has)

abbrev DefinitionHas : ℕ → Definition → Type 0
DefinitionHas most (key_value d) = HasTexts most d
DefinitionHas most std_table = ⊤
DefinitionHas most array_table = ⊤

new_has : (most : ℕ) (what : Definition) → DefinitionHas most what → NodeHas most (new_node what)
new_has most (key_value d) has = has
new_has most std_table has = tt
new_has most array_table has = (tt, tt)

redefined : (most : ℕ) (what : Definition) (x : Node) → NodeHas most x → If (NodeHas most) (redefine what x)
redefined most (key_value d) (value e) has = tt
redefined most (key_value d) (open_table origin inner) has = tt
redefined most (key_value d) (open_array done last) has = tt
redefined most std_table (value e) has = tt
redefined most std_table (open_table implicit inner) has = has
redefined most std_table (open_table dotted inner) has = tt
redefined most std_table (open_table header inner) has = tt
redefined most std_table (open_array done last) has = tt
redefined most array_table (value e) has = tt
redefined most array_table (open_table origin inner) has = tt
redefined most array_table (open_array done last) has =
    (pushed most done (table (close last)) has.0 (closed most last has.1), tt)

found_keeps : (most : ℕ) (k : List ℕ) (what : Definition) (nodes : Nodes) (found : Option Node) → IsText most k →
    DefinitionHas most what → NodesHave most nodes → If (NodeHas most) found →
    If (NodesHave most) (at_found k what nodes found)
found_keeps most k what nodes None text is has x_is =
    inserted most k (new_node what) nodes text (new_has most what is) has
found_keeps most k what nodes (Some x) text is has x_is =
    if_map (NodeHas most) (NodesHave most) (redefine what x) (λ y. replace k y nodes) (redefined most what x x_is)
    (λ y now. replaced most k y nodes now has)

at_key_keeps : (most : ℕ) (k : List ℕ) (what : Definition) → IsText most k → DefinitionHas most what →
    Keeps most (at_key k what)
unfolding at_key
at_key_keeps most k what text is nodes has =
    found_keeps most k what nodes (get_node k nodes) text is has (got_node most k nodes has)

put_keeps : (most : ℕ) (parts : Key) (d : Data) → IsKey most parts → HasTexts most d → Keeps most (put parts d)
put_keeps most parts d is has =
    along_dots_keeps most parts.0 (at_key parts.1 (key_value d)) is.0 (at_key_keeps most parts.1 (key_value d) is.1 has)

-- ---- values

abbrev ValueReads : ℕ → (List ℕ → Read Data) → Type 0
ValueReads most read = (text : List ℕ) → IsText most text → If (Reads (HasTexts most) most) (read text)

after_element_read : (most closing : ℕ) (text : List ℕ) → IsText most text →
    If (IsText most) (after_element closing text)
unfolding after_element
after_element_read most closing text has =
    let rest = skip_blank text in
    let left = skip_blank_text most text has in
    by_test (If (IsText most)) (first rest == 44) (Some (drop 1 rest))
    (if first rest == closing then Some rest else None)
    (λ comma. drop_one most rest (is_byte (first rest) 44 (lit< tt) comma) left)
    (λ _. by_test (If (IsText most)) (first rest == closing) (Some rest) None (λ _. left) (λ _. tt))

key_equals_read : (most : ℕ) (text : List ℕ) → IsText most text → If (Reads (IsKey most) most) (key_equals text)
unfolding key_equals
key_equals_read most text has =
    if_then (Reads (IsKey most) most) (Reads (IsKey most) most) (key text)
    (λ k. option_map (λ rest. (k.0, skip_ws rest)) (after_byte 61 k.1)) (key_read most text has)
    (λ k is. if_map (IsText most) (Reads (IsKey most) most) (after_byte 61 k.1) (λ rest. (k.0, skip_ws rest))
    (after_byte_read most 61 k.1 (lit< tt) is.1) (λ rest left. (is.0, skip_ws_text most rest left)))

abbrev IsPair : ℕ → Key × Data → Type 0
IsPair most pair = IsKey most pair.0 × HasTexts most pair.1

module _ (most : ℕ) (read : List ℕ → Read Data) (reads : ValueReads most read) where
  keyval_read : (text : List ℕ) → IsText most text → If (Reads (IsPair most) most) (keyval read text)
  keyval_read text has =
      if_then (Reads (IsKey most) most) (Reads (IsPair most) most) (key_equals text)
      (λ k. read_map (λ d. (k.0, d)) (read k.1)) (key_equals_read most text has)
      (λ k is. if_map (Reads (HasTexts most) most) (Reads (IsPair most) most) (read k.1) (λ p. ((k.0, p.0), p.1))
      (reads k.1 is.1) (λ p now. ((is.0, now.0), now.1)))

  items_read : (n : ℕ) (found : Items) (text : List ℕ) → HaveTexts most found → IsText most text →
      If (Reads (HaveTexts most) most) (items read n found text)
  unfolding items
  items_read zero found text all has = tt
  items_read (suc n) found text all has =
      let start = skip_blank text in
      let left = skip_blank_text most text has in
      by_test (If (Reads (HaveTexts most) most)) (first start == 93) (Some (found, drop 1 start))
      (option_and_then (λ v. option_and_then (items read n (push_item found v.0)) (after_element 93 v.1)) (read start))
      (λ close_it. (all, drop_one most start (is_byte (first start) 93 (lit< tt) close_it) left))
      (λ _. if_then (Reads (HasTexts most) most) (Reads (HaveTexts most) most) (read start) _ (reads start left)
      (λ v is. if_then (IsText most) (Reads (HaveTexts most) most) (after_element 93 v.1)
      (items read n (push_item found v.0)) (after_element_read most 93 v.1 is.1)
      (λ rest now. items_read n (push_item found v.0) rest (pushed most found v.0 all is.0) now)))

  members_read : (n : ℕ) (found : Nodes) (text : List ℕ) → NodesHave most found → IsText most text →
      If (Reads (AreTexts most) most) (members read n found text)
  unfolding members
  members_read zero found text all has = tt
  members_read (suc n) found text all has =
      let start = skip_blank text in
      let left = skip_blank_text most text has in
      by_test (If (Reads (AreTexts most) most)) (first start == 125) (Some (close found, drop 1 start))
      (option_and_then (λ e. option_and_then (λ more. option_and_then (members read n more) (after_element 125 e.1))
      (put e.0.0 e.0.1 found)) (keyval read start))
      (λ close_it. (closed most found all, drop_one most start (is_byte (first start) 125 (lit< tt) close_it) left))
      (λ _. if_then (Reads (IsPair most) most) (Reads (AreTexts most) most) (keyval read start) _
      (keyval_read start left)
      (λ e is. if_then (NodesHave most) (Reads (AreTexts most) most) (put e.0.0 e.0.1 found) _
      (put_keeps most e.0.0 e.0.1 is.0.0 is.0.1 found all)
      (λ more now. if_then (IsText most) (Reads (AreTexts most) most) (after_element 125 e.1) (members read n more)
      (after_element_read most 125 e.1 is.1) (λ rest later. members_read n more rest now later))))

value_reads : (most depth : ℕ) → ValueReads most (val depth)
unfolding val
value_reads most zero text has = atom_read most text has
value_reads most (suc depth) text has =
    by_test (If (Reads (HasTexts most) most)) (first text == 91)
    (read_map array (items (val depth) (length text) no_items (drop 1 text)))
    (if first text == 123 then read_map table (members (val depth) (length text) no_nodes (drop 1 text)) else atom text)
    (λ bracket. if_map (Reads (HaveTexts most) most) (Reads (HasTexts most) most)
    (items (val depth) (length text) no_items (drop 1 text)) (λ p. (array p.0, p.1))
    (items_read most (val depth) (value_reads most depth) (length text) no_items (drop 1 text) tt
    (drop_one most text (is_byte (first text) 91 (lit< tt) bracket) has)) (λ p now. now))
    (λ _. by_test (If (Reads (HasTexts most) most)) (first text == 123)
    (read_map table (members (val depth) (length text) no_nodes (drop 1 text))) (atom text)
    (λ brace. if_map (Reads (AreTexts most) most) (Reads (HasTexts most) most)
    (members (val depth) (length text) no_nodes (drop 1 text)) (λ p. (table p.0, p.1))
    (members_read most (val depth) (value_reads most depth) (length text) no_nodes (drop 1 text) tt
    (drop_one most text (is_byte (first text) 123 (lit< tt) brace) has)) (λ p now. now))
    (λ _. atom_read most text has))

-- ---- lines

abbrev IsExpression : ℕ → Expression → Type 0
IsExpression most e = IsKey most e.0 × DefinitionHas most e.1

header_key_read : (most : ℕ) (text : List ℕ) → IsText most text → If (Reads (IsKey most) most) (header_key text)
unfolding header_key
header_key_read most text has =
    if_then (Reads (IsKey most) most) (Reads (IsKey most) most) (key (skip_ws text))
    (λ k. option_map (λ rest. (k.0, rest)) (after_byte 93 k.1))
    (key_read most (skip_ws text) (skip_ws_text most text has))
    (λ k is. if_map (IsText most) (Reads (IsKey most) most) (after_byte 93 k.1) (λ rest. (k.0, rest))
    (after_byte_read most 93 k.1 (lit< tt) is.1) (λ rest left. (is.0, left)))

expression_read : (most : ℕ) (text : List ℕ) → IsText most text →
    If (Reads (IsExpression most) most) (expression text)
unfolding expression
expression_read most text has =
    by_test (If (Reads (IsExpression most) most)) (first text == 91 && slice_index text 1 == 91)
    (option_and_then (λ k. option_map (λ rest. ((k.0, array_table), rest)) (after_byte 93 k.1))
    (header_key (drop 2 text)))
    (if first text == 91 then read_map (λ k. (k, std_table)) (header_key (drop 1 text))
    else read_map (λ p. (p.0, key_value p.1)) (keyval (val recursion_limit) text))
    (λ both.
    let parts = and_parts (first text == 91) (slice_index text 1 == 91) both in
    if_then (Reads (IsKey most) most) (Reads (IsExpression most) most) (header_key (drop 2 text)) _
    (header_key_read most (drop 2 text) (drop_two most text (is_byte (first text) 91 (lit< tt) parts.0)
    (is_byte (slice_index text 1) 91 (lit< tt) parts.1) has))
    (λ k is. if_map (IsText most) (Reads (IsExpression most) most) (after_byte 93 k.1)
    (λ rest. ((k.0, array_table), rest)) (after_byte_read most 93 k.1 (lit< tt) is.1)
    (λ rest left. ((is.0, tt), left))))
    (λ _. by_test (If (Reads (IsExpression most) most)) (first text == 91)
    (read_map (λ k. (k, std_table)) (header_key (drop 1 text)))
    (read_map (λ p. (p.0, key_value p.1)) (keyval (val recursion_limit) text))
    (λ bracket. if_map (Reads (IsKey most) most) (Reads (IsExpression most) most) (header_key (drop 1 text))
    (λ p. ((p.0, std_table), p.1))
    (header_key_read most (drop 1 text) (drop_one most text (is_byte (first text) 91 (lit< tt) bracket) has))
    (λ p now. ((now.0, tt), now.1)))
    (λ _. if_map (Reads (IsPair most) most) (Reads (IsExpression most) most) (keyval (val recursion_limit) text)
    (λ p. ((p.0.0, key_value p.0.1), p.1))
    (keyval_read most (val recursion_limit) (value_reads most recursion_limit) text has) (λ p now. now)))

line_read : (most : ℕ) (text : List ℕ) → IsText most text → If (Reads (IsExpression most) most) (line text)
unfolding line
line_read most text has =
    if_then (Reads (IsExpression most) most) (Reads (IsExpression most) most) (expression text)
    (λ e. if ends_line (skip_ws e.1) then Some e else None) (expression_read most text has)
    (λ e is. by_test (If (Reads (IsExpression most) most)) (ends_line (skip_ws e.1)) (Some e) None (λ _. is) (λ _. tt))

abbrev DocumentHas : ℕ → Document → Type 0
DocumentHas most doc = NodesHave most doc.0 × AllByRecursion (IsText most) doc.1

header_defined : (most : ℕ) (doc : Document) (parts : Key) (what : Definition) → DocumentHas most doc →
    IsKey most parts → DefinitionHas most what →
    If (DocumentHas most) (option_map (λ root. (root, parts.0 ++ parts.1 ∷ []))
    (along_header parts.0 (at_key parts.1 what) doc.0))
header_defined most doc parts what has is what_is =
    if_map (NodesHave most) (DocumentHas most) (along_header parts.0 (at_key parts.1 what) doc.0)
    (λ root. (root, parts.0 ++ parts.1 ∷ []))
    (along_header_keeps most parts.0 (at_key parts.1 what) is.0
    (at_key_keeps most parts.1 what is.1 what_is) doc.0 has.0)
    (λ root now. (now, all_push (IsText most) parts.0 parts.1 is.0 is.1))

defined_as : (most : ℕ) (doc : Document) (parts : Key) (what : Definition) → DocumentHas most doc → IsKey most parts →
    DefinitionHas most what → If (DocumentHas most) (define_as doc parts what)
defined_as most doc parts (key_value d) has is what_is =
    if_map (NodesHave most) (DocumentHas most) (along_header doc.1 (put parts d) doc.0) (λ root. (root, doc.1))
    (along_header_keeps most doc.1 (put parts d) has.1 (put_keeps most parts d is what_is) doc.0 has.0)
    (λ root now. (now, has.1))
defined_as most doc parts std_table has is what_is = header_defined most doc parts std_table has is tt
defined_as most doc parts array_table has is what_is = header_defined most doc parts array_table has is tt

defined : (most : ℕ) (doc : Document) (e : Expression) → DocumentHas most doc → IsExpression most e →
    If (DocumentHas most) (define doc e)
unfolding define
defined most doc e has is = defined_as most doc e.0 e.1 has is.0 is.1

lines_read : (most n : ℕ) (doc : Document) (text : List ℕ) → DocumentHas most doc → IsText most text →
    If (DocumentHas most) (lines n doc text)
unfolding lines
lines_read most zero doc text has is = tt
lines_read most (suc n) doc text has is =
    let start = skip_blank text in
    let left = skip_blank_text most text is in
    by_test (If (DocumentHas most)) (length start == 0) (Some doc)
    (option_and_then (λ e. option_and_then (λ next. lines n next e.1) (define doc e.0)) (line start))
    (λ _. has)
    (λ _. if_then (Reads (IsExpression most) most) (DocumentHas most) (line start) _ (line_read most start left)
    (λ e now. if_then (DocumentHas most) (DocumentHas most) (define doc e.0) (λ next. lines n next e.1)
    (defined most doc e.0 has now.0) (λ next later. lines_read most n next e.1 later now.1)))

without_bom : (most : ℕ) (text : List ℕ) → IsText most text → IsText most (skip_bom text)
unfolding skip_bom
without_bom most text is =
    by_test (IsText most) ((first text == 0xEF && slice_index text 1 == 0xBB) && slice_index text 2 == 0xBF)
    (drop 3 text)
    text
    (λ mark. (IsUtf8-drop text 3 is.0 (bom_boundary text is.0 mark), omega (arith, length-drop 3 text, is.1)))
    (λ _. is)

document_read : (most : ℕ) (text : List ℕ) → IsText most text → If (AreTexts most) (parse_document text)
unfolding parse_document
document_read most text is =
    if_map (DocumentHas most) (AreTexts most) (lines (suc (length text)) (no_nodes, []) (skip_bom text))
    (λ doc. close doc.0)
    (lines_read most (suc (length text)) (no_nodes, []) (skip_bom text) (tt, tt) (without_bom most text is))
    (λ doc now. closed most doc.0 now.0)

pub document_texts : (bytes : List ℕ) (file : Members) → IsDocument bytes file → AreTexts HOSTS_BYTES file
document_texts bytes file is =
    let P : Option Members → Type 0 = If (AreTexts HOSTS_BYTES) in
    subst P is.reads (document_read HOSTS_BYTES bytes (is.text, is.few))
