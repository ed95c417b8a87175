-- Where something is due there is a token to come, so nothing is due after a whole program.
use Rattle.std.proofs.Common.{◌≡◌, ◌≢◌, inl, inr, ℕ, true, false, List, [], ◌∷◌, ◌++◌, refl, ap, sym, ◌∙◌}
use Rattle.std.proofs.Common.{Option, Some, None}
use Rattle.std.proofs.lemmas.List.{append-nil}
use Rattle.jif_lex.specs.declared.token.Token.{Token}
use Rattle.jif_lex.specs.declared.token.TokenKind.{TokenKind}
use Rattle.jif_lex.specs.declared.token.TokenKind.TheVariants as token
use Rattle.jif_lex.specs.declared.token.Symbol.TheVariants as symbols
use Rattle.label_lattice.specs.Written.{Part, policy, trust, symbol, kinds}
use Rattle.jif_grammar.specs.Phrases.{LabelPhrase, ExprPhrase, number, variable, element, parenthesized, signed, binary}
use Rattle.jif_grammar.specs.Phrases.{relabelled, BlockPhrase, end, FieldEnd, unset, sized, set, ParamPhrase}
use Rattle.jif_grammar.specs.Phrases.{ProgramPhrase}
use Rattle.jif_grammar.specs.Operators.{operator_symbol}
use Rattle.jif_grammar.specs.Due as due
use Rattle.jif_grammar.specs.Due.{Due, Closing, Place, due_after}
use Rattle.jif_grammar.specs.Programs.{Spells}
use Rattle.jif_grammar.specs.Unmarked.{joined_then, name_then, names_then, part_then, expr_then, args_then}
use Rattle.jif_grammar.specs.Unmarked.{block_then, field_end_then, param_then, params_then, authority_then}
use Rattle.jif_grammar.specs.Unmarked.{optional_label_then, program_then}
use Rattle.jif_grammar.proofs.Continued.{program_unmarked}
use Rattle.jif_grammar.proofs.Groups.{Link}
use Rattle.jif_grammar.proofs.OneExpr.{links_then}
use Rattle.jif_grammar.proofs.Written.{joined_more, more_then, more_names, more_parts, Closes}
use Rattle.jif_grammar.proofs.Written.{WrittenAfterName, EndsAt}
use Rattle.jif_grammar.proofs.Written.{Written, WrittenFrom}
use Rattle.jif_grammar.proofs.DueLaws.{run_progress, run_sound, from_program}

-- ---- phrases have a token

some_expr : (e : ExprPhrase) (r : List TokenKind) → [] ≢ expr_then e r
some_expr (number n) r is = cc
some_expr (variable name) r is = cc
some_expr (element name index) r is = cc
some_expr (parenthesized inner) r is = cc
some_expr (signed sign operand) r is = cc
some_expr (binary o left right) r is = some_expr left (symbol (operator_symbol o) ∷ expr_then right r) is
some_expr (relabelled change inner label) r is = cc

some_part : (part : Part) (parts : LabelPhrase) (r : List TokenKind) →
    [] ≢ joined_then (symbol symbols.Semicolon) part_then (part ∷ parts) r
some_part (policy owner readers) parts r is =
    let whole = is ∙ joined_more (symbol symbols.Semicolon) part_then (policy owner readers) parts r in
    cc
some_part (trust members) parts r is =
    let whole = is ∙ joined_more (symbol symbols.Semicolon) part_then (trust members) parts r in
    cc

some_parts : (parts : LabelPhrase) (r : List TokenKind) →
    [] ≢ joined_then (symbol symbols.Semicolon) part_then parts (symbol symbols.RightBrace ∷ r)
some_parts [] r is = cc
some_parts (part ∷ parts) r is = some_part part parts (symbol symbols.RightBrace ∷ r) is

some_more : {X : Type 0} (separator : TokenKind) (item_then : X → List TokenKind → List TokenKind) (items : List X)
    (kind : TokenKind) (r : List TokenKind) → [] ≢ more_then separator item_then items (kind ∷ r)
some_more separator item_then [] kind r is = cc
some_more separator item_then (item ∷ items) kind r is = cc

some_names : (names : List (List ℕ)) (kind : TokenKind) (r : List TokenKind) → [] ≢ names_then names (kind ∷ r)
some_names [] kind r is = cc
some_names (name ∷ names) kind r is =
    let whole = is ∙ joined_more (symbol symbols.Comma) name_then name names (kind ∷ r) in
    cc

some_readers : (names : List (List ℕ)) (parts : LabelPhrase) (r : List TokenKind) →
    [] ≢ names_then names (more_parts parts r)
some_readers [] parts r is = some_more (symbol symbols.Semicolon) part_then parts (symbol symbols.RightBrace) r is
some_readers (name ∷ names) parts r is =
    let whole = is ∙ joined_more (symbol symbols.Comma) name_then name names (more_parts parts r) in
    cc

some_more_readers : (names : List (List ℕ)) (parts : LabelPhrase) (r : List TokenKind) →
    [] ≢ more_names names (more_parts parts r)
some_more_readers [] parts r is =
    some_more (symbol symbols.Semicolon) part_then parts (symbol symbols.RightBrace) r is
some_more_readers (name ∷ names) parts r is = cc

some_params : (params : List ParamPhrase) (kind : TokenKind) (r : List TokenKind) → [] ≢ params_then params (kind ∷ r)
some_params [] kind r is = cc
some_params (param ∷ params) kind r is =
    let whole = is ∙ joined_more (symbol symbols.Comma) param_then param params (kind ∷ r) in
    cc

some_args : (args : List ExprPhrase) (kind : TokenKind) (r : List TokenKind) → [] ≢ args_then args (kind ∷ r)
some_args [] kind r is = cc
some_args (arg ∷ args) kind r is =
    some_expr arg _ (is ∙ joined_more (symbol symbols.Comma) expr_then arg args (kind ∷ r))

some_authority : (names : List (List ℕ)) (kind : TokenKind) (r : List TokenKind) →
    [] ≢ authority_then names (kind ∷ r)
some_authority [] kind r is = cc
some_authority (name ∷ names) kind r is = cc

some_closing : (closing : Closing) (r rest : List TokenKind) → Closes closing r rest → [] ≢ r
some_closing due.at_semicolon r rest closes is = let whole = is ∙ closes in cc
some_closing due.at_comma r rest closes is = let whole = is ∙ closes in cc
some_closing due.at_bracket r rest closes is = let whole = is ∙ closes in cc
some_closing due.at_parenthesis r rest closes is = let whole = is ∙ closes in cc
some_closing due.at_argument r rest closes is =
    some_more (symbol symbols.Comma) expr_then closes.0 (symbol symbols.RightParenthesis) rest (is ∙ closes.2)

some_links : (closing : Closing) (links : List Link) (r rest : List TokenKind) → Closes closing r rest →
    [] ≢ links_then links r
some_links closing [] r rest closes is = some_closing closing r rest closes is
some_links closing (l ∷ links) r rest closes is = cc

some_end : (place : Place) (r rest : List TokenKind) → EndsAt place r rest → [] ≢ r
some_end due.nested r rest ends is = let whole = is ∙ ends in cc
some_end due.body r rest (None, sound, ends) is = let whole = is ∙ ends in cc
some_end due.body r rest (Some value, sound, ends) is = let whole = is ∙ ends in cc

some_block : (place : Place) (block : BlockPhrase) (r rest : List TokenKind) → EndsAt place r rest →
    [] ≢ block_then block r
some_block place end r rest ends is = some_end place r rest ends is
some_block place _ r rest ends is = cc

some_after_name : (closing : Closing) (rest : List TokenKind) → ¬ WrittenAfterName closing [] rest
some_after_name closing rest (inl w) = some_links closing w.links w.behind rest w.closes w.written
some_after_name closing rest (inr w) = let is = w.written in cc

some_field_end : (ending : FieldEnd) (r : List TokenKind) → [] ≢ field_end_then ending r
some_field_end unset r is = cc
some_field_end (sized size) r is = cc
some_field_end (set negative first) r is = cc

some_written : (first : Due) (rest : List TokenKind) → ¬ Written first [] rest
some_written (due.exactly fixed) rest w = cc
some_written due.int_word rest w = cc
some_written due.authority_word rest w = cc
some_written due.a_name rest (name, is) = cc
some_written due.a_number rest (n, is) = cc
some_written due.a_size rest (n, is) = cc
some_written due.after_name rest (inl (ending, sound, is)) = some_field_end ending rest is
some_written due.after_name rest (inr w) = let is = w.written in cc
some_written due.first_value rest (true, n, is) = cc
some_written due.first_value rest (false, n, is) = cc
some_written due.label rest (label, sound, is) = cc
some_written due.first_part rest (label, sound, is) = some_parts label rest is
some_written due.a_part rest (part, parts, sound, is) = some_part part parts (symbol symbols.RightBrace ∷ rest) is
some_written due.readers rest (names, parts, sound, is) = some_readers names parts rest is
some_written due.after_reader rest (names, parts, sound, is) = some_more_readers names parts rest is
some_written due.members rest (names, is) = some_names names (symbol symbols.RightBrace) rest is
some_written due.after_member rest (names, is) =
    some_more (symbol symbols.Comma) name_then names (symbol symbols.RightBrace) rest is
some_written due.params rest (params, sound, is) = some_params params (symbol symbols.RightParenthesis) rest is
some_written due.after_param rest (params, sound, is) =
    some_more (symbol symbols.Comma) param_then params (symbol symbols.RightParenthesis) rest is
some_written due.authority rest (names, is) = some_authority names (symbol symbols.LeftBrace) rest is
some_written due.after_principal rest (names, is) =
    some_more (symbol symbols.Comma) name_then names (symbol symbols.RightParenthesis)
    (symbol symbols.LeftBrace ∷ rest) is
some_written (due.statements place) rest w = some_block place w.block w.behind rest w.ends w.written
some_written (due.otherwise place) rest (inl w) = let is = w.written in cc
some_written (due.otherwise place) rest (inr w) = some_block place w.block w.behind rest w.ends w.written
some_written due.after_int rest w = by_label w.label w.written
  where
    by_label : (label : Option LabelPhrase) →
        [] ≢ optional_label_then label (token.Name w.name ∷ w.behind)
    by_label None is = cc
    by_label (Some label) is = cc
some_written due.after_first_name rest (inl w) = let is = w.written in cc
some_written due.after_first_name rest (inr (inl w)) = let is = w.written in cc
some_written due.after_first_name rest (inr (inr w)) = let is = w.written in cc
some_written due.value rest (inl w) = some_expr w.expr w.behind w.written
some_written due.value rest (inr w) = let is = w.written in cc
some_written due.after_value_name rest (inl w) = some_after_name due.at_semicolon rest w
some_written due.after_value_name rest (inr w) = let is = w.written in cc
some_written due.args rest (args, sound, is) = some_args args (symbol symbols.RightParenthesis) rest is
some_written (due.operand closing) rest w = some_expr w.expr w.behind w.written
some_written (due.after_operand_name closing) rest w = some_after_name closing rest w
some_written (due.links closing) rest w = some_links closing w.links w.behind rest w.closes w.written

-- ---- whole programs

nothing_due : (first : List Due) → WrittenFrom first [] → first ≡ []
nothing_due [] w = refl
nothing_due (one ∷ later) w =
    let (x, v, more) = w.written in
    absurd (some_written one x v)

pub nothing_due_at_end : (tokens : List Token) (program : ProgramPhrase) → Spells tokens program →
    due_after (kinds tokens) ≡ Some []
nothing_due_at_end tokens program spells =
    let whole : kinds tokens ++ [] ≡ program_then program [] =
    append-nil (kinds tokens) ∙ spells.written ∙ program_unmarked program in
    let (new, is, w) = run_progress (kinds tokens) [] []
    (from_program (kinds tokens ++ []) program spells.is_program whole) in
    is ∙ ap Some (nothing_due new w)

pub program_of_nothing_due : (tokens : List Token) → due_after (kinds tokens) ≡ Some [] →
    (program : ProgramPhrase) × Spells tokens program
program_of_nothing_due tokens is =
    let whole = run_sound (kinds tokens) [] [] [] is (from_program [] [] tt refl) in (
      whole.items,
      record {
        is_program = whole.sound;
        written = sym (append-nil (kinds tokens)) ∙ whole.written ∙ whole.is ∙ sym (program_unmarked whole.items);
      },
    )
