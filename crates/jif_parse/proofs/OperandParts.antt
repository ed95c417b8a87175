-- Operands: what each begins with, and what is due behind it.
use Rattle.std.proofs.Common.{◌≡◌, ℕ, ℤ, suc, pos, ◌+◌, List, [], ◌∷◌, ◌++◌, Some, None, refl, ap, sym, subst, ◌∙◌}
use Rattle.std.proofs.Common.{arith}
use Rattle.std.proofs.Math.Numerals.{add-one}
use Rattle.jif_lex.specs.declared.token.Token.{Token}
use Rattle.jif_lex.specs.declared.token.TokenKind.{TokenKind}
use Rattle.jif_lex.specs.declared.token.TokenKind.TheVariants as token
use Rattle.jif_lex.specs.declared.token.Symbol.TheVariants as symbols
use Rattle.label_lattice.specs.Written.{kinds, symbol}
use Rattle.jif_grammar.specs.Phrases as phrases
use Rattle.jif_grammar.specs.Phrases.{ExprPhrase, number, variable, element, parenthesized, signed, relabelled}
use Rattle.jif_grammar.specs.Operators.{sign_symbol, change_word}
use Rattle.jif_grammar.specs.Due as due
use Rattle.jif_grammar.specs.Due.{Due, Closing, at_comma, at_bracket, at_parenthesis, operand, links}
use Rattle.jif_grammar.specs.Due.{after_operand_name}
use Rattle.jif_grammar.specs.Due.{exactly, left_parenthesis, right_parenthesis, due_after_token, relabelled_operand}
use Rattle.jif_grammar.specs.Marks.{nothing, node, mark}
use Rattle.jif_grammar.specs.Nesting.{Nested, nested_at, marked_by, nested_after}
use Rattle.jif_grammar.specs.DraftShapes.{expr_shape, number_shape, variable_shape, element_shape, label_shape}
use Rattle.jif_grammar.specs.DraftShapes.{name_shape}
use Rattle.jif_grammar.specs.Drafts.{expr_at, expr_width, label_at, label_width, name_at, signed_shape}
use Rattle.jif_grammar.specs.Drafts.{relabelled_shape}
use Rattle.jif_grammar.specs.Unmarked.{expr_then, label_then}
use Rattle.jif_tree.specs.declared.draft.ExprDraft as code
use Rattle.jif_tree.specs.declared.draft.ExprDraft.{ExprDraft}
use Rattle.jif_tree.specs.declared.draft.LabelDraft.{LabelDraft}
use Rattle.jif_tree.specs.declared.draft.NameDraft.{NameDraft}
use Rattle.jif_parse.specs.declared.cursor.Cursor.{Cursor}
use Rattle.jif_parse.specs.declared.parse_error.ParseError.{ParseError}
use Rattle.jif_parse.specs.declared.parse_error.ParseError.TheVariants as fault
use Rattle.jif_parse.specs.Reading.{behind, IsNext, IsNextKind, IsNextSymbol, Counted, IsOver, Takes}
use Rattle.jif_parse.specs.Phrases.{PassesSymbol, operand_due, links_due, StopsAt, ReadsExpr, FailsExpr, ReadsUpTo}
use Rattle.jif_parse.specs.Phrases.{FailsUpTo, ReadsLabel, FailsLabel}
use Rattle.jif_parse.proofs.Taking.{takes_then, takes_before, fails_then, fails_before, fails_at_limit}
use Rattle.jif_parse.proofs.Moving.{stepped, moves_then, moves_as, takes_counted, fails_other}
use Rattle.jif_parse.proofs.Fixed.{step_symbol, takes_fixed, fails_fixed}
use Rattle.jif_parse.proofs.BehindOperands.{below_tightest, takes_as_links}
use Rattle.jif_parse.proofs.Exprs.{width_element, width_parenthesized, width_signed, width_relabelled}

abbrev operand_at : Closing → ℕ → ℕ → Nested
operand_at closing depth inner = record { due = operand closing; depth = depth; inner = inner }

abbrev name_due : Closing → ℕ → ℕ → Nested
name_due closing depth inner = record { due = after_operand_name closing; depth = depth; inner = inner }

stops_tight : (cursor : Cursor) → StopsAt 6 cursor
stops_tight cursor operator is = below_tightest operator

-- ---- numbers and variables

pub number_read : {old new : Cursor} {depth inner : ℕ} (draft : ExprDraft) (first : Token) (n : ℤ) (m : ℕ) →
    IsNext old first → first.kind ≡ token.Number n → n ≡ pos m → expr_shape draft ≡ number_shape n →
    Counted old new inner node → ReadsExpr old new 6 depth inner draft
number_read {old} {new} {depth} {inner} draft first n m next is value shape counted =
    let known : IsNextKind old (token.Number (pos m)) =
    ap kinds next ∙ ap (λ k. k ∷ kinds (behind old)) (is ∙ ap token.Number value) in
    let one = stepped (token.Number (pos m)) known counted.steps in
    record {
      expr = number m;
      grouped = tt;
      tight = omega arith;
      written = one.is_next;
      draft_is = shape ∙ ap number_shape value;
      moves = one.moves;
      stops = stops_tight new;
      takes = λ closing.
          takes_counted (operand_at closing depth inner) (token.Number (pos m)) (links closing ∷ []) inner node known
          counted refl refl;
    }

takes_word : {old new : Cursor} (closing : Closing) (depth inner : ℕ) (name : List ℕ) →
    IsNextKind old (token.Name name) → Counted old new inner node →
    Takes old new (operand_due closing depth inner) (name_due closing depth inner ∷ [])
takes_word closing depth inner name is counted =
    takes_counted (operand_at closing depth inner) (token.Name name) (after_operand_name closing ∷ []) inner node is
    counted
    refl refl

pub variable_read : {old new : Cursor} {depth inner : ℕ} (name : List ℕ) (draft : NameDraft) →
    IsNextKind old (token.Name name) → Counted old new inner node → name_shape draft ≡ name_at old.at name →
    ¬ IsNextSymbol new symbols.LeftBracket → ReadsExpr old new 6 depth inner (code.Name draft)
variable_read {old} {new} {depth} {inner} name draft is counted named other =
    let one = stepped (token.Name name) is counted.steps in
    record {
      expr = variable name;
      grouped = tt;
      tight = omega arith;
      written = one.is_next;
      draft_is = ap variable_shape named;
      moves = one.moves;
      stops = stops_tight new;
      takes = λ closing.
          takes_then (takes_word closing depth inner name is counted) (takes_as_links new closing depth inner other);
    }

-- ---- elements

takes_bracket : {old new : Cursor} (closing : Closing) (depth inner : ℕ) → IsNextSymbol old symbols.LeftBracket →
    Counted old new (inner + 1) nothing →
    Takes old new (name_due closing depth inner ∷ [])
    (operand_due at_bracket (inner + 1) (inner + 1) ++ links_due closing depth)
takes_bracket {old} {new} closing depth inner is counted =
    subst (λ n. Takes old new (name_due closing depth inner ∷ []) (operand_due at_bracket n n
    ++ links_due closing depth))
    (sym (add-one inner))
    (takes_counted (name_due closing depth inner) (symbol symbols.LeftBracket) (operand at_bracket ∷ links closing ∷ [])
    (inner + 1) nothing is counted refl (ap (λ n. mark nothing n (symbol symbols.LeftBracket)) (sym (add-one inner))))

pub bracket_over : {old now : Cursor} {depth inner : ℕ} {error : ParseError} (name : List ℕ) →
    IsNextKind old (token.Name name) → Counted old now inner node → IsNextSymbol now symbols.LeftBracket →
    IsOver now (inner + 1) nothing error → FailsExpr old depth inner error
bracket_over {old} {now} {depth} {inner} name is counted bracket over closing =
    fails_then (takes_word closing depth inner name is counted)
    (fails_at_limit (name_due closing depth inner) (symbol symbols.LeftBracket) (kinds (behind now))
    (operand at_bracket ∷ links closing ∷ []) (inner + 1) nothing bracket over refl
    (ap (λ n. mark nothing n (symbol symbols.LeftBracket)) (sym (add-one inner))))

pub index_fails : {old first second : Cursor} {depth inner : ℕ} {error : ParseError} (name : List ℕ) →
    IsNextKind old (token.Name name) → Counted old first inner node → IsNextSymbol first symbols.LeftBracket →
    Counted first second (inner + 1) nothing → FailsUpTo second at_bracket (inner + 1) error →
    FailsExpr old depth inner error
index_fails {old} {first} {second} {depth} {inner} name is counted bracket opened fails closing =
    fails_then (takes_then (takes_word closing depth inner name is counted)
    (takes_bracket closing depth inner bracket opened)) (fails_before (links_due closing depth) fails)

pub element_read : {old first second new : Cursor} {depth inner : ℕ} {index : ExprDraft} (name : List ℕ)
    (named : NameDraft) (draft : ExprDraft) → IsNextKind old (token.Name name) → Counted old first inner node →
    name_shape named ≡ name_at old.at name → IsNextSymbol first symbols.LeftBracket →
    Counted first second (inner + 1) nothing → ReadsUpTo second new at_bracket (inner + 1) index →
    expr_shape draft ≡ element_shape (name_shape named) (expr_shape index) → ReadsExpr old new 6 depth inner draft
element_read {old} {first} {second} {new} {depth} {inner} {index} name named draft is counted same bracket opened reads
    shape =
    let one = stepped (token.Name name) is counted.steps in
    let two = stepped (symbol symbols.LeftBracket) bracket opened.steps in
    record {
      expr = element name reads.expr;
      grouped = reads.grouped;
      tight = omega arith;
      written =
          one.is_next ∙ ap (λ ks. token.Name name ∷ ks) (two.is_next
          ∙ ap (λ ks. symbol symbols.LeftBracket ∷ ks) reads.written);
      draft_is =
          shape ∙ ap (λ n. element_shape n (expr_shape index)) same
          ∙ ap (element_shape (name_at old.at name)) (reads.draft_is
          ∙ ap (λ n. expr_at n reads.expr) (let e : second.at ≡ old.at + 2 =
          omega (arith, one.moves.at, two.moves.at) in e));
      moves =
          moves_as (expr_width (element name reads.expr))
          (let e : 1 + (1 + (expr_width reads.expr + 1)) ≡ expr_width (element name reads.expr) =
          omega (arith, width_element name reads.expr) in e)
          (moves_then one.moves (moves_then two.moves reads.moves));
      stops = stops_tight new;
      takes = λ closing.
          takes_then (takes_word closing depth inner name is counted)
          (takes_then (takes_bracket closing depth inner bracket opened)
          (takes_before (links_due closing depth) reads.takes));
    }

-- ---- parentheses

takes_open : {old new : Cursor} (closing : Closing) (depth inner : ℕ) → IsNextSymbol old symbols.LeftParenthesis →
    Counted old new (inner + 1) nothing →
    Takes old new (operand_due closing depth inner)
    (operand_due at_parenthesis (inner + 1) (inner + 1) ++ links_due closing depth)
takes_open {old} {new} closing depth inner is counted =
    subst (λ n. Takes old new (operand_due closing depth inner)
    (operand_due at_parenthesis n n ++ links_due closing depth)) (sym (add-one inner))
    (takes_counted (operand_at closing depth inner) (symbol symbols.LeftParenthesis)
    (operand at_parenthesis ∷ links closing ∷ []) (inner + 1) nothing is counted refl
    (ap (λ n. mark nothing n (symbol symbols.LeftParenthesis)) (sym (add-one inner))))

pub parenthesized_fails : {old now : Cursor} {depth inner : ℕ} {error : ParseError} →
    IsNextSymbol old symbols.LeftParenthesis → Counted old now (inner + 1) nothing →
    FailsUpTo now at_parenthesis (inner + 1) error → FailsExpr old depth inner error
parenthesized_fails {old} {now} {depth} {inner} is counted fails closing =
    fails_then (takes_open closing depth inner is counted) (fails_before (links_due closing depth) fails)

pub parenthesized_read : {old now new : Cursor} {depth inner : ℕ} {draft : ExprDraft} →
    IsNextSymbol old symbols.LeftParenthesis → Counted old now (inner + 1) nothing →
    ReadsUpTo now new at_parenthesis (inner + 1) draft → ReadsExpr old new 6 depth inner draft
parenthesized_read {old} {now} {new} {depth} {inner} is counted reads =
    let one = stepped (symbol symbols.LeftParenthesis) is counted.steps in
    record {
      expr = parenthesized reads.expr;
      grouped = reads.grouped;
      tight = omega arith;
      written = one.is_next ∙ ap (λ ks. symbol symbols.LeftParenthesis ∷ ks) reads.written;
      draft_is = reads.draft_is ∙ ap (λ n. expr_at n reads.expr) one.moves.at;
      moves =
          moves_as (expr_width (parenthesized reads.expr))
          (let e : 1 + (expr_width reads.expr + 1) ≡ expr_width (parenthesized reads.expr) =
          omega (arith, width_parenthesized reads.expr) in e) (moves_then one.moves reads.moves);
      stops = stops_tight new;
      takes = λ closing.
          takes_then (takes_open closing depth inner is counted) (takes_before (links_due closing depth) reads.takes);
    }

-- ---- signs

sign_due : (closing : Closing) (sign : phrases.Sign) →
    due_after_token (operand closing) (symbol (sign_symbol sign)) ≡ Some (operand closing ∷ [])
sign_due closing phrases.complement = refl
sign_due closing phrases.minus = refl

sign_marked : (closing : Closing) (depth inner : ℕ) (sign : phrases.Sign) →
    marked_by (operand_at closing depth inner) (symbol (sign_symbol sign))
    ≡ mark node (suc inner) (symbol (sign_symbol sign))
sign_marked closing depth inner phrases.complement = refl
sign_marked closing depth inner phrases.minus = refl

sign_after : (closing : Closing) (depth inner : ℕ) (sign : phrases.Sign) →
    nested_after (operand_at closing depth inner) (symbol (sign_symbol sign)) (operand closing ∷ [])
    ≡ operand_due closing depth (suc inner)
sign_after closing depth inner phrases.complement = refl
sign_after closing depth inner phrases.minus = refl

takes_sign : {old new : Cursor} (closing : Closing) (depth inner : ℕ) (sign : phrases.Sign) →
    IsNextSymbol old (sign_symbol sign) → Counted old new (inner + 1) node →
    Takes old new (operand_due closing depth inner) (operand_due closing depth (inner + 1))
takes_sign {old} {new} closing depth inner sign is counted =
    subst (Takes old new (operand_due closing depth inner))
    (sign_after closing depth inner sign ∙ ap (operand_due closing depth) (sym (add-one inner)))
    (takes_counted (operand_at closing depth inner) (symbol (sign_symbol sign)) (operand closing ∷ [])
    (inner + 1) node is
    counted (sign_due closing sign)
    (sign_marked closing depth inner sign ∙ ap (λ n. mark node n (symbol (sign_symbol sign))) (sym (add-one inner))))

pub signed_fails : {old now : Cursor} {depth inner : ℕ} {error : ParseError} (sign : phrases.Sign) →
    IsNextSymbol old (sign_symbol sign) → Counted old now (inner + 1) node →
    FailsExpr now depth (inner + 1) error → FailsExpr old depth inner error
signed_fails {old} {now} {depth} {inner} sign is counted fails closing =
    fails_then (takes_sign closing depth inner sign is counted) (fails closing)

pub signed_read : {old now new : Cursor} {depth inner : ℕ} {value : ExprDraft} (sign : phrases.Sign)
    (draft : ExprDraft) →
    IsNextSymbol old (sign_symbol sign) → Counted old now (inner + 1) node →
    ReadsExpr now new 6 depth (inner + 1) value → expr_shape draft ≡ signed_shape sign (expr_shape value) →
    ReadsExpr old new 6 depth inner draft
signed_read {old} {now} {new} {depth} {inner} sign draft is counted reads shape =
    let one = stepped (symbol (sign_symbol sign)) is counted.steps in
    record {
      expr = signed sign reads.expr;
      grouped = (reads.tight, reads.grouped);
      tight = omega arith;
      written = one.is_next ∙ ap (λ ks. symbol (sign_symbol sign) ∷ ks) reads.written;
      draft_is = shape ∙ ap (signed_shape sign) (reads.draft_is ∙ ap (λ n. expr_at n reads.expr) one.moves.at);
      moves =
          moves_as (expr_width (signed sign reads.expr))
          (let e : 1 + expr_width reads.expr ≡ expr_width (signed sign reads.expr) =
          omega (arith, width_signed sign reads.expr) in e) (moves_then one.moves reads.moves);
      stops = stops_tight new;
      takes = λ closing. takes_then (takes_sign closing depth inner sign is counted) (reads.takes closing);
    }

-- ---- `declassify` and `endorse`

-- what is due behind the word, and then the label
abbrev value_due : Closing → ℕ → ℕ → List Nested
value_due closing depth deeper =
    nested_at deeper (operand at_comma) ∷ nested_at deeper due.label ∷ nested_at deeper (exactly right_parenthesis)
    ∷ links_due closing depth

change_due : (closing : Closing) (change : phrases.Change) →
    due_after_token (operand closing) (token.Word (change_word change)) ≡ Some (relabelled_operand closing)
change_due closing phrases.release = refl
change_due closing phrases.acceptance = refl

change_marked : (closing : Closing) (depth inner : ℕ) (change : phrases.Change) →
    marked_by (operand_at closing depth inner) (token.Word (change_word change))
    ≡ mark node (suc inner) (token.Word (change_word change))
change_marked closing depth inner phrases.release = refl
change_marked closing depth inner phrases.acceptance = refl

change_after : (closing : Closing) (depth inner : ℕ) (change : phrases.Change) →
    nested_after (operand_at closing depth inner) (token.Word (change_word change)) (relabelled_operand closing)
    ≡ nested_at (suc inner) (exactly left_parenthesis) ∷ value_due closing depth (suc inner)
change_after closing depth inner phrases.release = refl
change_after closing depth inner phrases.acceptance = refl

takes_change : {old new : Cursor} (closing : Closing) (depth inner : ℕ) (change : phrases.Change) →
    IsNextKind old (token.Word (change_word change)) → Counted old new (inner + 1) node →
    Takes old new (operand_due closing depth inner)
    (nested_at (inner + 1) (exactly left_parenthesis) ∷ value_due closing depth (inner + 1))
takes_change {old} {new} closing depth inner change is counted =
    subst (Takes old new (operand_due closing depth inner))
    (change_after closing depth inner change
    ∙ ap (λ n. nested_at n (exactly left_parenthesis) ∷ value_due closing depth n) (sym (add-one inner)))
    (takes_counted (operand_at closing depth inner) (token.Word (change_word change)) (relabelled_operand closing)
    (inner + 1) node is counted (change_due closing change)
    (change_marked closing depth inner change
    ∙ ap (λ n. mark node n (token.Word (change_word change))) (sym (add-one inner))))

takes_change_open : {old first second : Cursor} (closing : Closing) (depth inner : ℕ) (change : phrases.Change) →
    IsNextKind old (token.Word (change_word change)) → Counted old first (inner + 1) node →
    PassesSymbol first second symbols.LeftParenthesis →
    Takes old second (operand_due closing depth inner) (value_due closing depth (inner + 1))
takes_change_open closing depth inner change is counted opens =
    takes_then (takes_change closing depth inner change is counted)
    (takes_before (value_due closing depth (inner + 1))
    (takes_fixed left_parenthesis (inner + 1) counted.nested opens))

pub change_open_fails : {old now : Cursor} {depth inner : ℕ} {error : ParseError} (change : phrases.Change) →
    IsNextKind old (token.Word (change_word change)) → Counted old now (inner + 1) node →
    (error ≡ fault.Unexpected now.at) × ¬ IsNextSymbol now symbols.LeftParenthesis → FailsExpr old depth inner error
change_open_fails {old} {now} {depth} {inner} {error} change is counted other closing =
    fails_then (takes_change closing depth inner change is counted)
    (fails_before (value_due closing depth (inner + 1)) (fails_fixed now error left_parenthesis (inner + 1) other))

-- behind the word and the parenthesis
pub record Opened (old now : Cursor) (inner : ℕ) (change : phrases.Change) : Type 0 where
  pub first : Cursor
  pub is : IsNextKind old (token.Word (change_word change))
  pub counted : Counted old first (inner + 1) node
  pub opens : PassesSymbol first now symbols.LeftParenthesis

pub change_value_fails : {old now : Cursor} {depth inner : ℕ} {error : ParseError} (change : phrases.Change) →
    Opened old now inner change → FailsUpTo now at_comma (inner + 1) error → FailsExpr old depth inner error
change_value_fails {old} {now} {depth} {inner} change opened fails closing =
    fails_then (takes_change_open closing depth inner change opened.is opened.counted opened.opens)
    (fails_before (nested_at (inner + 1) due.label ∷ nested_at (inner + 1) (exactly right_parenthesis)
    ∷ links_due closing depth) fails)

takes_value : {old now new : Cursor} {value : ExprDraft} (closing : Closing) (depth inner : ℕ)
    (change : phrases.Change) → Opened old now inner change → ReadsUpTo now new at_comma (inner + 1) value →
    Takes old new (operand_due closing depth inner)
    (nested_at (inner + 1) due.label ∷ nested_at (inner + 1) (exactly right_parenthesis) ∷ links_due closing depth)
takes_value closing depth inner change opened reads =
    takes_then (takes_change_open closing depth inner change opened.is opened.counted opened.opens)
    (takes_before (nested_at (inner + 1) due.label ∷ nested_at (inner + 1) (exactly right_parenthesis)
    ∷ links_due closing depth) reads.takes)

pub change_label_fails : {old now after : Cursor} {depth inner : ℕ} {value : ExprDraft} {error : ParseError}
    (change : phrases.Change) → Opened old now inner change → ReadsUpTo now after at_comma (inner + 1) value →
    FailsLabel after error → FailsExpr old depth inner error
change_label_fails {old} {now} {after} {depth} {inner} change opened reads fails closing =
    fails_then (takes_value closing depth inner change opened reads)
    (fails_before (nested_at (inner + 1) (exactly right_parenthesis) ∷ links_due closing depth)
    (fails (inner + 1) opened.counted.nested))

takes_label : {old now after new : Cursor} {value : ExprDraft} {label : LabelDraft} (closing : Closing)
    (depth inner : ℕ)
    (change : phrases.Change) → Opened old now inner change → ReadsUpTo now after at_comma (inner + 1) value →
    ReadsLabel after new label →
    Takes old new (operand_due closing depth inner)
    (nested_at (inner + 1) (exactly right_parenthesis) ∷ links_due closing depth)
takes_label closing depth inner change opened reads labelled =
    takes_then (takes_value closing depth inner change opened reads)
    (takes_before (nested_at (inner + 1) (exactly right_parenthesis) ∷ links_due closing depth)
    (labelled.takes (inner + 1) opened.counted.nested))

pub change_end_fails : {old now after last : Cursor} {depth inner : ℕ} {value : ExprDraft} {label : LabelDraft}
    {error : ParseError} (change : phrases.Change) → Opened old now inner change →
    ReadsUpTo now after at_comma (inner + 1) value → ReadsLabel after last label →
    (error ≡ fault.Unexpected last.at) × ¬ IsNextSymbol last symbols.RightParenthesis → FailsExpr old depth inner error
change_end_fails {old} {now} {after} {last} {depth} {inner} {value} {label} {error} change opened reads labelled other
    closing =
    fails_then (takes_label closing depth inner change opened reads labelled)
    (fails_before (links_due closing depth) (fails_fixed last error right_parenthesis (inner + 1) other))

pub relabelled_read : {old now after last new : Cursor} {depth inner : ℕ} {value : ExprDraft} {label : LabelDraft}
    (change : phrases.Change) (draft : ExprDraft) → Opened old now inner change →
    ReadsUpTo now after at_comma (inner + 1) value → ReadsLabel after last label →
    PassesSymbol last new symbols.RightParenthesis →
    expr_shape draft ≡ relabelled_shape change (expr_shape value) (label_shape label) →
    ReadsExpr old new 6 depth inner draft
relabelled_read {old} {now} {after} {last} {new} {depth} {inner} {value} {label} change draft opened reads labelled
    closes
    shape =
    let one = stepped (token.Word (change_word change)) opened.is opened.counted.steps in
    let two = step_symbol opened.opens in
    let four = step_symbol closes in
    record {
      expr = relabelled change reads.expr labelled.label;
      grouped = (reads.grouped, labelled.trust_is_last);
      tight = omega arith;
      written =
          one.is_next ∙ ap (λ ks. token.Word (change_word change) ∷ ks) (two.is_next
          ∙ ap (λ ks. symbol symbols.LeftParenthesis ∷ ks) (reads.written
          ∙ ap (λ ks. expr_then reads.expr (symbol symbols.Comma ∷ ks)) (labelled.written
          ∙ ap (label_then labelled.label) four.is_next)));
      draft_is =
          shape ∙ ap (λ e. relabelled_shape change e (label_shape label)) (reads.draft_is
          ∙ ap (λ n. expr_at n reads.expr) (let e : now.at ≡ old.at + 2 = omega (arith, one.moves.at, two.moves.at) in
          e))
          ∙ ap (relabelled_shape change (expr_at (old.at + 2) reads.expr)) (labelled.draft_is
          ∙ ap (λ n. label_at n labelled.label) (let e : after.at ≡ old.at + 3 + expr_width reads.expr =
          omega (arith, one.moves.at, two.moves.at, reads.moves.at) in e));
      moves =
          moves_as (expr_width (relabelled change reads.expr labelled.label))
          (let e : 1 + (1 + ((expr_width reads.expr + 1) + (label_width labelled.label + 1)))
          ≡ expr_width (relabelled change reads.expr labelled.label) =
          omega (arith, width_relabelled change reads.expr labelled.label) in e)
          (moves_then one.moves (moves_then two.moves (moves_then reads.moves (moves_then labelled.moves four.moves))));
      stops = stops_tight new;
      takes = λ closing.
          takes_then (takes_label closing depth inner change opened reads labelled)
          (takes_before (links_due closing depth)
          (takes_fixed right_parenthesis (inner + 1) opened.counted.nested closes));
    }

-- ---- no operand

pub operand_unexpected : {old : Cursor} {depth inner : ℕ} {error : ParseError} → error ≡ fault.Unexpected old.at →
    ((closing : Closing) (kind : TokenKind) → IsNextKind old kind → due_after_token (operand closing) kind ≡ None) →
    FailsExpr old depth inner error
operand_unexpected {old} {depth} {inner} {error} tells other closing =
    fails_other old error (operand_at closing depth inner) tells (other closing)

pub nothing_next : (old : Cursor) → old.rest.now ≡ [] → (closing : Closing) (kind : TokenKind) → IsNextKind old kind →
    due_after_token (operand closing) kind ≡ None
nothing_next old none closing kind is =
    let e : [] ≡ kind ∷ kinds (behind old) = ap kinds (sym none) ∙ is in absurd (cc)

pub other_next : (old : Cursor) (first : Token) → IsNext old first →
    ((closing : Closing) → due_after_token (operand closing) first.kind ≡ None) →
    (closing : Closing) (kind : TokenKind) →
    IsNextKind old kind → due_after_token (operand closing) kind ≡ None
other_next old first next none closing kind is =
    let e : first.kind ∷ kinds (behind old) ≡ kind ∷ kinds (behind old) = sym (ap kinds next) ∙ is in
    let same : first.kind ≡ kind = cc in subst (λ k. due_after_token (operand closing) k ≡ None) same (none closing)
