-- Expressions: a first operand, and an operator with an operand more.
use Rattle.std.proofs.Common.{◌≡◌, ℕ, ◌≤◌, ◌+◌, List, [], ◌∷◌, ap, ◌∙◌, arith}
use Rattle.js_base.specs.declared.binary_operator.BinOp.{BinOp}
use Rattle.js_base.specs.declared.limits.TheConstants.{NESTING}
use Rattle.jif_lex.specs.declared.token.Symbol.TheVariants as symbols
use Rattle.label_lattice.specs.Written.{kinds, symbol}
use Rattle.jif_grammar.specs.Phrases.{ExprPhrase, LabelPhrase, element, parenthesized, signed, binary}
use Rattle.jif_grammar.specs.Phrases.{relabelled, Sign, Change}
use Rattle.jif_grammar.specs.Operators.{operator_symbol, operator_level}
use Rattle.jif_grammar.specs.Grouping.{level, IsGrouped}
use Rattle.jif_grammar.specs.Due.{Closing}
use Rattle.jif_grammar.specs.Marks.{node}
use Rattle.jif_grammar.specs.DraftShapes.{expr_shape, binary_shape}
use Rattle.jif_grammar.specs.Drafts.{expr_at, expr_width, label_width}
use Rattle.jif_grammar.specs.Unmarked.{expr_then, label_then}
use Rattle.jif_grammar.proofs.Widths.{of_expr_width, of_label_width}
use Rattle.jif_tree.specs.declared.draft.ExprDraft.{ExprDraft}
use Rattle.jif_parse.specs.declared.cursor.Cursor.{Cursor}
use Rattle.jif_parse.specs.declared.parse_error.ParseError.{ParseError}
use Rattle.jif_parse.specs.declared.parse_error.ParseError.TheVariants as fault
use Rattle.jif_parse.specs.Reading.{behind, IsNextSymbol, Moves, Counted, IsOver, Takes}
use Rattle.jif_parse.specs.Phrases.{PassesSymbol, operand_due, links_due, StopsAt, ReadsExpr, FailsExpr, closing_symbol}
use Rattle.jif_parse.specs.Phrases.{ReadsUpTo, FailsUpTo}
use Rattle.jif_parse.proofs.Taking.{takes_then, fails_then}
use Rattle.jif_parse.proofs.Moving.{stepped, moves_then, moves_as}
use Rattle.jif_parse.proofs.Fixed.{step_symbol}
use Rattle.jif_parse.proofs.BehindOperands.{below_tightest, takes_operator, operator_over, takes_closing, closing_fails}
use Rattle.jif_parse.proofs.BehindOperands.{IsNoComma}

-- ---- widths

pub width_element : (name : List ℕ) (index : ExprPhrase) → expr_width (element name index) ≡ expr_width index + 3
width_element name index =
    omega (arith, of_expr_width (element name index) [], of_expr_width index (symbol symbols.RightBracket ∷ []))

pub width_parenthesized : (inner : ExprPhrase) → expr_width (parenthesized inner) ≡ expr_width inner + 2
width_parenthesized inner =
    omega (arith, of_expr_width (parenthesized inner) [], of_expr_width inner (symbol symbols.RightParenthesis ∷ []))

pub width_signed : (sign : Sign) (operand : ExprPhrase) → expr_width (signed sign operand) ≡ expr_width operand + 1
width_signed sign operand = omega (arith, of_expr_width (signed sign operand) [], of_expr_width operand [])

pub width_binary : (operator : BinOp) (left right : ExprPhrase) →
    expr_width (binary operator left right) ≡ expr_width left + 1 + expr_width right
width_binary operator left right =
    omega (
      arith,
      of_expr_width (binary operator left right) [],
      of_expr_width left (symbol (operator_symbol operator) ∷ expr_then right []),
      of_expr_width right [],
    )

pub width_relabelled : (change : Change) (inner : ExprPhrase) (label : LabelPhrase) →
    expr_width (relabelled change inner label) ≡ expr_width inner + label_width label + 4
width_relabelled change inner label =
    omega (
      arith,
      of_expr_width (relabelled change inner label) [],
      of_expr_width inner (symbol symbols.Comma ∷ label_then label (symbol symbols.RightParenthesis ∷ [])),
      of_label_width label (symbol symbols.RightParenthesis ∷ []),
    )

-- ---- operators

-- An expression so far. Whatever operator is next, binds no more tightly than its own.
pub record LeftSoFar (old now : Cursor) (least depth : ℕ) (draft : ExprDraft) : Type 0 where
  pub expr : ExprPhrase
  pub grouped : IsGrouped expr
  pub tight : least ≤ level expr
  pub written : kinds old.rest.now ≡ expr_then expr (kinds now.rest.now)
  pub draft_is : expr_shape draft ≡ expr_at old.at expr
  pub moves : Moves old now (expr_width expr)
  pub stops : StopsAt (level expr + 1) now
  pub takes : (closing : Closing) → Takes old now (operand_due closing depth depth) (links_due closing depth)

pub first_operand : {old now : Cursor} {least depth : ℕ} {draft : ExprDraft} → least ≤ 6 →
    ReadsExpr old now 6 depth depth draft → LeftSoFar old now least depth draft
first_operand loose reads = record {
  expr = reads.expr;
  grouped = reads.grouped;
  tight = omega (arith, loose, reads.tight);
  written = reads.written;
  draft_is = reads.draft_is;
  moves = reads.moves;
  stops = λ operator is. omega (arith, reads.tight, below_tightest operator);
  takes = reads.takes;
}

pub with_right : {old now after new : Cursor} {least depth : ℕ} {left right : ExprDraft} (operator : BinOp)
    (draft : ExprDraft) → LeftSoFar old now least depth left → least ≤ operator_level operator →
    IsNextSymbol now (operator_symbol operator) → Counted now after depth node →
    ReadsExpr after new (operator_level operator + 1) depth depth right →
    expr_shape draft ≡ binary_shape operator (expr_shape left) (expr_shape right) → LeftSoFar old new least depth draft
with_right {old} {now} {after} {new} {least} {depth} {left} {right} operator draft so_far loose next counted reads is =
    let one = stepped (symbol (operator_symbol operator)) next counted.steps in
    let place : after.at ≡ old.at + expr_width so_far.expr + 1 = omega (arith, so_far.moves.at, one.moves.at) in
    record {
      expr = binary operator so_far.expr reads.expr;
      grouped =
          (omega (arith, so_far.stops operator next), omega (arith, reads.tight), so_far.grouped, reads.grouped);
      tight = loose;
      written =
          so_far.written ∙ ap (expr_then so_far.expr) (one.is_next
          ∙ ap (λ ks. symbol (operator_symbol operator) ∷ ks) reads.written);
      draft_is =
          is ∙ ap (λ l. binary_shape operator l (expr_shape right)) so_far.draft_is
          ∙ ap (binary_shape operator (expr_at old.at so_far.expr)) (reads.draft_is
          ∙ ap (λ n. expr_at n reads.expr) place);
      moves =
          moves_as (expr_width (binary operator so_far.expr reads.expr))
          (let e : expr_width so_far.expr + (1 + expr_width reads.expr)
          ≡ expr_width (binary operator so_far.expr reads.expr) =
          omega (arith, width_binary operator so_far.expr reads.expr) in e)
          (moves_then so_far.moves (moves_then one.moves reads.moves));
      stops = reads.stops;
      takes = λ closing.
          takes_then (so_far.takes closing)
          (takes_then (takes_operator closing depth operator next counted) (reads.takes closing));
    }

pub operator_fails : {old now : Cursor} {least depth : ℕ} {left : ExprDraft} {error : ParseError} (operator : BinOp) →
    LeftSoFar old now least depth left → IsNextSymbol now (operator_symbol operator) → IsOver now depth node error →
    FailsExpr old depth depth error
operator_fails {old} {now} {least} {depth} operator so_far next over closing =
    fails_then (so_far.takes closing) (operator_over closing depth operator (kinds (behind now)) next over)

pub right_fails : {old now after : Cursor} {least depth : ℕ} {left : ExprDraft} {error : ParseError}
    (operator : BinOp) → LeftSoFar old now least depth left → IsNextSymbol now (operator_symbol operator) →
    Counted now after depth node → FailsExpr after depth depth error → FailsExpr old depth depth error
right_fails {old} {now} {after} {least} {depth} operator so_far next counted fails closing =
    fails_then (takes_then (so_far.takes closing) (takes_operator closing depth operator next counted)) (fails closing)

-- ---- with what ends it

pub whole_up_to : {old now new : Cursor} {depth : ℕ} {draft : ExprDraft} (closing : Closing) → depth ≤ NESTING →
    ReadsExpr old now 0 depth depth draft → PassesSymbol now new (closing_symbol closing) →
    ReadsUpTo old new closing depth draft
whole_up_to {old} {now} {new} {depth} closing nested reads passes = record {
  expr = reads.expr;
  grouped = reads.grouped;
  written = reads.written ∙ ap (expr_then reads.expr) (step_symbol passes).is_next;
  draft_is = reads.draft_is;
  moves = moves_then reads.moves (step_symbol passes).moves;
  takes = takes_then (reads.takes closing) (takes_closing closing depth nested passes);
}

pub up_to_fails : {old now : Cursor} {depth : ℕ} {draft : ExprDraft} {error : ParseError} (closing : Closing) →
    IsNoComma closing now → ReadsExpr old now 0 depth depth draft →
    (error ≡ fault.Unexpected now.at) × ¬ IsNextSymbol now (closing_symbol closing) → FailsUpTo old closing depth error
up_to_fails {old} {now} {depth} {draft} {error} closing comma reads other =
    fails_then (reads.takes closing) (closing_fails now error closing depth reads.stops comma other)
