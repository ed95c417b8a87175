-- Arguments joined by commas, and the parenthesis behind them.
use Rattle.std.proofs.Common.{◌≡◌, ℕ, pos, negsuc, ◌≤◌, List, [], ◌∷◌, ◌++◌, length, map, refl, ap, sym, subst, ◌∙◌}
use Rattle.std.proofs.Common.{arith}
use Rattle.std.proofs.lemmas.List.{map-append, length-append}
use Rattle.js_base.specs.declared.limits.TheConstants.{NESTING}
use Rattle.jif_lex.specs.declared.token.TokenKind.{TokenKind}
use Rattle.jif_lex.specs.declared.token.TokenKind.TheVariants as token
use Rattle.jif_lex.specs.declared.token.Symbol.TheVariants as symbols
use Rattle.label_lattice.specs.Written.{symbol}
use Rattle.jif_grammar.specs.Phrases.{ExprPhrase}
use Rattle.jif_grammar.specs.Grouping.{AreGrouped}
use Rattle.jif_grammar.specs.Due as due
use Rattle.jif_grammar.specs.Due.{at_argument, operand, links}
use Rattle.jif_grammar.specs.Marks.{plain}
use Rattle.jif_grammar.specs.Nesting.{nested_at}
use Rattle.jif_grammar.specs.Spelling.{expr_spelling, args_spelling}
use Rattle.jif_grammar.specs.DraftShapes.{ExprShape, expr_shape}
use Rattle.jif_grammar.specs.Drafts.{expr_at, expr_width, args_at}
use Rattle.jif_grammar.specs.Unmarked.{expr_then, args_then}
use Rattle.jif_tree.specs.declared.draft.ExprDraft.{ExprDraft}
use Rattle.jif_parse.specs.declared.cursor.Cursor.{Cursor}
use Rattle.jif_parse.specs.declared.parse_error.ParseError.{ParseError}
use Rattle.jif_parse.specs.declared.parse_error.ParseError.TheVariants as fault
use Rattle.jif_parse.specs.Reading.{IsNextKind, IsNextSymbol, Passes, Takes}
use Rattle.jif_parse.specs.Phrases.{PassesSymbol, operand_due, links_due, ReadsExpr, FailsExpr, ReadsArgs, FailsArgs}
use Rattle.jif_parse.proofs.Taking.{takes_then, takes_same, SameStep, fails_then}
use Rattle.jif_parse.proofs.Moving.{moves_then, stepped, takes_passed}
use Rattle.jif_parse.proofs.Fixed.{step_symbol}
use Rattle.jif_parse.proofs.Lists.{ListForm, ItemsSoFar, no_items, one_more, last_item}
use Rattle.jif_parse.proofs.BehindOperands.{takes_closing, closing_fails}

abbrev pub args_form : ListForm ExprPhrase ExprShape
args_form = record {
  separator = symbol symbols.Comma;
  item_then = expr_then;
  item_width = expr_width;
  width = λ args. length (args_spelling 0 args);
  shape = expr_at;
  shapes = args_at;
  IsSound = AreGrouped;
  width_one = λ arg. refl;
  width_more = λ arg next args.
      omega (
        arith,
        length-append (expr_spelling 0 arg)
            (plain 0 (symbol symbols.Comma) ∷ args_spelling 0 (next ∷ args)),
      );
  shapes_none = λ at. refl;
  shapes_more = λ at arg args. refl;
}

-- the arguments so far, each with a comma behind it
pub record ArgsSoFar (old now : Cursor) (depth : ℕ) (drafts : List ExprDraft) : Type 0 where
  pub items : ItemsSoFar args_form old now (map expr_shape drafts)
  pub takes : Takes old now (nested_at depth due.args ∷ []) (operand_due at_argument depth depth)

same_operand : (depth : ℕ) (kind : TokenKind) → ¬ (kind ≡ symbol symbols.RightParenthesis) →
    SameStep (nested_at depth due.args) (nested_at depth (operand at_argument)) kind
same_operand depth (token.Name name) other later t n = refl
same_operand depth (token.Number (pos m)) other later t n = refl
same_operand depth (token.Number (negsuc m)) other later t n = refl
same_operand depth (token.Word word) other later t n = refl
same_operand depth (token.Symbol symbols.RightParenthesis) other later t n = absurd (other refl)
same_operand depth (token.Symbol _) other later t n = refl

pub no_args : (old : Cursor) (depth : ℕ) → ¬ IsNextSymbol old symbols.RightParenthesis → ArgsSoFar old old depth []
no_args old depth other = record {
  items = no_items args_form old;
  takes =
      takes_same old (nested_at depth due.args) (nested_at depth (operand at_argument))
      (λ kind is. same_operand depth kind (λ same. other (subst (IsNextKind old) same is)));
}

takes_comma : {old new : Cursor} (depth : ℕ) → depth ≤ NESTING → IsNextSymbol old symbols.Comma → Passes old new →
    Takes old new (links_due at_argument depth) (operand_due at_argument depth depth)
takes_comma depth nested is passes =
    takes_passed (nested_at depth (links at_argument)) (symbol symbols.Comma) (operand at_argument ∷ []) depth
    (stepped (symbol symbols.Comma) is passes.steps) passes.counts nested refl refl

pub args_more : {old now after new : Cursor} {depth : ℕ} {drafts : List ExprDraft} {draft : ExprDraft} →
    depth ≤ NESTING → ArgsSoFar old now depth drafts → ReadsExpr now after 0 depth depth draft →
    IsNextSymbol after symbols.Comma → Passes after new → (all : List ExprDraft) → all ≡ drafts ++ draft ∷ [] →
    ArgsSoFar old new depth all
args_more {old} {now} {after} {new} {depth} {drafts} {draft} nested so_far reads is passes all are = record {
  items = subst (ItemsSoFar args_form old new)
      (sym (ap (map expr_shape) are ∙ map-append expr_shape drafts (draft ∷ [])
      ∙ ap (λ s. map expr_shape drafts ++ s ∷ []) reads.draft_is))
      (one_more {behind = after} {new = new} reads.expr so_far.items reads.written reads.moves (reads.grouped, tt)
      (stepped (symbol symbols.Comma) is passes.steps) (λ items one all. (one.0, all)));
  takes =
      takes_then so_far.takes (takes_then (reads.takes at_argument) (takes_comma depth nested is passes));
}

pub args_end : {old now after new : Cursor} {depth : ℕ} {drafts : List ExprDraft} {draft : ExprDraft} →
    depth ≤ NESTING → ArgsSoFar old now depth drafts → ReadsExpr now after 0 depth depth draft →
    PassesSymbol after new symbols.RightParenthesis → (all : List ExprDraft) → all ≡ drafts ++ draft ∷ [] →
    ReadsArgs old new depth all
args_end {old} {now} {after} {new} {depth} {drafts} {draft} nested so_far reads passes all are =
    let items = last_item {new = after} reads.expr so_far.items reads.written reads.moves (reads.grouped, tt) in
    record {
      args = items.items;
      grouped = items.sound;
      written = items.written ∙ ap (args_then items.items) (step_symbol passes).is_next;
      drafts_are =
          ap (map expr_shape) are ∙ map-append expr_shape drafts (draft ∷ [])
          ∙ ap (λ s. map expr_shape drafts ++ s ∷ []) reads.draft_is ∙ items.drafts_are;
      moves = moves_then items.moves (step_symbol passes).moves;
      takes =
          takes_then so_far.takes
          (takes_then (reads.takes at_argument) (takes_closing at_argument depth nested passes));
    }

pub args_none : {old new : Cursor} {depth : ℕ} → depth ≤ NESTING → IsNextSymbol old symbols.RightParenthesis →
    Passes old new → ReadsArgs old new depth []
args_none {old} {new} {depth} nested is passes =
    let one = stepped (symbol symbols.RightParenthesis) is passes.steps in
    record {
      args = [];
      grouped = tt;
      written = one.is_next;
      drafts_are = refl;
      moves = one.moves;
      takes =
          takes_passed (nested_at depth due.args) (symbol symbols.RightParenthesis) [] depth one passes.counts nested
          refl
          refl;
    }

pub args_fail : {old now : Cursor} {depth : ℕ} {drafts : List ExprDraft} {error : ParseError} →
    ArgsSoFar old now depth drafts → FailsExpr now depth depth error → FailsArgs old depth error
args_fail so_far fails = fails_then so_far.takes (fails at_argument)

pub args_end_fails : {old now after : Cursor} {depth : ℕ} {drafts : List ExprDraft} {draft : ExprDraft}
    {error : ParseError} → ArgsSoFar old now depth drafts → ReadsExpr now after 0 depth depth draft →
    ¬ IsNextSymbol after symbols.Comma → (error ≡ fault.Unexpected after.at)
    × ¬ IsNextSymbol after symbols.RightParenthesis →
    FailsArgs old depth error
args_end_fails {old} {now} {after} {depth} {drafts} {draft} {error} so_far reads comma other =
    fails_then (takes_then so_far.takes (reads.takes at_argument))
    (closing_fails after error at_argument depth reads.stops comma other)
