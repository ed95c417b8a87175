use Rattle.std.proofs.Common.{◌≡◌, ap, sym, ◌∙◌, ◌+◌, subst}
use Rattle.std.proofs.lemmas.Bool.{false≢true}
use Rattle.std.proofs.lemmas.Result.{IfOk-weaker, IfErr-weaker}
use Rattle.jif_grammar.specs.Due.{at_parenthesis}
use Rattle.jif_grammar.specs.Operators.{operator_symbol}
use Rattle.label_lattice.specs.Written.{symbol}
use Rattle.jif_grammar.specs.DraftShapes.{expr_shape, number_shape, element_shape, name_shape, label_shape}
use Rattle.jif_grammar.specs.Drafts.{signed_shape, relabelled_shape}
use Rattle.jif_parse.specs.Phrases.{ReadsExpr, FailsExpr, ReadsUpTo, FailsUpTo, PassesSymbol, closing_of}
use Rattle.jif_parse.specs.Reading.{IsNextSymbol}
use Rattle.jif_parse.specs.Starts.{sign_of, change_of}
use Rattle.jif_lex.proofs.Fronts.{kept_value}
use Rattle.jif_parse.proofs.Exits.{handed_on}
use Rattle.jif_parse.proofs.Exprs.{with_right, operator_fails, right_fails, whole_up_to}
use Rattle.jif_parse.proofs.Exprs.{up_to_fails}
use Rattle.jif_parse.proofs.Moving.{stepped, fewer}
use Rattle.jif_parse.proofs.BehindOperands.{no_comma}
use Rattle.jif_parse.proofs.OperandParts.{variable_read, bracket_over, index_fails, element_read, parenthesized_fails}
use Rattle.jif_parse.proofs.OperandParts.{parenthesized_read, signed_fails, signed_read, change_open_fails}
use Rattle.jif_parse.proofs.OperandParts.{change_value_fails, change_label_fails, change_end_fails, relabelled_read}
use Rattle.jif_parse.proofs.OperandParts.{number_read, operand_unexpected, nothing_next, other_next}
use Rattle.jif_parse.proofs.+expressions.Goals as goal

pub expressions::expression-returns-in_err-take-clause-fails :
    goal.expressions::expression-returns-in_err-take-clause-fails
expressions::expression-returns-in_err-take-clause-fails t c =
    handed_on (FailsExpr c.args.cursor.now c.args.depth c.args.depth) c.in_err-take.field-0.0
    c.from_residual-in_err-take.result c.from_residual-in_err-take.ensures
    (operator_fails c.in-Some.operator c.loop-operator.invariant (c.in-Some.ensures.found).1 c.in_err-take.ensures.over)

pub expressions::expression-returns-in_err-right-clause-fails :
    goal.expressions::expression-returns-in_err-right-clause-fails
expressions::expression-returns-in_err-right-clause-fails t c =
    handed_on (FailsExpr c.args.cursor.now c.args.depth c.args.depth) c.in_err-right.field-0.0
    c.from_residual-in_err-right.result c.from_residual-in_err-right.ensures
    (right_fails c.in-Some.operator c.loop-operator.invariant (c.in-Some.ensures.found).1 c.in_ok-take.ensures.counted
    c.in_err-right.ensures.fails)

pub expressions::expression-loop-operator-preserved : goal.expressions::expression-loop-operator-preserved
expressions::expression-loop-operator-preserved t c =
    with_right c.in-Some.operator c.in_ok-left-2.left c.loop-operator.invariant (c.in-Some.ensures.found).0
    (c.in-Some.ensures.found).1 c.in_ok-take.ensures.counted
    (subst (λ n. ReadsExpr c.take.new.self c.expression.new.cursor (n + 1) c.args.depth c.args.depth
    c.in_ok-right.right) c.level_of.ensures c.in_ok-right.ensures.read)
    c.in_ok-left-2.ensures.draft

pub expressions::up_to-returns-in_err-value-clause-fails : goal.expressions::up_to-returns-in_err-value-clause-fails
expressions::up_to-returns-in_err-value-clause-fails t c =
    handed_on (FailsUpTo c.args.cursor.now (closing_of c.args.ending) c.args.depth) c.in_err-value.field-0.0
    c.from_residual.result c.from_residual.ensures (c.in_err-value.ensures.fails (closing_of c.args.ending))

pub expressions::up_to-returns-in_err-expect-clause-fails : goal.expressions::up_to-returns-in_err-expect-clause-fails
expressions::up_to-returns-in_err-expect-clause-fails t c =
    handed_on (FailsUpTo c.args.cursor.now (closing_of c.args.ending) c.args.depth) c.in_err-expect.field-0.0
    c.from_residual-in_err-expect.result c.from_residual-in_err-expect.ensures
    (up_to_fails (closing_of c.args.ending) (no_comma c.args.ending c.expression.new.cursor)
    c.in_ok-value.ensures.read (
      c.in_err-expect.ensures.other.0,
      subst (λ s. ¬ IsNextSymbol c.expression.new.cursor s) c.symbol.ensures
          c.in_err-expect.ensures.other.1,
    ))

pub expressions::up_to-returns-clause-read : goal.expressions::up_to-returns-clause-read
expressions::up_to-returns-clause-read t c =
    whole_up_to (closing_of c.args.ending) c.requires c.in_ok-value.ensures.read
    (subst (PassesSymbol c.expression.new.cursor c.expect.new.self) c.symbol.ensures c.in_ok-expect.ensures.passed)

pub operands::named-returns-then-not-is_next-clause-read : goal.operands::named-returns-then-not-is_next-clause-read
operands::named-returns-then-not-is_next-clause-read t c =
    variable_read c.args.name.now c.in_ok-name.name c.requires.next c.in_ok-take.ensures.counted
    c.in_ok-name.ensures.draft (λ is. false≢true (sym c.if-not-is_next.true ∙ c.is_next.ensures.1 is))

pub operands::named-returns-in_err-take-2-clause-fails : goal.operands::named-returns-in_err-take-2-clause-fails
operands::named-returns-in_err-take-2-clause-fails t c =
    handed_on (FailsExpr c.args.cursor.now c.args.depth c.args.inner) c.in_err-take-2.field-0.0
    c.from_residual-in_err-take-2.result
    c.from_residual-in_err-take-2.ensures (bracket_over c.args.name.now c.requires.next c.in_ok-take.ensures.counted
    (c.is_next.ensures.0 c.if-not-is_next.false) c.in_err-take-2.ensures.over)

pub operands::named-returns-in_err-index-clause-fails : goal.operands::named-returns-in_err-index-clause-fails
operands::named-returns-in_err-index-clause-fails t c =
    handed_on (FailsExpr c.args.cursor.now c.args.depth c.args.inner) c.in_err-index.field-0.0
    c.from_residual-in_err-index.result
    c.from_residual-in_err-index.ensures (index_fails c.args.name.now c.requires.next c.in_ok-take.ensures.counted
    (c.is_next.ensures.0 c.if-not-is_next.false) c.in_ok-take-2.ensures.counted c.in_err-index.ensures.fails)

pub operands::named-returns-clause-read : goal.operands::named-returns-clause-read
operands::named-returns-clause-read t c =
    IfOk-weaker c.element.result
    (λ draft. expr_shape draft ≡ element_shape (name_shape c.in_ok-name.name) (expr_shape c.in_ok-index.index))
    (ReadsExpr c.args.cursor.now c.up_to.new.cursor 6 c.args.depth c.args.inner)
    (λ draft shape. element_read c.args.name.now c.in_ok-name.name draft c.requires.next c.in_ok-take.ensures.counted
    c.in_ok-name.ensures.draft (c.is_next.ensures.0 c.if-not-is_next.false) c.in_ok-take-2.ensures.counted
    c.in_ok-index.ensures.read shape) c.element.ensures.draft

pub operands::operand-returns-in_default-clause-fails : goal.operands::operand-returns-in_default-clause-fails
operands::operand-returns-in_default-clause-fails t c =
    operand_unexpected c.unexpected.ensures (nothing_next c.args.cursor.now c.in_default.ensures.none)

pub operands::operand-returns-in_ok-take-in-Number-clause-read :
    goal.operands::operand-returns-in_ok-take-in-Number-clause-read
operands::operand-returns-in_ok-take-in-Number-clause-read t c =
    let is = c.in-Number.ensures in
    number_read c.number_draft.result c.in-Some.token.now c.in-Number.number is.1.0 c.in-Some.ensures.there is.0 is.1.1
    (c.number_draft.ensures ∙ ap number_shape (kept_value c.in-Number.number is.1.0 is.1.1 is.2 ∙ sym is.1.1))
    c.in_ok-take-in-Number.ensures.counted

pub operands::operand-returns-in-Other-clause-fails : goal.operands::operand-returns-in-Other-clause-fails
operands::operand-returns-in-Other-clause-fails t c =
    operand_unexpected c.unexpected-in-Other.ensures
    (other_next c.args.cursor.now c.in-Some.token.now c.in-Some.ensures.there
    c.in-Other.ensures)

pub operands::parenthesized-returns-clause-read : goal.operands::parenthesized-returns-clause-read
operands::parenthesized-returns-clause-read t c =
    IfOk-weaker c.up_to.result (ReadsUpTo c.take.new.self c.up_to.new.cursor at_parenthesis (c.args.inner + 1))
    (ReadsExpr c.args.cursor.now c.up_to.new.cursor 6 c.args.depth c.args.inner)
    (λ draft reads. parenthesized_read c.requires.next c.in_ok-take.ensures.counted reads) c.up_to.ensures.read

pub operands::parenthesized-returns-clause-fails : goal.operands::parenthesized-returns-clause-fails
operands::parenthesized-returns-clause-fails t c =
    IfErr-weaker c.up_to.result (FailsUpTo c.take.new.self at_parenthesis (c.args.inner + 1))
    (FailsExpr c.args.cursor.now c.args.depth c.args.inner)
    (λ error fails. parenthesized_fails c.requires.next c.in_ok-take.ensures.counted fails) c.up_to.ensures.fails

pub operands::relabelled-returns-in_err-expect-clause-fails :
    goal.operands::relabelled-returns-in_err-expect-clause-fails
operands::relabelled-returns-in_err-expect-clause-fails t c =
    handed_on (FailsExpr c.args.cursor.now c.args.depth c.args.inner) c.in_err-expect.field-0.0
    c.from_residual-in_err-expect.result
    c.from_residual-in_err-expect.ensures (change_open_fails
    (change_of c.args.change) c.requires.next c.in_ok-take.ensures.counted
    c.in_err-expect.ensures.other)

pub operands::relabelled-returns-in_err-value-clause-fails : goal.operands::relabelled-returns-in_err-value-clause-fails
operands::relabelled-returns-in_err-value-clause-fails t c =
    handed_on (FailsExpr c.args.cursor.now c.args.depth c.args.inner) c.in_err-value.field-0.0
    c.from_residual-in_err-value.result
    c.from_residual-in_err-value.ensures (change_value_fails (change_of c.args.change) (record {
      first = c.take.new.self;
      is = c.requires.next;
      counted = c.in_ok-take.ensures.counted;
      opens = c.in_ok-expect.ensures.passed;
    }) c.in_err-value.ensures.fails)

pub operands::relabelled-returns-in_err-label-clause-fails : goal.operands::relabelled-returns-in_err-label-clause-fails
operands::relabelled-returns-in_err-label-clause-fails t c =
    handed_on (FailsExpr c.args.cursor.now c.args.depth c.args.inner) c.in_err-label.field-0.0
    c.from_residual-in_err-label.result
    c.from_residual-in_err-label.ensures (change_label_fails (change_of c.args.change) (record {
      first = c.take.new.self;
      is = c.requires.next;
      counted = c.in_ok-take.ensures.counted;
      opens = c.in_ok-expect.ensures.passed;
    }) c.in_ok-value.ensures.read
    c.in_err-label.ensures.fails)

pub operands::relabelled-returns-in_err-expect-2-clause-fails :
    goal.operands::relabelled-returns-in_err-expect-2-clause-fails
operands::relabelled-returns-in_err-expect-2-clause-fails t c =
    handed_on (FailsExpr c.args.cursor.now c.args.depth c.args.inner) c.in_err-expect-2.field-0.0
    c.from_residual-in_err-expect-2.result
    c.from_residual-in_err-expect-2.ensures (change_end_fails (change_of c.args.change) (record {
      first = c.take.new.self;
      is = c.requires.next;
      counted = c.in_ok-take.ensures.counted;
      opens = c.in_ok-expect.ensures.passed;
    }) c.in_ok-value.ensures.read
    c.in_ok-label.ensures.read c.in_err-expect-2.ensures.other)

pub operands::relabelled-returns-clause-read : goal.operands::relabelled-returns-clause-read
operands::relabelled-returns-clause-read t c =
    IfOk-weaker c.with_change.result (λ draft. expr_shape draft
    ≡ relabelled_shape (change_of c.args.change) (expr_shape c.in_ok-value.value) (label_shape c.in_ok-label.label))
    (ReadsExpr c.args.cursor.now c.expect-2.new.self 6 c.args.depth c.args.inner)
    (λ draft shape. relabelled_read (change_of c.args.change) draft (record {
      first = c.take.new.self;
      is = c.requires.next;
      counted = c.in_ok-take.ensures.counted;
      opens = c.in_ok-expect.ensures.passed;
    }) c.in_ok-value.ensures.read c.in_ok-label.ensures.read
    c.in_ok-expect-2.ensures.passed shape) c.with_change.ensures.draft

pub operands::signed-returns-in_err-value-clause-fails : goal.operands::signed-returns-in_err-value-clause-fails
operands::signed-returns-in_err-value-clause-fails t c =
    handed_on (FailsExpr c.args.cursor.now c.args.depth c.args.inner) c.in_err-value.field-0.0
    c.from_residual-in_err-value.result
    c.from_residual-in_err-value.ensures (signed_fails
    (sign_of c.args.sign) c.requires.next c.in_ok-take.ensures.counted
    c.in_err-value.ensures.fails)

pub operands::signed-returns-clause-read : goal.operands::signed-returns-clause-read
operands::signed-returns-clause-read t c =
    IfOk-weaker c.with_sign.result
    (λ draft. expr_shape draft ≡ signed_shape (sign_of c.args.sign) (expr_shape c.in_ok-value.value))
    (ReadsExpr c.args.cursor.now c.operand.new.cursor 6 c.args.depth c.args.inner)
    (λ draft shape. signed_read (sign_of c.args.sign) draft c.requires.next c.in_ok-take.ensures.counted
    c.in_ok-value.ensures.read shape) c.with_sign.ensures.draft

pub expressions::expression-loop-operator-smaller : goal.expressions::expression-loop-operator-smaller
expressions::expression-loop-operator-smaller t c =
    fewer (stepped (symbol (operator_symbol c.in-Some.operator)) (c.in-Some.ensures.found).1
    c.in_ok-take.ensures.counted.steps) c.in_ok-right.ensures.read.moves
