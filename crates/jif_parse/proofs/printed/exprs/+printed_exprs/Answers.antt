use Rattle.jif_tree.specs.Trees.{expr_tree}
use Rattle.jif_parse.specs.PrintedNames.{naming_of, field_name}
use Rattle.jif_parse.specs.PrintedExprs.{expr_phrase}
use Rattle.jif_parse.proofs.PrintedTexts.{element_text, binary_text, operand_low, operand_high}
use Rattle.jif_parse.proofs.printed.exprs.+printed_exprs.Goals as goal

pub expr_text-returns-in_ok-format-in-Element : goal.expr_text-returns-in_ok-format-in-Element
expr_text-returns-in_ok-format-in-Element t c =
    rw c.in-Element.is (element_text (field_name (naming_of c.args.names.now) c.in-Element.field)
    (expr_phrase (naming_of c.args.names.now) (expr_tree c.in-Element.index.value))
    c.in_ok-format-in-Element.ensures.ok c.field_name-name.ensures
    (rw c.deref.ensures at c.in_ok-index-in-Element.ensures))

pub expr_text-returns-in_ok-format-in-Binary : goal.expr_text-returns-in_ok-format-in-Binary
expr_text-returns-in_ok-format-in-Binary t c =
    let naming = naming_of c.args.names.now in
    rw c.in-Binary.is (binary_text c.in-Binary.operator (expr_phrase naming (expr_tree c.in-Binary.left.value))
    (expr_phrase naming (expr_tree c.in-Binary.right.value)) c.level_of-least.result c.in_ok-format-in-Binary.ensures.ok
    c.level_of-least.ensures (rw c.deref-in-Binary.ensures at c.in_ok-left-in-Binary.ensures)
    c.operator_text-symbol.ensures (rw c.deref-in-Binary-2.ensures at c.in_ok-right-in-Binary.ensures))

pub operand_text-returns-then-expr_level-least : goal.operand_text-returns-then-expr_level-least
operand_text-returns-then-expr_level-least t c =
    operand_low c.args.least (expr_phrase (naming_of c.args.names.now) (expr_tree c.args.inner.now)) c.expr_level.result
    c.expr_level.ensures c.if-expr_level-least.true c.in_ok-format.ensures.ok c.in_ok-text.ensures

pub operand_text-returns : goal.operand_text-returns
operand_text-returns t c =
    operand_high c.args.least (expr_phrase (naming_of c.args.names.now) (expr_tree c.args.inner.now))
    c.expr_level.result c.expr_level.ensures c.if-expr_level-least.false c.in_ok-text.ensures
