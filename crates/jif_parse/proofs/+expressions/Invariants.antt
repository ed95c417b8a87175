use Rattle.std.proofs.Common.{◌+◌, ◌-◌, ◌*◌, length}
use Rattle.js_base.specs.declared.limits.TheConstants.{NESTING}
use Rattle.jif_parse.proofs.Exprs.{LeftSoFar}
use Rattle.jif_parse.proofs.+expressions.Given as goal

-- what nesting is left, and then how far down a reader stands
abbrev pub decreases-expressions::expression : goal.decreases-expressions::expression
decreases-expressions::expression l = 20 * (NESTING - l.depth) + (4 + (7 - l.least))

abbrev pub decreases-expressions::up_to : goal.decreases-expressions::up_to
decreases-expressions::up_to l = 20 * (NESTING - l.depth) + 12

abbrev pub decreases-operands::named : goal.decreases-operands::named
decreases-operands::named l = 20 * (NESTING - l.inner) + 2

abbrev pub decreases-operands::operand : goal.decreases-operands::operand
decreases-operands::operand l = 20 * (NESTING - l.inner) + 3

abbrev pub decreases-operands::parenthesized : goal.decreases-operands::parenthesized
decreases-operands::parenthesized l = 20 * (NESTING - l.inner) + 2

abbrev pub decreases-operands::relabelled : goal.decreases-operands::relabelled
decreases-operands::relabelled l = 20 * (NESTING - l.inner) + 2

abbrev pub decreases-operands::signed : goal.decreases-operands::signed
decreases-operands::signed l = 20 * (NESTING - l.inner) + 2

abbrev pub invariant-expressions::expression-loop-operator : goal.invariant-expressions::expression-loop-operator
invariant-expressions::expression-loop-operator l = LeftSoFar l.fn.cursor l.cursor l.least l.depth l.left

abbrev pub decreases-expressions::expression-loop-operator : goal.decreases-expressions::expression-loop-operator
decreases-expressions::expression-loop-operator l = length l.cursor.rest.now
