use Rattle.std.proofs.Common.{◌+◌, ◌-◌, ◌*◌, length}
use Rattle.jif_parse.proofs.Blocks.{StatementsSoFar}
use Rattle.jif_parse.proofs.statements.+statements.Given as goal

-- The levels that are left, with the calls of one level in their order.
abbrev pub decreases-braced : goal.decreases-braced
decreases-braced l = 6 * (66 - l.depth) + 6

abbrev pub decreases-statements : goal.decreases-statements
decreases-statements l = 6 * (66 - l.depth) + 5

abbrev pub decreases-statement : goal.decreases-statement
decreases-statement l = 6 * (66 - l.depth) + 4

abbrev pub decreases-statement_kind : goal.decreases-statement_kind
decreases-statement_kind l = 6 * (66 - l.depth) + 3

abbrev pub decreases-branch : goal.decreases-branch
decreases-branch l = 6 * (66 - l.depth) + 2

abbrev pub decreases-repetition : goal.decreases-repetition
decreases-repetition l = 6 * (66 - l.depth) + 2

abbrev pub decreases-guarded : goal.decreases-guarded
decreases-guarded l = 6 * (66 - l.depth) + 1

abbrev pub invariant-statements-loop-alloc : goal.invariant-statements-loop-alloc
invariant-statements-loop-alloc l = StatementsSoFar l.fn.cursor l.cursor l.depth l.drafts.items

abbrev pub decreases-statements-loop-alloc : goal.decreases-statements-loop-alloc
decreases-statements-loop-alloc l = length l.cursor.rest.now
