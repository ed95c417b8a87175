use Rattle.std.proofs.Common.{drop, ◌+◌, ◌*◌, string_bytes}
use Rattle.jif_tree.specs.Trees.{block_tree, done, tree_before}
use Rattle.jif_tree.proofs.StatementCounts.{count_in}
use Rattle.jif_parse.specs.PrintedNames.{naming_of}
use Rattle.jif_parse.specs.PrintedBlocks.{PrintsBefore}
use Rattle.jif_parse.proofs.printed.statements.+printed_blocks.Given as goal

-- the text so far stands before that of the statements that are left
abbrev pub invariant-block_text-loop-statement : goal.invariant-block_text-loop-statement
invariant-block_text-loop-statement l =
    PrintsBefore (naming_of l.names) l.fn.seen (block_tree l.statements) (string_bytes l.text) l.seen
    (block_tree (drop l.statement-index l.statements))

abbrev pub decreases-block_text : goal.decreases-block_text
decreases-block_text l = 2 * count_in (block_tree l.statements.now) + 1

abbrev pub decreases-statement_text : goal.decreases-statement_text
decreases-statement_text l = 2 * count_in (tree_before l.statement.now done)
