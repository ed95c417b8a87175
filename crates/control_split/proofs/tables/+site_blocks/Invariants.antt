use Rattle.std.proofs.Common.{◌≡◌, ◌++◌, ◌+◌, ◌*◌, drop}
use Rattle.jif_tree.specs.Trees.{block_tree, done, tree_before}
use Rattle.jif_tree.proofs.StatementCounts.{count_in}
use Rattle.split_rules.specs.SplitCode.{site_hosts}
use Rattle.control_split.proofs.tables.+site_blocks.Given as goal

-- the sites so far with those that are left
abbrev pub invariant-add_sites-loop-statement : goal.invariant-add_sites-loop-statement
invariant-add_sites-loop-statement l =
    l.sites.items ++ site_hosts l.plan (block_tree (drop l.statement-index l.block))
    ≡ l.fn.sites.items ++ site_hosts l.plan (block_tree l.block)

abbrev pub decreases-add_sites : goal.decreases-add_sites
decreases-add_sites l = 2 * count_in (block_tree l.block.now) + 1

abbrev pub decreases-add_sites_of : goal.decreases-add_sites_of
decreases-add_sites_of l = 2 * count_in (tree_before l.statement.now done)
