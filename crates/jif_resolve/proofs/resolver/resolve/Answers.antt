use Rattle.jif_grammar.specs.DraftShapes.{draft_shape}
use Rattle.jif_tree.specs.Trees.{program_tree}
use Rattle.jif_resolve.proofs.WithinLimits.{within_limits}
use Rattle.jif_resolve.proofs.resolver.resolve.Goals as goal

pub returns-clause-limits : goal.returns-clause-limits
returns-clause-limits c =
    within_limits c.args.principals.now (draft_shape c.args.draft) (program_tree c.in_ok-program.program) c.requires
    c.in_ok-program.ensures
