use Rattle.jif_tree.specs.Trees.{program_tree}
use Rattle.jif_grammar.specs.DraftShapes.{draft_shape}
use Rattle.front_end.proofs.ListLimits.{short_variables}
use Rattle.jifexplain.proofs.Rereading.{few_variables}
use Rattle.jifexplain.proofs.explained.tree_explained.Goals as goal

pub labels_verdict-requires-clause-few : goal.labels_verdict-requires-clause-few
labels_verdict-requires-clause-few c =
    few_variables c.in_ok-program.program.vars.items
    (short_variables c.args.hosts.now.principals (draft_shape c.args.draft) (program_tree c.in_ok-program.program)
    (c.limit_laws.ensures.kept c.requires.draft.list (draft_shape c.args.draft) c.requires.draft.parsed)
    c.in_ok-program.ensures.resolved)
