use Rattle.std.proofs.Common.{rules}
use Rattle.jif_tree.specs.Trees.{program_tree}
use Rattle.front_end.proofs.LineCounts.{few_lines}
use Rattle.split_cli.proofs.place_lines.push_places.Goals as goal

pub push_statements-requires : goal.push_statements-requires
push_statements-requires c =
    let few = few_lines (program_tree c.source.inside.checked.program) c.source.invariant.read.within in search rules
