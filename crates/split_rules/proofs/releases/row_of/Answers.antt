use Rattle.split_rules.proofs.ToldRows.{few_at}
use Rattle.split_rules.proofs.releases.row_of.Goals as goal

pub fill-requires : goal.fill-requires
fill-requires c = rw c.statement_at-statement.ensures (few_at _ c.args.instruction.now.statement c.requires)
