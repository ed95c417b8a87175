use Rattle.msg_cost.proofs.Noting.{pushed_row}
use Rattle.msg_cost.proofs.TrustTables.{pushed_tables}
use Rattle.msg_cost.proofs.index.push_at.Goals as goal

pub returns-clause-rows : goal.returns-clause-rows
returns-clause-rows c =
    pushed_row c.args.rows.now.items c.args.place c.index_mut.result.now c.push.new.self c.args.piece c.requires
    c.index_mut.ensures.value c.in_ok-push.ensures.items

pub returns-clause-tables : goal.returns-clause-tables
returns-clause-tables c needs hosts has have =
    pushed_tables needs hosts c.args.rows.now.items c.args.place c.index_mut.result.now c.push.new.self c.args.piece
    c.requires c.index_mut.ensures.value c.in_ok-push.ensures.items has have
