use Rattle.std.proofs.Common.{take, arith}
use Rattle.principals.specs.Pairs.{pair_of, pairs_of}
use Rattle.principals.proofs.Rows.{rows_more, rows_of_all}
use Rattle.principals.proofs.closure.rows_of.Goals as goal

pub loop-pair-preserved : goal.loop-pair-preserved
loop-pair-preserved c =
    rows_more pair_of c.args.pairs.now c.loop-pair.pair-index _ c.add_pair.new.rows (omega arith)
    (c.add_pair.ensures (pairs_of (take c.loop-pair.pair-index c.args.pairs.now)) c.loop-pair.invariant)

pub returns : goal.returns
returns c =
    rows_of_all pair_of c.args.pairs.now c.loop-pair.pair-index c.loop-pair.rows (omega arith) c.loop-pair.invariant
