use Rattle.std.proofs.Common.{arith}
use Rattle.principals.proofs.Rows.{rows_with_pair}
use Rattle.principals.proofs.closure.add_pair.Goals as goal

pub returns : goal.returns
returns c pairs are =
    rows_with_pair pairs c.args.rows.now c.loop-place.rows c.args.pair.now.0.0 c.args.pair.now.1.0
    c.loop-place.place c.requires.first c.requires.second (omega arith) c.loop-place.invariant are
