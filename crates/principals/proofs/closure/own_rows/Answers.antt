use Rattle.std.proofs.Common.{arith}
use Rattle.principals.proofs.Rows.{own_row, own_more, own_rows_are}
use Rattle.principals.proofs.closure.own_rows.Goals as goal

pub loop-place-preserved : goal.loop-place-preserved
loop-place-preserved c =
    own_more c.loop-place.rows c.loop-place.place c.with_bit.result (omega arith)
    (own_row c.loop-place.place c.with_bit.result c.with_bit.ensures.set c.with_bit.ensures.others)
    c.loop-place.invariant

pub returns : goal.returns
returns c = own_rows_are c.loop-place.rows c.loop-place.place (omega arith) c.loop-place.invariant
