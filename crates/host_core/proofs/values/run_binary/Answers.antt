use Rattle.std.proofs.Common.{rules, w64, SFits, arith, length-drop}
use Rattle.std.proofs.lemmas.Int.{to_z-of_z}
use Rattle.host_core.proofs.Rooms.{binary_of_few, binary_at}
use Rattle.host_core.proofs.values.run_binary.Goals as goal

pub returns-then-room-first-lt2-clause-values : goal.returns-then-room-first-lt2-clause-values
returns-then-room-first-lt2-clause-values c =
    binary_of_few c.args.op _ (omega (arith, length-drop c.args.first c.args.room.now))

pub returns-clause-values : goal.returns-clause-values
returns-clause-values c =
    let left : SFits w64 c.value_at-left.result = search rules in
    let right : SFits w64 c.value_at-right.result = search rules in
    let own : SFits w64 c.binary_value.result = search rules in
    let value = simp to_z-of_z at c.binary_value.ensures in
    rw (to_z-of_z w64 c.binary_value.result own)
    (binary_at c.args.op c.args.room.now c.args.first c.binary_value.result c.value_at-left.result
    c.value_at-right.result (omega arith) c.value_at-left.ensures c.value_at-right.ensures value)
