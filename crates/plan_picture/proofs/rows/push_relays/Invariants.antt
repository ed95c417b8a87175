use Rattle.std.proofs.Common.{◌≡◌, ◌++◌, drop, map}
use Rattle.plan_picture.specs.Rows.{relay_row}
use Rattle.plan_picture.proofs.rows.push_relays.Given as goal

abbrev pub invariant-loop-relay : goal.invariant-loop-relay
invariant-loop-relay l =
    l.rows.items ++ map relay_row (drop l.relay-index l.relays) ≡ l.initial.rows.items ++ map relay_row l.relays
