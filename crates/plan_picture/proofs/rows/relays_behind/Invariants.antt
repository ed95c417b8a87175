use Rattle.std.proofs.Common.{◌≡◌, drop, length}
use Rattle.plan_picture.specs.Behind.{all_behind, with_relays}
use Rattle.plan_picture.proofs.rows.relays_behind.Given as goal

-- with the relays that are left, they are all of them
abbrev pub invariant-loop-relay : goal.invariant-loop-relay
invariant-loop-relay l =
    with_relays l.found.items (drop l.relay-index l.sheet.ways.now.relays.items)
    ≡ all_behind (length l.sheet.texts.now) l.sheet.ways.now.relays.items
