use Rattle.msg_cost.proofs.Ascending.{there, not_there}
use Rattle.msg_cost.proofs.around.places_around.Goals as goal

pub returns-then-stands_at : goal.returns-then-stands_at
returns-then-stands_at c =
    let is = c.stands_at.ensures.0 c.if-stands_at.true in
    there c.args.statement c.args.block.now c.place_from-place.result (c.requires.0 c.if-not-ascending.false)
    c.place_from-place.ensures is.0 is.1

pub returns : goal.returns
returns c =
    not_there c.args.statement c.args.block.now c.place_from-place.result (c.requires.0 c.if-not-ascending.false)
    c.place_from-place.ensures
    (λ within same. let is = c.stands_at.ensures.1 (within, same) in absurd (cc))
