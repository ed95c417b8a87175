use Rattle.std.proofs.Common.{◌+◌, drop, length, rules}
use Rattle.jiftokens.proofs.TokenOrder.{in_order, order_next, within_text, rows_more, stands_at}
use Rattle.jiftokens.proofs.listing.listing.Goals as goal

pub loop-number-init : goal.loop-number-init
loop-number-init c =
    let order = in_order c.args.text.now c.args.tokens.now c.requires.read in search rules

pub moved-place-requires-clause-within : goal.moved-place-requires-clause-within
moved-place-requires-clause-within c =
    within_text c.index-tokens-number.result.at (length c.args.text.now)
    (drop (c.loop-number.number + 1) c.args.tokens.now)
    (order_next c.loop-number.place.at (length c.args.text.now) c.args.tokens.now c.loop-number.number
    c.index-tokens-number.result c.loop-number-test.true c.index-tokens-number.is c.loop-number.invariant.3).1

pub loop-number-preserved : goal.loop-number-preserved
loop-number-preserved c =
    let text = c.args.text.now in
    let place = c.moved-place.result in
    let order =
    order_next c.loop-number.place.at (length text) c.args.tokens.now c.loop-number.number c.index-tokens-number.result
    c.loop-number-test.true c.index-tokens-number.is c.loop-number.invariant.3 in
    let stands =
    stands_at text place c.index-tokens-number.result.at (drop (c.loop-number.number + 1) c.args.tokens.now)
    c.moved-place.ensures.at c.moved-place.ensures.line c.moved-place.ensures.column order.1 in (
      rows_more text c.args.tokens.now c.loop-number.number c.index-tokens-number.result _ _
          c.loop-number-test.true c.index-tokens-number.is c.loop-number.invariant.0 c.in_ok-push_row.ensures,
      stands.0,
      stands.1,
      stands.2,
    )
