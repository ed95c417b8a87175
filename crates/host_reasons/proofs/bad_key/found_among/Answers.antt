use Rattle.std.proofs.Common.{drop, ◌+◌, arith}
use Rattle.toml.specs.View.{items_view, table_view}
use Rattle.host_decl.specs.Schema.{tables_of}
use Rattle.host_reasons.proofs.Tables.{bad_found, bad_on, sound_on, table_here}
use Rattle.host_reasons.proofs.bad_key.found_among.Goals as goal

pub returns-in-Some-found_of-clause-some : goal.returns-in-Some-found_of-clause-some
returns-in-Some-found_of-clause-some c =
    bad_found c.args.kind c.loop-item.number c.in-Some-found_of.found.number
    (tables_of (items_view (drop c.loop-item.item-index c.args.items.now))) (tables_of (items_view c.args.items.now))
    (tables_of (items_view (drop (c.loop-item.item-index + 1) c.args.items.now))) (table_view c.in-Some.table.now)
    c.in-Some-found_of.found.key.now c.in-Some-found_of.found.fault c.loop-item.invariant.1
    (table_here c.args.items.now c.loop-item.item-index c.item-item.result (table_view c.in-Some.table.now)
    c.loop-item-test.true c.item-item.is c.in-Some.ensures)
    c.in-Some-found_of.ensures.number c.in-Some-found_of.ensures.least c.in-Some-found_of.ensures.fault

pub loop-item-preserved : goal.loop-item-preserved
loop-item-preserved c =
    let is = table_here c.args.items.now c.loop-item.item-index c.item-item.result (table_view c.in-Some.table.now)
    c.loop-item-test.true c.item-item.is c.in-Some.ensures in (
      sound_on c.args.kind _ _ _ (table_view c.in-Some.table.now) c.loop-item.invariant.0 is
          c.in_default-found_of.ensures.none,
      bad_on c.args.kind c.loop-item.number _ _ _ (table_view c.in-Some.table.now) c.loop-item.invariant.1 is
          c.in_default-found_of.ensures.none,
      (let below = c.loop-item.invariant.2 in omega (arith, below)),
    )
