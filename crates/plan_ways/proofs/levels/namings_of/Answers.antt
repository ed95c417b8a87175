use Rattle.std.proofs.Common.{◌≡◌, ap, arith, length, refl}
use Rattle.plan_ways.specs.Levels.{namings_of, with_namings}
use Rattle.plan_ways.proofs.NamingCounts.{namings_count}
use Rattle.plan_ways.proofs.Walks.{folded_all}
use Rattle.plan_ways.proofs.levels.namings_of.Goals as goal

pub returns-clause-few : goal.returns-clause-few
returns-clause-few c =
    let made : c.loop-place.table.items ≡ namings_of c.args.code.now c.args.places.now =
    folded_all (with_namings c.args.code.now) (λ table. refl) c.args.places.now c.loop-place.place-index _ _
    c.loop-place-test.false c.loop-place.invariant in
    let count = namings_count c.args.code.now c.args.places.now in
    let few = c.entries-entries.ensures.sound.few_entries in
    omega (arith, ap length made, count, few)
