use Rattle.plan_ways.specs.Readers.{readers_by_number}
use Rattle.plan_ways.proofs.Walks.{table_listed}
use Rattle.plan_ways.proofs.readers.readers_of.Goals as goal

pub loop-number-preserved : goal.loop-number-preserved
loop-number-preserved c =
    table_listed (readers_by_number c.args.code.now) c.loop-number.number c.in_ok-readers_on.field-0 _ _
    c.loop-number.invariant c.in_ok-push.ensures.items c.in_ok-readers_on.ensures
