use Rattle.run_chart.proofs.Moments.{moment_more}
use Rattle.run_chart.proofs.bars.all_moments.Goals as goal

pub loop-number-preserved : goal.loop-number-preserved
loop-number-preserved c =
    moment_more c.args.places.now c.args.rows.now c.loop-number.number _ c.index-rows-number.result _
    c.loop-number.found.items _
    c.loop-number-test.true c.index-rows-number.is c.loop-number.invariant
    (rw (c.moment_of.ensures, c.place_at-line.ensures) at c.in_ok-add_moment.ensures)
