use Rattle.std.proofs.Common.{◌≤◌, ◌+◌, ℕ, [], ◌∷◌, arith, drop, subst, sym}
use Rattle.std.specs.Prelude.{All}
use Rattle.run_sheet.specs.SendLanes.{lanes_from}
use Rattle.run_sheet.proofs.LaneCounts.{behind_few, lane_next}
use Rattle.run_sheet.proofs.ListWalks.{walked}
use Rattle.run_sheet.proofs.lanes.lanes_of.Goals as goal

pub follow-lane-requires : goal.follow-lane-requires
follow-lane-requires c = λ k d less. omega (arith, c.loop-row.invariant.few k d less)

pub loop-row-preserved : goal.loop-row-preserved
loop-row-preserved c =
    let at = c.loop-row.row-index in
    let rows = c.args.rows.now in
    let row = c.row-item.result in
    let counts = c.loop-row.counts in
    let next = c.follow-lane.new.counts in
    let lane = c.follow-lane.result in
    record {
      lanes = walked c.loop-row.lanes.items c.push.new.self.items (lane ∷ []) (lanes_from counts (drop at rows))
          (lanes_from next (drop (at + 1) rows)) _ c.loop-row.invariant.lanes
          (lane_next rows at row row counts next lane c.loop-row-test.true c.row-item.is c.follow-lane.ensures.lane
          c.follow-lane.ensures.counts) c.in_ok-push.ensures.items;
      few = subst (All (λ (count : ℕ). count ≤ at + 1)) (sym c.follow-lane.ensures.counts)
          (behind_few counts row at c.loop-row.invariant.few);
    }
