use Rattle.std.proofs.Common.{◌++◌, Option, ap, ◌∙◌}
use Rattle.plan_ways.specs.Ends.{kept}
use Rattle.plan_ways.specs.Ways.{back_to, sheet_shape}
use Rattle.plan_ways.specs.declared.ends.Way.{Way}
use Rattle.plan_ways.proofs.WayWalks.{front_and_all}
use Rattle.plan_ways.proofs.asking.push_returns.Goals as goal

pub returns : goal.returns
returns c =
    front_and_all (λ entry. kept (back_to (sheet_shape c.args.sheet.now) c.args.place c.args.statement entry))
    c.entries_behind-entries.result.now _ c.loop-entry.entry-index c.args.ways.now.items _ c.loop-entry.ways.items
    c.push_kept.new.ways.items c.loop-entry-test.false c.entries_behind-entries.ensures
    (c.in_ok-push_kept.ensures
    ∙ ap (λ (found : Option Way). c.args.ways.now.items ++ kept found) c.end_of_main.ensures)
    c.loop-entry.invariant
