use Rattle.split_cli.proofs.CodeLines.{entry_lines_at}
use Rattle.split_cli.proofs.ReportLines.{added}
use Rattle.split_cli.proofs.WorldLines.{item_at}
use Rattle.split_cli.proofs.code_lines.push_entries.Goals as goal

pub loop-number-preserved : goal.loop-number-preserved
loop-number-preserved c =
    let within = rw c.entries-entry-items.ensures.entries at c.loop-number-test.true in
    let entries = c.args.code.now.entries in
    let item = item_at entries c.loop-number.number within in
    let pushed = rw (c.entries-entry-items.ensures.entries, item.1) at c.in_ok-push_entry.ensures in
    added _ _ _ c.loop-number.invariant pushed
    (entry_lines_at c.args.code.now entries c.loop-number.number item.0 within (item.1 item.0))
