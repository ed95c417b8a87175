use Rattle.std.proofs.lemmas.Result.{on_ok_weaker}
use Rattle.run_sheet.proofs.TopEntries.{top_written}
use Rattle.run_sheet.proofs.stacks.+push_entries.Goals as goal

pub returns-in_ok-push_entry-in-len1-up : goal.returns-in_ok-push_entry-in-len1-up
returns-in_ok-push_entry-in-len1-up t c =
    on_ok_weaker c.push_entries.result
    (λ others. top_written c.args.stack.now _ c.args.most _ _ _ c.in-len1-up.len_at_least c.if-most-eq0.false
    c.in_ok-push_entry-in-len1-up.ensures others) c.push_entries.ensures
