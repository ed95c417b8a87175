use Rattle.std.proofs.Common.{arith, ◌<◌, ◌^◌}
use Rattle.split_file.specs.Spelling.{entry_bytes}
use Rattle.split_file.proofs.Appends.{put_more}
use Rattle.split_file.proofs.writing.put_entries.Goals as goal

pub loop-entry-preserved : goal.loop-entry-preserved
loop-entry-preserved c =
    put_more entry_bytes (λ entry. entry.need < 2 ^ 64) c.args.entries.now c.loop-entry.entry-index _ _ _ _
    (omega arith) c.loop-entry.invariant
    c.in_ok-put_entry.ensures.bytes c.in_ok-put_entry.ensures.real
