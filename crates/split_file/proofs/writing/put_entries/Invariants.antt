use Rattle.std.proofs.Common.{take, ◌<◌, ◌^◌}
use Rattle.split_file.specs.Spelling.{entry_bytes}
use Rattle.split_file.specs.Put.{ArePut}
use Rattle.split_file.proofs.writing.put_entries.Given as goal

abbrev pub invariant-loop-entry : goal.invariant-loop-entry
invariant-loop-entry l =
    ArePut entry_bytes (λ entry. entry.need < 2 ^ 64) l.initial.out.items (take l.entry-index l.entries) l.out.items
