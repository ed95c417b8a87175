use Rattle.std.proofs.Common.{take}
use Rattle.std.specs.List.{AllZip}
use Rattle.jifmerge.specs.Merged.{StandsForJournal}
use Rattle.jifmerge.proofs.merged.bytes_of_all.Given as goal

-- the bytes of the journals so far
abbrev pub invariant-loop-journal : goal.invariant-loop-journal
invariant-loop-journal l =
    AllZip (λ journal bytes. StandsForJournal journal bytes.items) (take l.journal-index l.journals) l.all.items
