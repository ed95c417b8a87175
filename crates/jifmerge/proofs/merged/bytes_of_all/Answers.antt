use Rattle.std.proofs.Common.{subst}
use Rattle.front_end.specs.declared.load.Loaded.{Loaded}
use Rattle.jifmerge.specs.Merged.{StandsForJournal}
use Rattle.jifmerge.proofs.Journals.{one_more_stands}
use Rattle.jifmerge.proofs.merged.bytes_of_all.Goals as goal

pub loop-journal-preserved : goal.loop-journal-preserved
loop-journal-preserved c =
    rw c.in_ok-push.ensures.items
    (one_more_stands c.args.journals.now c.loop-journal.journal-index c.journal-item.result _ _
    c.loop-journal-test.true c.loop-journal.invariant
    (subst (λ (journal : Loaded). StandsForJournal journal c.in_ok-bytes_of.field-0.items) c.journal-item.is
    c.in_ok-bytes_of.ensures))
