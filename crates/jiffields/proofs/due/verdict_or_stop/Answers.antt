use Rattle.front_end.proofs.LoadedFiles.{four_names}
use Rattle.front_end.proofs.Stages.{due_handed_on}
use Rattle.jiffields.specs.Due.{IsDueForAsked}
use Rattle.jiffields.specs.Words.{asked_shape}
use Rattle.jiffields.proofs.DueWords.{all_due, loading_stops}
use Rattle.jiffields.proofs.due.verdict_or_stop.Goals as goal

pub returns-in_err-loaded-clause-due : goal.returns-in_err-loaded-clause-due
returns-in_err-loaded-clause-due g c =
    due_handed_on (IsDueForAsked (asked_shape c.args.asked.now) _) c.in_err-loaded.field-0.0
    c.from_residual.result c.from_residual.ensures
    (loading_stops (asked_shape c.args.asked.now) _ _ c.in_err-loaded.field-0.0
    (four_names c.source_file.result c.file_of.result c.file_of-2.result c.file_of-3.result _ _ _ _
    c.source_file.ensures.name c.file_of.ensures.name c.file_of-2.ensures.name c.file_of-3.ensures.name)
    c.in_err-loaded.ensures.stopped)

pub returns-clause-due : goal.returns-clause-due
returns-clause-due g c =
    all_due (asked_shape c.args.asked.now) _ c.source_file.result c.file_of.result c.file_of-2.result
    c.file_of-3.result c.in_ok-loaded.loaded.items c.source-item.result c.hosts-item.result c.start-item.result
    c.journal-item.result c.verdict_for_loaded.result c.in_ok-loaded.ensures.loaded
    (rw c.as_slice.ensures.value at c.source-item.is) (rw c.as_slice.ensures.value at c.hosts-item.is)
    (rw c.as_slice.ensures.value at c.start-item.is) (rw c.as_slice.ensures.value at c.journal-item.is)
    c.source_file.ensures.name c.source_file.ensures.most c.file_of.ensures.name c.file_of.ensures.most
    c.file_of-2.ensures.name c.file_of-2.ensures.most c.file_of-3.ensures.name c.file_of-3.ensures.most
    (record { loads = c.in_ok-loaded.ensures.loads; no_fault = c.in_ok-loaded.ensures.faults })
    c.verdict_for_loaded.ensures
