use Rattle.front_end.proofs.LoadedFiles.{two_files, two_names}
use Rattle.front_end.proofs.Stages.{due_handed_on}
use Rattle.jifexplain.specs.Due.{IsDueForNames}
use Rattle.jifexplain.specs.Questions.{asked_shape}
use Rattle.jifexplain.proofs.DueFiles.{loading_stops, two_due}
use Rattle.jifexplain.proofs.due.verdict_or_stop.Goals as goal

pub returns-in_err-loaded-clause-due : goal.returns-in_err-loaded-clause-due
returns-in_err-loaded-clause-due g c =
    due_handed_on (IsDueForNames c.args.names.now.program.now c.args.names.now.hosts.now
    (asked_shape c.args.names.now.asked) _) c.in_err-loaded.field-0.0
    c.from_residual.result c.from_residual.ensures
    (loading_stops c.args.names.now.program.now c.args.names.now.hosts.now (asked_shape c.args.names.now.asked) _ _ c.in_err-loaded.field-0.0
    (two_names c.program_file.result c.host_file.result _ _ c.program_file.ensures.name c.host_file.ensures.name)
    c.in_err-loaded.ensures.stopped)

pub returns-clause-due : goal.returns-clause-due
returns-clause-due g c =
    two_due c.args.names.now.program.now c.args.names.now.hosts.now (asked_shape c.args.names.now.asked) _ c.p-item.result c.h-item.result c.verdict_for_loaded.result
    (two_files _ c.args.names.now.program.now c.args.names.now.hosts.now c.program_file.result c.host_file.result
    c.in_ok-loaded.loaded.items c.p-item.result c.h-item.result c.in_ok-loaded.ensures.loaded
    (rw c.as_slice.ensures.value at c.p-item.is) (rw c.as_slice.ensures.value at c.h-item.is)
    c.program_file.ensures.name c.program_file.ensures.most c.host_file.ensures.name c.host_file.ensures.most)
    c.in_ok-loaded.ensures.loads c.in_ok-loaded.ensures.faults c.verdict_for_loaded.ensures
