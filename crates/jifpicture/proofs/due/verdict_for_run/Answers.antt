use Rattle.std.proofs.Common.{[], ◌∷◌, inr, refl}
use Rattle.front_end.proofs.LoadedFiles.{three_names}
use Rattle.front_end.proofs.Stages.{due_handed_on}
use Rattle.jifpicture.specs.Due.{IsDue}
use Rattle.jifpicture.proofs.DueFiles.{loading_stops, run_ends}
use Rattle.jifpicture.proofs.due.verdict_for_run.Goals as goal

pub returns-in_err-loaded-clause-due : goal.returns-in_err-loaded-clause-due
returns-in_err-loaded-clause-due g c =
    due_handed_on (IsDue (c.args.program.now ∷ c.args.hosts.now ∷ c.args.events.now ∷ []) _) c.in_err-loaded.field-0.0
    c.from_residual.result c.from_residual.ensures
    (loading_stops (c.args.program.now ∷ c.args.hosts.now ∷ c.args.events.now ∷ []) _ _ c.in_err-loaded.field-0.0
    (inr refl)
    (three_names c.program_file.result c.host_file.result c.script_file.result _ _ _ c.program_file.ensures.name
    c.host_file.ensures.name c.script_file.ensures.name)
    c.in_err-loaded.ensures.stopped)

pub returns-clause-due : goal.returns-clause-due
returns-clause-due g c =
    run_ends c.args.program.now c.args.hosts.now c.args.events.now c.program_file.result c.host_file.result
    c.script_file.result _ c.in_ok-loaded.loaded.items c.p-item.result c.h-item.result c.e-item.result c.run_due.result
    c.in_ok-loaded.ensures.loaded (rw c.as_slice.ensures.value at c.p-item.is)
    (rw c.as_slice.ensures.value at c.h-item.is) (rw c.as_slice.ensures.value at c.e-item.is)
    c.program_file.ensures.name c.program_file.ensures.most c.host_file.ensures.name c.host_file.ensures.most
    c.script_file.ensures.name c.script_file.ensures.most c.in_ok-loaded.ensures.loads c.in_ok-loaded.ensures.faults
    c.run_due.ensures
