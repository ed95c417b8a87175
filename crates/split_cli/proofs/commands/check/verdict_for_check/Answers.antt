use Rattle.split_words.specs.Commands.{Check}
use Rattle.split_cli.specs.Due.{IsDueForCommand}
use Rattle.split_cli.proofs.LoadedFiles.{loading_stops, two_due}
use Rattle.front_end.proofs.LoadedFiles.{two_files, two_names}
use Rattle.front_end.proofs.Stages.{due_handed_on}
use Rattle.split_cli.proofs.commands.check.verdict_for_check.Goals as goal

pub returns-in_err-loaded-clause-due : goal.returns-in_err-loaded-clause-due
returns-in_err-loaded-clause-due g c =
    due_handed_on (IsDueForCommand (Check c.args.program.now c.args.hosts.now) _) c.in_err-loaded.field-0.0
    c.from_residual.result c.from_residual.ensures
    (loading_stops (Check c.args.program.now c.args.hosts.now) _ _ c.in_err-loaded.field-0.0
    (two_names c.program_file.result c.host_file.result _ _ c.program_file.ensures.name c.host_file.ensures.name)
    c.in_err-loaded.ensures.kept c.in_err-loaded.ensures.stopped)

pub returns-clause-due : goal.returns-clause-due
returns-clause-due g c =
    two_due c.args.program.now c.args.hosts.now _ c.p-item.result c.h-item.result c.verdict_for_loaded.result
    (two_files _ c.args.program.now c.args.hosts.now c.program_file.result c.host_file.result
    c.in_ok-loaded.loaded.items c.p-item.result c.h-item.result c.in_ok-loaded.ensures.loaded
    (rw c.as_slice.ensures.value at c.p-item.is) (rw c.as_slice.ensures.value at c.h-item.is)
    c.program_file.ensures.name c.program_file.ensures.most c.host_file.ensures.name c.host_file.ensures.most)
    c.in_ok-loaded.ensures.loads c.in_ok-loaded.ensures.faults c.in_ok-loaded.ensures.kept
    (c.verdict_for_loaded.ensures c.args.program.now c.args.hosts.now)
