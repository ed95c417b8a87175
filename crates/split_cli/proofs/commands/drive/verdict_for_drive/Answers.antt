use Rattle.std.proofs.Common.{refl}
use Rattle.split_words.specs.Commands.{Drive}
use Rattle.split_cli.specs.Due.{IsDueForCommand}
use Rattle.split_cli.proofs.LoadedFiles.{loading_stops, three_due}
use Rattle.front_end.proofs.LoadedFiles.{three_names}
use Rattle.front_end.proofs.Stages.{due_handed_on}
use Rattle.split_cli.proofs.commands.drive.verdict_for_drive.Goals as goal

pub returns-in_err-loaded-clause-due : goal.returns-in_err-loaded-clause-due
returns-in_err-loaded-clause-due g c =
    due_handed_on (IsDueForCommand (Drive c.args.program.now c.args.hosts.now c.args.start.now c.args.events) _)
    c.in_err-loaded.field-0.0 c.from_residual.result c.from_residual.ensures
    (loading_stops (Drive c.args.program.now c.args.hosts.now c.args.start.now c.args.events) _ _
    c.in_err-loaded.field-0.0
    (three_names c.program_file.result c.host_file.result c.script_file.result _ _ _ c.program_file.ensures.name
    c.host_file.ensures.name c.script_file.ensures.name)
    c.in_err-loaded.ensures.kept c.in_err-loaded.ensures.stopped)

pub returns-clause-due : goal.returns-clause-due
returns-clause-due g c =
    three_due (Drive c.args.program.now c.args.hosts.now c.args.start.now c.args.events) c.args.program.now
    c.args.hosts.now
    c.args.start.now c.program_file.result c.host_file.result c.script_file.result _ c.in_ok-loaded.loaded.items
    c.p-item.result c.h-item.result c.s-item.result c.verdict_for_loaded.result refl c.in_ok-loaded.ensures.loaded
    (rw c.as_slice.ensures.value at c.p-item.is) (rw c.as_slice.ensures.value at c.h-item.is)
    (rw c.as_slice.ensures.value at c.s-item.is)
    c.program_file.ensures.name c.program_file.ensures.most c.host_file.ensures.name c.host_file.ensures.most
    c.script_file.ensures.name c.script_file.ensures.most
    c.in_ok-loaded.ensures.loads c.in_ok-loaded.ensures.faults (λ verdict. c.in_ok-loaded.ensures.kept)
    (c.verdict_for_loaded.ensures c.args.program.now c.args.hosts.now)
