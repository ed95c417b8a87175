use Rattle.std.proofs.Common.{refl}
use Rattle.split_words.specs.Commands.{Compare}
use Rattle.split_cli.specs.Due.{IsDueForCommand}
use Rattle.split_cli.proofs.LoadedFiles.{loading_stops, four_due}
use Rattle.front_end.proofs.LoadedFiles.{four_names}
use Rattle.front_end.proofs.Stages.{due_handed_on}
use Rattle.split_cli.proofs.commands.compare.verdict_for_compare.Goals as goal

pub returns-in_err-loaded-clause-due : goal.returns-in_err-loaded-clause-due
returns-in_err-loaded-clause-due g c =
    due_handed_on (IsDueForCommand (Compare c.args.program.now c.args.hosts.now c.args.one.now c.args.other.now) _)
    c.in_err-loaded.field-0.0 c.from_residual.result c.from_residual.ensures
    (loading_stops (Compare c.args.program.now c.args.hosts.now c.args.one.now c.args.other.now) _ _
    c.in_err-loaded.field-0.0
    (four_names c.program_file.result c.host_file.result c.script_file.result c.script_file-2.result _ _ _ _
    c.program_file.ensures.name c.host_file.ensures.name c.script_file.ensures.name c.script_file-2.ensures.name)
    c.in_err-loaded.ensures.kept c.in_err-loaded.ensures.stopped)

pub returns-clause-due : goal.returns-clause-due
returns-clause-due g c =
    four_due (Compare c.args.program.now c.args.hosts.now c.args.one.now c.args.other.now) c.args.program.now
    c.args.hosts.now c.args.one.now c.args.other.now c.program_file.result c.host_file.result c.script_file.result
    c.script_file-2.result _ c.in_ok-loaded.loaded.items c.p-item.result c.h-item.result c.s-item.result c.t-item.result
    c.verdict_for_loaded.result refl c.in_ok-loaded.ensures.loaded
    (rw c.as_slice.ensures.value at c.p-item.is) (rw c.as_slice.ensures.value at c.h-item.is)
    (rw c.as_slice.ensures.value at c.s-item.is) (rw c.as_slice.ensures.value at c.t-item.is)
    c.program_file.ensures.name c.program_file.ensures.most c.host_file.ensures.name c.host_file.ensures.most
    c.script_file.ensures.name c.script_file.ensures.most c.script_file-2.ensures.name c.script_file-2.ensures.most
    c.in_ok-loaded.ensures.loads c.in_ok-loaded.ensures.faults (λ verdict. c.in_ok-loaded.ensures.kept)
    (c.verdict_for_loaded.ensures c.args.program.now c.args.hosts.now)
