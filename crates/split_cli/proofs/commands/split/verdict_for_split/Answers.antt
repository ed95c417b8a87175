use Rattle.std.proofs.Common.{refl, inl}
use Rattle.split_words.specs.Commands.{Split}
use Rattle.split_cli.specs.Due.{IsDueForCommand}
use Rattle.split_cli.specs.Split.{split_shape}
use Rattle.split_cli.proofs.LoadedFiles.{loading_stops}
use Rattle.front_end.proofs.LoadedFiles.{TwoFiles, two_files, two_names}
use Rattle.split_cli.proofs.SplitDue.{no_split, split_due, split_saves}
use Rattle.front_end.proofs.Stages.{due_handed_on}
use Rattle.split_cli.proofs.commands.split.verdict_for_split.Goals as goal

pub returns-in_err-loaded-clause-due : goal.returns-in_err-loaded-clause-due
returns-in_err-loaded-clause-due g c =
    due_handed_on (IsDueForCommand (Split c.args.program.now c.args.hosts.now c.args.out.now) _)
    c.in_err-loaded.field-0.0 c.from_residual.result c.from_residual.ensures
    (loading_stops (Split c.args.program.now c.args.hosts.now c.args.out.now) _ _ c.in_err-loaded.field-0.0
    (two_names c.program_file.result c.host_file.result _ _ c.program_file.ensures.name c.host_file.ensures.name)
    c.in_err-loaded.ensures.kept c.in_err-loaded.ensures.stopped)

pub returns-in_err-loaded-clause-saves : goal.returns-in_err-loaded-clause-saves
returns-in_err-loaded-clause-saves g c = inl c.in_err-loaded.ensures.kept

pub returns-in_err-split-clause-saves : goal.returns-in_err-split-clause-saves
returns-in_err-split-clause-saves g c = inl c.in_ok-loaded.ensures.kept

pub returns-in_err-split-clause-due : goal.returns-in_err-split-clause-due
returns-in_err-split-clause-due g c =
    let two : TwoFiles (g.F.Files.held c.args.files.now) c.args.program.now c.args.hosts.now c.p-item.result
    c.h-item.result =
    two_files _ c.args.program.now c.args.hosts.now c.program_file.result c.host_file.result
    c.in_ok-loaded.loaded.items c.p-item.result c.h-item.result c.in_ok-loaded.ensures.loaded
    (rw c.as_slice.ensures.value at c.p-item.is) (rw c.as_slice.ensures.value at c.h-item.is)
    c.program_file.ensures.name c.program_file.ensures.most c.host_file.ensures.name c.host_file.ensures.most in
    due_handed_on (IsDueForCommand (Split c.args.program.now c.args.hosts.now c.args.out.now) _)
    c.in_err-split.field-0.0 c.from_residual-in_err-split.result c.from_residual-in_err-split.ensures
    (no_split c.args.program.now c.args.hosts.now c.args.out.now _ c.p-item.result c.h-item.result
    c.in_err-split.field-0.0 two c.in_ok-loaded.ensures.loads c.in_ok-loaded.ensures.faults
    c.in_ok-loaded.ensures.kept
    (c.in_err-split.ensures two.program_bytes two.hosts_bytes two.program_loaded two.hosts_loaded))

pub returns-clause-due : goal.returns-clause-due
returns-clause-due g c =
    let two : TwoFiles (g.F.Files.held c.args.files.now) c.args.program.now c.args.hosts.now c.p-item.result
    c.h-item.result =
    two_files _ c.args.program.now c.args.hosts.now c.program_file.result c.host_file.result
    c.in_ok-loaded.loaded.items c.p-item.result c.h-item.result c.in_ok-loaded.ensures.loaded
    (rw c.as_slice.ensures.value at c.p-item.is) (rw c.as_slice.ensures.value at c.h-item.is)
    c.program_file.ensures.name c.program_file.ensures.most c.host_file.ensures.name c.host_file.ensures.most in
    split_due c.args.program.now c.args.hosts.now c.args.out.now _ _ c.p-item.result c.h-item.result
    (split_shape c.in_ok-split.split) c.saved.result two c.in_ok-loaded.ensures.loads c.in_ok-loaded.ensures.faults
    c.in_ok-loaded.ensures.kept
    (c.in_ok-split.ensures two.program_bytes two.hosts_bytes two.program_loaded two.hosts_loaded)
    (record { held = refl; saves = refl; loads = refl; faults = refl }) c.saved.ensures.loads c.saved.ensures.under
    c.saved.ensures.report c.saved.ensures.saved c.saved.ensures.faults c.saved.ensures.fails

pub returns-clause-saves : goal.returns-clause-saves
returns-clause-saves g c =
    let two : TwoFiles (g.F.Files.held c.args.files.now) c.args.program.now c.args.hosts.now c.p-item.result
    c.h-item.result =
    two_files _ c.args.program.now c.args.hosts.now c.program_file.result c.host_file.result
    c.in_ok-loaded.loaded.items c.p-item.result c.h-item.result c.in_ok-loaded.ensures.loaded
    (rw c.as_slice.ensures.value at c.p-item.is) (rw c.as_slice.ensures.value at c.h-item.is)
    c.program_file.ensures.name c.program_file.ensures.most c.host_file.ensures.name c.host_file.ensures.most in
    split_saves c.args.program.now c.args.hosts.now c.args.out.now _ _ c.p-item.result c.h-item.result
    (split_shape c.in_ok-split.split) two c.in_ok-loaded.ensures.loads c.in_ok-loaded.ensures.kept
    (c.in_ok-split.ensures two.program_bytes two.hosts_bytes two.program_loaded two.hosts_loaded)
    (record { held = refl; saves = refl; loads = refl; faults = refl }) c.saved.ensures.loads c.saved.ensures.under
