use Rattle.std.proofs.Common.{refl}
use Rattle.front_end.specs.Loads.{files_change}
use Rattle.split_cli.proofs.MakeDue.{made_due}
use Rattle.split_cli.proofs.commands.make.verdict_for_make.Goals as goal

pub returns : goal.returns
returns g c =
    made_due c.args.statements (files_change g.F.Files c.args.files.now c.args.files.now) c.verdict_for_made.result
    (record { loads = refl; no_fault = refl }) (record { saves = refl; held = refl }) c.verdict_for_made.ensures
