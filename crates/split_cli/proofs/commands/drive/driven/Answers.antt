use Rattle.net_world.specs.Fits.{world_of}
use Rattle.split_cli.specs.Drive.{drive_text}
use Rattle.front_end.specs.PlacedShapes.{placed_shape}
use Rattle.script_stages.proofs.ScriptReads.{code_hosts}
use Rattle.split_cli.proofs.DriveDue.{obey_from, report_made}
use Rattle.split_cli.proofs.commands.drive.driven.Goals as goal

pub start-requires : goal.start-requires
start-requires c =
    rw c.hosts.ensures (code_hosts (placed_shape c.args.placed.now) c.in_ok-code.code c.in_ok-code.ensures)

pub drive-requires-clause-obey : goal.drive-requires-clause-obey
drive-requires-clause-obey c =
    obey_from c.in_ok-code.code c.hosts.result.now c.args.store.now _ c.in_ok-world.ensures.start

pub returns : goal.returns
returns c =
    report_made drive_text (placed_shape c.args.placed.now) c.in_ok-code.code c.args.store.now c.args.most
    (world_of c.in_ok-world.world) _ c.in_ok-driven.driven _ c.in_ok-code.ensures
    (rw c.hosts.ensures at c.in_ok-world.ensures.start) c.in_ok-driven.ensures.driven c.in_ok-text.ensures
