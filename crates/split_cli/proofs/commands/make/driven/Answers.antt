use Rattle.net_world.specs.Fits.{world_of}
use Rattle.front_end.specs.PlacedCode.{cost_of}
use Rattle.split_cli.specs.Making.{made_text}
use Rattle.front_end.specs.PlacedShapes.{placed_shape}
use Rattle.front_end.specs.declared.step_counts.TheConstants.{STEPS}
use Rattle.script_stages.proofs.ScriptReads.{code_hosts}
use Rattle.split_cli.proofs.DriveDue.{obey_from, report_made}
use Rattle.split_cli.proofs.commands.make.driven.Goals as goal

pub start-requires : goal.start-requires
start-requires c =
    rw c.hosts.ensures (code_hosts (placed_shape c.args.placed.now) c.in_ok-code.code c.in_ok-code.ensures)

pub drive-requires-clause-obey : goal.drive-requires-clause-obey
drive-requires-clause-obey c =
    obey_from c.in_ok-code.code c.hosts.result.now c.args.store.now _ c.in_ok-world.ensures.start

pub returns : goal.returns
returns c =
    report_made (made_text c.args.statements (cost_of (placed_shape c.args.placed.now)))
    (placed_shape c.args.placed.now) c.in_ok-code.code c.args.store.now STEPS
    (world_of c.in_ok-world.world) _ c.in_ok-driven.driven _ c.in_ok-code.ensures
    (rw c.hosts.ensures at c.in_ok-world.ensures.start) c.in_ok-driven.ensures.driven
    (rw c.cost.ensures at c.in_ok-text.ensures)
