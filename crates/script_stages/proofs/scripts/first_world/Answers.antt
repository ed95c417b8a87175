use Rattle.std.proofs.Common.{refl}
use Rattle.std.proofs.lemmas.Result.{IfOk-weaker}
use Rattle.net_world.specs.Fits.{world_of}
use Rattle.front_end.specs.PlacedShapes.{placed_shape}
use Rattle.script_stages.proofs.ScriptReads.{code_hosts}
use Rattle.script_stages.proofs.ScriptReads.{first_of_program, own_in_first}
use Rattle.script_stages.proofs.scripts.first_world.Goals as goal

pub start-requires : goal.start-requires
start-requires c =
    rw c.hosts.ensures (code_hosts (placed_shape c.args.placed.now) c.args.code.now c.requires.code)

pub returns-clause-first : goal.returns-clause-first
returns-clause-first c =
    IfOk-weaker c.start.result _ _
    (λ world is. first_of_program (placed_shape c.args.placed.now) c.args.code.now c.args.said.now (world_of world) _ _
    c.requires.code (rw c.hosts.ensures at is) c.bad-bad.ensures c.start-store.ensures)
    c.start.ensures.start

pub returns-clause-own : goal.returns-clause-own
returns-clause-own c =
    IfOk-weaker c.start.result _ _
    (λ world is. own_in_first c.fits_laws.ensures.own_at_start c.args.code.now
    (placed_shape c.args.placed.now).source.file.hosts _ _ c.args.said.now (world_of world) c.args.said.now.events
    (code_hosts (placed_shape c.args.placed.now) c.args.code.now c.requires.code) (rw c.hosts.ensures at is)
    c.bad-bad.ensures refl c.requires.own)
    c.start.ensures.start
