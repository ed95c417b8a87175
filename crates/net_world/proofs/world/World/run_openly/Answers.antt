use Rattle.std.proofs.Common.{rules, ◌≤◌, length}
use Rattle.net_world.proofs.Seeing.{yes, no, untrue, run_all}
use Rattle.net_world.proofs.world.World.run_openly.Goals as goal

pub returns-then-not-runs_openly : goal.returns-then-not-runs_openly
returns-then-not-runs_openly c =
    no (λ all. untrue c.runs_openly.result c.if-not-runs_openly.true c.runs_openly.ensures
    (all (record { 0 = c.loop-host.host })))

pub returns : goal.returns
returns c =
    let all : length c.args.self.now.hosts ≤ c.loop-host.host = search rules in
    yes (run_all c.args.code.now c.args.self.now c.loop-host.host all c.loop-host.invariant.openly)
