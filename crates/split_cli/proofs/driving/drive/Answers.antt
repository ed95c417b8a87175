use Rattle.std.proofs.Common.{rules, ◌≡◌, ◌+◌, ℕ, [], None, arith, refl, subst}
use Rattle.net_world.specs.Fits.{world_of}
use Rattle.net_world.specs.Steps.{HaveMade}
use Rattle.net_world.specs.World.{IsStep}
use Rattle.net_world.proofs.NextGoes.{next_goes, not_stuck, only_memory}
use Rattle.split_cli.proofs.NextEvents.{HasGone, gone_on, rest_at, ended_at}
use Rattle.split_cli.proofs.driving.drive.Goals as goal

pub loop-made-init : goal.loop-made-init
loop-made-init c =
    record {
      events = [];
      count = refl;
      driven = refl;
      fits = c.requires.fits;
      obey = c.requires.obey;
      fresh = c.requires.fresh;
    }

pub only_memory-requires : goal.only_memory-requires
only_memory-requires c =
    let world = c.loop-made.world in
    let gone = c.loop-made.invariant in
    let next = rw c.in-Some.is at c.next_event.ensures in
    only_memory world c.in-Some.event c.apply.result c.in-Err.error (record {
      not_bad = c.apply.ensures.not_bad;
      not_there = c.apply.ensures.not_there;
      busy = c.apply.ensures.busy;
      no_token = c.apply.ensures.no_token;
      stopped = c.apply.ensures.stopped;
    })
    (next_goes c.args.code.now world c.in-Some.event gone.fits gone.obey next)
    (not_stuck world c.in-Some.event c.loop-made.made
    (let few = c.requires.most in let test = c.loop-made-test.true in omega (arith, few, test)) gone.fresh)
    c.in-Err.is

pub returns-in_default-clause-driven : goal.returns-in_default-clause-driven
returns-in_default-clause-driven c =
    let none : c.next_event.result ≡ None = search rules in
    rest_at c.args.code.now (world_of c.args.world.now) c.args.most c.loop-made.made c.loop-made.world
    c.loop-made.invariant (let test = c.loop-made-test.true in omega (arith, test))
    (rw none at c.next_event.ensures)

pub loop-made-preserved : goal.loop-made-preserved
loop-made-preserved c =
    let world = c.loop-made.world in
    let gone = c.loop-made.invariant in
    let next = rw c.in-Some.is at c.next_event.ensures in
    gone_on c.step_laws.ensures.misbehaving c.args.code.now (world_of c.args.world.now) c.loop-made.made world
    c.apply.new.self c.in-Some.event gone next
    (let step : IsStep c.args.code.now (world_of world) c.in-Some.event (world_of c.apply.new.self) = search rules in
    step)
    c.apply.ensures.fits
    (let made : (n : ℕ) → HaveMade n world.hosts → HaveMade (n + 1) c.apply.new.self.hosts = search rules in
    made c.loop-made.made gone.fresh)

pub returns-clause-driven : goal.returns-clause-driven
returns-clause-driven c =
    let test = c.loop-made-test.false in
    let all : c.loop-made.made ≡ c.args.most = omega (arith, test, c.loop-made.auto.made-end) in
    ended_at c.args.code.now (world_of c.args.world.now) c.args.most c.loop-made.world c.end_status-status.result
    (subst (λ (n : ℕ). HasGone c.args.code.now (world_of c.args.world.now) n c.loop-made.world) all
    c.loop-made.invariant)
    c.end_status-status.ensures
