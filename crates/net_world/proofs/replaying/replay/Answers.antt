use Rattle.std.proofs.Common.{◌≡◌, ℕ, ap, subst, Some, Err, get_or}
use Rattle.event_text.specs.declared.event.Event.{Event}
use Rattle.net_world.specs.Fits.{world_of}
use Rattle.net_world.specs.Replay.{IsReplayErrorOf}
use Rattle.net_world.specs.World.{IsStep, refusal_of, not_bad, not_there, host_busy, no_such_token}
use Rattle.net_world.proofs.ReplayedEvents.{run_more, stops}
use Rattle.net_world.proofs.replaying.replay.Goals as goal

pub returns-in-Err-clause-refused : goal.returns-in-Err-clause-refused
returns-in-Err-clause-refused c =
    let one = c.loop-line-item.result in
    let here = c.loop-line-item.is in
    let refusal = λ (it : ℕ × Event). refusal_of (world_of c.loop-line.world) it.1 in
    stops c.args.code.now (world_of c.args.world.now) (world_of c.loop-line.world) c.args.events.now
    c.loop-line.line-index one c.in-Err.error c.refused.result c.loop-line-test.true c.loop-line.invariant.ran
    (subst (λ (it : ℕ × Event). IsReplayErrorOf it.0 it.1 c.in-Err.error c.refused.result) here c.refused.ensures)
    (λ same. subst (λ it. refusal it ≡ Some not_bad) here (c.in-Err.ensures.not_bad.0 (ap Err same)))
    (λ same. subst (λ it. refusal it ≡ Some not_there) here (c.in-Err.ensures.not_there.0 (ap Err same)))
    (λ same. subst (λ it. refusal it ≡ Some host_busy) here (c.in-Err.ensures.busy.0 (ap Err same)))
    (λ count same. subst (λ it. refusal it ≡ Some (no_such_token count)) here
    ((c.in-Err.ensures.no_token count).0 (ap Err same)))

pub loop-line-preserved : goal.loop-line-preserved
loop-line-preserved c = record {
  ran = run_more c.args.code.now (world_of c.args.world.now) (world_of c.loop-line.world) _ c.args.events.now
      c.loop-line.line-index c.loop-line-item.result c.loop-line-test.true c.loop-line.invariant.ran
      (subst (λ (it : ℕ × Event). IsStep c.args.code.now (world_of c.loop-line.world) it.1 (world_of c.apply.new.self))
      c.loop-line-item.is c.in_default.ensures.ok);
  fits = c.apply.ensures.fits;
  made = c.in_default.ensures.made _ c.loop-line.invariant.made;
  own = λ k d less.
      c.fits_laws.ensures.own c.args.code.now (world_of c.loop-line.world) _ _ (get_or c.args.events.now k d).1
      c.in_default.ensures.ok (c.loop-line.invariant.own k d less);
}
