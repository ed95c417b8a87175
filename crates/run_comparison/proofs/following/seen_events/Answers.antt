use Rattle.std.proofs.Common.{◌≡◌, ℕ, refl, ap, subst, Some, Err, get_or}
use Rattle.event_text.specs.declared.event.Event.{Event}
use Rattle.net_world.specs.Fits.{world_of}
use Rattle.net_world.specs.Released.{Releases}
use Rattle.net_world.specs.Replay.{IsReplayErrorOf}
use Rattle.net_world.specs.World.{IsStep, refusal_of, not_bad, not_there, host_busy, no_such_token}
use Rattle.net_world.proofs.ReplayedEvents.{stops}
use Rattle.run_comparison.specs.FollowedRuns.{IsEventAdded, run_with}
use Rattle.run_comparison.proofs.FollowedEvents.{followed_more, followed_ran, released_more, released_all}
use Rattle.run_comparison.proofs.following.seen_events.Goals as goal

pub returns-in-Err-clause-refused : goal.returns-in-Err-clause-refused
returns-in-Err-clause-refused c =
    let here = c.said-item.is in
    let refusal = λ (it : ℕ × Event). refusal_of (world_of c.loop-said.world) it.1 in
    stops c.args.code.now (world_of c.args.world.now) (world_of c.loop-said.world) c.args.events.now
    c.loop-said.said-index c.said-item.result c.in-Err.error c.refused.result c.loop-said-test.true
    (followed_ran _ _ _ _ c.loop-said.invariant.followed)
    (subst (λ (it : ℕ × Event). IsReplayErrorOf it.0 it.1 c.in-Err.error c.refused.result) here c.refused.ensures)
    (λ same. subst (λ it. refusal it ≡ Some not_bad) here (c.in-Err.ensures.not_bad.0 (ap Err same)))
    (λ same. subst (λ it. refusal it ≡ Some not_there) here (c.in-Err.ensures.not_there.0 (ap Err same)))
    (λ same. subst (λ it. refusal it ≡ Some host_busy) here (c.in-Err.ensures.busy.0 (ap Err same)))
    (λ count same. subst (λ it. refusal it ≡ Some (no_such_token count)) here
    ((c.in-Err.ensures.no_token count).0 (ap Err same)))

pub returns-clause-released : goal.returns-clause-released
returns-clause-released c =
    released_all c.args.code.now c.args.table.now (world_of c.args.world.now) c.args.events.now
    c.loop-said.said-index c.loop-said.released.items c.loop-said-test.false c.loop-said.invariant.released

pub loop-said-preserved : goal.loop-said-preserved
loop-said-preserved c = record {
  followed = followed_more c.args.code.now (world_of c.args.world.now) (world_of c.loop-said.world)
      (world_of c.apply.new.self) c.args.events.now c.loop-said.said-index c.said-item.result
      (run_with c.loop-said.seen (world_of c.loop-said.world)) (run_with c.keep.new.self (world_of c.loop-said.world))
      c.loop-said-test.true c.loop-said.invariant.followed refl
      (subst (λ (it : ℕ × Event). IsEventAdded c.args.code.now (world_of c.loop-said.world) it
      (run_with c.loop-said.seen (world_of c.loop-said.world)) (run_with c.keep.new.self (world_of c.loop-said.world)))
      c.said-item.is (c.in_ok-keep.ensures (world_of c.loop-said.world)))
      (subst (λ (it : ℕ × Event). IsStep c.args.code.now (world_of c.loop-said.world) it.1 (world_of c.apply.new.self))
      c.said-item.is c.in_default.ensures.ok);
  released = released_more c.args.code.now c.args.table.now (world_of c.args.world.now) (world_of c.loop-said.world)
      c.args.events.now c.loop-said.said-index c.said-item.result c.loop-said.released.items
      c.in_ok-add_released.ensures.0
      _ c.loop-said-test.true (followed_ran _ _ _ _ c.loop-said.invariant.followed) c.loop-said.invariant.released
      (subst (λ (it : ℕ × Event). Releases c.args.code.now c.args.table.now (world_of c.loop-said.world) it.1
      c.in_ok-add_released.ensures.0) c.said-item.is c.in_ok-add_released.ensures.1) c.in_ok-add_released.ensures.2;
  fits = c.apply.ensures.fits;
  made = c.in_default.ensures.made _ c.loop-said.invariant.made;
  own = λ k d less.
      c.fits_laws.ensures.own c.args.code.now (world_of c.loop-said.world) _ _ (get_or c.args.events.now k d).1
      c.in_default.ensures.ok (c.loop-said.invariant.own k d less);
}
