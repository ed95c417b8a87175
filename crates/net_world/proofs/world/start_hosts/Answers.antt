use Rattle.std.proofs.Common.{rules}
use Rattle.net_world.specs.Fits.{PresentFits}
use Rattle.net_world.specs.Steps.{HasMade}
use Rattle.net_world.proofs.Present.{present_push, states_more}
use Rattle.net_world.proofs.world.start_hosts.Goals as goal

pub loop-number-preserved : goal.loop-number-preserved
loop-number-preserved c =
    let a = c.args in
    let l = c.loop-number in
    let host = c.in_ok-host.host in
    record {
      count = search rules;
      states =
          rw c.in_ok-push.ensures.items
          (states_more a.code.now a.store.now a.bad a.rows.now l.hosts.items host l.number c.index-rows-number.result
          (search rules) l.invariant.states (search rules));
      fits = rw c.in_ok-push.ensures.items
          (present_push (PresentFits a.code.now) l.hosts.items host l.number l.invariant.count l.invariant.fits
          c.in_ok-host.ensures.fits);
      fresh = rw c.in_ok-push.ensures.items
          (present_push (λ number. HasMade 0) l.hosts.items host l.number l.invariant.count l.invariant.fresh
          c.in_ok-host.ensures.fresh);
    }
