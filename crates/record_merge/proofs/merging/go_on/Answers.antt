use Rattle.std.proofs.Common.{ap, arith}
use Rattle.std.specs.Prelude.{slice_set}
use Rattle.js_base.specs.declared.ids.HostId.{HostId}
use Rattle.net_world.specs.Fits.{world_of}
use Rattle.net_world.specs.World.{mover}
use Rattle.net_world.proofs.NextGoes.{next_goes, not_stuck, only_memory}
use Rattle.record_merge.specs.JournalLines.{met}
use Rattle.record_merge.specs.NextLines.{sent_next}
use Rattle.record_merge.proofs.HeldJournals.{passed_at}
use Rattle.record_merge.proofs.merging.go_on.Goals as goal

pub returns-clause-passed : goal.returns-clause-passed
returns-clause-passed c =
    let host = mover c.args.event.now in
    let same = c.mover-host.ensures in
    record {
      passed = (c.in_ok-place.place, c.in_ok-place.gone);
      next = c.in_ok-place.ensures.0;
      comes = c.in_ok-place.ensures.1;
      passes = passed_at c.args.journals.now c.mover-host.result host c.index-journals-host.result
          c.deref.result.now
          c.args.places.now.items c.index.result.now (sent_next c.args.code.now (world_of c.apply.new.self)
          c.in_ok-place.ensures.0) (c.in_ok-place.place, c.in_ok-place.gone) same c.requires.host
          c.index-journals-host.is c.deref.ensures.value c.index.ensures
          (let host = c.requires.host in let count = c.requires.places in omega (arith, host, count))
          c.in_ok-place.ensures.2;
      places_are = ap (λ (h : HostId). slice_set c.args.places.now.items h.0 c.in_ok-place.place) same;
      left_are = ap (λ (h : HostId). slice_set c.args.left.now.items h.0 c.in_ok-place.gone) same;
    }

pub only_memory-requires : goal.only_memory-requires
only_memory-requires c =
    let world = c.args.world.now in
    only_memory world c.args.event.now c.apply.result c.in-Err.error (record {
      not_bad = c.apply.ensures.not_bad;
      not_there = c.apply.ensures.not_there;
      busy = c.apply.ensures.busy;
      no_token = c.apply.ensures.no_token;
      stopped = c.apply.ensures.stopped;
    })
    (next_goes c.args.code.now world c.args.event.now c.requires.fits c.requires.obey c.requires.next)
    (not_stuck world c.args.event.now (met c.args.places.now.items) c.requires.few c.requires.answers) c.in-Err.is
