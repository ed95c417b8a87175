use Rattle.std.proofs.Common.{◌<◌, subst}
use Rattle.std.specs.Prelude.{◌↔◌, IsTrue}
use Rattle.net_world.specs.Flying.{flights_at, flights_of, hidden_in, pair_place}
use Rattle.net_world.specs.Fits.{WorldModel}
use Rattle.net_world.proofs.Seeing.{denied, flies_openly}
use Rattle.net_world.proofs.world.World.fly_openly_to.Goals as goal

pub returns : goal.returns
returns c =
    let a = c.args in
    let hides =
    subst (λ (w : WorldModel). IsTrue c.hides.result
    ↔ (0 < hidden_in w.readable (flights_at (flights_of w.queues) (pair_place a.from a.to)))) c.self.view_is
    c.hides.ensures in
    denied c.hides.result hides
    (flies_openly a.code.now a.self.now a.from a.to c.requires.fits c.requires.from c.requires.to)
