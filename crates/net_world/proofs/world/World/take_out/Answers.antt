use Rattle.std.proofs.Common.{rules, ◌≡◌, subst}
use Rattle.net_world.specs.World.{without_flight}
use Rattle.net_world.specs.Fits.{WorldModel, world_of}
use Rattle.net_world.proofs.Letters.{taken_out}
use Rattle.net_world.proofs.world.World.take_out.Goals as goal

pub returns-clause-world : goal.returns-clause-world
returns-clause-world c =
    let a = c.args in
    let before : WorldModel =
    record {
      root = c.self.inside.root;
      hosts = c.self.inside.hosts.items;
      queues = c.self.inside.flying.queues;
      readable = c.self.inside.flying.readable;
      told = c.self.inside.told;
    } in
    let after : WorldModel = record before { queues = c.remove.new.self.queues } in
    subst (λ (w : WorldModel). world_of after ≡ without_flight (world_of w) a.from a.to a.place) c.self.view_is
    (taken_out before c.remove.new.self.queues a.from a.to a.place (search rules) c.remove.ensures.count (search rules)
    (search rules) c.remove.ensures.flights)
