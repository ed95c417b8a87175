use Rattle.std.proofs.Common.{rules, ◌≡◌, subst}
use Rattle.net_world.specs.World.{after_sending, letter_of}
use Rattle.net_world.specs.Fits.{WorldModel, world_of}
use Rattle.net_world.proofs.Letters.{posted}
use Rattle.net_world.proofs.world.World.post.Goals as goal

pub returns-else-is_bad-clause-world : goal.returns-else-is_bad-clause-world
returns-else-is_bad-clause-world c =
    let a = c.args in
    let m = c.in-Some-Some in
    let before : WorldModel =
    record {
      root = c.self.inside.root;
      hosts = c.self.inside.hosts.items;
      queues = c.self.inside.flying.queues;
      readable = c.self.inside.flying.readable;
      told = c.self.inside.told;
    } in
    let after : WorldModel = record before { queues = c.push-else-is_bad.new.self.queues } in
    subst (λ (w : WorldModel). world_of after ≡ after_sending (world_of w) a.from (letter_of a.label a.sent.now))
    c.self.view_is
    (posted before c.push-else-is_bad.new.self.queues a.from m.to m.message m.label a.label a.sent.now (search rules)
    c.push-else-is_bad.ensures.count (search rules) (search rules) (search rules) (search rules) (search rules)
    c.push-else-is_bad.ensures.flights)
