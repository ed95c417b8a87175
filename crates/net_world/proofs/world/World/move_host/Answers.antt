use Rattle.std.proofs.Common.{subst}
use Rattle.std.proofs.lemmas.Result.{on_ok_weaker}
use Rattle.net_world.specs.Fits.{WorldModel, world_of}
use Rattle.net_world.specs.Steps.{HasStepped, IsMove}
use Rattle.net_world.proofs.StepsOf.{stepped}
use Rattle.net_world.proofs.world.World.move_host.Goals as goal

pub returns-clause-ok : goal.returns-clause-ok
returns-clause-ok c =
    let kind = IsMove c.args.code.now c.args.step in
    let before : WorldModel =
    record {
      root = c.self.inside.root;
      hosts = c.self.inside.hosts.items;
      queues = c.self.inside.flying.queues;
      readable = c.self.inside.flying.readable;
      told = c.self.inside.told;
    } in
    let after : WorldModel = record before { hosts = c.move_at.new.hosts.items } in
    on_ok_weaker c.move_at.result
    (λ moved. subst (λ (w : WorldModel). HasStepped kind (world_of w) c.args.host c.move_at.new.sent (world_of after))
    c.self.view_is (stepped kind before c.move_at.new.hosts.items c.args.host c.move_at.new.sent moved))
    c.move_at.ensures.ok
