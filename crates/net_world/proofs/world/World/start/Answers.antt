use Rattle.std.proofs.Common.{ap, sym, subst, ◌∙◌, ℕ, Bool, List, Option}
use Rattle.std.specs.Prelude.{◌↔◌, IsTrue}
use Rattle.host_core.specs.Host.{HostModel}
use Rattle.net_world.specs.Fits.{states_of}
use Rattle.net_world.specs.Flying.{may_be_seen}
use Rattle.net_world.specs.Secret.{IsReadBy}
use Rattle.net_world.specs.World.{hosts_before}
use Rattle.net_world.proofs.Starts.{started, mail_at_start}
use Rattle.net_world.proofs.world.World.start.Goals as goal

pub returns-clause-start : goal.returns-clause-start
returns-clause-start c =
    started c.args.code.now c.args.hosts.now.hosts c.args.bad c.args.store.now
    (record {
      root = c.root-root.result;
      hosts = c.in_ok-hosts.hosts.items;
      queues = c.in_ok-flying.flying.queues;
      readable = c.in_ok-flying.flying.readable;
      told = c.new-told.result;
    })
    (c.in_ok-hosts.ensures.states
    ∙ ap (hosts_before c.args.code.now c.args.store.now c.args.bad 0) c.hosts-rows.ensures.hosts)
    c.in_ok-flying.ensures.flights c.new-told.ensures

pub returns-clause-fits : goal.returns-clause-fits
returns-clause-fits c = record {
  root = c.root-root.ensures.root;
  count = c.in_ok-hosts.ensures.count;
  hosts = c.in_ok-hosts.ensures.fits;
  mail = mail_at_start c.args.code.now c.args.hosts.now.hosts c.args.bad c.args.store.now
      (record {
        root = c.root-root.result;
        hosts = c.in_ok-hosts.hosts.items;
        queues = c.in_ok-flying.flying.queues;
        readable = c.in_ok-flying.flying.readable;
        told = c.new-told.result;
      })
      (started c.args.code.now c.args.hosts.now.hosts c.args.bad c.args.store.now
      (record {
        root = c.root-root.result;
        hosts = c.in_ok-hosts.hosts.items;
        queues = c.in_ok-flying.flying.queues;
        readable = c.in_ok-flying.flying.readable;
        told = c.new-told.result;
      })
      (c.in_ok-hosts.ensures.states
      ∙ ap (hosts_before c.args.code.now c.args.store.now c.args.bad 0) c.hosts-rows.ensures.hosts)
      c.in_ok-flying.ensures.flights c.new-told.ensures);
  readable = record {
    each = subst (λ (r : List Bool). (label : ℕ) → IsTrue (may_be_seen r label)
        ↔ IsReadBy c.args.code.now (states_of c.in_ok-hosts.hosts.items) label)
        (sym c.in_ok-flying.ensures.readable)
        (subst (λ (h : List (Option HostModel)). (label : ℕ) →
        IsTrue (may_be_seen c.in_ok-readable.readable.items label) ↔ IsReadBy c.args.code.now (states_of h) label)
        c.deref.ensures.value c.in_ok-readable.ensures);
  };
}
