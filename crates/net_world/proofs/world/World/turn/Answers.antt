use Rattle.std.proofs.Common.{◌≡◌, ◌∙◌, ◌<◌, ap, sym, subst, length}
use Rattle.host_core.specs.Host.{HostModel, state_of}
use Rattle.host_core.specs.Turn.{label_of_turn}
use Rattle.net_world.specs.Fits.{MailFits, world_of}
use Rattle.net_world.specs.Steps.{IsActive}
use Rattle.net_world.proofs.Present.{get_lt}
use Rattle.net_world.proofs.Fitting.{world_fits, mail_stepped, mail_sending}
use Rattle.net_world.proofs.world.World.turn.Goals as goal

pub returns-clause-fits : goal.returns-clause-fits
returns-clause-fits c =
    let a = c.args in
    let code = a.code.now in
    let within : a.host.0 < length a.self.now.hosts =
    get_lt a.self.now.hosts a.host.0
    (λ (there : HostModel). IsActive there × (c.in_ok-label.label ≡ label_of_turn code (state_of there)))
    c.in_ok-label.ensures.ok.0 in
    let is_host : a.host.0 < length code.hosts =
    subst (λ n. a.host.0 < n) c.requires.fits.count within in
    let moved =
    mail_stepped code _ (world_of a.self.now) (world_of c.reserve_from.new.self) (world_of c.move_host.new.self) a.host
    c.move_host.new.sent c.reserve_from.ensures.world c.in-Ok.ensures.ok c.requires.fits.mail in
    let mail : MailFits code (world_of c.post.new.self) =
    subst (MailFits code) (sym c.post.ensures.world)
    (mail_sending code (world_of c.move_host.new.self) a.host c.in_ok-label.label c.move_host.new.sent moved is_host
    c.in-Ok.ensures.sent c.in_ok-label.ensures.ok.1) in
    world_fits code _ a.self.now c.reserve_from.new.self c.move_host.new.self c.post.new.self a.host
    c.move_host.new.sent c.requires.fits c.reserve_from.ensures.world c.in-Ok.ensures.ok c.in-Ok.ensures.fits
    (c.in-Ok.ensures.others.count ∙ ap length c.reserve_from.ensures.hosts)
    (c.post.ensures.same.1 ∙ c.in-Ok.ensures.root ∙ c.reserve_from.ensures.root) c.post.ensures.same.0 mail
    (c.post.ensures.readable ∙ c.in-Ok.ensures.readable ∙ c.reserve_from.ensures.readable)
