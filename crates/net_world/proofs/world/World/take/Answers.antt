-- The message that was found is taken out, and what its host sends is told or put in flight.
use Rattle.std.proofs.Common.{◌∙◌, ap, sym, subst, length, Some}
use Rattle.net_world.specs.Fits.{MailFits, world_of}
use Rattle.net_world.proofs.StepsOf.{still_there, taken, take_due, state_rests}
use Rattle.net_world.proofs.Fitting.{world_fits, mail_stepped, mail_without, mail_sending, flight_fits}
use Rattle.net_world.proofs.world.World.take.Goals as goal

pub take_out-requires-clause-there : goal.take_out-requires-clause-there
take_out-requires-clause-there c =
    let a = c.args in
    still_there _ (world_of a.self.now) (world_of c.reserve_to.new.self) (world_of c.move_host.new.self) a.to
    c.move_host.new.sent a.from a.to a.place _ c.reserve_to.ensures.world c.in-Ok.ensures.ok
    c.in_ok-found.ensures.ok.there

pub returns-clause-answer : goal.returns-clause-answer
returns-clause-answer c =
    let a = c.args in
    let takeable = c.in_ok-found.ensures.ok in (
      take_due a.self.now a.from a.to a.place (c.in_ok-found.found.now, c.in_ok-found.label) takeable,
      taken a.code.now (world_of a.self.now) (world_of c.reserve_to.new.self) (world_of c.move_host.new.self)
          (world_of c.take_out.new.self) (world_of c.post.new.self) a.from a.to a.place c.in_ok-found.found.now
          c.in_ok-found.label c.move_host.new.sent takeable.there (state_rests a.self.now a.to takeable.host)
          c.reserve_to.ensures.world c.in-Ok.ensures.ok c.take_out.ensures.world c.post.ensures.world,
    )

pub returns-clause-fits : goal.returns-clause-fits
returns-clause-fits c =
    let a = c.args in
    let code = a.code.now in
    let flight =
    flight_fits code (world_of a.self.now) a.from a.to a.place _ c.requires.fits.mail c.in_ok-found.ensures.ok.there in
    let moved =
    mail_stepped code _ (world_of a.self.now) (world_of c.reserve_to.new.self) (world_of c.move_host.new.self) a.to
    c.move_host.new.sent c.reserve_to.ensures.world c.in-Ok.ensures.ok c.requires.fits.mail in
    let without : MailFits code (world_of c.take_out.new.self) =
    subst (MailFits code) (sym c.take_out.ensures.world)
    (mail_without code (world_of c.move_host.new.self) a.from a.to a.place moved) in
    let mail : MailFits code (world_of c.post.new.self) =
    subst (MailFits code) (sym c.post.ensures.world)
    (mail_sending code (world_of c.take_out.new.self) a.to (Some c.in_ok-found.label) c.move_host.new.sent without
    flight.target.0 c.in-Ok.ensures.sent flight.label) in
    world_fits code _ a.self.now c.reserve_to.new.self c.move_host.new.self c.post.new.self a.to c.move_host.new.sent
    c.requires.fits c.reserve_to.ensures.world c.in-Ok.ensures.ok c.in-Ok.ensures.fits
    (c.in-Ok.ensures.others.count ∙ ap length c.reserve_to.ensures.hosts)
    (c.post.ensures.same.1 ∙ c.take_out.ensures.same.2 ∙ c.in-Ok.ensures.root ∙ c.reserve_to.ensures.root)
    (c.post.ensures.same.0 ∙ c.take_out.ensures.same.0) mail
    (c.post.ensures.readable ∙ c.take_out.ensures.readable ∙ c.in-Ok.ensures.readable ∙ c.reserve_to.ensures.readable)
