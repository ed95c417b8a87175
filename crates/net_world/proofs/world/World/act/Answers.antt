-- The message is taken at once, and its answer is told to the sender.
use Rattle.std.proofs.Common.{◌≡◌, ◌∙◌, ◌<◌, ap, sym, subst, length, inr, None}
use Rattle.net_world.specs.Fits.{MailFits, world_of}
use Rattle.net_world.specs.Steps.{IsReadyToTake}
use Rattle.net_world.proofs.Present.{get_lt, length_states}
use Rattle.net_world.proofs.StepsOf.{acted, act_due, has_some, state_rests}
use Rattle.net_world.specs.World.{state_at}
use Rattle.net_world.proofs.Fitting.{world_fits, mail_stepped, mail_telling, made_tokens_fit, bad_within}
use Rattle.net_world.proofs.Fitting.{bad_differs}
use Rattle.net_world.proofs.world.World.act.Goals as goal

pub move_host-requires-clause-move_fits : goal.move_host-requires-clause-move_fits
move_host-requires-clause-move_fits c =
    let a = c.args in
    let code = a.code.now in
    let world = world_of a.self.now in
    let actable = c.in_ok-message.ensures.ok in
    let count = length_states a.self.now.hosts ∙ c.requires.fits.count in
    let there =
    has_some (state_at world a.to) (λ state. state.running ≡ None) (state_rests a.self.now a.to actable.host) in (
      (
        bad_within world a.from (length code.hosts) count actable.bad,
        bad_differs world a.from a.to there.0 actable.bad there.1,
      ),
      made_tokens_fit code world a.made.now c.in_ok-message.message count c.requires.fits.mail c.requires.own
          actable.makes,
    )

pub returns-in_default-clause-answer : goal.returns-in_default-clause-answer
returns-in_default-clause-answer c =
    let a = c.args in (
      act_due a.self.now a.from a.to a.made.now c.in_ok-message.message c.in_ok-message.ensures.ok,
      c.in_default.ensures.err ∙ c.reserve_told.ensures.world,
      inr c.in_default.ensures.stopped,
    )

pub returns-clause-answer : goal.returns-clause-answer
returns-clause-answer c =
    let a = c.args in
    let actable = c.in_ok-message.ensures.ok in (
      act_due a.self.now a.from a.to a.made.now c.in_ok-message.message actable,
      acted a.code.now (world_of a.self.now) (world_of c.reserve_told.new.self) (world_of c.move_host.new.self)
          (world_of c.tell.new.self) a.from a.to a.made.now c.in_ok-message.message c.move_host.new.sent actable.bad
          actable.makes (state_rests a.self.now a.to actable.host) c.reserve_told.ensures.world c.in-Ok.ensures.ok
          c.tell.ensures.world,
    )

pub returns-clause-fits : goal.returns-clause-fits
returns-clause-fits c =
    let a = c.args in
    let code = a.code.now in
    let within : a.to.0 < length a.self.now.hosts =
    get_lt a.self.now.hosts a.to.0 IsReadyToTake c.in_ok-message.ensures.ok.host in
    let is_host : a.to.0 < length code.hosts = subst (λ n. a.to.0 < n) c.requires.fits.count within in
    let moved =
    mail_stepped code _ (world_of a.self.now) (world_of c.reserve_told.new.self) (world_of c.move_host.new.self) a.to
    c.move_host.new.sent c.reserve_told.ensures.world c.in-Ok.ensures.ok c.requires.fits.mail in
    let mail : MailFits code (world_of c.tell.new.self) =
    subst (MailFits code) (sym c.tell.ensures.world)
    (mail_telling code (world_of c.move_host.new.self) a.to c.move_host.new.sent moved is_host c.in-Ok.ensures.sent) in
    world_fits code _ a.self.now c.reserve_told.new.self c.move_host.new.self c.tell.new.self a.to
    c.move_host.new.sent c.requires.fits c.reserve_told.ensures.world c.in-Ok.ensures.ok c.in-Ok.ensures.fits
    (c.in-Ok.ensures.others.count ∙ ap length c.reserve_told.ensures.hosts)
    (c.tell.ensures.same.1 ∙ c.in-Ok.ensures.root ∙ c.reserve_told.ensures.root) c.tell.ensures.same.0 mail
    (c.tell.ensures.readable ∙ c.in-Ok.ensures.readable ∙ c.reserve_told.ensures.readable)
