use Rattle.std.proofs.Common.{sym, Some, ◌∙◌}
use Rattle.std.proofs.lemmas.Result.{on_err_weaker, on_ok_weaker}
use Rattle.host_core.specs.Host.{IsStopped}
use Rattle.net_world.specs.Fits.{PresentFits}
use Rattle.net_world.specs.Steps.{IsMovable}
use Rattle.net_world.proofs.Present.{at_get_or, states_same, present_set, has_set, counted_set, changes_only}
use Rattle.net_world.proofs.moves.move_at.Goals as goal

pub returns-clause-err : goal.returns-clause-err
returns-clause-err c =
    let hosts = c.args.hosts.now.items in
    let there =
    at_get_or hosts c.args.me.0 _ c.in-Some.host (IsMovable c.args.step) c.requires.movable
    (sym c.index_mut.ensures.value ∙ c.in-Some.is) in
    on_err_weaker c.move_of.result
    (λ same. states_same hosts c.args.me.0 c.in-Some.host c.move_of.new.host there same) c.move_of.ensures.err

pub returns-clause-stopped : goal.returns-clause-stopped
returns-clause-stopped c =
    let hosts = c.args.hosts.now.items in
    let there =
    at_get_or hosts c.args.me.0 _ c.in-Some.host (IsMovable c.args.step) c.requires.movable
    (sym c.index_mut.ensures.value ∙ c.in-Some.is) in
    on_err_weaker c.move_of.result
    (λ stopped. has_set hosts c.args.me.0 c.move_of.new.host c.in-Some.host IsStopped there stopped)
    c.move_of.ensures.stopped

pub returns-clause-counted : goal.returns-clause-counted
returns-clause-counted c =
    let hosts = c.args.hosts.now.items in
    let there =
    at_get_or hosts c.args.me.0 _ c.in-Some.host (IsMovable c.args.step) c.requires.movable
    (sym c.index_mut.ensures.value ∙ c.in-Some.is) in
    on_ok_weaker c.move_of.result
    (λ counted. counted_set hosts c.args.me c.in-Some.host c.move_of.new.host there counted) c.move_of.ensures.counted

pub returns-clause-others : goal.returns-clause-others
returns-clause-others c = changes_only c.args.hosts.now.items c.args.me (Some c.move_of.new.host)

pub returns-clause-fits : goal.returns-clause-fits
returns-clause-fits c =
    present_set (PresentFits c.args.code.now) c.args.hosts.now.items c.args.me c.move_of.new.host c.requires.fits
    c.move_of.ensures.fits
