-- The step is that of the table, and keeps what holds of the host.
use Rattle.std.proofs.Common.{◌≡◌, ap, ◌∙◌, rules, subst}
use Rattle.std.specs.Prelude.{Option}
use Rattle.host_code.specs.Thread.{ThreadShape}
use Rattle.host_core.specs.Host.{HostState, HostModel, state_of, Outcome}
use Rattle.host_core.specs.Turn.{IsTurn, IsTurnOf}
use Rattle.host_core.specs.contracts.host.Host.{the_view}
use Rattle.host_core.proofs.CallsKept.{turn_call_kept, made_keeps, thread_taken}
use Rattle.host_core.proofs.host.Host.turn_into.Goals as goal

pub returns-in-Ok-clause-ok : goal.returns-in-Ok-clause-ok
returns-in-Ok-clause-ok c =
    let code = c.args.code.now in
    let outcome : Outcome = record { state = state_of c.run.new.self; sent = c.run.new.sent } in
    let host = state_of (the_view c.self.inside) in
    let taken =
    subst (λ (r : Option ThreadShape). IsTurnOf code host r outcome) c.in-Some.ensures.value c.in-Ok.ensures.ok.step in
    let same : host ≡ state_of c.args.self.now = ap state_of c.self.view_is ∙ c.begin.ensures.same in
    subst (λ (h : HostState). IsTurn code h outcome) same taken

pub returns-in-Ok-clause-keeps : goal.returns-in-Ok-clause-keeps
returns-in-Ok-clause-keeps c =
    let fits =
    (turn_call_kept c.args.code.now c.args.self.now (the_view c.self.inside) c.run.new.self c.run.new.sent
    c.code_laws.ensures
    c.requires.fits (ap state_of c.self.view_is ∙ c.begin.ensures.same)
    (ap (λ (h : HostModel). h.checks) c.self.view_is ∙ c.begin.ensures.checks)
    (thread_taken (the_view c.self.inside) c.run.new.self c.take.new.self c.in-Ok.ensures.ok.same)
    (returns-in-Ok-clause-ok c)).0 in
    made_keeps c.args.code.now c.args.self.now (the_view c.self.inside) c.run.new.self fits (search rules)
    (search rules)
    (thread_taken (the_view c.self.inside) c.run.new.self c.take.new.self c.in-Ok.ensures.ok.same)
    c.in_ok-begin.ensures.stopped

pub returns-in-Ok-clause-sent : goal.returns-in-Ok-clause-sent
returns-in-Ok-clause-sent c =
    (turn_call_kept c.args.code.now c.args.self.now (the_view c.self.inside) c.run.new.self c.run.new.sent
    c.code_laws.ensures
    c.requires.fits (ap state_of c.self.view_is ∙ c.begin.ensures.same)
    (ap (λ (h : HostModel). h.checks) c.self.view_is ∙ c.begin.ensures.checks)
    (thread_taken (the_view c.self.inside) c.run.new.self c.take.new.self c.in-Ok.ensures.ok.same)
    (returns-in-Ok-clause-ok c)).1
