use Rattle.std.proofs.Common.{ℕ, sym, ap, ◌∙◌}
use Rattle.std.proofs.lemmas.Result.{IfOk-weaker}
use Rattle.net_world.specs.World.{not_bad, not_there, host_busy, no_such_token}
use Rattle.script_stages.specs.Scripts.{AreRefused}
use Rattle.front_end.specs.Verdicts.{event_no_token}
use Rattle.front_end.proofs.Stages.{stopped_with}
use Rattle.script_stages.proofs.scripts.events_refused.Goals as goal

pub returns-in-NotThere : goal.returns-in-NotThere
returns-in-NotThere c = λ code world said why.
    let cause = rw c.in-NotThere.is at why in
    stopped_with (AreRefused c.args.name.now code world said) c.at_line.result c.stopped.result
    (IfOk-weaker c.at_line.result _ _
    (λ verdict is. ((c.in-NotThere.line, cause.0), not_there, cause.1, is)) c.at_line.ensures)
    c.stopped.ensures

pub returns-in-HostBusy : goal.returns-in-HostBusy
returns-in-HostBusy c = λ code world said why.
    let cause = rw c.in-HostBusy.is at why in
    stopped_with (AreRefused c.args.name.now code world said) c.at_line-in-HostBusy.result c.stopped-in-HostBusy.result
    (IfOk-weaker c.at_line-in-HostBusy.result _ _
    (λ verdict is. ((c.in-HostBusy.line, cause.0), host_busy, cause.1, is)) c.at_line-in-HostBusy.ensures)
    c.stopped-in-HostBusy.ensures

pub returns-in-NotBad : goal.returns-in-NotBad
returns-in-NotBad c = λ code world said why.
    let cause = rw c.in-NotBad.is at why in
    stopped_with (AreRefused c.args.name.now code world said) c.at_line-in-NotBad.result c.stopped-in-NotBad.result
    (IfOk-weaker c.at_line-in-NotBad.result _ _
    (λ verdict is. ((c.in-NotBad.line, cause.0), not_bad, cause.1, is)) c.at_line-in-NotBad.ensures)
    c.stopped-in-NotBad.ensures

pub returns-in-NoSuchToken : goal.returns-in-NoSuchToken
returns-in-NoSuchToken c = λ code world said why.
    let found = c.in-NoSuchToken in
    let cause = rw found.is at why in
    stopped_with (AreRefused c.args.name.now code world said) c.at_line-in-NoSuchToken.result c.stopped-in-NoSuchToken.result
    (IfOk-weaker c.at_line-in-NoSuchToken.result _ _
    (λ verdict is. (
      (found.line, cause.0),
      no_such_token found.count,
      cause.1,
      is ∙ ap (λ (number : ℕ). event_no_token c.args.name.now found.line number found.count) (sym cause.2),
    )) c.at_line-in-NoSuchToken.ensures)
    c.stopped-in-NoSuchToken.ensures
