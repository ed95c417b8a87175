use Rattle.std.proofs.Common.{inl, inr, refl}
use Rattle.std.proofs.lemmas.Result.{IfOk-weaker}
use Rattle.front_end.specs.Loads.{files_change}
use Rattle.front_end.specs.Stages.{stopped}
use Rattle.launch.specs.Due.{HostsOf}
use Rattle.launch.specs.Report.{run_words}
use Rattle.launch.proofs.Dues.{due_at}
use Rattle.launch.proofs.due.due_verdict.Goals as goal

pub returns-in-Err-clause-due : goal.returns-in-Err-clause-due
returns-in-Err-clause-due g c =
    IfOk-weaker c.verdict_at.result _ _
    (λ verdict is. inl (inr (run_words c.in-Some.run', c.in-Some.ensures.some, is), refl))
    (due_at (λ verdict. HostsOf c.in-Some.run'.hosts.now
    (files_change g.F.Files c.args.files.now c.hosts_of.new.files) (stopped verdict)) c.in-Err.stop c.verdict_at.result
    c.in-Err.ensures.hosts c.verdict_at.ensures)
