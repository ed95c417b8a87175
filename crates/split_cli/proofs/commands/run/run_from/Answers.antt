use Rattle.std.proofs.lemmas.Result.{IfOk-weaker}
use Rattle.front_end.specs.Verdicts.{verdict_shape}
use Rattle.split_cli.proofs.RunDue.{run_reported}
use Rattle.split_cli.proofs.commands.run.run_from.Goals as goal

pub returns : goal.returns
returns c =
    IfOk-weaker c.run_report.result _ _ (λ verdict is.
    run_reported c.args.program.now c.args.steps c.deref.result.now c.args.start c.run.new.store c.in_ok-end.end
    (verdict_shape verdict) c.in_ok-end.ensures.ok c.deref.ensures.value is)
    c.run_report.ensures
