use Rattle.front_end.proofs.Stages.{memory_ran_out}
use Rattle.node_starts.specs.NodeSources.{node_start}
use Rattle.jiffields.specs.Runs.{DueForLines}
use Rattle.jiffields.proofs.PlayedRuns.{refused_due, shown_due}
use Rattle.jiffields.proofs.due.verdict_for_lines.Goals as goal

pub returns-in_ok-text-in-Ok : goal.returns-in_ok-text-in-Ok
returns-in_ok-text-in-Ok c =
    shown_due c.args.file.now c.args.host.now (node_start c.args.node.now) c.args.lines.now _ _
    (c.in-Ok.ensures.real c.requires.own) c.in_ok-text-in-Ok.ensures

pub returns-in-Err-NoRun : goal.returns-in-Err-NoRun
returns-in-Err-NoRun c =
    refused_due c.args.file.now c.args.host.now (node_start c.args.node.now) c.args.lines.now c.in-Err-NoRun.line
    c.no_run.result ((rw c.in-Err-NoRun.field-0-is at c.in-Err-NoRun.ensures.refused) c.requires.own) c.no_run.ensures
