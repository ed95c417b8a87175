use Rattle.std.proofs.lemmas.Result.{on_ok_weaker}
use Rattle.split_cli.proofs.RunReport.{on_ok_from, ended_text, not_yet_text}
use Rattle.split_cli.proofs.commands.run.push_end.Goals as goal

pub returns-in-Ended : goal.returns-in-Ended
returns-in-Ended c =
    on_ok_from _ c.writeln.result c.map_err.result c.map_err.ensures.variant
    (on_ok_weaker c.writeln.result (λ text. ended_text _ _ c.args.steps c.in-Ended.taken c.args.end c.in-Ended.is text)
    c.writeln.ensures.bytes)

pub returns-in-NotYet : goal.returns-in-NotYet
returns-in-NotYet c =
    on_ok_from _ c.writeln-in-NotYet.result c.map_err-in-NotYet.result c.map_err-in-NotYet.ensures.variant
    (on_ok_weaker c.writeln-in-NotYet.result (λ text. not_yet_text _ _ c.args.steps c.args.end c.in-NotYet.is text)
    c.writeln-in-NotYet.ensures.bytes)
