use Rattle.std.proofs.Common.{◌∙◌, sym}
use Rattle.jif_parse.proofs.PrintedStatements.{else_prints, some_statements}
use Rattle.jif_parse.proofs.printed.statements.else_text.Goals as goal

pub returns : goal.returns
returns c =
    else_prints c.args.statements.now c.args.block.now
    (some_statements c.args.statements.now (sym c.is_empty.ensures ∙ c.if-is_empty.false)) c.in_ok-format.ensures.ok
