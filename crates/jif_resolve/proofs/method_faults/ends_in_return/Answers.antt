use Rattle.std.proofs.Common.{sym, ◌∙◌}
use Rattle.jif_resolve.proofs.MethodWalks.{last_returns}
use Rattle.jif_resolve.proofs.method_faults.ends_in_return.Goals as goal

pub returns-in-Some : goal.returns-in-Some
returns-in-Some c =
    c.is_return.ensures ∙ sym (last_returns c.args.block.now c.in-Some.statement.now (sym c.in-Some.ensures.value))
