use Rattle.std.proofs.lemmas.Result.{err_from_is_err_and}
use Rattle.node_engine.proofs.options.read_options.Goals as goal

pub returns-in_err-matches-clause-usage : goal.returns-in_err-matches-clause-usage
returns-in_err-matches-clause-usage c =
    let p = err_from_is_err_and c.from_residual.result c.from_residual.ensures.1 in
    rw (p.1, p.2) (λ usage asked is. c.in_err-matches.ensures.usage usage is.parses)
