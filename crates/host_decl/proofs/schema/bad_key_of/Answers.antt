use Rattle.std.proofs.Common.{sym, ◌∙◌}
use Rattle.host_decl.proofs.Least.{before_from_test, before_from_no_test}
use Rattle.host_decl.proofs.BadKeys.{unfit_is_least, missing_is_least}
use Rattle.host_decl.proofs.schema.bad_key_of.Goals as goal

pub returns-then-lt-clause-some : goal.returns-then-lt-clause-some
returns-then-lt-clause-some c =
    missing_is_least _ _ _ _ c.in-Some.ensures.some c.in-Some-missing_key.ensures.some
    (before_from_test c.in-Some-missing_key.missing.now c.in-Some.unfit.now (sym c.lt.ensures ∙ c.if-lt.true))

pub returns-else-lt-clause-some : goal.returns-else-lt-clause-some
returns-else-lt-clause-some c =
    unfit_is_least _ _ _ _ c.in-Some.ensures.some c.in-Some-missing_key.ensures.some
    (before_from_no_test c.in-Some.unfit.now c.in-Some-missing_key.missing.now (sym c.lt.ensures ∙ c.if-lt.false))
