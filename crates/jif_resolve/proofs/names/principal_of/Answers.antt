use Rattle.std.proofs.Common.{◌∙◌, ap, sym, Some, arith}
use Rattle.std.proofs.lemmas.Slice.Eq.{bytes_eq-Decides}
use Rattle.jif_resolve.proofs.PrincipalNames.{none_more, none_at_all}
use Rattle.jif_resolve.proofs.names.principal_of.Goals as goal

pub returns-then-is_named-clause-found : goal.returns-then-is_named-clause-found
returns-then-is_named-clause-found c =
    c.name.ensures ∙ ap Some ((bytes_eq-Decides _ _).0 (sym c.is_named.ensures ∙ c.if-is_named.true))

pub loop-place-preserved : goal.loop-place-preserved
loop-place-preserved c =
    none_more c.args.principals.now.names c.loop-place.place _ _ c.name.ensures
    (sym c.is_named.ensures ∙ c.if-is_named.false) c.loop-place.invariant

pub returns-clause-none : goal.returns-clause-none
returns-clause-none c =
    none_at_all c.args.principals.now.names c.loop-place.place c.args.name.now
    (omega (arith, c.count-place-end.ensures.count)) c.loop-place.invariant
