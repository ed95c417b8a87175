use Rattle.std.proofs.Common.{ap, sym, ◌∙◌, Some, subst}
use Rattle.std.specs.Prelude.{Contains}
use Rattle.jif_grammar.specs.DraftShapes.{name_shape}
use Rattle.jif_resolve.specs.First.{with_faults}
use Rattle.jif_resolve.proofs.Sooner.{principal_known, principal_unknown}
use Rattle.jif_resolve.proofs.labels.with_principal.Goals as goal

pub returns-in-Some : goal.returns-in-Some
returns-in-Some c =
    ap (with_faults c.args.first) (sym (principal_known c.args.principals.now (name_shape c.args.name.now)
    c.in-Some.field-0.0 (c.in-Some.ensures.found ∙ ap Some c.as_str.ensures.value)))

pub returns-in-None : goal.returns-in-None
returns-in-None c =
    c.sooner.ensures ∙ ap (with_faults c.args.first) (sym (principal_unknown c.args.principals.now
    (name_shape c.args.name.now) (subst (λ t. ¬ Contains c.args.principals.now.names t) c.as_str.ensures.value
    c.in-None.ensures.none)))
