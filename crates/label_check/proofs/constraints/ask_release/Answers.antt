use Rattle.std.proofs.Common.{◌∙◌, sym, [], ◌∷◌}
use Rattle.std.proofs.lemmas.Bool.{false≢true}
use Rattle.jif_tree.specs.LabelRules.{trusted}
use Rattle.label_check.proofs.Asked.{no_release, no_trust, one_met, refused_behind}
use Rattle.label_check.proofs.constraints.ask_release.Goals as goal

pub returns-then-not-may_release-clause-err : goal.returns-then-not-may_release-clause-err
returns-then-not-may_release-clause-err c =
    no_release c.args.principals.now c.args.statement c.args.authority.now c.args.from.now c.args.to.now
    (trusted c.args.authority.now c.args.pc.now ∷ [])
    (λ holds. false≢true (sym c.if-not-may_release.true ∙ c.may_release.ensures.1 holds))

pub returns-then-not-is_trusted-clause-err : goal.returns-then-not-is_trusted-clause-err
returns-then-not-is_trusted-clause-err c =
    refused_behind (one_met (c.may_release.ensures.0 c.if-not-may_release.false))
    (no_trust c.args.principals.now c.args.statement c.args.authority.now c.args.pc.now
    (λ holds. false≢true (sym c.if-not-is_trusted.true ∙ c.is_trusted.ensures.1 holds)))
