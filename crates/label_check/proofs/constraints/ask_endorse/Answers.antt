use Rattle.std.proofs.Common.{◌∙◌, sym}
use Rattle.std.proofs.lemmas.Bool.{false≢true}
use Rattle.label_check.proofs.Asked.{no_endorsement}
use Rattle.label_check.proofs.constraints.ask_endorse.Goals as goal

pub returns-else-may_endorse-clause-err : goal.returns-else-may_endorse-clause-err
returns-else-may_endorse-clause-err c =
    no_endorsement c.args.principals.now c.args.statement c.args.authority.now c.args.from.now c.args.to.now
    (λ holds. false≢true (sym c.if-may_endorse.false ∙ c.may_endorse.ensures.1 holds))
