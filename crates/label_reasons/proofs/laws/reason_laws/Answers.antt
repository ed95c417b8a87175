use Rattle.principals.specs.ActsFor.{Declared}
use Rattle.label_reasons.proofs.TraitTests.{AreTrusted}
use Rattle.label_reasons.proofs.ActsTests.{ActsLaws}
use Rattle.label_reasons.proofs.SameAsks.{program_same}
use Rattle.label_reasons.proofs.Failing.{reasons_true, reasons_due, denies}
use Rattle.label_reasons.proofs.laws.reason_laws.Goals as goal

pub returns : goal.returns
returns c = record {
  asked = program_same;
  reason_true = λ principals ask declared. reasons_true trusts principals declared (acts principals) ask;
  reason_denies = λ principals ask reason is.
      denies trusts principals ask.constraint reason.held is.within is.fails;
  reason_due = λ principals ask declared. reasons_due trusts principals declared (acts principals) ask;
}
  where
    trusts : AreTrusted
    trusts = c.text_laws.ensures.trusts

    acts : (principals : Declared) → ActsLaws principals
    acts principals = record {
      reflexive = c.acts_for_laws.ensures.reflexive principals;
      transitive = c.acts_for_laws.ensures.transitive principals;
      declared = c.acts_for_laws.ensures.declared principals;
      smallest = c.acts_for_laws.ensures.smallest principals;
    }
