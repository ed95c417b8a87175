use Rattle.principals.specs.ActsFor.{Declared, IsDeclared}
use Rattle.label_reasons.proofs.TraitTests.{AreTrusted}
use Rattle.label_reasons.proofs.ActsTests.{ActsLaws}
use Rattle.place_reasons.proofs.PairLaws.{pair_true, pair_denies, pair_due, trust_true, trust_due, head_true, head_due}
use Rattle.place_reasons.proofs.FieldLaws.{LabelLaws, field_true, field_due}
use Rattle.place_reasons.specs.Reasons.{site_of}
use Rattle.place_reasons.proofs.UsedLabels.{kept_due}
use Rattle.place_reasons.proofs.StatementLaws.{statement_true, statement_due}
use Rattle.place_reasons.proofs.laws.place_laws.Goals as goal

pub returns : goal.returns
returns c = record {
  pair_true = pair_true;
  pair_denies = pair_denies;
  pair_due = λ principals. pair_due trusts principals (acts principals);
  trust_true = trust_true trusts;
  trust_due = trust_due trusts;
  head_true = head_true trusts;
  head_due = λ principals. head_due trusts principals (acts principals);
  field_true = λ principals labelled host field tree reason declared.
      field_true trusts principals (labels principals declared) declared labelled host field tree reason;
  field_due = λ principals labelled host field tree declared.
      field_due trusts principals (acts principals) (labels principals declared) labelled host field tree;
  statement_true = λ principals labelled host method block one inside need reason declared.
      statement_true trusts principals (acts principals) (labels principals declared) declared labelled host method
      block one inside need reason;
  statement_due = λ principals labelled host method block one inside need declared alone.
      statement_due trusts principals (acts principals) (labels principals declared)
      (λ p q. c.acts_for_laws.ensures.of_declared principals p q declared) labelled host method block one inside need;
  statement_tells = λ principals labelled host method block one inside declared.
      kept_due trusts (site_of principals labelled host.label method) (acts principals) (labels principals declared)
      block one inside;
}
  where
    trusts : AreTrusted
    trusts = c.text_laws.ensures.trusts

    acts : (principals : Declared) → ActsLaws principals
    acts principals = record {
      reflexive = c.acts_for_laws.ensures.reflexive principals;
      transitive = c.acts_for_laws.ensures.transitive principals;
      declared = c.acts_for_laws.ensures.declared principals;
      smallest = c.acts_for_laws.ensures.smallest principals;
    }

    labels : (principals : Declared) → IsDeclared principals → LabelLaws principals
    labels principals declared = record {
      joined = c.label_laws.ensures.join_sets;
      over = c.label_laws.ensures.join_over principals;
      bottom = (c.label_laws.ensures.bottom_sets principals).forbids;
      bottom_over = c.label_laws.ensures.bottom_over principals declared;
    }
