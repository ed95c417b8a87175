use Rattle.principals.specs.ActsFor.{Declared, IsDeclared}
use Rattle.label_check.proofs.LabelOrder.{LabelOrder}
use Rattle.place_reasons.proofs.ProgramLaws.{PlaceLaws, one_by_one, fields_hold, statements_hold}
use Rattle.place_reasons.proofs.laws.program_place_laws.Goals as goal

pub returns : goal.returns
returns c = record {
  fields = λ principals program needs host is.
      fields_hold principals (laws principals is.declared) (order principals is.declared) program needs host is;
  statements = λ principals program needs host is.
      statements_hold principals (laws principals is.declared) (order principals is.declared) program needs host is;
  one_by_one = one_by_one;
}
  where
    laws : (principals : Declared) → IsDeclared principals → PlaceLaws principals
    laws principals declared = record {
      trusts = c.text_laws.ensures.trusts;
      acts = record {
        reflexive = c.acts_for_laws.ensures.reflexive principals;
        transitive = c.acts_for_laws.ensures.transitive principals;
        declared = c.acts_for_laws.ensures.declared principals;
        smallest = c.acts_for_laws.ensures.smallest principals;
      };
      labels = record {
        joined = c.label_laws.ensures.join_sets;
        over = c.label_laws.ensures.join_over principals;
        bottom = (c.label_laws.ensures.bottom_sets principals).forbids;
        bottom_over = c.label_laws.ensures.bottom_over principals declared;
      };
      declares = λ p q. c.acts_for_laws.ensures.of_declared principals p q declared;
      declared = declared;
    }

    order : (principals : Declared) → IsDeclared principals → LabelOrder principals
    order principals declared = record {
      same = c.label_laws.ensures.reflexive;
      on = c.label_laws.ensures.transitive;
      above = λ first second one other. c.label_laws.ensures.join_above first second _
          (c.label_laws.ensures.join_sets first second one.is_label other.is_label);
      empty = c.label_laws.ensures.empty_over principals;
      bottom = c.label_laws.ensures.bottom_over principals declared;
      join = c.label_laws.ensures.join_over principals;
      meet = c.label_laws.ensures.meet_over principals;
    }
