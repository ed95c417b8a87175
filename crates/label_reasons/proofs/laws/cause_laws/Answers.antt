use Rattle.std.proofs.Common.{[]}
use Rattle.label_reasons.specs.declared.reason.Source.TheVariants.{OfBegin}
use Rattle.label_reasons.specs.Traits.{has}
use Rattle.label_reasons.proofs.ExpressionCauses.{LabelLaws, where_some, declared_tells, expr_tells}
use Rattle.label_reasons.proofs.BlockCauses.{guarded_tells, after_tells}
use Rattle.label_reasons.proofs.laws.cause_laws.Goals as goal

pub returns : goal.returns
returns c = record {
  begins = λ trait method begin. where_some (has trait begin) (OfBegin method);
  declared = declared_tells;
  expression = expr_tells laws;
  guard = guarded_tells laws;
  block = after_tells laws;
}
  where
    laws : LabelLaws
    laws = record {
      joined = c.label_laws.ensures.join_sets;
      trusted = c.text_laws.ensures.trusts;
      met = c.label_laws.ensures.meet_sets;
      bottom = c.label_laws.ensures.bottom_sets;
      empty = c.label_laws.ensures.empty_sets;
      empty_is = (c.label_laws.ensures.empty_over (record { names = []; pairs = [] })).is_label;
    }
