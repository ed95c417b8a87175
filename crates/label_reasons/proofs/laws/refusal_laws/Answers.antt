use Rattle.std.proofs.Common.{List, [], All, sym, ◌∙◌, subst}
use Rattle.principals.specs.ActsFor.{Declared, IsDeclared}
use Rattle.jif_tree.specs.LabelRules.{Obligation, Meets}
use Rattle.label_reasons.specs.Asks.{program_asks}
use Rattle.label_reasons.proofs.TraitTests.{AreTrusted}
use Rattle.label_reasons.proofs.ExpressionCauses.{LabelLaws}
use Rattle.label_reasons.proofs.ActsTests.{ActsLaws}
use Rattle.label_reasons.proofs.SameAsks.{program_same}
use Rattle.label_reasons.proofs.ToldAsks.{OverLaws, program_good}
use Rattle.label_reasons.proofs.FirstRefused.{first_is, none_is, first_asked}
use Rattle.label_reasons.proofs.laws.refusal_laws.Goals as goal

pub returns : goal.returns
returns c = record {
  statement_due = λ principals program failed is first.
      first_is trusts principals is.declared (acts principals) (program_asks principals program) first.before
      first.behind failed (program_good principals program (over principals is.declared) is)
      (program_same principals program ∙ first.place) first.met first.fails;
  of_statement = first_asked;
  none_refused = λ principals program declared met.
      let P : List Obligation → Type 0 = λ all. All (Meets principals) all in
      none_is trusts principals declared (acts principals) (program_asks principals program)
      (subst P (sym (program_same principals program)) met);
}
  where
    trusts : AreTrusted
    trusts = c.text_laws.ensures.trusts

    acts : (principals : Declared) → ActsLaws principals
    acts principals = record {
      reflexive = c.acts_for_laws.ensures.reflexive principals;
      transitive = c.acts_for_laws.ensures.transitive principals;
      declared = c.acts_for_laws.ensures.declared principals;
      smallest = c.acts_for_laws.ensures.smallest principals;
    }

    labels : LabelLaws
    labels = record {
      joined = c.label_laws.ensures.join_sets;
      trusted = c.text_laws.ensures.trusts;
      met = c.label_laws.ensures.meet_sets;
      bottom = c.label_laws.ensures.bottom_sets;
      empty = c.label_laws.ensures.empty_sets;
      empty_is = (c.label_laws.ensures.empty_over (record { names = []; pairs = [] })).is_label;
    }

    over : (principals : Declared) → IsDeclared principals → OverLaws principals
    over principals declared = record {
      labels = labels;
      order = record {
        same = c.label_laws.ensures.reflexive;
        on = c.label_laws.ensures.transitive;
        above = λ first second one other. c.label_laws.ensures.join_above first second _
            (c.label_laws.ensures.join_sets first second one.is_label other.is_label);
        empty = c.label_laws.ensures.empty_over principals;
        bottom = c.label_laws.ensures.bottom_over principals declared;
        join = c.label_laws.ensures.join_over principals;
        meet = c.label_laws.ensures.meet_over principals;
      };
    }
