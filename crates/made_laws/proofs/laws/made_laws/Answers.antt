use Rattle.made_laws.proofs.MadeLabels.{LabelLaws}
use Rattle.made_laws.proofs.Making.{MadeLaws, accepted}
use Rattle.made_laws.proofs.laws.made_laws.Goals as goal

label_laws : (c : goal.After-place_rule_laws) → LabelLaws
label_laws c = record {
  reflexive = c.label_laws.ensures.reflexive;
  bottom_sets = c.label_laws.ensures.bottom_sets;
  bottom_over = c.label_laws.ensures.bottom_over;
  join_commutative = c.label_laws.ensures.join_commutative;
  join_idempotent = c.label_laws.ensures.join_idempotent;
  join_bottom = c.label_laws.ensures.join_bottom;
  parts_make = c.written_laws.ensures.parts_make;
}

made_laws : (c : goal.After-place_rule_laws) → MadeLaws
made_laws c = record {
  spelled = c.spelled_laws.ensures.reads;
  labels = label_laws c;
  grammar = c.verdict_laws.ensures.spelled;
  places = record {
    some_needs = c.need_laws.ensures.some_needs;
    allowed_or_refused = c.place_rule_laws.ensures.allowed_or_refused;
  };
}

pub returns : goal.returns
returns c = record { accepted = accepted (made_laws c) }
