use Rattle.principals.specs.ActsFor.{Declared, IsDeclared}
use Rattle.label_check.proofs.LabelOrder.{LabelOrder, block_above, read_flows}
use Rattle.label_check.proofs.laws.label_rule_laws.Goals as goal

pub returns : goal.returns
returns c =
    let laws = c.label_laws.ensures in
    let order : (principals : Declared) → IsDeclared principals → LabelOrder principals =
    λ principals declared. record {
      same = laws.reflexive;
      on = laws.transitive;
      above = λ first second one other.
          laws.join_above first second _ (laws.join_sets first second one.is_label other.is_label);
      empty = laws.empty_over principals;
      bottom = laws.bottom_over principals declared;
      join = laws.join_over principals;
      meet = laws.meet_over principals;
    } in
    record {
      above = λ setting pc labels block under named written.
          block_above (order setting.principals named.declared) block pc under named written;
      read = λ setting pc labels expr under named written.
          read_flows (order setting.principals named.declared) pc expr under named written;
    }
