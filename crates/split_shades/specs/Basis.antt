-- What the values of a program tell, over the labels that variables have behind the whole program.
use Rattle.std.specs.Prelude.{[], None}
use Rattle.principals.specs.ActsFor.{Declared}
use Rattle.label_lattice.specs.declared.label.Label.{Label}
use Rattle.label_lattice.specs.Lattice.{join_of}
use Rattle.jif_tree.specs.Trees.{ExprTree}
use Rattle.jif_tree.specs.LabelRules.{MethodSetting, field_label, expr_label}
use Rattle.need_labels.specs.Labelled.{Labelled, all_labels}
use Rattle.split_rules.specs.Positions.{FieldRead}

-- a program with its labels, and who is declared
pub record Basis : Type 0 where
  pub principals : Declared
  pub labelled : Labelled

-- The label of a value does not depend on the method in which it stands: neither on whose authority the method has nor
-- on its result.
abbrev pub basis_setting : Basis → MethodSetting
basis_setting basis = record {
  principals = basis.principals;
  program = basis.labelled.program;
  authority = [];
  result = None;
}

-- the label of a value under a program label
abbrev pub value_label : Basis → Label → ExprTree → Label
value_label basis pc value = expr_label (basis_setting basis) pc (all_labels basis.labelled) value

-- What is read of a field tells what the field holds, and which element was asked for.
abbrev pub read_label : Basis → Label → FieldRead → Label
read_label basis pc read =
    join_of (field_label basis.labelled.program read.field) (value_label basis pc read.index)
