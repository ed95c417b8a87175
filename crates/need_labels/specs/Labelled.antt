-- Programs whose labels were checked, as contracts see them.
use Rattle.std.specs.Prelude.{List, Some, map, slice_get, unwrap_or}
use Rattle.js_base.specs.declared.ids.StmtId.{StmtId}
use Rattle.label_lattice.specs.declared.label.Label.{Label}
use Rattle.label_lattice.specs.Lattice.{empty_label}
use Rattle.jif_tree.specs.declared.program.Checked.{Checked}
use Rattle.jif_tree.specs.Trees.{ProgramTree, program_tree}
use Rattle.jif_tree.specs.LabelRules.{VariableLabels}

-- A program, with the label of each variable and the program label of each statement: for a loop that of its guard, and
-- for a head the begin label.
pub record Labelled : Type 0 where
  pub program : ProgramTree
  pub var_labels : List Label
  pub pc : List Label

abbrev pub labelled_of : Checked → Labelled
labelled_of checked = record {
  program = program_tree checked.program;
  var_labels = checked.var_labels.items;
  pc = checked.pc.items;
}

abbrev pub pc_of : Labelled → StmtId → Label
pc_of labelled statement = unwrap_or (slice_get labelled.pc statement.0) empty_label

-- the labels of the variables behind the whole program, where each has one
abbrev pub all_labels : Labelled → VariableLabels
all_labels labelled = map Some labelled.var_labels
