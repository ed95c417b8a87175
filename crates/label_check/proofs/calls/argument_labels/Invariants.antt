use Rattle.std.proofs.Common.{◌≡◌, map, take}
use Rattle.jif_tree.specs.Trees.{expr_tree}
use Rattle.jif_tree.specs.LabelRules.{expr_constraints, expr_label}
use Rattle.label_check.specs.Parts.{asked, AreMet}
use Rattle.label_check.specs.Places.{setting_at}
use Rattle.label_check.proofs.Arguments.{asked_for_all}
use Rattle.label_check.proofs.calls.argument_labels.Given as goal

-- the arguments so far have these labels, and what they ask for is met
abbrev pub invariant-loop-arg : goal.invariant-loop-arg
invariant-loop-arg l = record {
  labels : l.found.items ≡ map (expr_label (setting_at l.place) l.pc l.labels)
      (map expr_tree (take l.arg-index l.args));
  met : AreMet l.place.principals.now
      (asked l.statement (asked_for_all (expr_constraints (setting_at l.place) l.pc l.labels)
      (take l.arg-index l.args)));
}
