use Rattle.std.proofs.Common.{◌≡◌, map, take, length}
use Rattle.js_base.specs.declared.ids.VarId.{VarId}
use Rattle.jif_tree.specs.Trees.{var_tree}
use Rattle.label_reasons.specs.Causes.{declared_causes}
use Rattle.label_reasons.specs.Search.{listed_cause}
use Rattle.label_reasons.proofs.refusal.declared.Given as goal

-- the labels and causes of the variables so far
abbrev pub invariant-loop-var : goal.invariant-loop-var
invariant-loop-var l =
    (l.number ≡ l.var-index)
    × (l.labels.items ≡ map (λ variable. variable.label) (map var_tree (take l.var-index l.program.vars.items)))
    × (length l.labels.items ≡ l.var-index) × (length l.causes.items ≡ length l.labels.items)
    × ((x : VarId) → listed_cause l.causes.items x ≡ declared_causes l.held l.labels.items x)
