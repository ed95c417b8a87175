use Rattle.std.proofs.Common.{◌≡◌, ◌∷◌, ℕ, List, take}
use Rattle.std.specs.List.{flat_map}
use Rattle.jif_tree.specs.declared.program.Method.{Method}
use Rattle.jif_tree.specs.Numbering.{block_lines}
use Rattle.jif_tree.specs.Trees.{MethodTree, method_tree}
use Rattle.front_end.proofs.statements.statement_lines.Given as goal

-- the lines of a method: that of its head, and those of its body
abbrev pub lines_of : MethodTree → List ℕ
lines_of tree = tree.line ∷ block_lines tree.body

-- the lines of the methods so far were added
abbrev pub invariant-loop-method : goal.invariant-loop-method
invariant-loop-method l =
    l.lines.items ≡ flat_map (λ (method : Method). lines_of (method_tree method)) (take l.method-index l.method-items)
