use Rattle.std.proofs.Common.{◌≡◌, take}
use Rattle.std.specs.List.{flat_map}
use Rattle.jif_tree.specs.declared.program.Method.{Method}
use Rattle.jif_tree.specs.Trees.{method_tree}
use Rattle.releasing_statements.specs.Releases.{method_releases}
use Rattle.run_comparison.proofs.releasing.first_release.Given as goal

-- those of the methods so far were added
abbrev pub invariant-loop-method : goal.invariant-loop-method
invariant-loop-method l =
    l.found.items
    ≡ flat_map (λ (method : Method). method_releases (method_tree method)) (take l.method-index l.method-items)
