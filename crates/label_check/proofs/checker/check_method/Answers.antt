use Rattle.std.proofs.Common.{List, ◌∷◌}
use Rattle.jif_tree.specs.Trees.{MethodTree, program_tree, method_tree}
use Rattle.label_check.specs.Places.{asks_of_methods}
use Rattle.label_check.proofs.Passing.{refused_for_rest, method_refused}
use Rattle.label_check.proofs.checker.check_method.Goals as goal

pub returns-clause-err : goal.returns-clause-err
returns-clause-err c =
    let refused = rw c.deref.ensures.value at c.check_block.ensures.err in
    refused_for_rest (λ (rest : List MethodTree).
    asks_of_methods c.args.principals.now (program_tree c.args.program.now) c.args.found.now
    (method_tree c.args.method.now ∷ rest))
    c.check_block.result (λ why one rest. method_refused (program_tree c.args.program.now) c.args.found.now.labels.items
    (method_tree c.args.method.now) rest one) refused
