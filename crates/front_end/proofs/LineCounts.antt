-- A program has a line for each of its statements.
use Rattle.std.proofs.Common.{◌≡◌, ◌<◌, ◌^◌, suc, List, [], ◌∷◌, length, refl, ap, arith}
use Rattle.std.specs.List.{flat_map}
use Rattle.std.proofs.lemmas.List.{length-append}
use Rattle.jif_tree.specs.Limits.{IsWithinLimits}
use Rattle.jif_tree.specs.Numbering.{block_lines, block_statements, statement_lines, statement_numbers}
use Rattle.jif_tree.specs.Trees.{BlockTree, done, set_local, set_field, set_element, branch, loop, call, give_back}
use Rattle.jif_tree.specs.Trees.{MethodTree, ProgramTree}

of_block : (block : BlockTree) → length (block_lines block) ≡ length (block_statements block)
of_block done = refl
of_block (set_local heading x value rest) = ap suc (of_block rest)
of_block (set_field heading field value rest) = ap suc (of_block rest)
of_block (set_element heading field index value rest) = ap suc (of_block rest)
of_block (branch heading guard first second rest) =
    let one = of_block first in
    let two = of_block second in
    let three = of_block rest in
    simp length-append (omega arith)
of_block (loop heading guard body rest) =
    let one = of_block body in
    let two = of_block rest in
    simp length-append (omega arith)
of_block (call heading site method args into rest) = ap suc (of_block rest)
of_block (give_back heading value rest) = ap suc (of_block rest)

of_methods : (methods : List MethodTree) →
    length (flat_map (λ (method : MethodTree). method.line ∷ block_lines method.body) methods)
    ≡ length (flat_map (λ (method : MethodTree). method.head.0 ∷ block_statements method.body) methods)
of_methods [] = refl
of_methods (method ∷ methods) =
    let one = of_block method.body in
    let two = of_methods methods in
    simp length-append (omega arith)

pub few_lines : (program : ProgramTree) → IsWithinLimits program → length (statement_lines program) < 2 ^ 32
few_lines program limits =
    let same : length (statement_lines program) ≡ length (statement_numbers program) = of_methods program.methods in
    let few = limits.statements in
    omega arith
