use Rattle.std.proofs.Common.{map, drop}
use Rattle.jif_tree.specs.Trees.{program_tree, method_tree}
use Rattle.place_reasons.proofs.Walking.{Reaches}
use Rattle.place_reasons.proofs.walk.answer_program.Given as goal

-- the methods so far are answered
abbrev pub invariant-loop-number : goal.invariant-loop-number
invariant-loop-number l =
    Reaches l.question l.principals (program_tree l.program) l.held l.number l.known l.answers.items
    (map method_tree (drop l.number l.program.methods.items))
