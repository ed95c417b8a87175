use Rattle.std.proofs.Common.{◌≡◌, drop}
use Rattle.jif_parse.specs.PrintedProgram.{seen_after_all}
use Rattle.jif_parse.proofs.printed.methods.see_all.Given as goal

-- with the variables that are left it comes to the same
abbrev pub invariant-loop-variable : goal.invariant-loop-variable
invariant-loop-variable l =
    seen_after_all l.fn.seen l.variables ≡ seen_after_all l.seen (drop l.variable-index l.variables)
