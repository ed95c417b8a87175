use Rattle.std.proofs.Common.{◌≡◌, ◌++◌, codes, drop}
use Rattle.std.specs.String.{string_bytes}
use Rattle.host_code.specs.InstructionText.{variables_text}
use Rattle.plan_ways.proofs.tips.push_variables.Given as goal

-- what was added, and the variables that are left, are the whole
abbrev pub invariant-loop-variable : goal.invariant-loop-variable
invariant-loop-variable l =
    string_bytes l.text ++ variables_text l.code (drop l.variable-index l.riders)
    ≡ (string_bytes l.fn.text ++ codes " with") ++ variables_text l.code l.riders
