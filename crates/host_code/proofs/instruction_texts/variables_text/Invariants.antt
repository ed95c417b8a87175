use Rattle.std.proofs.Common.{◌≡◌, ◌++◌, drop}
use Rattle.std.specs.String.{string_bytes}
use Rattle.host_code.specs.InstructionText as text
use Rattle.host_code.proofs.instruction_texts.variables_text.Given as goal

-- what is printed, and what is left, make the whole
abbrev pub invariant-loop-var : goal.invariant-loop-var
invariant-loop-var l =
    string_bytes l.printed ++ text.variables_text l.code (drop l.var-index l.vars) ≡ text.variables_text l.code l.vars
