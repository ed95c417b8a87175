use Rattle.std.proofs.Common.{◌≡◌, ◌<◌, ℕ}
use Rattle.std.specs.Prelude.{Some}
use Rattle.host_code.specs.declared.instruction.Instr.{Instr}
use Rattle.host_code.specs.Code.{instruction_at}
use Rattle.part_verify.specs.SoundPart.{ShowsWell}
use Rattle.part_verify.proofs.part.check_shown.Given as goal

-- the instructions so far show no more than may be seen
abbrev pub invariant-loop-place : goal.invariant-loop-place
invariant-loop-place l = (place : ℕ) (one : Instr) → place < l.place → instruction_at l.code l.me place ≡ Some one →
    ShowsWell l.code l.me one.label one.op
