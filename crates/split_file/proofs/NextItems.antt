-- Instructions and parts by what stands before them, as loops count it.
use Rattle.std.proofs.Common.{◌≡◌, ℕ, List, length, ap, sym, ◌∙◌}
use Rattle.js_base.specs.declared.ids.HostId.{HostId}
use Rattle.host_code.specs.declared.instruction.Instr.{Instr}
use Rattle.host_code.specs.Code.{CodeShape}
use Rattle.host_code.specs.Sound.{temporaries_at}
use Rattle.split_file.specs.Reading.{instruction_at, next_instruction_at, part_at, next_part_at}

pub next_instruction : (version : ℕ) (code : CodeShape) (me : HostId) (places : ℕ) (before : List Instr)
    (temporaries number : ℕ) →
    length before ≡ number → temporaries ≡ temporaries_at code.entries me before number →
    next_instruction_at version code me places before ≡ instruction_at version code me places temporaries number
unfolding next_instruction_at
next_instruction version code me places before temporaries number count is =
    ap (λ n. instruction_at version code me places (temporaries_at code.entries me before n) n) count
    ∙ ap (λ t. instruction_at version code me places t number) (sym is)

pub next_part : (version : ℕ) (code : CodeShape) (before : List (List Instr)) (host : ℕ) → length before ≡ host →
    next_part_at version code before ≡ part_at version code (record { 0 = host })
unfolding next_part_at
next_part version code before host count = ap (λ n. part_at version code (record { 0 = n })) count
