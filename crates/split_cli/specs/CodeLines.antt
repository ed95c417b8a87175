-- The lines of a code: its entries, and then the instructions of each host.
use Rattle.std.specs.Prelude.{ℕ, ◌+◌, ◌==◌, List, [], ◌∷◌, ◌++◌, codes, length, if◌then◌else◌}
use Rattle.std.specs.Fmt.{decimal}
use Rattle.std.specs.List.{flat_map, range_with_len}
use Rattle.js_base.specs.declared.ids.HostId.{HostId}
use Rattle.host_code.specs.declared.code.Entry.{Entry}
use Rattle.host_code.specs.declared.instruction.Instr.{Instr}
use Rattle.host_code.specs.Code.{CodeShape, part_of}
use Rattle.host_code.specs.InstructionText.{instruction_text}
use Rattle.host_code.specs.MessageText.{host_text}

-- where a thread starts that enters: entry 0 ends the program
abbrev pub entry_place : ℕ → Entry → List ℕ
entry_place number entry = if number == 0 then codes "halt" else decimal entry.at

-- `entry eK HOST N`, with `halt` for entry 0
abbrev pub entry_line : CodeShape → ℕ → Entry → List ℕ
entry_line code number entry =
    codes "entry e" ++ decimal number ++ codes " " ++ host_text code entry.host ++ codes " " ++ entry_place number entry

-- the lines of the entries from a number on
abbrev pub entry_lines : CodeShape → ℕ → List Entry → List (List ℕ)
entry_lines code number [] = []
entry_lines code number (entry ∷ entries) = entry_line code number entry ∷ entry_lines code (number + 1) entries

-- `HOST N`, and the instruction without its expressions
abbrev pub instruction_line : CodeShape → HostId → ℕ → Instr → List ℕ
instruction_line code host number instruction =
    host_text code host ++ codes " " ++ decimal number ++ codes " " ++ instruction_text code instruction.op

-- the lines of the instructions from a number on
abbrev pub instruction_lines : CodeShape → HostId → ℕ → List Instr → List (List ℕ)
instruction_lines code host number [] = []
instruction_lines code host number (instruction ∷ instructions) =
    instruction_line code host number instruction ∷ instruction_lines code host (number + 1) instructions

-- the lines of all instructions of the host of this number
abbrev pub part_lines : CodeShape → ℕ → List (List ℕ)
part_lines code number =
    instruction_lines code (record { 0 = number }) 0 (part_of code (record { 0 = number }))

abbrev pub code_lines : CodeShape → List (List ℕ)
code_lines code =
    entry_lines code 0 code.entries ++ flat_map (part_lines code) (range_with_len 0 (length code.hosts))
