-- What one more line adds to the lines of a code.
use Rattle.std.proofs.Common.{◌≡◌, ℕ, ◌+◌, ◌<◌, List, [], ◌∷◌, ◌++◌, length, get_or, take, refl, ap, ◌∙◌, sym}
use Rattle.std.specs.List.{flat_map, range_with_len}
use Rattle.std.proofs.lemmas.List.{append_assoc}
use Rattle.std.proofs.lemmas.List.Concat.{flat_map-append}
use Rattle.js_base.specs.declared.ids.HostId.{HostId}
use Rattle.host_code.specs.declared.code.Entry.{Entry}
use Rattle.host_code.specs.declared.instruction.Instr.{Instr}
use Rattle.host_code.specs.Code.{CodeShape}
use Rattle.split_cli.specs.CodeLines.{code_lines, entry_line, entry_lines, instruction_line, instruction_lines}
use Rattle.split_cli.specs.CodeLines.{part_lines}
use Rattle.front_end.specs.Text.{line_text, lines_text}
use Rattle.split_cli.proofs.ReportLines.{numbered_more}

pub entry_lines_at : (code : CodeShape) (entries : List Entry) (i : ℕ) (entry : Entry) → i < length entries →
    get_or entries i entry ≡ entry →
    lines_text (entry_lines code 0 (take (i + 1) entries))
    ≡ lines_text (entry_lines code 0 (take i entries)) ++ (entry_line code i entry ++ 10 ∷ [])
entry_lines_at code entries i entry lt is =
    numbered_more (entry_lines code) (entry_line code) (λ n. refl) (λ n x xs. refl) entries i entry lt
    ∙ ap (λ (e : Entry). lines_text (entry_lines code 0 (take i entries)) ++ (entry_line code i e ++ 10 ∷ [])) is

pub instruction_lines_at : (code : CodeShape) (host : HostId) (part : List Instr) (i : ℕ) (instruction : Instr) →
    i < length part → instruction ≡ get_or part i instruction →
    lines_text (instruction_lines code host 0 (take (i + 1) part))
    ≡ lines_text (instruction_lines code host 0 (take i part)) ++ (instruction_line code host i instruction ++ 10 ∷ [])
instruction_lines_at code host part i instruction lt is =
    numbered_more (instruction_lines code host) (instruction_line code host) (λ n. refl) (λ n x xs. refl) part i
    instruction lt
    ∙ ap (λ (one : Instr). lines_text (instruction_lines code host 0 (take i part))
    ++ (instruction_line code host i one ++ 10 ∷ [])) (sym is)

-- the entries, and then the instructions
pub code_parts : (code : CodeShape) (before between after : List ℕ) →
    between ≡ before ++ lines_text (entry_lines code 0 code.entries) →
    after ≡ between ++ lines_text (flat_map (part_lines code) (range_with_len 0 (length code.hosts))) →
    after ≡ before ++ lines_text (code_lines code)
code_parts code before between after first then =
    let entries = entry_lines code 0 code.entries in
    let parts = flat_map (part_lines code) (range_with_len 0 (length code.hosts)) in
    then ∙ ap (λ (text : List ℕ). text ++ lines_text parts) first
    ∙ append_assoc before (lines_text entries) (lines_text parts)
    ∙ ap (λ (text : List ℕ). before ++ text) (sym (flat_map-append line_text entries parts))
