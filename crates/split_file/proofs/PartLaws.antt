-- Laws of the readers of instructions and parts.
use Rattle.std.proofs.Common.{◌≡◌, ℕ, suc, ◌^◌, ◌<◌, true, ◌||◌, List, [], ◌∷◌, ◌++◌, length, refl, sym, ap, subst, ◌∙◌}
use Rattle.std.proofs.Common.{append_assoc, arith}
use Rattle.std.specs.Prelude.{nat_lt}
use Rattle.std.specs.List.{flat_map}
use Rattle.std.proofs.lemmas.List.{length-append}
use Rattle.js_base.specs.declared.ids.HostId.{HostId}
use Rattle.host_code.specs.declared.instruction.Instr.{Instr}
use Rattle.host_code.specs.Code.{CodeShape}
use Rattle.host_code.specs.Sound.{temporaries_at}
use Rattle.byte_format.specs.Numbers.{number_bytes}
use Rattle.byte_format.proofs.NumberLaws.{number_reads, number_again}
use Rattle.byte_format.proofs.Sequels.{Reads, Again, reads_then, reads_given, reads_require, reads_weaker, again_then}
use Rattle.byte_format.proofs.Sequels.{again_given, again_require}
use Rattle.byte_format.specs.Reader.{items_at}
use Rattle.byte_format.proofs.ItemLaws.{AllIn, all_weaker, all_read, items_again}
use Rattle.split_file.specs.declared.fault.Fault.TheVariants as fault
use Rattle.split_file.specs.Spelling.{instruction_bytes, part_bytes}
use Rattle.split_file.specs.Reading.{is_leaving, instruction_at, next_instruction_at, part_at, next_part_at}
use Rattle.split_file.proofs.Sequels.{reads_place, again_place}
use Rattle.split_file.proofs.NumberLaws.{index_reads, index_again}
use Rattle.split_file.proofs.OperandLaws.{IsFew}
use Rattle.split_file.proofs.OperationLaws.{OperationIs, operation_reads, operation_again}
use Rattle.split_file.proofs.Temporaries.{few_at}

-- ---- instructions

-- the instruction of this number, of so many
pub record InstructionIs (version : ℕ) (code : CodeShape) (me : HostId) (places temporaries number : ℕ)
    (instruction : Instr) :
    Type 0 where
  pub label : instruction.label < length code.labels
  pub statement : instruction.statement.0 < 2 ^ 32
  pub operation : OperationIs version code me temporaries places instruction.op
  pub end : (nat_lt (suc number) places || is_leaving instruction.op) ≡ true

pub instruction_reads : (version : ℕ) (code : CodeShape) (me : HostId) (places temporaries number : ℕ) →
    Reads (instruction_at version code me places temporaries number)
    (λ i text. (text ≡ instruction_bytes i) × InstructionIs version code me places temporaries number i)
unfolding instruction_at
instruction_reads version code me places temporaries number =
    reads_place (λ at. reads_then (index_reads (length code.labels)) (λ label label_is.
    reads_then (number_reads _) (λ statement short.
    reads_then (operation_reads version code me temporaries places) (λ o o_is.
    reads_require (fault.BadField at) (λ ends. reads_given _
    (refl, record { label = label_is; statement = short; operation = o_is; end = ends }))))))

pub instruction_again : (version : ℕ) (code : CodeShape) (me : HostId) (places temporaries number : ℕ) (i : Instr) →
    IsFew code →
    temporaries < 2 ^ 32 → places < 2 ^ 32 → InstructionIs version code me places temporaries number i →
    Again (instruction_at version code me places temporaries number) i (instruction_bytes i)
unfolding instruction_at
instruction_again version code me places temporaries number i few short limit is =
    again_place (λ at. again_then _ (index_again (length code.labels) i.label few.labels is.label)
    (again_then _ (number_again _ i.statement.0 is.statement)
    (again_then _ (operation_again version code me temporaries places i.op few short limit is.operation)
    (again_require (fault.BadField at) is.end (again_given i)))))

-- ---- parts

abbrev pub InstructionBehind : ℕ → CodeShape → HostId → ℕ → List Instr → Instr → Type 0
InstructionBehind version code me places before i =
    InstructionIs version code me places (temporaries_at code.entries me before (length before)) (length before) i

pub next_reads : (version : ℕ) (code : CodeShape) (me : HostId) (places : ℕ) (before : List Instr) →
    Reads (next_instruction_at version code me places before)
    (λ i text. (text ≡ instruction_bytes i) × InstructionBehind version code me places before i)
unfolding next_instruction_at
next_reads version code me places before =
    instruction_reads version code me places (temporaries_at code.entries me before (length before)) (length before)

pub record PartIs (version : ℕ) (code : CodeShape) (me : HostId) (part : List Instr) : Type 0 where
  pub short : length part < 2 ^ 32
  pub each : AllIn (InstructionBehind version code me (length part)) [] part

pub part_reads : (version : ℕ) (code : CodeShape) (me : HostId) → Reads (part_at version code me)
    (λ part text. (text ≡ part_bytes part) × PartIs version code me part)
unfolding part_at
part_reads version code me =
    reads_then (number_reads _) (λ places short. reads_weaker
    (all_read (next_instruction_at version code me places) instruction_bytes (InstructionBehind version code me places)
    (next_reads version code me places) places) (λ part text is. (
      ap (λ t. number_bytes places ++ t) is.0
          ∙ ap (λ n. number_bytes n ++ flat_map instruction_bytes part) (sym is.1.0),
      record {
        short = subst (λ n. n < 2 ^ 32) (sym is.1.0) short;
        each = subst (λ n. AllIn (InstructionBehind version code me n) [] part) (sym is.1.0) is.1.1;
      },
    )))

next_again : (version : ℕ) (code : CodeShape) (me : HostId) (places : ℕ) (before : List Instr) (i : Instr) →
    IsFew code →
    length before < 2 ^ 32 → places < 2 ^ 32 → InstructionBehind version code me places before i →
    Again (next_instruction_at version code me places before) i (instruction_bytes i)
unfolding next_instruction_at
next_again version code me places before i few short limit is =
    let below = few_at code.entries me before (length before) in
    instruction_again version code me places (temporaries_at code.entries me before (length before))
    (length before) i few
    (omega (arith, below, short)) limit is

-- each of these items stands in a list that is not too long
short_fronts : {A : Type 0} (P : List A → A → Type 0) (limit : ℕ) (before xs : List A) →
    length (before ++ xs) < limit → AllIn P before xs → AllIn (λ front x. (length front < limit) × P front x) before xs
short_fronts P limit before [] short all = tt
short_fronts P limit before (x ∷ xs) short all =
    let long = length-append before (x ∷ xs) in (
      (omega (arith, short, long), all.0),
      short_fronts P limit (before ++ x ∷ []) xs (subst (λ w. length w < limit)
          (sym (append_assoc before (x ∷ []) xs)) short)
          all.1,
    )

pub part_again : (version : ℕ) (code : CodeShape) (me : HostId) (part : List Instr) → IsFew code →
    PartIs version code me part →
    Again (part_at version code me) part (part_bytes part)
unfolding part_at
part_again version code me part few is =
    let each = all_weaker
    (λ front i. (length front < 2 ^ 32) × InstructionBehind version code me (length part) front i)
    (λ front i. Again (next_instruction_at version code me (length part) front) i (instruction_bytes i))
    (λ front i here. next_again version code me (length part) front i few here.0 is.short here.1) [] part
    (short_fronts (InstructionBehind version code me (length part)) (2 ^ 32) [] part is.short is.each) in
    again_then (λ places. items_at (next_instruction_at version code me places) [] places)
    (number_again _ (length part) is.short)
    (items_again (next_instruction_at version code me (length part)) instruction_bytes [] part each)

-- ---- the parts of all hosts

abbrev pub PartBehind : ℕ → CodeShape → List (List Instr) → List Instr → Type 0
PartBehind version code before part = PartIs version code (record { 0 = length before }) part

next_part_reads : (version : ℕ) (code : CodeShape) (before : List (List Instr)) →
    Reads (next_part_at version code before)
    (λ part text. (text ≡ part_bytes part) × PartBehind version code before part)
unfolding next_part_at
next_part_reads version code before = part_reads version code (record { 0 = length before })

pub parts_reads : (version : ℕ) (code : CodeShape) (count : ℕ) → Reads (items_at (next_part_at version code) [] count)
    (λ parts text. (text ≡ flat_map part_bytes parts)
    × ((length parts ≡ count) × AllIn (PartBehind version code) [] parts))
parts_reads version code count =
    all_read (next_part_at version code) part_bytes (PartBehind version code) (next_part_reads version code) count

next_part_again : (version : ℕ) (code : CodeShape) (before : List (List Instr)) (part : List Instr) → IsFew code →
    PartBehind version code before part → Again (next_part_at version code before) part (part_bytes part)
unfolding next_part_at
next_part_again version code before part few is = part_again version code (record { 0 = length before }) part few is

pub parts_again : (version : ℕ) (code : CodeShape) (parts : List (List Instr)) → IsFew code →
    AllIn (PartBehind version code) [] parts →
    Again (items_at (next_part_at version code) [] (length parts)) parts (flat_map part_bytes parts)
parts_again version code parts few all =
    items_again (next_part_at version code) part_bytes [] parts
    (all_weaker (PartBehind version code)
    (λ before part. Again (next_part_at version code before) part (part_bytes part))
    (λ before part is. next_part_again version code before part few is) [] parts all)
