-- Which program labels the instructions and the entries of split code carry, and for which statements instructions are.
use Rattle.std.specs.Prelude.{◌≡◌, ◌⊎◌, ℕ, suc, Some, slice_get, ⊤}
use Rattle.js_base.specs.declared.ids.HostId.{HostId}
use Rattle.js_base.specs.declared.ids.StmtId.{StmtId}
use Rattle.js_base.specs.declared.ids.EntryId.{EntryId}
use Rattle.label_lattice.specs.declared.label.Label.{Label}
use Rattle.jif_tree.specs.Trees.{BlockTree, branch, loop, call, MethodTree}
use Rattle.jif_tree.specs.LabelRules.{guarded, begin_label, method_at}
use Rattle.host_code.specs.declared.code.Entry.{Entry}
use Rattle.host_code.specs.declared.instruction.Instr.{Instr}
use Rattle.host_code.specs.declared.instruction.Op.{Op}
use Rattle.host_code.specs.declared.instruction.Op.TheVariants as op
use Rattle.host_code.specs.Code.{CodeShape, instruction_at}
use Rattle.entry_check.specs.Checks.{label_at}
use Rattle.need_labels.specs.Labelled.{pc_of, all_labels}
use Rattle.need_labels.specs.Plan.{statement_host}
use Rattle.msg_cost.specs.Moves.{PlannedShape}
use Rattle.split_rules.specs.Emissions.{Emission, instruction, entry, stands, lands}
use Rattle.split_rules.specs.Positions.{IsOf, number_of}
use Rattle.split_shades.specs.Basis.{Basis, basis_setting}

-- ---- blocks

-- The blocks inside a branch have the program label of the branch, joined with what its guard tells, and that of a loop
-- is the loop's own.
abbrev pub IsInside : Basis → BlockTree → Label → Type 0
IsInside basis (branch heading guard first second rest) label =
    label ≡ guarded (basis_setting basis) (pc_of basis.labelled heading.id) (all_labels basis.labelled) guard
IsInside basis (loop heading guard inner rest) label = label ≡ pc_of basis.labelled heading.id
IsInside basis other label = ⊥

-- A block with this owner has this program label: the body of a method, whose head is its owner, or a block inside a
-- branch or a loop.
abbrev pub IsBlockOf : Basis → StmtId → Label → Type 0
IsBlockOf basis owner label =
    ((place : ℕ) × (tree : MethodTree) × (slice_get basis.labelled.program.methods place ≡ Some tree)
    × (tree.head ≡ owner) × (label ≡ tree.begin))
    ⊎ ((statement : BlockTree) × IsOf basis.labelled.program statement × (number_of statement ≡ owner)
    × IsInside basis statement label)

-- ---- instructions and entries

-- the statement stands on the host, and has this program label
abbrev pub IsOwnStatement : Basis → PlannedShape → HostId → Label → StmtId → Type 0
IsOwnStatement basis planned host label statement =
    (statement_host planned.plan statement ≡ host) × (pc_of basis.labelled statement ≡ label)

-- Where the right to go on moves, an instruction is for the block. All others are for a statement on their host.
-- Entries are pushed for either.
abbrev pub InstructionCarriesWell : Basis → PlannedShape → HostId → Label → StmtId → Op → Type 0
InstructionCarriesWell basis planned host label statement (op.Go there on) = IsBlockOf basis statement label
InstructionCarriesWell basis planned host label statement (op.GoWith there on riders) = IsBlockOf basis statement label
InstructionCarriesWell basis planned host label statement (op.Ask there on) = IsBlockOf basis statement label
InstructionCarriesWell basis planned host label statement op.Back = IsBlockOf basis statement label
InstructionCarriesWell basis planned host label statement (op.Push there) =
    IsOwnStatement basis planned host label statement ⊎ IsBlockOf basis statement label
InstructionCarriesWell basis planned host label statement other = IsOwnStatement basis planned host label statement

abbrev pub IsCarried : Basis → PlannedShape → Emission → Type 0
IsCarried basis planned (instruction one) = InstructionCarriesWell basis planned one.host one.label one.statement one.op
IsCarried basis planned (entry named) = (owner : StmtId) × IsBlockOf basis owner named.label
IsCarried basis planned (stands host number) = ⊤
IsCarried basis planned (lands host number) = ⊤

-- ---- entries that are named

-- The entry behind a call has the program label of the call.
abbrev pub IsBehindCall : Basis → BlockTree → Label → Type 0
IsBehindCall basis (call heading site method arguments into rest) label = label ≡ pc_of basis.labelled heading.id
IsBehindCall basis other label = ⊥

-- An entry that is pushed for a block has the program label of the block: a return point, the join of a branch, whose
-- blocks have the label inside, and the head of a loop. All others are pushed for a call.
abbrev pub IsPushedFor : Basis → StmtId → Label → Type 0
IsPushedFor basis statement label =
    IsBlockOf basis statement label
    ⊎ ((own : BlockTree) × IsOf basis.labelled.program own × (number_of own ≡ statement) × IsBehindCall basis own label)

-- A call enters its method, whose entry has the number behind that of the method.
abbrev pub EntersWell : EntryId → BlockTree → Type 0
EntersWell there (call heading site method arguments into rest) = there.0 ≡ suc method.0
EntersWell there other = ⊥

-- Which labels the entries have that an instruction with this program label names. The first argument tells which label
-- the entry of a number has.
abbrev pub NamesWell : (ℕ → Label → Type 0) → Basis → Label → StmtId → Op → Type 0
NamesWell has basis label statement (op.Go there on) = has there.0 label × IsBlockOf basis statement label
NamesWell has basis label statement (op.GoWith there on riders) = has there.0 label × IsBlockOf basis statement label
NamesWell has basis label statement (op.Ask there on) = has there.0 label × IsBlockOf basis statement label
NamesWell has basis label statement (op.Push there) =
    (own : Label) × has there.0 own × IsPushedFor basis statement own
NamesWell has basis label statement (op.Call there on) =
    (own : BlockTree) × IsOf basis.labelled.program own × (number_of own ≡ statement) × EntersWell there own
NamesWell has basis label statement (op.CallWith there on riders) =
    (own : BlockTree) × IsOf basis.labelled.program own × (number_of own ≡ statement) × EntersWell there own
NamesWell has basis label statement other = ⊤

-- ---- code

-- the entry of a number has a label
abbrev pub EntryHasLabel : CodeShape → ℕ → Label → Type 0
EntryHasLabel code number label =
    (there : Entry) × (slice_get code.entries number ≡ Some there) × (label_at code there.label ≡ Some label)

-- Each instruction carries the program label of the statement that it is for, which stands on its host, or that of the
-- block. Each entry carries that of a block: that of a method the begin label, and one that an instruction names that
-- of what it is named for.
pub record AreCarried (basis : Basis) (planned : PlannedShape) (code : CodeShape) : Type 0 where
  pub instructions : (host : HostId) (place : ℕ) (there : Instr) → instruction_at code host place ≡ Some there →
      (label : Label) × (label_at code there.label ≡ Some label)
      × InstructionCarriesWell basis planned host label there.statement there.op
  pub entries : (number : ℕ) (there : Entry) → slice_get code.entries number ≡ Some there →
      (owner : StmtId) × (label : Label) × (label_at code there.label ≡ Some label) × IsBlockOf basis owner label
  pub halts : EntryHasLabel code 0 (begin_label (method_at basis.labelled.program basis.labelled.program.main))
  pub methods : (place : ℕ) (tree : MethodTree) → slice_get basis.labelled.program.methods place ≡ Some tree →
      EntryHasLabel code (suc place) tree.begin
  pub named : (host : HostId) (place : ℕ) (there : Instr) → instruction_at code host place ≡ Some there →
      (label : Label) × (label_at code there.label ≡ Some label)
      × NamesWell (EntryHasLabel code) basis label there.statement there.op
