-- The instructions that a thread runs one after the other, on one host after another, and which of them make a step of
-- the program. Nothing is said of values, so that a branch may lead either way.
use Rattle.std.specs.Prelude.{◌≡◌, ◌≢◌, ◌⊎◌, ℕ, ◌+◌, zero, suc, if◌then◌else◌, List, [], ◌∷◌, Some}
use Rattle.js_base.specs.declared.ids.HostId.{HostId}
use Rattle.js_base.specs.declared.ids.EntryId.{EntryId}
use Rattle.host_code.specs.declared.code.Entry.{Entry}
use Rattle.host_code.specs.declared.instruction.Instr.{Instr}
use Rattle.host_code.specs.declared.instruction.Op.{Op}
use Rattle.host_code.specs.declared.instruction.Op.TheVariants as op
use Rattle.host_code.specs.Code.{CodeShape, halt, entry_at, instruction_at}
use Rattle.split_rules.specs.Pace.{calls_at}

-- The host and the place of the next instruction, and the entries on the chain of the token, the last one first. The
-- one that ends the program is not among them.
pub record Thread : Type 0 where
  pub host : HostId
  pub place : ℕ
  pub chain : List EntryId

-- at a place of the same host
abbrev pub thread_at : Thread → ℕ → List EntryId → Thread
thread_at here place chain = record { host = here.host; place = place; chain = chain }

-- where an entry stands
abbrev pub IsAtEntry : CodeShape → EntryId → List EntryId → Thread → Type 0
IsAtEntry code there chain next = (entry : Entry) × (entry_at code there ≡ Some entry)
    × (next ≡ record { host = entry.host; place = entry.at; chain = chain })

-- the token goes back, and ends the thread where nothing is left on the chain
abbrev pub TokenGoesBack : CodeShape → List EntryId → Thread → Type 0
TokenGoesBack code [] next = ⊥
TokenGoesBack code (there ∷ chain) next = (there ≢ halt) × IsAtEntry code there chain next

-- what an instruction makes of a thread, and how many steps it makes, none or one
abbrev pub RunsOp : CodeShape → Thread → Op → ℕ → Thread → Type 0
RunsOp code here (op.Let x value) steps next = (steps ≡ 1) × (next ≡ thread_at here (suc here.place) here.chain)
RunsOp code here (op.Put field index value) steps next =
    (steps ≡ 1) × (next ≡ thread_at here (suc here.place) here.chain)
RunsOp code here (op.Ret x value) steps next = (steps ≡ 1) × (next ≡ thread_at here (suc here.place) here.chain)
RunsOp code here (op.Branch guard target) steps next = (steps ≡ 1)
    × ((next ≡ thread_at here (suc here.place) here.chain) ⊎ (next ≡ thread_at here target here.chain))
-- pushing the entry behind a call makes its step
RunsOp code here (op.Push there) steps next = (steps ≡ (if calls_at code here.host (suc here.place) then 1 else 0))
    × (next ≡ thread_at here (suc here.place) (there ∷ here.chain))
RunsOp code here (op.Ask there on) steps next =
    (steps ≡ 0) × (next ≡ thread_at here (suc here.place) (there ∷ here.chain))
RunsOp code here (op.Go there on) steps next = (steps ≡ 0) × IsAtEntry code there here.chain next
RunsOp code here (op.Call there on) steps next = (steps ≡ 0) × IsAtEntry code there here.chain next
RunsOp code here (op.GoWith there on riders) steps next = (steps ≡ 0) × IsAtEntry code there here.chain next
RunsOp code here (op.CallWith there on riders) steps next = (steps ≡ 0) × IsAtEntry code there here.chain next
RunsOp code here op.Back steps next = (steps ≡ 0) × TokenGoesBack code here.chain next
RunsOp code here other steps next = (steps ≡ 0) × (next ≡ thread_at here (suc here.place) here.chain)

-- one instruction
pub record RunsOne (code : CodeShape) (here : Thread) (steps : ℕ) (next : Thread) : Type 0 where
  pub instruction : Instr
  pub is : instruction_at code here.host here.place ≡ Some instruction
  pub runs : RunsOp code here instruction.op steps next

-- so many instructions, which make so many steps
abbrev pub RunsInstructions : CodeShape → ℕ → ℕ → Thread → Thread → Type 0
RunsInstructions code zero steps first last = (steps ≡ 0) × (first ≡ last)
RunsInstructions code (suc count) steps first last = (own others : ℕ) × (middle : Thread) × (steps ≡ own + others)
    × RunsOne code first own middle × RunsInstructions code count others middle last

-- a thread where the program begins
abbrev pub IsAtMain : CodeShape → Thread → Type 0
IsAtMain code thread = IsAtEntry code code.main [] thread
