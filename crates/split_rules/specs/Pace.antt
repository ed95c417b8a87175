-- How many instructions the hosts of split code run for each step of the program: no more than 512. A step is an
-- assignment, a value that is given back, the test of a guard, a call, or a result that is kept.
-- Each place of a host has a number, which says how many instructions may still come there before the next step. Code
-- is paced where each instruction leads to a place with a smaller number, but for these: what makes a step has the 512
-- of that step beside, what puts an entry on the chain of the token pays one for it, and what takes an entry off the
-- chain has that one beside.
--
-- The pace of code is judged by what is ahead. How many instructions may still come at a place is counted over the list
-- of emissions from there on, up to the next step. So this judgement has no state and looks up no entry and no branch:
-- behind an instruction comes the next emission, and an entry that a thread is handed to stands next in the list.
-- Entries that are taken off the chain of a token may have 512 ahead of them, and so may the ends of blocks. Moves to
-- another host leave 490 of these. A statement takes 256 for its expressions at most, 17 for each of 8 parameters, and
-- 20 before its step; behind the step the 512 are there again, with 16 for the hosts that are sent a value. All of this
-- is less than 512, and the law is stated with that one number.
use Rattle.std.specs.Prelude.{◌≡◌, ℕ, ◌+◌, ◌<◌, ◌≤◌, suc, Bool, true, false, Option, Some, None, slice_get}
use Rattle.js_base.specs.declared.ids.HostId.{HostId}
use Rattle.js_base.specs.declared.ids.EntryId.{EntryId}
use Rattle.host_code.specs.declared.code.Entry.{Entry}
use Rattle.host_code.specs.declared.instruction.Instr.{Instr}
use Rattle.host_code.specs.declared.instruction.Op.{Op}
use Rattle.host_code.specs.declared.instruction.Op.TheVariants as op
use Rattle.host_code.specs.Code.{CodeShape, entry_at, instruction_at}

-- the most instructions for a step
abbrev pub PACE : ℕ
PACE = 512

-- a number at each place, by the numbers of the host and the instruction
abbrev pub Allowance : Type 0
Allowance = ℕ → ℕ → ℕ

-- ---- from one place of a host to another

-- an instruction that makes no step
abbrev pub Falls : Allowance → HostId → ℕ → ℕ → Type 0
Falls left me place next = left me.0 next < left me.0 place

-- one that makes no step, and puts an entry on the chain
abbrev pub FallsWithEntry : Allowance → HostId → ℕ → ℕ → Type 0
FallsWithEntry left me place next = left me.0 next + 1 < left me.0 place

-- one that makes a step, and may put an entry on the chain
abbrev pub FallsWithStep : Allowance → HostId → ℕ → ℕ → Type 0
FallsWithStep left me place next = left me.0 next + 1 < left me.0 place + PACE

-- ---- instructions

-- the instruction enters a method
abbrev pub is_call : Op → Bool
is_call (op.Call there on) = true
is_call (op.CallWith there on riders) = true
is_call other = false

abbrev pub is_call_there : Option Instr → Bool
is_call_there None = false
is_call_there (Some there) = is_call there.op

-- Whether a call is made at a place. What is pushed before it is the entry behind the call, and makes the step.
abbrev pub calls_at : CodeShape → HostId → ℕ → Bool
calls_at code me place = is_call_there (instruction_at code me place)

abbrev pub PacedPush : Allowance → HostId → ℕ → Bool → Type 0
PacedPush left me place true = FallsWithStep left me place (suc place)
PacedPush left me place false = FallsWithEntry left me place (suc place)

-- an entry is entered, without a step
abbrev pub EntersLower : CodeShape → Allowance → HostId → ℕ → EntryId → Type 0
EntersLower code left me place there = (entry : Entry) → entry_at code there ≡ Some entry →
    left entry.host.0 entry.at < left me.0 place

abbrev pub IsPacedOp : CodeShape → Allowance → HostId → ℕ → Op → Type 0
IsPacedOp code left me place (op.Let x value) = FallsWithStep left me place (suc place)
IsPacedOp code left me place (op.Put field index value) = FallsWithStep left me place (suc place)
IsPacedOp code left me place (op.Ret x value) = FallsWithStep left me place (suc place)
IsPacedOp code left me place (op.Branch guard target) =
    FallsWithStep left me place (suc place) × FallsWithStep left me place target
IsPacedOp code left me place (op.Push there) = PacedPush left me place (calls_at code me (suc place))
IsPacedOp code left me place (op.Ask there on) = FallsWithEntry left me place (suc place)
IsPacedOp code left me place (op.Go there on) = EntersLower code left me place there
IsPacedOp code left me place (op.Call there on) = EntersLower code left me place there
IsPacedOp code left me place (op.GoWith there on riders) = EntersLower code left me place there
IsPacedOp code left me place (op.CallWith there on riders) = EntersLower code left me place there
-- where an entry is taken off the chain, no more than this is left behind it
IsPacedOp code left me place op.Back = PACE ≤ left me.0 place
IsPacedOp code left me place other = Falls left me place (suc place)

-- All instructions, and all entries but the one that ends the program.
pub record IsPaced (code : CodeShape) (left : Allowance) : Type 0 where
  pub entries : (number : ℕ) (entry : Entry) → slice_get code.entries (suc number) ≡ Some entry →
      left entry.host.0 entry.at ≤ PACE
  pub instructions : (host : HostId) (place : ℕ) (there : Instr) → instruction_at code host place ≡ Some there →
      IsPacedOp code left host place there.op
