-- How many events may still come behind an instruction, by its pace; and a thread stands at an instruction.
use Rattle.std.proofs.Common.{◌≡◌, ℕ, zero, suc, ◌+◌, ◌<◌, ◌≤◌, Bool, true, false, List, [], ◌∷◌, length, Option}
use Rattle.std.proofs.Common.{Some, None, refl, ap, sym, subst, arith}
use Rattle.std.specs.Prelude.{◌*◌, ◌-◌, IfSome, slice_get}
use Rattle.js_base.specs.declared.ids.HostId.{HostId}
use Rattle.js_base.specs.declared.ids.FieldId.{FieldId}
use Rattle.host_code.specs.declared.instruction.Instr.{Instr}
use Rattle.host_code.specs.declared.instruction.Op.{Op}
use Rattle.host_code.specs.declared.instruction.Op.TheVariants as op
use Rattle.host_code.specs.Code.{field_at, instruction_at, part_of}
use Rattle.host_code.specs.Sound.{IsField}
use Rattle.host_code.specs.Thread.{ThreadShape}
use Rattle.host_core.specs.Fits.{RunningFits}
use Rattle.host_core.specs.Host.{HostState}
use Rattle.net_world.specs.Fits.{IsStateOf}
use Rattle.split_rules.specs.Pace.{PACE, Allowance, Falls, FallsWithStep, FallsWithEntry, PacedPush, calls_at, is_call}
use Rattle.split_rules.specs.Pace.{is_call_there}
use Rattle.split_rules.specs.Positions.{no_call}
use Rattle.split_rules.specs.Typing.{Enters, EntersWith}
use Rattle.split_rules.specs.TypedCode.{IsTypedOp}
use Rattle.typed_steps.specs.Views.{Split, CallNaming, Link, place_of}
use Rattle.typed_steps.specs.Chains.{IsChain}
use Rattle.typed_steps.specs.Weights.{STEP, weight_at}

-- ---- what is left of a number of events, by what is left at a place and how long the chain is

-- an instruction that makes no step
lighter : (here next many : ℕ) → next < here →
    (0 < 3 * (here + many)) × (3 * (next + many) < 3 * (here + many) + 0)
    × (3 * (next + many) + 2 ≤ 3 * (here + many) - 1)
lighter here next many less = (omega arith, omega arith, omega arith)

-- one that makes a step
lighter_step : (here next many : ℕ) → next + 1 < here + PACE → 0 < many →
    (0 < 3 * (here + many)) × (3 * (next + many) < 3 * (here + many) + STEP)
    × (3 * (next + many) + 2 ≤ (3 * (here + many) - 1) + STEP)
lighter_step here next many less some = (omega arith, omega arith, omega arith)

-- one that puts an entry on the chain
lighter_entry : (here next many : ℕ) → next + 1 < here →
    (0 < 3 * (here + many)) × (3 * (next + suc many) < 3 * (here + many) + 0)
    × (3 * (next + many) + 5 ≤ 3 * (here + many) - 1)
lighter_entry here next many less = (omega arith, omega arith, omega arith)

lighter_call : (here next many : ℕ) → next + 1 < here + PACE → 3 * (next + suc many) < 3 * (here + many) + STEP
lighter_call here next many less = omega arith

-- one that enters here, or elsewhere
pub entered : (here next many : ℕ) → next < here → 3 * (next + many) < 3 * (here + many) + 0
entered here next many less = omega arith

pub handed : (here next many : ℕ) → next < here →
    (0 < 3 * (here + many)) × (3 * (next + many) + 1 ≤ 3 * (here + many) - 1)
handed here next many less = (omega arith, omega arith)

-- the way back
pub back_fuel : (here many : ℕ) → PACE ≤ here →
    (3 * (PACE + many) ≤ 3 * (here + many)) × (0 < 3 * (here + many))
    × (3 * (PACE + many) ≤ (3 * (here + many) - 1) + 1)
back_fuel here many least = (omega arith, omega arith, omega arith)

-- ---- behind an instruction of a host

-- what is left at the next instruction
next_pace : (split : Split) (host : HostId) (at : ℕ) → split.pace host.0 (at + 1) ≡ split.pace host.0 (suc at)
next_pace split host at = ap (split.pace host.0) (omega arith)

-- the chain has an entry
pub some_chain : (split : Split) (naming : CallNaming) (chain : List Link) → IsChain split naming chain → 0
    < length chain
some_chain split naming [] is_chain = absurd is_chain
some_chain split naming (top ∷ chain) is_chain = omega arith

-- behind an instruction that makes no step
pub falls : (split : Split) (host : HostId) (at : ℕ) (chain : List Link) → Falls split.pace host at (suc at) →
    (0 < weight_at split chain host at)
    × (weight_at split chain host (at + 1) < weight_at split chain host at + 0)
    × (weight_at split chain host (at + 1) + 2 ≤ weight_at split chain host at - 1)
falls split host at chain less =
    lighter (split.pace host.0 at) (split.pace host.0 (at + 1)) (length chain)
    (subst (λ n. n < split.pace host.0 at) (sym (next_pace split host at)) less)

-- behind one that makes a step
pub falls_with_step : (split : Split) (host : HostId) (at next : ℕ) (chain : List Link) → 0 < length chain →
    FallsWithStep split.pace host at next →
    (0 < weight_at split chain host at)
    × (weight_at split chain host next < weight_at split chain host at + STEP)
    × (weight_at split chain host next + 2 ≤ (weight_at split chain host at - 1) + STEP)
falls_with_step split host at next chain some less =
    lighter_step (split.pace host.0 at) (split.pace host.0 next) (length chain) less some

-- the same for the next instruction
pub falls_at_step : (split : Split) (host : HostId) (at : ℕ) (chain : List Link) → 0 < length chain →
    FallsWithStep split.pace host at (suc at) →
    (0 < weight_at split chain host at)
    × (weight_at split chain host (at + 1) < weight_at split chain host at + STEP)
    × (weight_at split chain host (at + 1) + 2 ≤ (weight_at split chain host at - 1) + STEP)
falls_at_step split host at chain some less =
    falls_with_step split host at (at + 1) chain some
    (subst (λ n. n + 1 < split.pace host.0 at + PACE) (sym (next_pace split host at)) less)

-- behind one that puts an entry on the chain
pub falls_with_entry : (split : Split) (host : HostId) (at : ℕ) (chain : List Link) (entry : Link) →
    FallsWithEntry split.pace host at (suc at) →
    (0 < weight_at split chain host at)
    × (weight_at split (entry ∷ chain) host (at + 1) < weight_at split chain host at + 0)
    × (weight_at split chain host (at + 1) + 5 ≤ weight_at split chain host at - 1)
falls_with_entry split host at chain entry less =
    lighter_entry (split.pace host.0 at) (split.pace host.0 (at + 1)) (length chain)
    (subst (λ n. n + 1 < split.pace host.0 at) (sym (next_pace split host at)) less)

-- ---- what stands at a place

-- a place within a list has an element
pub none_within : {X : Type 0} (xs : List X) (n : ℕ) → n < length xs → slice_get xs n ≡ None → ⊥
none_within [] n within none = omega arith
none_within (x ∷ xs) zero within none = absurd (cc)
none_within (x ∷ xs) (suc n) within none = none_within xs n (omega arith) none

-- a field of sound code is there
pub field_there : (split : Split) (field : FieldId) → IsField split.code field → field_at split.code field ≡ None → ⊥
field_there split field within none =
    none_within split.code.fields field.0 within none

-- a thread that runs stands at an instruction
pub place_there : (split : Split) (host : HostId) (state : HostState) (thread : ThreadShape) →
    IsStateOf split.code host state → state.running ≡ Some thread → thread.at < length (part_of split.code host)
place_there split host state thread fits running =
    let run : RunningFits split.code state.me thread =
    subst (λ o. IfSome o (RunningFits split.code state.me)) running fits.fits.running in
    subst (λ h. thread.at < length (part_of split.code h)) fits.me run.place

-- no call is made where none is being made
pub none_called : (split : Split) (host : HostId) (at : ℕ) → (place_of split host at).calling ≡ no_call →
    calls_at split.code host at ≡ false
none_called split host at none = of_found (instruction_at split.code host at) refl
  where
    of_law : (what : Op) → IsTypedOp split.planned split.table host at what → is_call what ≡ false
    of_law (op.Call there on) law =
        absurd (subst (λ calling. Enters split.planned split.table.entries (place_of split host at) calling there.0)
        none
        law)
    of_law (op.CallWith there on riders) law =
        absurd (subst (λ calling.
        EntersWith split.planned split.table.entries (place_of split host at) calling there.0 riders on) none law)
    of_law _ law = refl

    of_found : (found : Option Instr) → instruction_at split.code host at ≡ found → is_call_there found ≡ false
    of_found None is = refl
    of_found (Some there) is = of_law there.op (split.typed.instructions host at there is).1

-- a push that makes the step of a call
step_of_push : (left : Allowance) (host : HostId) (place : ℕ) (b : Bool) → PacedPush left host place b →
    FallsWithStep left host place (suc place)
step_of_push left host place true less = less
step_of_push left host place false less = omega arith

pub falls_with_call : (split : Split) (host : HostId) (at : ℕ) (chain : List Link) (entry : Link) →
    PacedPush split.pace host at (calls_at split.code host (suc at)) →
    weight_at split (entry ∷ chain) host (at + 1) < weight_at split chain host at + STEP
falls_with_call split host at chain entry pushes =
    lighter_call (split.pace host.0 at) (split.pace host.0 (at + 1)) (length chain)
    (subst (λ n. n + 1 < split.pace host.0 at + PACE) (sym (next_pace split host at))
    (step_of_push split.pace host at (calls_at split.code host (suc at)) pushes))
