-- A thread in paced code runs no more than 512 instructions for each step that it makes, and 512 more.
use Rattle.std.proofs.Common.{◌≡◌, ◌≢◌, inl, inr, ℕ, zero, suc, ◌+◌, ◌*◌, ◌<◌, ◌≤◌, Bool, true, false, cond, List}
use Rattle.std.proofs.Common.{[], ◌∷◌, length, ap, arith}
use Rattle.std.specs.Prelude.{Some, slice_get}
use Rattle.js_base.specs.declared.ids.EntryId.{EntryId}
use Rattle.host_code.specs.declared.code.Entry.{Entry}
use Rattle.host_code.specs.declared.instruction.Op.{Op}
use Rattle.host_code.specs.declared.instruction.Op.TheVariants as op
use Rattle.host_code.specs.Code.{CodeShape, halt}
use Rattle.split_rules.specs.Pace.{PACE, Allowance, calls_at, PacedPush, EntersLower, IsPacedOp, IsPaced}
use Rattle.split_rules.specs.ThreadRun.{Thread, thread_at, IsAtEntry, TokenGoesBack, RunsOp, RunsInstructions}
use Rattle.split_rules.proofs.PacedPlaces.{numbered_from}

-- what is left at a place, and the entries on the chain
abbrev pub left_of : Allowance → Thread → ℕ
left_of left thread = left thread.host.0 thread.place + length thread.chain

-- ---- one instruction

enters_less : (code : CodeShape) (left : Allowance) (here : Thread) (there : EntryId) (next : Thread) →
    EntersLower code left here.host here.place there → IsAtEntry code there here.chain next →
    left_of left next < left_of left here
enters_less code left here there next lower at_entry =
    let less = lower at_entry.0 at_entry.1 in
    rw at_entry.2 (omega arith)

back_less : (code : CodeShape) (left : Allowance) → IsPaced code left → (number : ℕ) (chain : List EntryId)
    (next : Thread) → PACE ≤ number → TokenGoesBack code chain next → left_of left next < number + length chain
back_less code left paced number [] next large back = absurd back
back_less code left paced number (there ∷ chain) next large back =
    numbered_from there (λ place. (entry : Entry) → slice_get code.entries place ≡ Some entry →
    next ≡ record { host = entry.host; place = entry.at; chain = chain } →
    left_of left next < number + length (there ∷ chain)) back.0
    (λ place entry is next_is. let few = paced.entries place entry is in rw next_is (omega arith))
    back.1.0 back.1.1 back.1.2

push_less : (left : Allowance) (here next : Thread) (there : EntryId) (called : Bool) (steps : ℕ) →
    PacedPush left here.host here.place called → steps ≡ cond called 1 0 →
    next ≡ thread_at here (suc here.place) (there ∷ here.chain) →
    left_of left next < left_of left here + PACE * steps
push_less left here next there true steps pushes steps_are next_is = rw (next_is, steps_are) (omega arith)
push_less left here next there false steps pushes steps_are next_is = rw (next_is, steps_are) (omega arith)

op_less : (code : CodeShape) (left : Allowance) → IsPaced code left → (here : Thread) (what : Op) (steps : ℕ)
    (next : Thread) → IsPacedOp code left here.host here.place what → RunsOp code here what steps next →
    left_of left next < left_of left here + PACE * steps
op_less code left paced here (op.Let x value) steps next small runs = rw (runs.1, runs.0) (omega arith)
op_less code left paced here (op.Put field index value) steps next small runs =
    rw (runs.1, runs.0) (omega arith)
op_less code left paced here (op.Ret x value) steps next small runs = rw (runs.1, runs.0) (omega arith)
op_less code left paced here (op.Branch guard target) steps next small runs = elim runs.1 [
  | inl goes_on ↦ let less = small.0 in rw (goes_on, runs.0) (omega arith)
  | inr goes_there ↦ let less = small.1 in rw (goes_there, runs.0) (omega arith)
]
op_less code left paced here (op.Push there) steps next small runs =
    push_less left here next there (calls_at code here.host (suc here.place)) steps small runs.0 runs.1
op_less code left paced here (op.Ask there on) steps next small runs = rw (runs.1, runs.0) (omega arith)
op_less code left paced here (op.Go there on) steps next small runs =
    let less = enters_less code left here there next small runs.1 in omega arith
op_less code left paced here (op.Call there on) steps next small runs =
    let less = enters_less code left here there next small runs.1 in omega arith
op_less code left paced here (op.GoWith there on riders) steps next small runs =
    let less = enters_less code left here there next small runs.1 in omega arith
op_less code left paced here (op.CallWith there on riders) steps next small runs =
    let less = enters_less code left here there next small runs.1 in omega arith
op_less code left paced here op.Back steps next small runs =
    let less = back_less code left paced (left here.host.0 here.place) here.chain next small runs.1 in omega arith
op_less code left paced here other steps next small runs = rw (runs.1, runs.0) (omega arith)

-- ---- runs

runs_few : (code : CodeShape) (left : Allowance) → IsPaced code left → (count steps : ℕ) (first last : Thread) →
    RunsInstructions code count steps first last → count + left_of left last ≤ left_of left first + PACE * steps
runs_few code left paced zero steps first last runs =
    let same = ap (left_of left) runs.1 in omega arith
runs_few code left paced (suc count) steps first last runs =
    let one = runs.4 in
    let less = op_less code left paced first one.instruction.op runs.0 runs.2
    (paced.instructions first.host first.place one.instruction one.is) one.runs in
    let others = runs_few code left paced count runs.1 runs.2 last runs.5 in
    let sum = runs.3 in
    omega arith

pub begun_few : (code : CodeShape) (left : Allowance) → IsPaced code left → code.main ≢ halt →
    (count steps : ℕ) (first last : Thread) → IsAtEntry code code.main [] first →
    RunsInstructions code count steps first last →
    count ≤ PACE * (steps + 1)
begun_few code left paced not_halt count steps first last begun runs =
    let so = runs_few code left paced count steps first last runs in
    let few : left_of left first ≤ PACE =
    numbered_from code.main (λ place. (entry : Entry) → slice_get code.entries place ≡ Some entry →
    first ≡ record { host = entry.host; place = entry.at; chain = [] } → left_of left first ≤ PACE) not_halt
    (λ place entry is first_is. let enough = paced.entries place entry is in rw first_is (omega arith))
    begun.0 begun.1 begun.2 in
    omega arith
