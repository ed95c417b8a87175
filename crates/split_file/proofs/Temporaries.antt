-- How many temporaries a thread has, as a loop counts them.
use Rattle.std.proofs.Common.{◌≡◌, ℕ, zero, suc, ◌+◌, ◌≤◌, ◌<◌, Bool, true, false, List, [], ◌∷◌, ◌++◌, length, Option}
use Rattle.std.proofs.Common.{Some, None, refl, add-one, arith}
use Rattle.std.specs.Prelude.{if◌then◌else◌, slice_get}
use Rattle.js_base.specs.declared.ids.HostId.{HostId}
use Rattle.host_code.specs.declared.code.Entry.{Entry}
use Rattle.host_code.specs.declared.instruction.Instr.{Instr}
use Rattle.host_code.specs.declared.instruction.Op.{Op}
use Rattle.host_code.specs.declared.instruction.Op.TheVariants as op
use Rattle.host_code.specs.Sound.{is_entrance, temporaries_at, temporaries_after, temporaries_past}

pub front_at : {A : Type 0} (xs ys : List A) (at : ℕ) → at < length xs → slice_get (xs ++ ys) at ≡ slice_get xs at
front_at [] ys at lt = absurd (omega arith)
front_at (x ∷ xs) ys zero lt = refl
front_at (x ∷ xs) ys (suc at) lt = front_at xs ys at (omega arith)

pub last_at : {A : Type 0} (xs : List A) (x : A) (ys : List A) → slice_get (xs ++ x ∷ ys) (length xs) ≡ Some x
last_at [] x ys = refl
last_at (y ∷ xs) x ys = last_at xs x ys

-- what follows a place makes no difference there
pub temporaries_front : (entries : List Entry) (host : HostId) (front back : List Instr) (at : ℕ) →
    at ≤ length front → temporaries_at entries host (front ++ back) at ≡ temporaries_at entries host front at
temporaries_front entries host front back zero within = refl
temporaries_front entries host front back (suc at) within =
    let same = front_at front back at (omega arith) in
    let before = temporaries_front entries host front back at (omega arith) in
    rw (same, before) refl

-- one more instruction
pub temporaries_more : (entries : List Entry) (host : HostId) (front : List Instr) (next : Instr) →
    temporaries_at entries host (front ++ next ∷ []) (length front + 1)
    ≡ (if is_entrance entries host (length front + 1) then 0
    else temporaries_after next.op (temporaries_at entries host front (length front)))
temporaries_more entries host front next =
    let last = last_at front next [] in
    let before = temporaries_front entries host front (next ∷ []) (length front) (omega arith) in
    rw (add-one, last, before) refl

-- no more than there are instructions
pub temporaries_few : (op : Op) (count : ℕ) (is_there : Bool) →
    (if is_there then 0 else temporaries_after op count) ≤ count + 1
temporaries_few op count true = omega arith
temporaries_few (op.Read field index) count false = omega arith
temporaries_few (op.Let variable value) count false = omega arith
temporaries_few (op.Put field index value) count false = omega arith
temporaries_few (op.Send variable to) count false = omega arith
temporaries_few (op.Frame site) count false = omega arith
temporaries_few (op.Arg variable value) count false = omega arith
temporaries_few (op.Pass variable to) count false = omega arith
temporaries_few (op.Push entry) count false = omega arith
temporaries_few (op.Ask entry on) count false = omega arith
temporaries_few (op.Go entry on) count false = omega arith
temporaries_few (op.Call entry on) count false = omega arith
temporaries_few (op.Ret variable value) count false = omega arith
temporaries_few op.Back count false = omega arith
temporaries_few (op.Branch guard target) count false = omega arith
temporaries_few (op.GoWith entry on riders) count false = omega arith
temporaries_few (op.CallWith entry on riders) count false = omega arith

few_past : (there : Option Instr) (count : ℕ) → temporaries_past there count ≤ suc count
few_past None count = omega arith
few_past (Some next) count = let few = temporaries_few next.op count false in omega (arith, few)

few_after : (test : Bool) (past at : ℕ) → past ≤ suc at → (if test then 0 else past) ≤ suc at
few_after true past at few = omega arith
few_after false past at few = few

-- no more than the number of the place
pub few_at : (entries : List Entry) (host : HostId) (part : List Instr) (at : ℕ) →
    temporaries_at entries host part at ≤ at
few_at entries host part zero = omega arith
few_at entries host part (suc at) =
    let before = few_at entries host part at in
    let past = few_past (slice_get part at) (temporaries_at entries host part at) in
    few_after (is_entrance entries host (suc at))
    (temporaries_past (slice_get part at) (temporaries_at entries host part at)) at (omega (arith, before, past))
