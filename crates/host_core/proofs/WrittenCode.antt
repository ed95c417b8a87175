-- Code that is written out: each instruction of a part fits, where they are shown to fit one after the other.
use Rattle.std.proofs.Common.{◌≡◌, ◌+◌, ℕ, zero, suc, List, [], ◌∷◌, Some, None, subst, arith}
use Rattle.std.specs.Prelude.{slice_get, ⊤}
use Rattle.js_base.specs.declared.ids.HostId.{HostId}
use Rattle.host_code.specs.declared.instruction.Instr.{Instr}
use Rattle.host_code.specs.Code.{CodeShape}
use Rattle.host_code.specs.Sound.{InstructionFits}

-- the instructions from a place on fit
abbrev pub FitsFrom : CodeShape → HostId → ℕ → List Instr → Type 0
FitsFrom code me at [] = ⊤
FitsFrom code me at (instruction ∷ others) =
    InstructionFits code me at instruction × FitsFrom code me (suc at) others

-- so each at its place does
pub fits_at : (code : CodeShape) (me : HostId) (first : ℕ) (part : List Instr) → FitsFrom code me first part →
    (at : ℕ) (found : Instr) → slice_get part at ≡ Some found → InstructionFits code me (first + at) found
fits_at code me first [] fit at found is = absurd (let e : None ≡ Some found = is in cc)
fits_at code me first (instruction ∷ others) fit zero found is =
    let same : instruction ≡ found = (let e : Some instruction ≡ Some found = is in cc) in
    let here : first ≡ first + zero = omega arith in
    let P : ℕ → Type 0 = λ k. InstructionFits code me k found in
    subst P here (subst (InstructionFits code me first) same fit.0)
fits_at code me first (instruction ∷ others) fit (suc at) found is =
    let here : suc first + at ≡ first + suc at = omega arith in
    let P : ℕ → Type 0 = λ k. InstructionFits code me k found in
    subst P here (fits_at code me (suc first) others fit.1 at found is)
