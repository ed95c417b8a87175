-- What a part is refused for.
use Rattle.std.specs.Prelude.{◌≡◌, ℕ, ◌<◌, Some, ⊤}
use Rattle.js_base.specs.declared.ids.HostId.{HostId}
use Rattle.js_base.specs.declared.ids.EntryId.{EntryId}
use Rattle.host_code.specs.declared.instruction.Instr.{Instr}
use Rattle.host_code.specs.Code.{CodeShape, instruction_at}
use Rattle.part_verify.specs.declared.errors.VerifyError.{VerifyError}
use Rattle.part_verify.specs.declared.errors.VerifyError.TheVariants.{OutOfMemory, WeakEntry, Reveals}
use Rattle.part_verify.specs.Paths.{IsUnder}
use Rattle.part_verify.specs.SoundPart.{NamesWithin, ShowsWell, AreNeedsKept}

-- the entry leads to the place, and the instruction there names what the entry's need does not have
abbrev pub BreaksNeed : CodeShape → HostId → EntryId → ℕ → Type 0
BreaksNeed code me there place = (one : Instr) × (under : IsUnder code me there place)
    × (instruction_at code me place ≡ Some one) × (¬ NamesWithin code under.entry.need one.op)

-- the instruction at the place shows another host what it may not see
abbrev pub RevealsAt : CodeShape → HostId → ℕ → Type 0
RevealsAt code me place =
    (one : Instr) × (instruction_at code me place ≡ Some one) × (¬ ShowsWell code me one.label one.op)

-- The first entry that leads to such an instruction is told, with the least of its instructions. Where no entry does,
-- it is the first instruction that shows too much. Memory may run out at any time.
abbrev pub IsPartRefusedFor : CodeShape → HostId → VerifyError → Type 0
IsPartRefusedFor code me OutOfMemory = ⊤
IsPartRefusedFor code me (WeakEntry there place) = BreaksNeed code me there place
    × ((other : ℕ) → other < place → ¬ BreaksNeed code me there other)
    × ((earlier : EntryId) (other : ℕ) → earlier.0 < there.0 → ¬ BreaksNeed code me earlier other)
IsPartRefusedFor code me (Reveals place) = AreNeedsKept code me × RevealsAt code me place
    × ((other : ℕ) → other < place → ¬ RevealsAt code me other)
