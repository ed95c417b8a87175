-- Bounds of what is named at places and behind them, a word for each place of a part.
use Rattle.std.specs.Prelude.{◌≡◌, ℕ, ◌<◌, Bool, true, false, if◌then◌else◌, nat_lt}
use Rattle.std.specs.Prelude.{List, Option, Some, None, slice_index}
use Rattle.js_base.specs.declared.ids.HostId.{HostId}
use Rattle.js_base.specs.Bits.{BitsWithin}
use Rattle.host_code.specs.declared.instruction.Instr.{Instr}
use Rattle.host_code.specs.Code.{CodeShape, instruction_at}
use Rattle.part_verify.specs.Paths.{IsEdge, PathLeads}
use Rattle.part_verify.specs.SoundPart.{NamesWithin}

-- each bound has what is named at its place, and the bounds of the places where it goes on
pub record IsBounded (code : CodeShape) (me : HostId) (bound : List ℕ) : Type 0 where
  pub named : (place : ℕ) (one : Instr) → instruction_at code me place ≡ Some one →
      NamesWithin code (slice_index bound place) one.op
  pub behind : (place next : ℕ) → IsEdge code me place next →
      BitsWithin (slice_index bound next) (slice_index bound place)

-- the instruction at the place names what the need does not have
abbrev pub NamesMore : CodeShape → HostId → ℕ → ℕ → Type 0
NamesMore code me need place =
    (one : Instr) × (instruction_at code me place ≡ Some one) × (¬ NamesWithin code need one.op)

-- the least place that a walk from a place finds, or bounds of which that of the place is within the need
abbrev pub Found : CodeShape → HostId → ℕ → ℕ → Option ℕ → List ℕ → Type 0
Found code me at need None bound = IsBounded code me bound × BitsWithin (slice_index bound at) need
Found code me at need (Some place) bound = PathLeads code me at place × NamesMore code me need place
    × ((other : ℕ) → other < place → PathLeads code me at other → ¬ NamesMore code me need other)

-- the lesser of a place and one that was found, where the place counts
abbrev pub lesser : Option ℕ → ℕ → Bool → Option ℕ
lesser least place false = least
lesser None place true = Some place
lesser (Some other) place true = if nat_lt other place then Some other else Some place
