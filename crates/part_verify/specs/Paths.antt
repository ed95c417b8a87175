-- Where the instructions of a part lead.
use Rattle.std.specs.Prelude.{◌≡◌, ◌≢◌, ℕ, zero, suc, ◌+◌, List, [], ◌∷◌, Contains, Some}
use Rattle.js_base.specs.declared.ids.HostId.{HostId}
use Rattle.js_base.specs.declared.ids.EntryId.{EntryId}
use Rattle.host_code.specs.declared.code.Entry.{Entry}
use Rattle.host_code.specs.declared.instruction.Instr.{Instr}
use Rattle.host_code.specs.declared.instruction.Op.{Op}
use Rattle.host_code.specs.declared.instruction.Op.TheVariants as op
use Rattle.host_code.specs.Code.{CodeShape, halt, entry_at, instruction_at}

-- The places at which a thread goes on behind an operation at a place, on the same host and by itself. It leaves where
-- the operation ends it or hands it over.
abbrev pub goes_on : Op → ℕ → List ℕ
goes_on (op.Read field index) place = (place + 1) ∷ []
goes_on (op.Let variable value) place = (place + 1) ∷ []
goes_on (op.Put field index value) place = (place + 1) ∷ []
goes_on (op.Send variable to) place = (place + 1) ∷ []
goes_on (op.Frame site) place = (place + 1) ∷ []
goes_on (op.Arg variable value) place = (place + 1) ∷ []
goes_on (op.Pass variable to) place = (place + 1) ∷ []
goes_on (op.Push entry) place = (place + 1) ∷ []
goes_on (op.Ask entry on) place = (place + 1) ∷ []
goes_on (op.Go entry on) place = []
goes_on (op.Call entry on) place = []
goes_on (op.Ret variable value) place = (place + 1) ∷ []
goes_on op.Back place = []
goes_on (op.Branch guard target) place = target ∷ (place + 1) ∷ []
goes_on (op.GoWith entry on riders) place = []
goes_on (op.CallWith entry on riders) place = []

-- the host's instruction at a place goes on at this place
abbrev pub IsEdge : CodeShape → HostId → ℕ → ℕ → Type 0
IsEdge code me from to =
    (there : Instr) × (instruction_at code me from ≡ Some there) × Contains (goes_on there.op from) to

-- so many instructions of the host lead from a place to a place
abbrev pub LeadsIn : CodeShape → HostId → ℕ → ℕ → ℕ → Type 0
LeadsIn code me zero from to = from ≡ to
LeadsIn code me (suc count) from to = (before : ℕ) × LeadsIn code me count from before × IsEdge code me before to

abbrev pub PathLeads : CodeShape → HostId → ℕ → ℕ → Type 0
PathLeads code me from to = (count : ℕ) × LeadsIn code me count from to

-- an entry of the host, which is not the one that ends the program, leads to a place
pub record IsUnder (code : CodeShape) (me : HostId) (there : EntryId) (place : ℕ) : Type 0 where
  pub entry : Entry
  pub is : entry_at code there ≡ Some entry
  pub not_halt : there ≢ halt
  pub here : entry.host ≡ me
  pub leads : PathLeads code me entry.at place
