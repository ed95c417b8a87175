-- What the instructions of a code ask of other hosts: that these grant it, by the checks of the host table, and that an
-- instruction tells no host more than that host may see.
--
-- What is asked of other hosts is judged by labels alone. A third judgement of the list of emissions says of each
-- instruction by itself which labels its host and the hosts that it names may see, and of which entry it has the
-- number. It has the entries so far for a state, and knows nothing of tokens. Whether a host is trusted for an entry
-- that it pushes or goes to is read off the typed code, whose needs are exact. So no induction over blocks looks at
-- both labels and what is due.
use Rattle.std.specs.Prelude.{◌≡◌, ◌≢◌, ℕ, Some, IsSomeAnd, ⊤}
use Rattle.js_base.specs.declared.ids.HostId.{HostId}
use Rattle.js_base.specs.declared.ids.FieldId.{FieldId}
use Rattle.host_code.specs.declared.instruction.Instr.{Instr}
use Rattle.host_code.specs.declared.instruction.Op.{Op}
use Rattle.host_code.specs.declared.instruction.Op.TheVariants as op
use Rattle.host_code.specs.Code.{CodeShape, field_at, instruction_at}
use Rattle.entry_check.specs.declared.ask.Ask.TheVariants as ask
use Rattle.entry_check.specs.Checks.{May, MayRide, MaySee, label_at, label_of_host}

-- the field is there, and this holds of it where it stands on another host
abbrev pub IfElsewhere : CodeShape → HostId → FieldId → (HostId → Type 0) → Type 0
IfElsewhere code me field holds = IsSomeAnd (field_at code field) (λ there. there.host ≢ me → holds there.host)

-- The other hosts grant what an instruction of this host asks of them. A result is granted by whatever host the token
-- names.
abbrev pub IsGranted : CodeShape → HostId → Op → Type 0
IsGranted code me (op.Read field index) = IfElsewhere code me field (λ owner. May code owner (ask.Get field) me)
IsGranted code me (op.Put field index value) = IfElsewhere code me field (λ owner. May code owner (ask.Set field) me)
IsGranted code me (op.Send x to) = May code to (ask.Forward x) me
IsGranted code me (op.Pass x to) = May code to (ask.Forward x) me
IsGranted code me (op.Ask there on) = May code on (ask.Enter there) me
IsGranted code me (op.Go there on) = May code on (ask.Enter there) me
IsGranted code me (op.Call there on) = on ≢ me → May code on (ask.Enter there) me
IsGranted code me (op.GoWith there on riders) = May code on (ask.Enter there) me × MayRide code on me riders
IsGranted code me (op.CallWith there on riders) = May code on (ask.Enter there) me × MayRide code on me riders
IsGranted code me (op.Ret x value) = (to : HostId) → May code to (ask.Forward x) me
IsGranted code me other = ⊤

-- an instruction with a program label that a host may see
abbrev pub IsLabelSeenBy : CodeShape → ℕ → HostId → Type 0
IsLabelSeenBy code label host = MaySee (label_at code label) (label_of_host code host)

-- Each other host that an instruction of this host names, or whose field it names, may see its program label. Who takes
-- a token back, or a result, is told by that token.
abbrev pub TellsWell : CodeShape → HostId → ℕ → Op → Type 0
TellsWell code me label (op.Read field index) = IfElsewhere code me field (IsLabelSeenBy code label)
TellsWell code me label (op.Put field index value) = IfElsewhere code me field (IsLabelSeenBy code label)
TellsWell code me label (op.Send x to) = IsLabelSeenBy code label to
TellsWell code me label (op.Pass x to) = IsLabelSeenBy code label to
TellsWell code me label (op.Ask there on) = IsLabelSeenBy code label on
TellsWell code me label (op.Go there on) = IsLabelSeenBy code label on
TellsWell code me label (op.Call there on) = on ≢ me → IsLabelSeenBy code label on
TellsWell code me label (op.GoWith there on riders) = IsLabelSeenBy code label on
TellsWell code me label (op.CallWith there on riders) = IsLabelSeenBy code label on
TellsWell code me label other = ⊤

-- each request between hosts is granted
abbrev pub AreGranted : CodeShape → Type 0
AreGranted code = (host : HostId) (place : ℕ) (there : Instr) → instruction_at code host place ≡ Some there →
    IsGranted code host there.op

-- no instruction tells another host what it may not see
abbrev pub TellsNoMore : CodeShape → Type 0
TellsNoMore code = (host : HostId) (place : ℕ) (there : Instr) → instruction_at code host place ≡ Some there →
    TellsWell code host there.label there.op
