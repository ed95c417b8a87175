-- What may follow what in the emissions of a walk, as a typed assembly language says it of instructions (Morrisett,
-- Walker, Crary and Glew). It speaks of one emission and of what came before it alone.
--
-- What a walk gives is judged an emission at a time. `Flow` keeps where the token is, how many temporaries there are at
-- the least, which entries do not stand yet, and which branches lead nowhere yet. Entries and branches that are open
-- are closed in the order of a stack, so the state is a pair of lists, and no emission looks back. One induction over
-- blocks shows that walks obey it, and all that is promised of code follows from it.
use Rattle.std.specs.Prelude.{◌≡◌, ◌≢◌, ℕ, ◌<◌, suc, List, [], ◌∷◌, ◌++◌, All, length, drop, Some}
use Rattle.std.specs.Prelude.{slice_get, ⊤}
use Rattle.std.specs.List.{AllByRecursion}
use Rattle.js_base.specs.declared.ids.HostId.{HostId}
use Rattle.js_base.specs.declared.ids.FieldId.{FieldId}
use Rattle.js_base.specs.declared.ids.VarId.{VarId}
use Rattle.js_base.specs.declared.ids.EntryId.{EntryId}
use Rattle.host_code.specs.declared.code_expr.Node.{Node}
use Rattle.host_code.specs.declared.code_expr.Node.TheVariants as node
use Rattle.host_code.specs.declared.instruction.Op.{Op}
use Rattle.host_code.specs.declared.instruction.Op.TheVariants as op
use Rattle.host_code.specs.Code.{halt, host_of_site}
use Rattle.host_code.specs.Riders.{AreFew}
use Rattle.host_code.specs.Sound.{temporaries_after}
use Rattle.split_rules.specs.Emissions.{Emission, instruction, entry, stands, lands, Emitted, Counts}

-- how many hosts, fields and variables there are, and the hosts of the call sites, from site 1 on
pub record Scope : Type 0 where
  pub hosts : ℕ
  pub fields : ℕ
  pub variables : ℕ
  pub sites : List HostId

pub data Flow : Type 0 where
  -- nothing goes on until an entry stands or a branch leads somewhere
  stopped : Flow
  -- the next instruction is one of this host, and so many temporaries are there at the least
  at : HostId → ℕ → Flow
  -- an entry on this host is to stand next: the one behind a call
  awaited : HostId → Flow

-- a number of an entry or a branch, with the host where it is to stand
pub record Pending : Type 0 where
  pub host : HostId
  pub number : ℕ

-- what is known at a place of a walk
pub record State : Type 0 where
  pub flow : Flow
  -- the hosts of the entries so far, by their numbers
  pub named : List HostId
  pub branches : ℕ
  -- the entries that do not stand yet, and the branches of which it is not known where they lead, the last first
  pub owed : List Pending
  pub opened : List Pending

abbrev pub counts_of : State → Counts
counts_of state = record { entries = length state.named; branches = state.branches }

-- ---- what an instruction names is there

abbrev pub NodeFitsScope : Scope → ℕ → Node → Type 0
NodeFitsScope scope count (node.Var variable) = variable.0 < scope.variables
NodeFitsScope scope count (node.Temp temporary) = temporary < count
NodeFitsScope scope count other = ⊤

abbrev pub ExpressionFitsScope : Scope → ℕ → List Node → Type 0
ExpressionFitsScope scope count nodes = All (NodeFitsScope scope count) nodes

abbrev pub IsFieldInScope : Scope → FieldId → Type 0
IsFieldInScope scope field = field.0 < scope.fields

abbrev pub IsVariableInScope : Scope → VarId → Type 0
IsVariableInScope scope variable = variable.0 < scope.variables

-- another host than an instruction's own
abbrev pub IsOtherInScope : Scope → HostId → HostId → Type 0
IsOtherInScope scope me host = (host.0 < scope.hosts) × (host ≢ me)

-- one of the entries so far, on this host, and not the one that ends the program
abbrev pub IsNamedEntryOn : List HostId → HostId → EntryId → Type 0
IsNamedEntryOn named host there = (there ≢ halt) × (slice_get named there.0 ≡ Some host)

-- variables of the program, 1 to 8
abbrev pub AreRidingInScope : Scope → List VarId → Type 0
AreRidingInScope scope variables = AreFew variables × AllByRecursion (IsVariableInScope scope) variables

-- An instruction of a host, behind so many entries and branches. A branch has the next number.
abbrev pub OperationFitsScope : Scope → State → HostId → ℕ → Op → Type 0
OperationFitsScope scope state me count (op.Read field index) = IsFieldInScope scope field
    × ExpressionFitsScope scope count index
OperationFitsScope scope state me count (op.Let variable value) =
    IsVariableInScope scope variable × ExpressionFitsScope scope count value
OperationFitsScope scope state me count (op.Put field index value) =
    IsFieldInScope scope field × ExpressionFitsScope scope count index × ExpressionFitsScope scope count value
OperationFitsScope scope state me count (op.Send variable to) = IsVariableInScope scope variable
    × IsOtherInScope scope me to
OperationFitsScope scope state me count (op.Frame site) = host_of_site scope.sites site.0 ≡ Some me
OperationFitsScope scope state me count (op.Arg variable value) =
    IsVariableInScope scope variable × ExpressionFitsScope scope count value
OperationFitsScope scope state me count (op.Pass variable to) = IsVariableInScope scope variable
    × IsOtherInScope scope me to
OperationFitsScope scope state me count (op.Push there) = IsNamedEntryOn state.named me there
OperationFitsScope scope state me count (op.Ask there on) = IsNamedEntryOn state.named on there
    × IsOtherInScope scope me on
OperationFitsScope scope state me count (op.Go there on) = IsNamedEntryOn state.named on there
    × IsOtherInScope scope me on
OperationFitsScope scope state me count (op.Call there on) = IsNamedEntryOn state.named on there × (on.0 < scope.hosts)
OperationFitsScope scope state me count (op.Ret variable value) =
    IsVariableInScope scope variable × ExpressionFitsScope scope count value
OperationFitsScope scope state me count op.Back = ⊤
OperationFitsScope scope state me count (op.Branch guard number) =
    ExpressionFitsScope scope count guard × (number ≡ state.branches)
OperationFitsScope scope state me count (op.GoWith there on riders) =
    IsNamedEntryOn state.named on there × IsOtherInScope scope me on × AreRidingInScope scope riders
OperationFitsScope scope state me count (op.CallWith there on riders) =
    IsNamedEntryOn state.named on there × IsOtherInScope scope me on × AreRidingInScope scope riders

-- ---- one emission

-- where it goes on behind an instruction of a host
abbrev pub flow_behind : HostId → ℕ → Op → Flow
flow_behind me count op.Back = stopped
flow_behind me count (op.Go there on) = stopped
flow_behind me count (op.Call there on) = awaited me
flow_behind me count (op.GoWith there on riders) = stopped
flow_behind me count (op.CallWith there on riders) = awaited me
flow_behind me count other = at me (temporaries_after other count)

abbrev pub flow_after : Flow → Emitted → Flow
flow_after stopped one = stopped
flow_after (awaited host) one = awaited host
flow_after (at host count) one = flow_behind one.host count one.op

-- a branch is open from its instruction on
abbrev pub branched : State → HostId → Op → State
branched state me (op.Branch guard number) = record {
  flow = state.flow;
  named = state.named;
  branches = suc state.branches;
  owed = state.owed;
  opened = record { host = me; number = state.branches } ∷ state.opened;
}
branched state me other = state

abbrev pub with_flow : State → Flow → State
with_flow state flow = record {
  flow = flow;
  named = state.named;
  branches = state.branches;
  owed = state.owed;
  opened = state.opened;
}

-- what is known behind an emission
abbrev pub after : State → Emission → State
after state (instruction one) = with_flow (branched state one.host one.op) (flow_after state.flow one)
after state (entry named) = record {
  flow = state.flow;
  named = state.named ++ named.host ∷ [];
  branches = state.branches;
  owed = record { host = named.host; number = length state.named } ∷ state.owed;
  opened = state.opened;
}
after state (stands host number) = record {
  flow = at host 0;
  named = state.named;
  branches = state.branches;
  owed = drop 1 state.owed;
  opened = state.opened;
}
after state (lands host number) = record {
  flow = at host 0;
  named = state.named;
  branches = state.branches;
  owed = state.owed;
  opened = drop 1 state.opened;
}

-- an instruction is one of the host that goes on
abbrev pub InstructionFitsFlow : Scope → State → Emitted → Flow → Type 0
InstructionFitsFlow scope state one stopped = ⊥
InstructionFitsFlow scope state one (awaited host) = ⊥
InstructionFitsFlow scope state one (at host count) = (host ≡ one.host)
    × OperationFitsScope scope state host count one.op

-- what was owed last comes first
abbrev pub IsOwedFirst : HostId → ℕ → List Pending → Type 0
IsOwedFirst host number [] = ⊥
IsOwedFirst host number (pending ∷ others) = pending ≡ record { host = host; number = number }

-- an entry stands where nothing goes on, or where the same host goes on or awaits it
abbrev pub MayEntryStand : HostId → Flow → Type 0
MayEntryStand host stopped = ⊤
MayEntryStand host (at other count) = other ≡ host
MayEntryStand host (awaited other) = other ≡ host

abbrev pub EmissionFits : Scope → State → Emission → Type 0
EmissionFits scope state (instruction one) = InstructionFitsFlow scope state one state.flow
EmissionFits scope state (entry named) = named.host.0 < scope.hosts
EmissionFits scope state (stands host number) = IsOwedFirst host number state.owed × MayEntryStand host state.flow
EmissionFits scope state (lands host number) = IsOwedFirst host number state.opened × (state.flow ≡ stopped)

-- ---- all emissions

-- from one state to another
abbrev pub FlowGoes : Scope → State → List Emission → State → Type 0
FlowGoes scope first [] last = first ≡ last
FlowGoes scope first (emission ∷ others) last = EmissionFits scope first emission
    × FlowGoes scope (after first emission) others last
