-- What every code keeps: all that it names is there and where it has to be, so that a host can run its part of it.
use Rattle.std.specs.Prelude.{◌≡◌, ◌≢◌, ℕ, ◌-◌, ◌<◌, ◌≤◌, ◌⊎◌, zero, suc, Bool, false}
use Rattle.std.specs.Prelude.{◌==◌, ◌&&◌}
use Rattle.std.specs.Prelude.{if◌then◌else◌}
use Rattle.std.specs.Prelude.{List, [], ◌++◌, All, length, Option, Some, None, IsSomeAnd, slice_get, codes, ⊤}
use Rattle.std.specs.Prelude.{sum_by}
use Rattle.std.specs.List.{list_any, AllByRecursion}
use Rattle.js_base.specs.declared.ids.HostId.{HostId}
use Rattle.js_base.specs.declared.ids.FieldId.{FieldId}
use Rattle.js_base.specs.declared.ids.VarId.{VarId}
use Rattle.js_base.specs.declared.ids.EntryId.{EntryId}
use Rattle.js_base.specs.declared.limits.TheConstants.{HOSTS, ARRAY_SIZE, ELEMENTS}
use Rattle.js_base.specs.Name.{IsName}
use Rattle.host_code.specs.declared.code.Entry.{Entry}
use Rattle.host_code.specs.declared.instruction.Instr.{Instr}
use Rattle.host_code.specs.declared.instruction.Op.{Op}
use Rattle.host_code.specs.declared.instruction.Op.TheVariants as op
use Rattle.host_code.specs.declared.code_expr.Node.{Node}
use Rattle.host_code.specs.declared.code_expr.Node.TheVariants as node
use Rattle.host_code.specs.declared.code.TheConstants.{MOST_ITEMS}
use Rattle.host_code.specs.Riders.{AreFew}
use Rattle.host_code.specs.Code.{CodeShape, CodeFieldShape, CodeVariableShape, halt, part_of, entry_at, site_at}

-- ---- what is there

abbrev pub IsHost : CodeShape → HostId → Type 0
IsHost code host = host.0 < length code.hosts

abbrev pub IsLabelNumber : CodeShape → ℕ → Type 0
IsLabelNumber code label = label < length code.labels

abbrev pub IsField : CodeShape → FieldId → Type 0
IsField code field = field.0 < length code.fields

abbrev pub IsVariable : CodeShape → VarId → Type 0
IsVariable code variable = variable.0 < length code.variables

-- another host than the part's own
abbrev pub IsOther : CodeShape → HostId → HostId → Type 0
IsOther code me host = IsHost code host × (host ≢ me)

-- an entry of the host, which is not the one that ends the program
abbrev pub IsEntryOn : CodeShape → HostId → EntryId → Type 0
IsEntryOn code host entry = (entry ≢ halt) × IsSomeAnd (entry_at code entry) (λ there. there.host ≡ host)

-- ---- temporaries

-- how many temporaries there are after an instruction, where there are so many before it
abbrev pub temporaries_after : Op → ℕ → ℕ
temporaries_after (op.Read field index) count = suc count
temporaries_after (op.Let variable value) count = 0
temporaries_after (op.Put field index value) count = 0
temporaries_after (op.Arg variable value) count = 0
temporaries_after (op.Ret variable value) count = 0
temporaries_after (op.Branch guard target) count = 0
temporaries_after _ count = count

abbrev pub temporaries_past : Option Instr → ℕ → ℕ
temporaries_past None count = 0
temporaries_past (Some instruction) count = temporaries_after instruction.op count

-- whether a thread may start at the place
abbrev pub is_entrance : List Entry → HostId → ℕ → Bool
is_entrance entries host at = list_any (λ entry. entry.host.0 == host.0 && entry.at == at) entries

-- how many temporaries a thread has at a place at the least: what was read since the last instruction that drops them,
-- in the order of the list, and not before the last place where a thread may start
abbrev pub temporaries_at : List Entry → HostId → List Instr → ℕ → ℕ
temporaries_at entries host part zero = 0
temporaries_at entries host part (suc at) =
    if is_entrance entries host (suc at)
    then 0
    else temporaries_past (slice_get part at) (temporaries_at entries host part at)

-- ---- instructions

-- a node names a variable of the code, or a temporary that is there
abbrev pub NodeFits : CodeShape → ℕ → Node → Type 0
NodeFits code count (node.Var variable) = IsVariable code variable
NodeFits code count (node.Temp temporary) = temporary < count
NodeFits code count _ = ⊤

abbrev pub ExpressionFits : CodeShape → ℕ → List Node → Type 0
ExpressionFits code count nodes = All (NodeFits code count) nodes

-- variables of the code, 1 to 8
abbrev pub AreRiding : CodeShape → List VarId → Type 0
AreRiding code variables = AreFew variables × AllByRecursion (IsVariable code) variables

-- what an instruction of the host names is there and where it has to be
abbrev pub OperationFits : CodeShape → HostId → ℕ → Op → Type 0
OperationFits code me count (op.Read field index) = IsField code field × ExpressionFits code count index
OperationFits code me count (op.Let variable value) = IsVariable code variable × ExpressionFits code count value
OperationFits code me count (op.Put field index value) =
    IsField code field × ExpressionFits code count index × ExpressionFits code count value
OperationFits code me count (op.Send variable to) = IsVariable code variable × IsOther code me to
OperationFits code me count (op.Frame site) = site_at code site ≡ Some me
OperationFits code me count (op.Arg variable value) = IsVariable code variable × ExpressionFits code count value
OperationFits code me count (op.Pass variable to) = IsVariable code variable × IsOther code me to
OperationFits code me count (op.Push entry) = IsEntryOn code me entry
OperationFits code me count (op.Ask entry on) = IsEntryOn code on entry × IsOther code me on
OperationFits code me count (op.Go entry on) = IsEntryOn code on entry × IsOther code me on
OperationFits code me count (op.Call entry on) = IsEntryOn code on entry × IsHost code on
OperationFits code me count (op.Ret variable value) = IsVariable code variable × ExpressionFits code count value
OperationFits code me count op.Back = ⊤
OperationFits code me count (op.Branch guard target) =
    ExpressionFits code count guard × (target < length (part_of code me))
OperationFits code me count (op.GoWith entry on riders) =
    IsEntryOn code on entry × IsOther code me on × AreRiding code riders
OperationFits code me count (op.CallWith entry on riders) =
    IsEntryOn code on entry × IsOther code me on × AreRiding code riders

pub record InstructionFits (code : CodeShape) (me : HostId) (at : ℕ) (instruction : Instr) : Type 0 where
  pub label : IsLabelNumber code instruction.label
  pub operation : OperationFits code me (temporaries_at code.entries me (part_of code me) at) instruction.op

-- the last instruction of a host leaves it
abbrev pub IsLeaving : Op → Type 0
IsLeaving op.Back = ⊤
IsLeaving (op.Go entry on) = ⊤
IsLeaving (op.GoWith entry on riders) = ⊤
IsLeaving _ = ⊥

pub record PartFits (code : CodeShape) (me : HostId) : Type 0 where
  pub few : length (part_of code me) ≤ MOST_ITEMS
  pub instructions : (at : ℕ) (instruction : Instr) → slice_get (part_of code me) at ≡ Some instruction →
      InstructionFits code me at instruction
  pub end : (part_of code me ≡ [])
      ⊎ IsSomeAnd (slice_get (part_of code me) (length (part_of code me) - 1)) (λ last. IsLeaving last.op)

-- ---- fields, variables and entries

-- a plain field has one element
abbrev pub HasSize : CodeFieldShape → Type 0
HasSize field = (0 < field.size) × (field.size ≤ ARRAY_SIZE) × ((field.array ≡ false) → field.size ≡ 1)

pub record FieldFits (code : CodeShape) (field : CodeFieldShape) : Type 0 where
  pub name : IsName field.name
  pub short : length field.name ≤ MOST_ITEMS
  pub label : IsLabelNumber code field.label
  pub size : HasSize field
  pub host : IsHost code field.host

-- `METHOD.NAME`, or `METHOD.return` for a result
abbrev pub IsVariableName : List ℕ → Type 0
IsVariableName text =
    (method : List ℕ) × (name : List ℕ) × IsName method × (IsName name ⊎ (name ≡ codes "return"))
    × (text ≡ method ++ (codes "." ++ name))

pub record VariableFits (code : CodeShape) (variable : CodeVariableShape) : Type 0 where
  pub name : IsVariableName variable.name
  pub short : length variable.name ≤ MOST_ITEMS
  pub label : IsLabelNumber code variable.label

-- a thread starts at an instruction of the entry's host
pub record EntryFits (code : CodeShape) (entry : Entry) : Type 0 where
  pub host : IsHost code entry.host
  pub at : entry.at < length (part_of code entry.host)
  pub label : IsLabelNumber code entry.label

-- the entry stands on the root host
abbrev pub IsOnRoot : CodeShape → EntryId → Type 0
IsOnRoot code entry = IsSomeAnd (entry_at code entry) (λ there. there.host ≡ code.root)

-- ---- the code

pub record IsSoundCode (code : CodeShape) : Type 0 where
  pub some_host : 0 < length code.hosts
  pub few_hosts : length code.hosts ≤ HOSTS
  pub host_names : All (λ host. IsName host.name × (length host.name ≤ MOST_ITEMS)) code.hosts
  pub few_labels : length code.labels ≤ MOST_ITEMS
  pub few_fields : length code.fields ≤ MOST_ITEMS
  pub fields : All (FieldFits code) code.fields
  pub elements : sum_by (λ field. field.size) code.fields ≤ ELEMENTS
  pub few_variables : length code.variables ≤ MOST_ITEMS
  pub variables : All (VariableFits code) code.variables
  pub few_entries : length code.entries ≤ MOST_ITEMS
  pub entries : All (EntryFits code) code.entries
  pub few_sites : length code.sites ≤ MOST_ITEMS
  pub sites : All (IsHost code) code.sites
  pub a_part_each : length code.parts ≡ length code.hosts
  pub parts : (host : HostId) → IsHost code host → PartFits code host
  pub halt_first : IsSomeAnd (entry_at code halt) (λ there. (there.host ≡ code.root) × (there.at ≡ 0))
  pub main : IsOnRoot code code.main
