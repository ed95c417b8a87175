-- What a host may bring about that is trusted for what is due at a place of split code, whatever host the place is on:
-- whoever trusts what an instruction changes trusts it, and it is trusted for what an instruction enters or leads to. A
-- host is known here by its label.
use Rattle.std.specs.Prelude.{◌≡◌, ◌≢◌, ◌↔◌, ℕ, suc, ◌<◌, ◌≤◌, List, [], ◌∷◌, ◌++◌, Some, IsSomeAnd, slice_get}
use Rattle.std.specs.Prelude.{slice_index, ⊤}
use Rattle.std.specs.Bool.{Decides}
use Rattle.std.specs.Int.{bit_at}
use Rattle.std.specs.List.{AllByRecursion}
use Rattle.std.specs.Option.{option_map}
use Rattle.js_base.specs.declared.ids.HostId.{HostId}
use Rattle.js_base.specs.declared.ids.EntryId.{EntryId}
use Rattle.js_base.specs.declared.ids.FieldId.{FieldId}
use Rattle.js_base.specs.declared.ids.VarId.{VarId}
use Rattle.js_base.specs.declared.ids.StmtId.{StmtId}
use Rattle.js_base.specs.declared.ids.MethodId.{MethodId}
use Rattle.label_lattice.specs.declared.label.Label.{Label}
use Rattle.label_lattice.specs.declared.label.TheConstants.{READERS}
use Rattle.label_lattice.specs.Label.{IntegFlows, IsTrustedBy}
use Rattle.jif_tree.specs.Trees.{BlockTree, set_field, set_element, branch, loop, call, give_back}
use Rattle.jif_tree.specs.LabelRules.{method_at, params_of, result_of}
use Rattle.host_code.specs.declared.code.Entry.{Entry}
use Rattle.host_code.specs.declared.instruction.Instr.{Instr}
use Rattle.host_code.specs.declared.instruction.Op.{Op}
use Rattle.host_code.specs.declared.instruction.Op.TheVariants as op
use Rattle.host_code.specs.Code.{CodeShape, halt, field_at, variable_at, entry_at, instruction_at}
use Rattle.entry_check.specs.Checks.{MayAffect, label_at, label_of_host}
use Rattle.need_labels.specs.Labelled.{Labelled}
use Rattle.msg_cost.specs.Moves.{PlannedShape, is_trusted_for}
use Rattle.split_rules.specs.Positions.{IsStatementOfMethod, IsOf, number_of, DueWork, statement_due, all_due, Argument}
use Rattle.split_rules.specs.Positions.{Calling}
use Rattle.split_rules.specs.Positions.{no_call, arguing, entering, Forward, Position}
use Rattle.split_rules.specs.Typing.{IsParam, GivesVariable, Covers, body_of}
use Rattle.split_rules.specs.TypedCode.{Table}
use Rattle.split_rules.specs.ThreadRun.{Thread, IsAtEntry, RunsInstructions}

-- ---- statements

-- a host of this label is trusted for a statement of the program
abbrev pub MayRun : PlannedShape → Label → BlockTree → Type 0
MayRun planned label statement =
    IsTrustedBy label (slice_index planned.needs.need (number_of statement).0) × IsOf planned.program statement

abbrev pub MayRunAll : PlannedShape → Label → List DueWork → Type 0
MayRunAll planned label due = AllByRecursion (λ item. MayRun planned label (statement_due item)) due

-- a statement stores to a field
abbrev pub StoresTo : BlockTree → FieldId → Type 0
StoresTo (set_field heading field value rest) to = field ≡ to
StoresTo (set_element heading field index value rest) to = field ≡ to
StoresTo other to = ⊥

-- what a statement starts: the blocks in it, or the body of the method that it calls
abbrev pub started : PlannedShape → BlockTree → List DueWork
started planned (branch heading guard first second rest) = all_due first ++ all_due second
started planned (loop heading guard inner rest) = all_due inner
started planned (call heading site method arguments into rest) =
    all_due (body_of (method_at planned.program method))
started planned other = []

-- a statement of a method gives a variable its value, which may be the result of the method
abbrev pub GivesIn : PlannedShape → MethodId → BlockTree → VarId → Type 0
GivesIn planned method (give_back heading value rest) x = result_of (method_at planned.program method) ≡ Some x
GivesIn planned method other x = GivesVariable planned other x

-- ---- places

-- the call that is being made, if there is one
abbrev pub call_made : Calling → List BlockTree
call_made no_call = []
call_made (arguing statement set left) = statement ∷ []
call_made (entering statement) = statement ∷ []

-- what is still to be set are parameters of the method that is called
abbrev pub AreParamsOfCall : PlannedShape → BlockTree → List Argument → Type 0
AreParamsOfCall planned (call heading site method arguments into rest) left =
    AllByRecursion (λ one. IsParam one.param (params_of (method_at planned.program method))) left
AreParamsOfCall planned other left = ⊥

abbrev pub PassesParams : PlannedShape → Calling → Type 0
PassesParams planned (arguing statement set left) = AreParamsOfCall planned statement left
PassesParams planned other = ⊤

-- each of these variables was given its value by a statement that the host is trusted for
abbrev pub AreSentFrom : PlannedShape → Label → List Forward → Type 0
AreSentFrom planned label forwards =
    AllByRecursion (λ forward. MayRun planned label forward.source
    × GivesVariable planned forward.source forward.variable)
    forwards

-- The host is trusted for all that is due at a position, for what gave its value to what has still to be sent, and for
-- the call that is being made.
pub record IsOpenTo (planned : PlannedShape) (label : Label) (here : Position) : Type 0 where
  pub due : MayRunAll planned label here.due
  pub sent : AreSentFrom planned label here.forwards
  pub calls : AllByRecursion (MayRun planned label) (call_made here.calling)
  pub params : PassesParams planned here.calling

-- ---- instructions

-- whoever trusts the field of the code trusts the host
abbrev pub MayChangeField : CodeShape → Label → FieldId → Type 0
MayChangeField code label field =
    IsSomeAnd (field_at code field) (λ there. MayAffect (Some label) (label_at code there.label))

-- or the variable
abbrev pub MayChange : CodeShape → Label → VarId → Type 0
MayChange code label x =
    IsSomeAnd (variable_at code x) (λ there. MayAffect (Some label) (label_at code there.label))

-- the entry is there, and the host is trusted for its need
abbrev pub HasNeed : CodeShape → Label → EntryId → Type 0
HasNeed code label there = IsSomeAnd (entry_at code there) (λ entry. IsTrustedBy label entry.need)

-- What a host may bring about, if a statement of a method does: it may change what is given its value and what is
-- stored, and is trusted for what is started.
pub record OpensStatement (planned : PlannedShape) (code : CodeShape) (label : Label) (method : MethodId)
    (statement : BlockTree) : Type 0 where
  pub gives : (x : VarId) → GivesIn planned method statement x → MayChange code label x
  pub stores : (field : FieldId) → StoresTo statement field → MayChangeField code label field
  pub starts : MayRunAll planned label (started planned statement)

-- What a host may bring about, if an instruction of some host at a place does: it may change what is changed and what
-- rides, is trusted for the entries that are pushed, asked for or gone to, and finds the places behind the instruction
-- open.
abbrev pub OpensOp : PlannedShape → CodeShape → Table → Label → HostId → ℕ → Op → Type 0
OpensOp planned code table label me place (op.Let x value) =
    MayChange code label x × IsOpenTo planned label (table.at me.0 (suc place))
OpensOp planned code table label me place (op.Put field index value) =
    MayChangeField code label field × IsOpenTo planned label (table.at me.0 (suc place))
OpensOp planned code table label me place (op.Send x to) =
    MayChange code label x × IsOpenTo planned label (table.at me.0 (suc place))
OpensOp planned code table label me place (op.Arg x value) =
    MayChange code label x × IsOpenTo planned label (table.at me.0 (suc place))
OpensOp planned code table label me place (op.Pass x to) =
    MayChange code label x × IsOpenTo planned label (table.at me.0 (suc place))
OpensOp planned code table label me place (op.Ret x value) =
    MayChange code label x × IsOpenTo planned label (table.at me.0 (suc place))
OpensOp planned code table label me place (op.Push there) =
    HasNeed code label there × IsOpenTo planned label (table.at me.0 (suc place))
OpensOp planned code table label me place (op.Ask there on) =
    HasNeed code label there × IsOpenTo planned label (table.at me.0 (suc place))
OpensOp planned code table label me place (op.Go there on) = HasNeed code label there
OpensOp planned code table label me place (op.Call there on) = HasNeed code label there
OpensOp planned code table label me place (op.GoWith there on riders) =
    HasNeed code label there × AllByRecursion (MayChange code label) riders
OpensOp planned code table label me place (op.CallWith there on riders) =
    HasNeed code label there × AllByRecursion (MayChange code label) riders
OpensOp planned code table label me place op.Back = ⊤
OpensOp planned code table label me place (op.Branch guard target) =
    IsOpenTo planned label (table.at me.0 (suc place)) × IsOpenTo planned label (table.at me.0 target)
OpensOp planned code table label me place other = IsOpenTo planned label (table.at me.0 (suc place))

-- A statement brings about nothing but what each host may that is trusted for it. A host that is trusted for the need
-- of an entry is trusted for all that is due where the entry stands, and so is the entry's own host. Each instruction
-- at a place that is open to a host brings about nothing but what that host may.
pub record IsOpenCode (planned : PlannedShape) (code : CodeShape) (table : Table) : Type 0 where
  pub statements : (label : Label) (method : MethodId) (statement : BlockTree) →
      IsStatementOfMethod planned.program method statement →
      IsTrustedBy label (slice_index planned.needs.need (number_of statement).0) →
      OpensStatement planned code label method statement
  pub entries : (label : Label) (number : ℕ) (entry : Entry) → slice_get code.entries (suc number) ≡ Some entry →
      IsTrustedBy label entry.need → IsOpenTo planned label (table.at entry.host.0 entry.at)
  pub own_entries : (label : Label) (number : ℕ) (entry : Entry) →
      slice_get code.entries (suc number) ≡ Some entry → label_of_host code entry.host ≡ Some label →
      IsOpenTo planned label (table.at entry.host.0 entry.at)
  pub instructions : (label : Label) (me : HostId) (place : ℕ) (there : Instr) →
      instruction_at code me place ≡ Some there → IsOpenTo planned label (table.at me.0 place) →
      OpensOp planned code table label me place there.op

-- ---- labels

-- The code gives hosts, fields and variables the labels that they have in the host file and in the program, and whether
-- a host is trusted for a statement is told by its label.
pub record HasOwnLabels (labelled : Labelled) (planned : PlannedShape) (code : CodeShape) : Type 0 where
  pub of_hosts : (host : HostId) →
      label_of_host code host ≡ option_map (λ row. row.label) (slice_get planned.hosts.hosts host.0)
  pub of_fields : (label : Label) (field : FieldId) → (MayChangeField code label field
      ↔ IsSomeAnd (slice_get labelled.program.fields field.0) (λ tree. IntegFlows label tree.label))
  pub of_variables : (label : Label) (x : VarId) → (MayChange code label x
      ↔ IsSomeAnd (slice_get labelled.var_labels x.0) (IntegFlows label))
  pub of_trust : (host : HostId) (label : Label) (statement : StmtId) → label_of_host code host ≡ Some label →
      Decides (is_trusted_for planned host statement) (IsTrustedBy label (slice_index planned.needs.need statement.0))

-- ---- entries

-- whoever has to trust who enters at this entry is in the word
abbrev pub HasAllOf : CodeShape → ℕ → EntryId → Type 0
HasAllOf code need there = (entry : Entry) → entry_at code there ≡ Some entry → (principal : ℕ) → principal < READERS →
    bit_at entry.need principal ≤ bit_at need principal

-- of the entry that an instruction pushes, asks for or goes to, if it does
abbrev pub NamesEntryWithin : CodeShape → ℕ → Op → Type 0
NamesEntryWithin code need (op.Push there) = HasAllOf code need there
NamesEntryWithin code need (op.Ask there on) = HasAllOf code need there
NamesEntryWithin code need (op.Go there on) = HasAllOf code need there
NamesEntryWithin code need (op.Call there on) = HasAllOf code need there
NamesEntryWithin code need (op.GoWith there on riders) = HasAllOf code need there
NamesEntryWithin code need (op.CallWith there on riders) = HasAllOf code need there
NamesEntryWithin code need other = ⊤

-- A thread is where a need has all who have to trust the hosts of what is due there, and who enters at what is pushed,
-- asked for or gone to.
pub record IsCoveredBy (planned : PlannedShape) (code : CodeShape) (table : Table) (need : ℕ) (thread : Thread) :
    Type 0 where
  pub due : Covers planned need (table.at thread.host.0 thread.place).due
  pub names : (there : Instr) → instruction_at code thread.host thread.place ≡ Some there →
      NamesEntryWithin code need there.op

-- A thread enters at an entry and runs, with nothing on its chain at first. The need of the entry covers it wherever it
-- comes to, until it gives back the token with which it entered.
abbrev pub CoversRuns : PlannedShape → CodeShape → Table → Type 0
CoversRuns planned code table = (there : EntryId) (start : Entry) → there ≢ halt → entry_at code there ≡ Some start →
    (count steps : ℕ) (first last : Thread) → IsAtEntry code there [] first →
    RunsInstructions code count steps first last →
    IsCoveredBy planned code table start.need last
