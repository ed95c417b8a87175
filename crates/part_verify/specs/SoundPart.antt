-- Which parts of a code are sound, so that their host may run them, whoever made the code.
use Rattle.std.specs.Prelude.{◌≡◌, ◌≢◌, ℕ, Some, IsSomeAnd, ⊤}
use Rattle.std.specs.List.{AllByRecursion}
use Rattle.js_base.specs.declared.ids.HostId.{HostId}
use Rattle.js_base.specs.declared.ids.FieldId.{FieldId}
use Rattle.js_base.specs.declared.ids.VarId.{VarId}
use Rattle.js_base.specs.declared.ids.EntryId.{EntryId}
use Rattle.js_base.specs.Bits.{BitsWithin}
use Rattle.label_lattice.specs.declared.label.Label.{Label}
use Rattle.host_code.specs.declared.code.Entry.{Entry}
use Rattle.host_code.specs.declared.instruction.Instr.{Instr}
use Rattle.host_code.specs.declared.instruction.Op.{Op}
use Rattle.host_code.specs.declared.instruction.Op.TheVariants as op
use Rattle.host_code.specs.Code.{CodeShape, CodeFieldShape, CodeVariableShape}
use Rattle.host_code.specs.Code.{entry_at, field_at, variable_at, instruction_at}
use Rattle.entry_check.specs.Checks.{MaySee, label_at, label_of_host}
use Rattle.part_verify.specs.Paths.{IsUnder}

-- ---- what a need has, a word with a bit for each principal

-- each principal who trusts the label is in the need
abbrev pub LabelWithin : CodeShape → ℕ → ℕ → Type 0
LabelWithin code need label = (there : Label) → label_at code label ≡ Some there → BitsWithin there.trust need

abbrev pub EntryWithin : CodeShape → ℕ → EntryId → Type 0
EntryWithin code need entry = (there : Entry) → entry_at code entry ≡ Some there → BitsWithin there.need need

abbrev pub FieldWithin : CodeShape → ℕ → FieldId → Type 0
FieldWithin code need field =
    (there : CodeFieldShape) → field_at code field ≡ Some there → LabelWithin code need there.label

abbrev pub VariableWithin : CodeShape → ℕ → VarId → Type 0
VariableWithin code need variable =
    (there : CodeVariableShape) → variable_at code variable ≡ Some there → LabelWithin code need there.label

-- The need has who is in the need of each entry that an operation names, and who trusts each field that it sets and
-- each variable that it sets or forwards. What it reads is another matter.
abbrev pub NamesWithin : CodeShape → ℕ → Op → Type 0
NamesWithin code need (op.Read field index) = ⊤
NamesWithin code need (op.Let variable value) = VariableWithin code need variable
NamesWithin code need (op.Put field index value) = FieldWithin code need field
NamesWithin code need (op.Send variable to) = VariableWithin code need variable
NamesWithin code need (op.Frame site) = ⊤
NamesWithin code need (op.Arg variable value) = VariableWithin code need variable
NamesWithin code need (op.Pass variable to) = VariableWithin code need variable
NamesWithin code need (op.Push entry) = EntryWithin code need entry
NamesWithin code need (op.Ask entry on) = EntryWithin code need entry
NamesWithin code need (op.Go entry on) = EntryWithin code need entry
NamesWithin code need (op.Call entry on) = EntryWithin code need entry
NamesWithin code need (op.Ret variable value) = VariableWithin code need variable
NamesWithin code need op.Back = ⊤
NamesWithin code need (op.Branch guard target) = ⊤
NamesWithin code need (op.GoWith entry on riders) =
    EntryWithin code need entry × AllByRecursion (VariableWithin code need) riders
NamesWithin code need (op.CallWith entry on riders) =
    EntryWithin code need entry × AllByRecursion (VariableWithin code need) riders

-- ---- what other hosts are shown

-- the host may see this label
abbrev pub IsSeenBy : CodeShape → ℕ → HostId → Type 0
IsSeenBy code label host = MaySee (label_at code label) (label_of_host code host)

abbrev pub SeesVariable : CodeShape → HostId → VarId → Type 0
SeesVariable code host variable = IsSomeAnd (variable_at code variable) (λ there. IsSeenBy code there.label host)

-- another host that holds the field may see the program label with which it is read
abbrev pub ShowsReading : CodeShape → HostId → ℕ → FieldId → Type 0
ShowsReading code me label field =
    IsSomeAnd (field_at code field) (λ there. there.host ≢ me → IsSeenBy code label there.host)

-- another host that holds the field may see the program label with which it is set, and what the field keeps
abbrev pub ShowsSetting : CodeShape → HostId → ℕ → FieldId → Type 0
ShowsSetting code me label field =
    IsSomeAnd (field_at code field) (λ there. there.host ≢ me →
    (IsSeenBy code label there.host × IsSeenBy code there.label there.host))

-- a host may see the program label with which a variable is forwarded to it, and the variable
abbrev pub ShowsVariable : CodeShape → ℕ → VarId → HostId → Type 0
ShowsVariable code label variable to = IsSeenBy code label to × SeesVariable code to variable

-- Each other host that an operation of this host names, or whose field it names, may see its program label. It may see
-- the field that is set, and each variable that is forwarded or rides. Who takes a token back, or a result, is named by
-- that token.
abbrev pub ShowsWell : CodeShape → HostId → ℕ → Op → Type 0
ShowsWell code me label (op.Read field index) = ShowsReading code me label field
ShowsWell code me label (op.Let variable value) = ⊤
ShowsWell code me label (op.Put field index value) = ShowsSetting code me label field
ShowsWell code me label (op.Send variable to) = ShowsVariable code label variable to
ShowsWell code me label (op.Frame site) = ⊤
ShowsWell code me label (op.Arg variable value) = ⊤
ShowsWell code me label (op.Pass variable to) = ShowsVariable code label variable to
ShowsWell code me label (op.Push entry) = ⊤
ShowsWell code me label (op.Ask entry on) = IsSeenBy code label on
ShowsWell code me label (op.Go entry on) = IsSeenBy code label on
ShowsWell code me label (op.Call entry on) = on ≢ me → IsSeenBy code label on
ShowsWell code me label (op.Ret variable value) = ⊤
ShowsWell code me label op.Back = ⊤
ShowsWell code me label (op.Branch guard target) = ⊤
ShowsWell code me label (op.GoWith entry on riders) =
    IsSeenBy code label on × AllByRecursion (SeesVariable code on) riders
ShowsWell code me label (op.CallWith entry on riders) =
    IsSeenBy code label on × AllByRecursion (SeesVariable code on) riders

-- ---- sound parts

-- each instruction that an entry leads to names only what the entry's need has
abbrev pub AreNeedsKept : CodeShape → HostId → Type 0
AreNeedsKept code me = (there : EntryId) (place : ℕ) (one : Instr) (under : IsUnder code me there place) →
    instruction_at code me place ≡ Some one → NamesWithin code under.entry.need one.op

-- each instruction shows other hosts only what they may see
abbrev pub AreShownWell : CodeShape → HostId → Type 0
AreShownWell code me = (place : ℕ) (one : Instr) → instruction_at code me place ≡ Some one →
    ShowsWell code me one.label one.op

pub record IsSoundPart (code : CodeShape) (me : HostId) : Type 0 where
  pub needs : AreNeedsKept code me
  pub shows : AreShownWell code me
