-- What a thread does that keeps within the need of the entry at which it started.
use Rattle.std.specs.Prelude.{ℕ, ⊤, ◌⊎◌, Option, IfSome, IsSomeAnd}
use Rattle.std.specs.List.{AllByRecursion}
use Rattle.js_base.specs.declared.ids.HostId.{HostId}
use Rattle.js_base.specs.declared.ids.FieldId.{FieldId}
use Rattle.host_code.specs.declared.instruction.Instr.{Instr}
use Rattle.host_code.specs.declared.instruction.Op.{Op}
use Rattle.host_code.specs.declared.instruction.Op.TheVariants as op
use Rattle.host_code.specs.declared.message.Message.{Message}
use Rattle.host_code.specs.declared.message.Message.TheVariants as message
use Rattle.host_code.specs.Riders.{names_of}
use Rattle.host_code.specs.Code.{CodeShape, field_at}
use Rattle.part_verify.specs.SoundPart.{EntryWithin, FieldWithin, VariableWithin, NamesWithin}
use Rattle.part_verify.specs.SoundPart.{IsSeenBy, SeesVariable, ShowsVariable}

-- the need has what a message names: the entry, the field that it sets, and each variable that it forwards
abbrev pub SendsWithin : CodeShape → ℕ → Message → Type 0
SendsWithin code need (message.Set request field index value) = FieldWithin code need field
SendsWithin code need (message.Forward request frame variable value) = VariableWithin code need variable
SendsWithin code need (message.Sync request frame entry token) = EntryWithin code need entry
SendsWithin code need (message.Rgoto frame entry token) = EntryWithin code need entry
SendsWithin code need (message.RgotoWith frame entry token riders) =
    EntryWithin code need entry × AllByRecursion (VariableWithin code need) (names_of riders)
SendsWithin code need (message.Get request field index) = ⊤
SendsWithin code need (message.Lgoto token) = ⊤
SendsWithin code need (message.Value request value) = ⊤
SendsWithin code need (message.Ack request) = ⊤
SendsWithin code need (message.Token request token) = ⊤

abbrev pub SeesField : CodeShape → HostId → FieldId → Type 0
SeesField code host field = IsSomeAnd (field_at code field) (λ there. IsSeenBy code there.label host)

-- the host may see the program label with which a message is sent to it, and the field or variables that this names
abbrev pub ShowsTo : CodeShape → ℕ → HostId → Message → Type 0
ShowsTo code label to (message.Set request field index value) = IsSeenBy code label to × SeesField code to field
ShowsTo code label to (message.Forward request frame variable value) = ShowsVariable code label variable to
ShowsTo code label to (message.RgotoWith frame entry token riders) =
    IsSeenBy code label to × AllByRecursion (SeesVariable code to) (names_of riders)
ShowsTo code label to other = IsSeenBy code label to

-- a token says where the operation sends
abbrev pub IsSentByToken : Op → Type 0
IsSentByToken (op.Ret variable value) = ⊤
IsSentByToken op.Back = ⊤
IsSentByToken other = ⊥

-- The need has what an instruction names, and what it sends names. Each host to which it sends may see what it is told
-- of, unless the thread's token says where it sends.
pub record KeepsWithin (code : CodeShape) (need : ℕ) (one : Instr) (sent : Option (HostId × Message)) : Type 0 where
  pub names : NamesWithin code need one.op
  pub sends : IfSome sent (λ letter. SendsWithin code need letter.1)
  pub shows : IfSome sent (λ letter. IsSentByToken one.op ⊎ ShowsTo code one.label letter.0 letter.1)
