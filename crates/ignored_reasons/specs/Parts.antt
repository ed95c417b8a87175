-- The parts of which the check of a message is made. Each is a fact of its own, so that a check that fails can be told
-- by the first part that is false.
use Rattle.std.specs.Prelude.{◌≡◌, Some, IsSome, IsSomeAnd}
use Rattle.js_base.specs.declared.ids.HostId.{HostId}
use Rattle.js_base.specs.declared.ids.FieldId.{FieldId}
use Rattle.js_base.specs.declared.ids.VarId.{VarId}
use Rattle.js_base.specs.declared.ids.EntryId.{EntryId}
use Rattle.ics_stack.specs.Stack.{top_token}
use Rattle.host_code.specs.declared.message.Message.{Message}
use Rattle.host_code.specs.declared.message.Message.TheVariants as message
use Rattle.host_code.specs.Code.{CodeShape, field_at, variable_at, entry_at}
use Rattle.host_code.specs.Thread.Awaited.{value_of_field, acknowledgement, token_of_entry}
use Rattle.entry_check.specs.Checks.{MaySee, MayAffect, IsTrustedFor, label_at, label_of_host}
use Rattle.host_core.specs.Host.{HostState}
use Rattle.host_core.specs.Taking.{place_of_awaiting}

-- ---- what the code decides

abbrev pub IsFieldOn : CodeShape → HostId → FieldId → Type 0
IsFieldOn code me field = IsSomeAnd (field_at code field) (λ there. there.host ≡ me)

-- what the field's label forbids, the sender's label forbids
abbrev pub SenderSeesField : CodeShape → HostId → FieldId → Type 0
SenderSeesField code from field =
    IsSomeAnd (field_at code field) (λ there. MaySee (label_at code there.label) (label_of_host code from))

-- who trusts the field trusts the sender
abbrev pub SenderSetsField : CodeShape → HostId → FieldId → Type 0
SenderSetsField code from field =
    IsSomeAnd (field_at code field) (λ there. MayAffect (label_of_host code from) (label_at code there.label))

-- who trusts the variable trusts the sender
abbrev pub SetsVariable : CodeShape → HostId → VarId → Type 0
SetsVariable code from variable =
    IsSomeAnd (variable_at code variable) (λ there. MayAffect (label_of_host code from) (label_at code there.label))

-- who is in the need of the entry trusts the sender
abbrev pub IsSenderTrustedAt : CodeShape → HostId → EntryId → Type 0
IsSenderTrustedAt code from entry =
    IsSomeAnd (entry_at code entry) (λ there. IsTrustedFor (label_of_host code from) there.need)

-- the sender may see the program label of the entry
abbrev pub KnowsOf : CodeShape → HostId → EntryId → Type 0
KnowsOf code from entry =
    IsSomeAnd (entry_at code entry) (λ there. MaySee (label_at code there.label) (label_of_host code from))

-- ---- what the state of the host decides

-- the token that a message gives back is that of the top entry
abbrev pub GivesTop : HostState → Message → Type 0
GivesTop host (message.Lgoto token) = top_token host.entries ≡ Some token
GivesTop host _ = ⊥

-- a thread waits for this answer from the sender
abbrev pub IsAwaited : HostState → HostId → Message → Type 0
IsAwaited host from (message.Value request value) = IsSome (place_of_awaiting host value_of_field request from)
IsAwaited host from (message.Ack request) = IsSome (place_of_awaiting host acknowledgement request from)
IsAwaited host from (message.Token request token) = IsSome (place_of_awaiting host token_of_entry request from)
IsAwaited host from _ = ⊥
