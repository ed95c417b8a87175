-- Why a host ignores a message: the first part of its check that is false.
--
-- A reason names its part, so the parts of a check are a list of reasons, in the order in which they are told: what is
-- asked for has to be here, the sender has to be trusted with it, and may know of it. A variable that rides comes
-- behind the entry, and the first of those that the sender may not set is told.
use Rattle.std.specs.Prelude.{◌≡◌, ◌⊎◌, List, [], ◌∷◌, ◌++◌, map, Option, Some, None}
use Rattle.js_base.specs.declared.ids.HostId.{HostId}
use Rattle.js_base.specs.declared.ids.EntryId.{EntryId}
use Rattle.js_base.specs.declared.ids.VarId.{VarId}
use Rattle.host_code.specs.declared.message.Message.{Message}
use Rattle.host_code.specs.declared.message.Message.TheVariants as message
use Rattle.host_code.specs.Riders.{names_of}
use Rattle.host_code.specs.Code.{CodeShape}
use Rattle.host_code.specs.Sound.{IsEntryOn}
use Rattle.host_core.specs.Host.{HostState}
use Rattle.ignored_reasons.specs.declared.asked.Asked.{Asked}
use Rattle.ignored_reasons.specs.declared.asked.Asked.TheVariants as asked
use Rattle.ignored_reasons.specs.declared.why.Why.{Why}
use Rattle.ignored_reasons.specs.declared.why.Why.TheVariants as why
use Rattle.ignored_reasons.specs.Parts.{IsFieldOn, SenderSeesField, SenderSetsField, SetsVariable, IsSenderTrustedAt}
use Rattle.ignored_reasons.specs.Parts.{KnowsOf}
use Rattle.ignored_reasons.specs.Parts.{GivesTop, IsAwaited}

-- the part of the message's check that the reason says is false
abbrev pub PartHolds : CodeShape → HostState → HostId → Message → Why → Type 0
PartHolds code host from taken (why.FieldElsewhere field) = IsFieldOn code host.me field
PartHolds code host from taken (why.MayNotSee field) = SenderSeesField code from field
PartHolds code host from taken (why.MayNotSet field) = SenderSetsField code from field
PartHolds code host from taken (why.MayNotForward variable) = SetsVariable code from variable
PartHolds code host from taken (why.NoEntry entry) = IsEntryOn code host.me entry
PartHolds code host from taken (why.MayNotEnter entry) = IsSenderTrustedAt code from entry
PartHolds code host from taken (why.MayNotKnow entry) = KnowsOf code from entry
PartHolds code host from taken why.NotOnTop = GivesTop host taken
PartHolds code host from taken why.NoneWaits = IsAwaited host from taken

-- the parts of the check at an entry
abbrev pub parts_at : EntryId → List Why
parts_at entry = why.NoEntry entry ∷ why.MayNotEnter entry ∷ why.MayNotKnow entry ∷ []

-- one part for each variable that rides
abbrev pub parts_riding : List VarId → List Why
parts_riding variables = map (λ variable. why.MayNotForward variable) variables

-- what a message asks, as far as its check looks at it in the code
abbrev pub asked_of : Message → Asked
asked_of (message.Get request field index) = asked.Get field
asked_of (message.Set request field index value) = asked.Set field
asked_of (message.Forward request frame variable value) = asked.Forward variable
asked_of (message.Sync request frame entry token) = asked.Enter entry
asked_of (message.Rgoto frame entry token) = asked.Enter entry
asked_of (message.RgotoWith frame entry token riders) = asked.EnterWith entry riders
asked_of (message.Lgoto token) = asked.GiveBack
asked_of (message.Value request value) = asked.Answer
asked_of (message.Ack request) = asked.Answer
asked_of (message.Token request token) = asked.Answer

-- the parts of a check
abbrev pub parts_asked : Asked → List Why
parts_asked (asked.Get field) = why.FieldElsewhere field ∷ why.MayNotSee field ∷ []
parts_asked (asked.Set field) = why.FieldElsewhere field ∷ why.MayNotSet field ∷ []
parts_asked (asked.Forward variable) = why.MayNotForward variable ∷ []
parts_asked (asked.Enter entry) = parts_at entry
parts_asked (asked.EnterWith entry riders) = parts_at entry ++ parts_riding (names_of riders)
parts_asked asked.GiveBack = why.NotOnTop ∷ []
parts_asked asked.Answer = why.NoneWaits ∷ []

-- the parts of a message's check
abbrev pub parts_of : Message → List Why
parts_of taken = parts_asked (asked_of taken)

-- the first of these that is false, none where all hold
abbrev pub IsFirstFalse : (Why → Type 0) → List Why → Option Why → Type 0
IsFirstFalse holds [] found = found ≡ None
IsFirstFalse holds (part ∷ parts) found =
    (holds part × IsFirstFalse holds parts found) ⊎ (¬ holds part × (found ≡ Some part))

-- why the host ignores the message of the sender, none where it does not
abbrev pub IsWhy : CodeShape → HostState → HostId → Message → Option Why → Type 0
IsWhy code host from taken found = IsFirstFalse (PartHolds code host from taken) (parts_of taken) found
