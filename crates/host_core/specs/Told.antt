-- A host that is played from its journal. The lines of a journal name tokens without their tags. So where a token is
-- presented that would be printed as that of the top entry, they do not say whether it is that one, unless this host
-- made it itself. Such a step is open. It leaves the row of the table for the truth value that the host is told; every
-- other step leaves what it leaves of any host.
use Rattle.std.specs.Prelude.{◌≡◌, ◌≢◌, ℕ, ◌==◌, Bool, if◌then◌else◌, List, [], ◌∷◌, replicate, slice_index, slice_set}
use Rattle.std.specs.Prelude.{Option, Some, None}
use Rattle.js_base.specs.declared.ids.HostId.{HostId}
use Rattle.capability.specs.declared.tags.TheConstants.{KEY_BYTES}
use Rattle.capability.specs.declared.token.Token.{Token}
use Rattle.capability.specs.Tag.{tag_of}
use Rattle.ics_stack.specs.declared.stack.StackEntry.{StackEntry}
use Rattle.ics_stack.specs.Stack.{top_token}
use Rattle.host_code.specs.declared.instruction.Instr.{Instr}
use Rattle.host_code.specs.declared.instruction.Op.{Op}
use Rattle.host_code.specs.declared.instruction.Op.TheVariants as op
use Rattle.host_code.specs.declared.message.Message.{Message}
use Rattle.host_code.specs.declared.message.Message.TheVariants as message
use Rattle.host_code.specs.Thread.{ThreadShape}
use Rattle.host_code.specs.Code.{CodeShape, halt, instruction_at}
use Rattle.host_core.specs.Host.{HostState, Outcome, without_message, with_running, with_one_ignored, after_pop}
use Rattle.host_core.specs.Taking.{IsTaking, after_taking}
use Rattle.host_core.specs.Turn.{IsTurn, after_operation}

-- ---- the tokens of a line

-- the key of a told host, under which nobody else has to check its tokens
abbrev pub told_key : List ℕ
told_key = replicate KEY_BYTES 0

-- a tag with another first byte
abbrev pub other_tag : List ℕ → List ℕ
other_tag tag = slice_set tag 0 (if slice_index tag 0 == 0 then 1 else 0)

-- the token with a tag that this host would not make for it
abbrev pub with_wrong_tag : Token → Token
with_wrong_tag token =
    record token { tag = other_tag (tag_of told_key token.host token.frame token.entry token.serial) }

abbrev pub with_wrong_tags : Message → Message
with_wrong_tags (message.Sync request frame entry token) = message.Sync request frame entry (with_wrong_tag token)
with_wrong_tags (message.Rgoto frame entry token) = message.Rgoto frame entry (with_wrong_tag token)
with_wrong_tags (message.RgotoWith frame entry token riders) =
    message.RgotoWith frame entry (with_wrong_tag token) riders
with_wrong_tags (message.Lgoto token) = message.Lgoto (with_wrong_tag token)
with_wrong_tags (message.Token request token) = message.Token request (with_wrong_tag token)
with_wrong_tags letter = letter

-- ---- open steps

-- the token is another one than that of the top entry, and has the same numbers
abbrev pub IsUnsure : Option Token → Token → Type 0
IsUnsure None token = ⊥
IsUnsure (Some top) token = (token ≢ top) × (top ≡ record token { tag = top.tag })

-- an lgoto presents such a token
abbrev pub IsOpenTaking : HostState → Message → Type 0
IsOpenTaking host (message.Lgoto token) = IsUnsure (top_token host.entries) token
IsOpenTaking host _ = ⊥

abbrev pub IsOpenOperation : HostState → Option Token → Op → Type 0
IsOpenOperation host (Some held) op.Back = IsUnsure (top_token host.entries) held
IsOpenOperation host held operation = ⊥

abbrev pub IsOpenInstruction : HostState → Option Token → Option Instr → Type 0
IsOpenInstruction host held None = ⊥
IsOpenInstruction host held (Some instruction) = IsOpenOperation host held instruction.op

-- the thread runs and gives back such a token
abbrev pub IsOpenTurnOf : CodeShape → HostState → Option ThreadShape → Type 0
IsOpenTurnOf code host None = ⊥
IsOpenTurnOf code host (Some thread) = IsOpenInstruction host thread.held (instruction_at code host.me thread.at)

abbrev pub IsOpenTurn : CodeShape → HostState → Type 0
IsOpenTurn code host = IsOpenTurnOf code host host.running

-- ---- what steps leave

-- this is what taking the message leaves and sends, where the host is told whether an open one passes
abbrev pub IsToldTaking : CodeShape → HostState → HostId → Message → Bool → Outcome → Type 0
IsToldTaking code host from message passes outcome =
    (IsOpenTaking host message → after_taking code host from message passes ≡ outcome)
    × (¬ IsOpenTaking host message → IsTaking code host from message outcome)

-- the running thread gives its token back
abbrev pub after_told_back : CodeShape → HostState → Option ThreadShape → Bool → Outcome
after_told_back code host None passes = without_message host
after_told_back code host (Some thread) passes = after_operation code (with_running host None) thread op.Back passes

-- and a turn likewise
abbrev pub IsToldTurn : CodeShape → HostState → Bool → Outcome → Type 0
IsToldTurn code host passes outcome =
    (IsOpenTurn code host → after_told_back code host host.running passes ≡ outcome)
    × (¬ IsOpenTurn code host → IsTurn code host outcome)

-- An open step on the host: no thread runs, and the top entry is taken off, or one more token is ignored.
abbrev pub settled : CodeShape → HostState → Bool → HostState
settled code host passes =
    if passes
    then after_pop code (with_running host None) host.entries
    else with_one_ignored (with_running host None)

-- the top entry, taken off, starts a thread and does not end the program
abbrev pub StartsThread : List StackEntry → Type 0
StartsThread [] = ⊥
StartsThread (top ∷ below) = top.entry.0 ≢ halt.0
