-- What holds of a host of the code from the start on: it has the code's hosts, fields, variables, entries and sites.
-- Each place of a thread and each entry on the stack is one of the host's in the code, and each token names a host of
-- the code. No two entries have the same token. A frame's site and a token's entry may be any number.
use Rattle.std.specs.Prelude.{◌≡◌, ◌+◌, ◌<◌, ⊤, All, length, Option, None, IfSome, IsSomeAnd}
use Rattle.js_base.specs.declared.ids.HostId.{HostId}
use Rattle.js_base.specs.declared.ids.EntryId.{EntryId}
use Rattle.capability.specs.declared.token.Token.{Token}
use Rattle.ics_stack.specs.declared.stack.StackEntry.{StackEntry}
use Rattle.ics_stack.specs.Stack.{StackFits}
use Rattle.host_code.specs.declared.message.Message.{Message}
use Rattle.host_code.specs.declared.message.Message.TheVariants as message
use Rattle.host_code.specs.Thread.{ThreadShape, Awaited, WaitingShape}
use Rattle.host_code.specs.Thread.Awaited.{token_of_entry}
use Rattle.host_code.specs.Code.{CodeShape, part_of, entry_at}
use Rattle.host_code.specs.Sound.{IsHost, IsOther}
use Rattle.host_code.specs.Messages.{MessageFits}
use Rattle.entry_check.specs.Checks.{AreChecksOf}
use Rattle.host_core.specs.Host.{HostState, HostModel, Outcome, state_of}

-- the entry is one of the host's
abbrev pub IsEntryOf : CodeShape → HostId → EntryId → Type 0
IsEntryOf code me entry = IsSomeAnd (entry_at code entry) (λ there. there.host ≡ me)

abbrev pub TokenFits : CodeShape → Token → Type 0
TokenFits code token = IsHost code token.host

-- the next instruction is one of the host's
abbrev pub IsPlace : CodeShape → HostId → ThreadShape → Type 0
IsPlace code me thread = thread.at < length (part_of code me)

-- a running thread holds a token
pub record RunningFits (code : CodeShape) (me : HostId) (thread : ThreadShape) : Type 0 where
  pub place : IsPlace code me thread
  pub held : IsSomeAnd thread.held (TokenFits code)

-- a waiting thread holds none where it gave it away with its request
abbrev pub HeldFits : CodeShape → Awaited → Option Token → Type 0
HeldFits code token_of_entry held = held ≡ None
HeldFits code _ held = IsSomeAnd held (TokenFits code)

pub record WaitingFits (code : CodeShape) (me : HostId) (waiting : WaitingShape) : Type 0 where
  pub place : IsPlace code me waiting.thread
  pub held : HeldFits code waiting.awaited waiting.thread.held
  pub asked : IsOther code me waiting.asked

pub record StackEntryFits (code : CodeShape) (me : HostId) (on_stack : StackEntry) : Type 0 where
  pub entry : IsEntryOf code me on_stack.entry
  pub token : on_stack.token.host ≡ me
  pub kept : TokenFits code on_stack.kept

pub record StateFits (code : CodeShape) (host : HostState) : Type 0 where
  pub me : IsHost code host.me
  pub rows : length host.rows ≡ length code.fields
  pub serials : length host.serials ≡ length code.entries
  pub frames : length host.frames ≡ length code.sites + 1
  pub requests : length host.requests ≡ length (part_of code host.me)
  pub running : IfSome host.running (RunningFits code host.me)
  pub waiting : All (WaitingFits code host.me) host.waiting
  pub entries : All (StackEntryFits code host.me) host.entries
  pub stack : StackFits host.me host.serials host.entries

-- the host runs this code
pub record HostFits (code : CodeShape) (host : HostModel) : Type 0 where
  pub state : StateFits code (state_of host)
  pub checks : AreChecksOf code host.me host.checks

-- what is sent goes to another host of the code, and names what is there
abbrev pub SentFits : CodeShape → HostId → Option (HostId × Message) → Type 0
SentFits code me sent = IfSome sent (λ letter. IsOther code me letter.0 × MessageFits code letter.1)

-- a step keeps what holds of the host, and what it sends fits
abbrev pub OutcomeFits : CodeShape → HostId → Outcome → Type 0
OutcomeFits code me outcome = StateFits code outcome.state × SentFits code me outcome.sent

-- each token of a message names a host of the code
abbrev pub TokensFit : CodeShape → Message → Type 0
TokensFit code (message.Sync request frame entry token) = TokenFits code token
TokensFit code (message.Rgoto frame entry token) = TokenFits code token
TokensFit code (message.RgotoWith frame entry token riders) = TokenFits code token
TokensFit code (message.Lgoto token) = TokenFits code token
TokensFit code (message.Token request token) = TokenFits code token
TokensFit code _ = ⊤
