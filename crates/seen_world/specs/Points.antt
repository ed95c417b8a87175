-- What holds of the token at each place, of each thread, and of each entry on a stack, so that no misbehaving
-- host is told what it may not see.
use Rattle.std.specs.Prelude.{◌≡◌, ◌≢◌, ◌⊎◌, ℕ, ◌+◌, ℤ, true, false, List, length, All, Some, IfSome, IsSomeAnd}
use Rattle.std.specs.Prelude.{slice_get, ⊤}
use Rattle.std.specs.List.{AllByRecursion}
use Rattle.js_base.specs.declared.ids.HostId.{HostId}
use Rattle.capability.specs.declared.token.Token.{Token}
use Rattle.ics_stack.specs.declared.stack.StackEntry.{StackEntry}
use Rattle.js_base.specs.declared.ids.EntryId.{EntryId}
use Rattle.host_code.specs.declared.message.Message.{Message}
use Rattle.host_code.specs.declared.message.Message.TheVariants as message
use Rattle.host_code.specs.declared.code_expr.Node.{Node}
use Rattle.host_code.specs.declared.instruction.Instr.{Instr}
use Rattle.host_code.specs.declared.instruction.Op.{Op}
use Rattle.host_code.specs.declared.instruction.Op.TheVariants as op
use Rattle.host_code.specs.Riders.{names_of}
use Rattle.host_code.specs.Code.{CodeShape, halt, instruction_at, field_at, variable_at, entry_at}
use Rattle.host_code.specs.Thread.{ThreadShape, WaitingShape, Awaited}
use Rattle.host_code.specs.Thread.Awaited.{value_of_field, acknowledgement, token_of_entry}
use Rattle.entry_check.specs.declared.ask.Ask.TheVariants as ask
use Rattle.entry_check.specs.Checks.{May, MayRide}
use Rattle.host_core.specs.Host.{HostState, with_temporary, with_token}
use Rattle.net_world.specs.Flying.{Flight}
use Rattle.net_world.specs.Told.{token_in}
use Rattle.net_world.specs.World.{WorldShape, state_at, tokens_sent}
use Rattle.split_rules.specs.Positions.{Level, body, under}
use Rattle.split_shades.specs.Shades.{Shade, EntryShade}
use Rattle.seen_world.specs.Eyes.{Eyes, is_hidden, sees_at, sees_level, NamesHost}

-- ---- tokens

-- the token of this level, where it is that of an entry, is one of the entry and of its host
abbrev pub IsOfLevel : Eyes → Level → Token → Type 0
IsOfLevel eyes (body method) token = ⊤
IsOfLevel eyes (under number) token =
    (token.entry.0 ≡ number) × IsSomeAnd (entry_at eyes.code token.entry) (λ there. there.host ≡ token.host)

-- Where no misbehaving host may see the label of a level, the token of the level is one of an obeying host.
abbrev pub IsTokenOf : Eyes → Level → Token → Type 0
IsTokenOf eyes level token =
    sees_level eyes level ≡ false → (eyes.bad token.host ≡ false) × IsOfLevel eyes level token

-- an obeying host made the token for an entry that was pushed where no misbehaving host may see it
abbrev pub IsHiddenToken : Eyes → Token → Type 0
IsHiddenToken eyes token = (eyes.bad token.host ≡ false) × (is_hidden eyes token.entry.0 ≡ true)

-- The token may be held at a place. Where the block there may be seen, it is no hidden one.
abbrev pub MayHoldToken : Eyes → Shade → Token → Type 0
MayHoldToken eyes here token =
    IsTokenOf eyes here.level token × (eyes.sees here.block ≡ true → ¬ IsHiddenToken eyes token)

-- ---- threads and entries

-- A thread that runs has the temporaries of its place. It has made no frame but between the frame of a call and the
-- entering of the method.
pub record RunsWell (eyes : Eyes) (host : HostId) (thread : ThreadShape) : Type 0 where
  pub temps : length thread.temporaries ≡ length (eyes.shades.at host thread.at).temps
  pub frames : (eyes.shades.at host thread.at).calls ≡ false → thread.new_frame ≡ thread.frame
  pub holds : IfSome thread.held (MayHoldToken eyes (eyes.shades.at host thread.at))

-- A thread runs so once it has such an answer. The token that it is given may be held where it goes on.
abbrev pub AnsweredWell : Eyes → HostId → ThreadShape → Awaited → Type 0
AnsweredWell eyes host thread value_of_field = (value : ℤ) → RunsWell eyes host (with_temporary value thread)
AnsweredWell eyes host thread acknowledgement = RunsWell eyes host thread
AnsweredWell eyes host thread token_of_entry = (token : Token) →
    MayHoldToken eyes (eyes.shades.at host thread.at) token → RunsWell eyes host (with_token (Some token) thread)

-- this is the instruction at a place
abbrev pub IsInstructionAt : Eyes → HostId → ℕ → Op → Type 0
IsInstructionAt eyes host place it =
    (there : Instr) × (instruction_at eyes.code host place ≡ Some there) × (there.op ≡ it)

-- The instruction asks this host for such an answer. A result is given to the host of the token, which the instruction
-- does not name.
abbrev pub AsksFor : CodeShape → Op → Awaited → HostId → Type 0
AsksFor code (op.Read field index) awaited on = (awaited ≡ value_of_field) × NamesHost code (op.Read field index) on
AsksFor code (op.Put field index value) awaited on =
    (awaited ≡ acknowledgement) × NamesHost code (op.Put field index value) on
AsksFor code (op.Send x to) awaited on = (awaited ≡ acknowledgement) × (to ≡ on)
AsksFor code (op.Pass x to) awaited on = (awaited ≡ acknowledgement) × (to ≡ on)
AsksFor code (op.Ask there to) awaited on = (awaited ≡ token_of_entry) × (to ≡ on)
AsksFor code (op.Ret x value) awaited on = awaited ≡ acknowledgement
AsksFor code other awaited on = ⊥

-- the instruction at a place of a host asks another for such an answer
abbrev pub AsksAt : Eyes → HostId → ℕ → Awaited → HostId → Type 0
AsksAt eyes host place awaited on = (it : Op) × IsInstructionAt eyes host place it × AsksFor eyes.code it awaited on

-- A thread that waits goes on behind the instruction that asked.
abbrev pub WaitsWell : Eyes → HostId → WaitingShape → Type 0
WaitsWell eyes host waiting =
    (waiting.thread.at ≡ waiting.request.at + 1)
    × AnsweredWell eyes host waiting.thread waiting.awaited
    × AsksAt eyes host waiting.request.at waiting.awaited waiting.asked

-- An entry on the stack of a host stands there, with a token of its own, and keeps the token that was held where it was
-- pushed. Where it is not hidden, its block may be seen. Where its block may be seen, it keeps no hidden token. The
-- entry that ends the program belongs to no block.
pub record StandsWell (eyes : Eyes) (host : HostId) (entry : StackEntry) : Type 0 where
  pub shade : EntryShade
  pub is : slice_get eyes.shades.entries entry.entry.0 ≡ Some shade
  pub token_host : entry.token.host ≡ host
  pub token_entry : entry.token.entry ≡ entry.entry
  pub on_host : IsSomeAnd (entry_at eyes.code entry.entry) (λ there. there.host ≡ host)
  pub block : is_hidden eyes entry.entry.0 ≡ false → entry.entry ≢ halt → eyes.sees shade.block ≡ true
  pub kept : entry.entry ≢ halt → IsTokenOf eyes shade.level entry.kept
  pub open_kept : eyes.sees shade.block ≡ true → ¬ IsHiddenToken eyes entry.kept

-- the threads of a host, and the entries on its stack
pub record HostKeeps (eyes : Eyes) (host : HostId) (state : HostState) : Type 0 where
  pub running : IfSome state.running (RunsWell eyes host)
  pub waiting : All (WaitsWell eyes host) state.waiting
  pub entries : All (StandsWell eyes host) state.entries

-- those of each obeying host
abbrev pub HostsKeep : Eyes → WorldShape → Type 0
HostsKeep eyes world = (host : HostId) (state : HostState) → state_at world host ≡ Some state →
    HostKeeps eyes host state

-- ---- messages

-- a token may be held where an entry stands
pub record MayEnterWith (eyes : Eyes) (entry : EntryId) (token : Token) : Type 0 where
  pub shade : EntryShade
  pub is : slice_get eyes.shades.entries entry.0 ≡ Some shade
  pub level : IsTokenOf eyes shade.level token
  pub shown : eyes.sees shade.block ≡ true → ¬ IsHiddenToken eyes token

-- What is carried by a message that a host takes. An entry that is pushed on request stands in a block that may be
-- seen, if it is not hidden. A token that is given may be held behind the instruction that asked for it.
abbrev pub MessageCarriesWell : Eyes → HostId → Message → Type 0
MessageCarriesWell eyes to (message.Sync request frame entry token) =
    (may : MayEnterWith eyes entry token)
    × (is_hidden eyes entry.0 ≡ false → eyes.sees may.shade.block ≡ true)
MessageCarriesWell eyes to (message.Rgoto frame entry token) = MayEnterWith eyes entry token
MessageCarriesWell eyes to (message.RgotoWith frame entry token riders) = MayEnterWith eyes entry token
MessageCarriesWell eyes to (message.Token request token) = MayHoldToken eyes (eyes.shades.at to (request.at + 1)) token
MessageCarriesWell eyes to other = ⊤

-- A request names the instruction of its sender that sends it, for this field, variable or entry. An answer names an
-- instruction that asks its sender for such an answer.
abbrev pub IsAskedBy : Eyes → HostId → HostId → Message → Type 0
IsAskedBy eyes from to (message.Get request field index) =
    (at : List Node) × IsInstructionAt eyes from request.at (op.Read field at)
    × NamesHost eyes.code (op.Read field at) to
IsAskedBy eyes from to (message.Set request field index value) =
    (at : List Node) × (written : List Node) × IsInstructionAt eyes from request.at (op.Put field at written)
    × NamesHost eyes.code (op.Put field at written) to
IsAskedBy eyes from to (message.Forward request frame x value) =
    IsInstructionAt eyes from request.at (op.Send x to)
    ⊎ (IsInstructionAt eyes from request.at (op.Pass x to)
    ⊎ ((given : List Node) × IsInstructionAt eyes from request.at (op.Ret x given)))
IsAskedBy eyes from to (message.Sync request frame entry token) = IsInstructionAt eyes from request.at (op.Ask entry to)
IsAskedBy eyes from to (message.Value request value) = AsksAt eyes to request.at value_of_field from
IsAskedBy eyes from to (message.Ack request) = AsksAt eyes to request.at acknowledgement from
IsAskedBy eyes from to (message.Token request token) = AsksAt eyes to request.at token_of_entry from
IsAskedBy eyes from to other = ⊤

-- what holds of a message from an obeying host to another host
abbrev pub FliesWell : Eyes → HostId → HostId → Message → Type 0
FliesWell eyes from to said = IsAskedBy eyes from to said × MessageCarriesWell eyes to said

-- no hidden token is in a message
abbrev pub ShowsNoHidden : Eyes → Message → Type 0
ShowsNoHidden eyes said = IfSome (token_in said) (λ token. ¬ IsHiddenToken eyes token)

-- a message asks for the push of no hidden entry
abbrev pub AsksForNoHidden : Eyes → Message → Type 0
AsksForNoHidden eyes (message.Sync request frame entry token) = is_hidden eyes entry.0 ≡ false
AsksForNoHidden eyes other = ⊤

-- ---- labels of messages

-- the instruction at a place of a host has this label
abbrev pub HasLabelAt : Eyes → HostId → ℕ → ℕ → Type 0
HasLabelAt eyes host place label =
    (there : Instr) × (instruction_at eyes.code host place ≡ Some there) × (there.label ≡ label)

-- A message carries the label of the instruction that it names, a request that of one of its sender, and an answer that
-- of one of the host that it comes to. A message that hands control over names none, and carries the label of an
-- instruction of its sender that does so, with the same variables in the same order where values ride.
abbrev pub IsLabelledAs : Eyes → HostId → HostId → Message → ℕ → Type 0
IsLabelledAs eyes from to (message.Get request field index) label = HasLabelAt eyes from request.at label
IsLabelledAs eyes from to (message.Set request field index value) label = HasLabelAt eyes from request.at label
IsLabelledAs eyes from to (message.Forward request frame x value) label = HasLabelAt eyes from request.at label
IsLabelledAs eyes from to (message.Sync request frame entry token) label = HasLabelAt eyes from request.at label
IsLabelledAs eyes from to (message.Rgoto frame entry token) label =
    (place : ℕ) × (has : HasLabelAt eyes from place label)
    × ((has.0.op ≡ op.Go entry to) ⊎ (has.0.op ≡ op.Call entry to))
IsLabelledAs eyes from to (message.RgotoWith frame entry token riders) label =
    (place : ℕ) × (has : HasLabelAt eyes from place label)
    × ((has.0.op ≡ op.GoWith entry to (names_of riders)) ⊎ (has.0.op ≡ op.CallWith entry to (names_of riders)))
IsLabelledAs eyes from to (message.Lgoto token) label =
    (place : ℕ) × (has : HasLabelAt eyes from place label) × (has.0.op ≡ op.Back)
IsLabelledAs eyes from to (message.Value request value) label = HasLabelAt eyes to request.at label
IsLabelledAs eyes from to (message.Ack request) label = HasLabelAt eyes to request.at label
IsLabelledAs eyes from to (message.Token request token) label = HasLabelAt eyes to request.at label

-- ---- checks

-- a message whose check looks at nothing but the labels and trust of the code
abbrev pub IsCheckedByLabels : Message → Type 0
IsCheckedByLabels (message.Get request field index) = ⊤
IsCheckedByLabels (message.Set request field index value) = ⊤
IsCheckedByLabels (message.Forward request frame x value) = ⊤
IsCheckedByLabels (message.Sync request frame entry token) = ⊤
IsCheckedByLabels (message.Rgoto frame entry token) = ⊤
IsCheckedByLabels (message.RgotoWith frame entry token riders) = ⊤
IsCheckedByLabels other = ⊥

-- the host that a request comes to grants it
abbrev pub IsGrantedTo : Eyes → HostId → HostId → Message → Type 0
IsGrantedTo eyes from to (message.Get request field index) = May eyes.code to (ask.Get field) from
IsGrantedTo eyes from to (message.Set request field index value) = May eyes.code to (ask.Set field) from
IsGrantedTo eyes from to (message.Forward request frame x value) = May eyes.code to (ask.Forward x) from
IsGrantedTo eyes from to (message.Sync request frame entry token) = May eyes.code to (ask.Enter entry) from
IsGrantedTo eyes from to (message.Rgoto frame entry token) = May eyes.code to (ask.Enter entry) from
IsGrantedTo eyes from to (message.RgotoWith frame entry token riders) =
    May eyes.code to (ask.Enter entry) from × MayRide eyes.code to from (names_of riders)
IsGrantedTo eyes from to other = ⊤

-- ---- flights

-- An obeying host sent what is in flight, and a request is granted. Where the label that it carries may be seen,
-- nothing in it is hidden.
pub record IsInFlight (eyes : Eyes) (from to : HostId) (flight : Flight) : Type 0 where
  pub obeys : eyes.bad from ≡ false
  pub well : FliesWell eyes from to flight.message
  pub granted : IsGrantedTo eyes from to flight.message
  pub labelled : IsLabelledAs eyes from to flight.message flight.label
  pub shows : sees_at eyes flight.label ≡ true →
      ShowsNoHidden eyes flight.message × AsksForNoHidden eyes flight.message

-- the field that a message sets may not be seen, nor the variable, nor any of those whose values ride with it
abbrev pub SetsHidden : Eyes → Message → Type 0
SetsHidden eyes (message.Set request field index value) =
    IfSome (field_at eyes.code field) (λ there. sees_at eyes there.label ≡ false)
SetsHidden eyes (message.Forward request frame x value) =
    IfSome (variable_at eyes.code x) (λ there. sees_at eyes there.label ≡ false)
SetsHidden eyes (message.RgotoWith frame entry token riders) =
    AllByRecursion (λ rider. IfSome (variable_at eyes.code rider.0) (λ there. sees_at eyes there.label ≡ false)) riders
SetsHidden eyes other = ⊤

-- an entry stands in a block that may not be seen
abbrev pub IsDeepEntry : Eyes → ℕ → Type 0
IsDeepEntry eyes number =
    (it : EntryShade) × (slice_get eyes.shades.entries number ≡ Some it) × (eyes.sees it.block ≡ false)

-- the block may not be seen of the entry that a message pushes, or at which it hands control over
abbrev pub EntersHidden : Eyes → Message → Type 0
EntersHidden eyes (message.Sync request frame entry token) = IsDeepEntry eyes entry.0
EntersHidden eyes (message.Rgoto frame entry token) = IsDeepEntry eyes entry.0
EntersHidden eyes (message.RgotoWith frame entry token riders) = IsDeepEntry eyes entry.0
EntersHidden eyes other = ⊤

-- ---- worlds

-- What holds of a world, whatever misbehaving hosts sent. What is in flight was sent by obeying hosts, and misbehaving
-- hosts were sent no hidden token.
pub record PointsHold (eyes : Eyes) (world : WorldShape) : Type 0 where
  pub hosts : HostsKeep eyes world
  pub flying : (from to : HostId) → All (IsInFlight eyes from to) (world.flying from to)
  pub told : All (λ token. ¬ IsHiddenToken eyes token) (tokens_sent world)
