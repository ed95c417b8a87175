-- The record of each event of a run: what it was, and what is to be seen of it.
--
-- A row is told from the world before its event and the world after it. Only the host of the event changes, so a row
-- has no more than that one's threads.
use Rattle.std.specs.Prelude.{◌≡◌, ◌⊎◌, ◌↔◌, ◌+◌, ℕ, Bool, false, IsTrue, List, [], ◌∷◌, ◌++◌, length}
use Rattle.std.specs.Prelude.{⊤, Option, Some, None, IsSome, IsSomeAnd, is_some, nat_lt, slice_get, if◌then◌else◌}
use Rattle.std.specs.Option.{option_map}
use Rattle.js_base.specs.declared.ids.HostId.{HostId}
use Rattle.capability.specs.declared.token.Token.{Token}
use Rattle.ics_stack.specs.Stack.{top_token}
use Rattle.host_code.specs.declared.instruction.Op.{Op}
use Rattle.host_code.specs.declared.instruction.Op.TheVariants as op
use Rattle.host_code.specs.Messages.{MessageFits}
use Rattle.host_code.specs.Code.{CodeShape, instruction_at}
use Rattle.host_code.specs.declared.message.Message.{Message}
use Rattle.host_core.specs.Host.{HostState}
use Rattle.host_core.specs.Taking.{PassesCheck}
use Rattle.event_text.specs.declared.event.Event.{Event}
use Rattle.event_text.specs.declared.event.Event.TheVariants.{Take, Turn, Act}
use Rattle.net_world.specs.Told.{SentMessage, message_made}
use Rattle.net_world.specs.World.{WorldShape, IsStep, state_at, tokens_sent, has_halted, mover}
use Rattle.ignored_reasons.specs.declared.why.Why.{Why}
use Rattle.ignored_reasons.specs.declared.why.Why.TheVariants as why
use Rattle.ignored_reasons.specs.Reasons.{IsWhy}
use Rattle.run_rows.specs.Senders.{IsPosting, no_senders, sender_of, senders_after}
use Rattle.run_rows.specs.Stacks.{HasChanged, entries_in}
use Rattle.run_rows.specs.declared.row.Row.{Row}
use Rattle.run_rows.specs.declared.row.What.{What}
use Rattle.run_rows.specs.declared.row.What.TheVariants as what
use Rattle.run_rows.specs.declared.seen.Seen.{Seen}
use Rattle.run_rows.specs.declared.seen.Before.{Before}

-- ---- what an event was

-- the place of the instruction that runs, the message that is in flight, or what the misbehaving host makes
abbrev pub IsWhat : WorldShape → Event → What → Type 0
IsWhat world (Turn host) found =
    IsSomeAnd (state_at world host) (λ state.
    IsSomeAnd state.running (λ thread. found ≡ what.Turn host thread.at))
IsWhat world (Take from to place) found =
    IsSomeAnd (slice_get (world.flying from to) place) (λ flight. found ≡ what.Take from to flight.message)
IsWhat world (Act from to made) found = found ≡ what.Act from to made

-- the instruction that ran is there, and so is what a message names that was in flight
abbrev pub WhatFits : CodeShape → What → Type 0
WhatFits code (what.Turn host at) = IsSome (instruction_at code host at)
WhatFits code (what.Take from to taken) = MessageFits code taken
WhatFits code (what.Act from to made) = ⊤

-- ---- what was ignored

-- the thread gives its token back on its own host, where it is not that of the top entry
abbrev pub GivesWrong : HostState → Op → Option Token → Type 0
GivesWrong host op.Back (Some held) = (held.host.0 ≡ host.me.0) × ¬ (top_token host.entries ≡ Some held)
GivesWrong host operation held = ⊥

-- the running thread of a host does so at its turn
abbrev pub TurnsWrong : CodeShape → HostState → Type 0
TurnsWrong code host =
    IsSomeAnd host.running (λ thread.
    IsSomeAnd (instruction_at code host.me thread.at) (λ instruction. GivesWrong host instruction.op thread.held))

-- A message that is taken is ignored for the first part of its check that is false, and a turn for its token.
abbrev pub IsIgnoring : CodeShape → WorldShape → Event → Option Why → Type 0
IsIgnoring code world (Turn host) found =
    IsSomeAnd (state_at world host) (λ state.
    (TurnsWrong code state × (found ≡ Some why.NotOnTop)) ⊎ (¬ TurnsWrong code state × (found ≡ None)))
IsIgnoring code world (Take from to place) found =
    IsSomeAnd (slice_get (world.flying from to) place) (λ flight.
    IsSomeAnd (state_at world to) (λ state. IsWhy code state from flight.message found))
IsIgnoring code world (Act from to made) found =
    IsSomeAnd (message_made (tokens_sent world) made) (λ message.
    IsSomeAnd (state_at world to) (λ state. IsWhy code state from message found))

-- ---- what misbehaving hosts were sent

-- the number of the one message that is sent to them in an event, if one is
abbrev pub IsTelling : (before after : List SentMessage) → Option ℕ → Type 0
IsTelling before after None = after ≡ before
IsTelling before after (Some number) =
    (letter : SentMessage) × (after ≡ before ++ letter ∷ []) × (number ≡ length before)

-- ---- the threads of a host

abbrev pub runs_in : Option HostState → Bool
runs_in None = false
runs_in (Some host) = is_some host.running

abbrev pub waits_in : Option HostState → Bool
waits_in None = false
waits_in (Some host) = nat_lt 0 (length host.waiting)

-- ---- a row

-- this is the row of an event with its line, which happens in a world and leaves the next
pub record IsRunRow (code : CodeShape) (world : WorldShape) (said : ℕ × Event) (next : WorldShape) (row : Row) :
    Type 0 where
  pub line : row.line ≡ said.0
  pub what : IsWhat world said.1 row.what
  pub ignored : IsIgnoring code world said.1 row.ignored
  pub told : IsTelling world.sent next.sent row.told
  pub change : HasChanged (entries_in (state_at world (mover said.1))) (entries_in (state_at next (mover said.1)))
      row.change
  pub halts : IsTrue row.halts ↔ (has_halted code.root next × ¬ has_halted code.root world)
  pub runs : row.runs ≡ runs_in (state_at next (mover said.1))
  pub waits : row.waits ≡ waits_in (state_at next (mover said.1))

-- ---- a run

-- A moment of a run: the world, the numbers of the events that sent what is in flight, and how many events happened.
pub record Moment : Type 0 where
  pub world : WorldShape
  pub senders : List (List ℕ)
  pub count : ℕ

-- the event sent a message that is in flight now to this host, and what it took was sent by the event of this number
pub record IsSending (at : Moment) (event : Event) (next : WorldShape) (row : Row) : Type 0 where
  pub posts : IsPosting at.world event next row.posts
  pub sent_by : row.sent_by ≡ sender_of at.senders event

-- the moment after an event, which left this world, and sent a message that is in flight, if it sent one
abbrev pub moment_after : Moment → Event → WorldShape → Option HostId → Moment
moment_after at event next posts =
    record { world = next; senders = senders_after at.senders event posts at.count; count = at.count + 1 }

-- nothing has happened, and nothing is in flight
abbrev pub first_moment : WorldShape → Moment
first_moment world = record { world = world; senders = no_senders; count = 0 }

-- events with their lines happen one after the other, these are their rows, one for each in order, and this is the
-- moment that they lead to
abbrev pub IsPictured : CodeShape → Moment → List (ℕ × Event) → List Row → Moment → Type 0
IsPictured code at [] rows last = (rows ≡ []) × (at ≡ last)
IsPictured code at (one ∷ said) rows last =
    (next : WorldShape) × (row : Row) × (others : List Row)
    × IsStep code at.world one.1 next × IsRunRow code at.world one next row × IsSending at one.1 next row
    × (rows ≡ row ∷ others) × IsPictured code (moment_after at one.1 next row.posts) said others last

-- ---- in the program

-- the place of the next instruction of a host
abbrev pub place_in : Option HostState → Option ℕ
place_in None = None
place_in (Some host) = option_map (λ thread. thread.at) host.running

abbrev pub seen_in : Option HostState → Seen
seen_in None = record { ignored = 0; depth = 0; runs = false; waits = false }
seen_in (Some host) =
    record {
      ignored = host.ignored;
      depth = length host.entries;
      runs = is_some host.running;
      waits = nat_lt 0 (length host.waiting);
    }

-- this is what is seen before an event, with this root host
pub record IsSeenBefore (root : HostId) (world : WorldShape) (event : Event) (before : Before) : Type 0 where
  pub what : IsWhat world event before.what
  pub host : before.host ≡ seen_in (state_at world (mover event))
  pub sent : before.sent ≡ length world.sent
  pub halted : IsTrue before.halted ↔ has_halted root world

-- This is why an event was ignored that passes or does not: a turn for its token, and what is taken for the first part
-- of its check that is false, whatever the state of the host, where this says whether it passes.
abbrev pub IsReason : CodeShape → What → Bool → Option Why → Type 0
IsReason code (what.Turn host at) passes found = found ≡ (if passes then None else Some why.NotOnTop)
IsReason code (what.Take from to taken) passes found =
    (host : HostState) → host.me ≡ to → (IsTrue passes ↔ PassesCheck code host from taken) →
    IsWhy code host from taken found
IsReason code (what.Act from to made) passes found =
    (host : HostState) (taken : Message) (tokens : List Token) → host.me ≡ to → message_made tokens made ≡ Some taken →
    (IsTrue passes ↔ PassesCheck code host from taken) → IsWhy code host from taken found
