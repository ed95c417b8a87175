-- What requests, answers and results in flight bring about where they are taken, what a thread takes along that is
-- handed over, and what is left where one ends.
--
-- What was done is counted where it shows. An assignment to a field of another host is a step of the plain run when its
-- host takes the message, and neither when it is sent nor when it is acknowledged. So is a result that is given back to
-- another host: its step is made when the host of the caller takes the forward that brings it. All else is a step at
-- its own instruction.
--
-- What is still to be sent stays so while it rides, up to where its message is taken. So the view of a message in
-- flight that hands a thread over is that from before, and no world stands between two values that ride.
use Rattle.std.specs.Prelude.{◌≡◌, ◌⊎◌, ℕ, ◌<◌, ℤ, true, List, [], ◌∷◌, length, Some, slice_get}
use Rattle.std.specs.List.{AllByRecursion}
use Rattle.js_base.specs.declared.ids.HostId.{HostId}
use Rattle.js_base.specs.declared.ids.FieldId.{FieldId}
use Rattle.js_base.specs.declared.ids.FrameId.{FrameId}
use Rattle.js_base.specs.declared.ids.VarId.{VarId}
use Rattle.jif_tree.specs.SourceRun as source
use Rattle.jif_tree.specs.Altered.{FieldIsAffected, MayRead, MayStep}
use Rattle.jif_tree.specs.SourceRun.{Configuration}
use Rattle.jif_tree.specs.Store.{element_at, row_of, store_after_write}
use Rattle.ics_stack.specs.Stack.{top_token}
use Rattle.host_code.specs.declared.code.Entry.{Entry}
use Rattle.host_code.specs.declared.message.Message.{Message}
use Rattle.host_code.specs.declared.message.Message.TheVariants as message
use Rattle.host_code.specs.Code.{CodeShape, CodeFieldShape, field_at, variable_at, entry_at}
use Rattle.host_code.specs.Riders.{names_of}
use Rattle.host_code.specs.Sound.{IsEntryOn}
use Rattle.host_code.specs.Thread.{ThreadShape, WaitingShape}
use Rattle.host_code.specs.Thread.Awaited.{value_of_field, acknowledgement, token_of_entry}
use Rattle.entry_check.specs.declared.ask.Ask.TheVariants as ask
use Rattle.entry_check.specs.Checks.{May, MayRide}
use Rattle.host_core.specs.Host.{with_temporary, with_token, thread_at}
use Rattle.host_core.specs.Turn.{MayReturn}
use Rattle.msg_cost.specs.Terms.{reads_on}
use Rattle.split_rules.specs.Handing.{Arrival}
use Rattle.split_rules.specs.Positions.{IsOut, without_forward}
use Rattle.split_rules.specs.Typing.{RidesAll}
use Rattle.typed_steps.specs.Values.{AreAlike}
use Rattle.typed_steps.specs.Views.{Split, Link, entries_of, View, values_set, with_chain, with_out}
use Rattle.typed_steps.specs.Chains.{level_at, chain_due, FitsOver}
use Rattle.typed_steps.specs.Threads.{IsLeft, NoneKept, IsAt}

-- the field of the code is on the host
pub record FieldIsOn (code : CodeShape) (field : FieldId) (host : HostId) : Type 0 where
  pub there : CodeFieldShape
  pub is : field_at code field ≡ Some there
  pub on_host : there.host ≡ host

-- a step of the plain run, by what its readings may give
abbrev pub Does : Split → Configuration → Configuration → Type 0
Does split c now = MayStep split.program split.exposure c c.pending now

-- a field's element is written, and the thread goes on
pub record SetsField (split : Split) (c : Configuration) (view : View) (host : HostId) (thread : ThreadShape)
    (field : FieldId) (place value : ℤ) : Type 0 where
  pub now : Configuration
  pub does : Does split c now
  pub store : now.store ≡ store_after_write c.store field.0 place value
  pub calls : now.calls ≡ c.calls
  pub plainly : NoneKept now
  pub at : IsAt split now view host thread

-- What a request is to bring about. A get brings what may be read of the element; what a set does is the next step of
-- the plain run; a variable that is forwarded is the call's, or may be affected; a sync puts an entry in front of the
-- chain.
abbrev pub IsRequest : Split → Configuration → View → HostId → HostId → WaitingShape → Message → Type 0
IsRequest split c view holder owner waiting (message.Get request field place) =
    (waiting.awaited ≡ value_of_field) × (waiting.request ≡ request)
    × May split.code owner (ask.Get field) holder × FieldIsOn split.code field owner
    × ((value : ℤ) → MayRead (FieldIsAffected split.exposure field) (element_at (row_of c.store field.0) place) value →
    IsAt split c view holder (with_temporary value waiting.thread))
IsRequest split c view holder owner waiting (message.Set request field place value) =
    (waiting.awaited ≡ acknowledgement) × (waiting.request ≡ request)
    × May split.code owner (ask.Set field) holder × FieldIsOn split.code field owner
    × SetsField split c view holder waiting.thread field place value
IsRequest split c view holder owner waiting (message.Forward request frame x value) =
    (waiting.awaited ≡ acknowledgement) × (waiting.request ≡ request)
    × May split.code owner (ask.Forward x) holder × (frame ≡ view.naming.frame view.sender)
    × AreAlike split.exposure x value (view.values view.sender x.0) × (view.sender < view.naming.count) × NoneKept c
    × IsOut view.out x owner
    × IsAt split c (with_out view (without_forward x owner view.out)) holder waiting.thread
IsRequest split c view holder owner waiting (message.Sync request frame entry token) =
    (waiting.awaited ≡ token_of_entry) × (waiting.request ≡ request)
    × May split.code owner (ask.Enter entry) holder × IsEntryOn split.code owner entry
    × (top_token (entries_of view.chain) ≡ Some token)
    × (call : ℕ) × (frame ≡ view.naming.frame call) × (call < view.naming.count)
    × FitsOver split view.naming (level_at (slice_get split.table.entries entry.0)) call view.chain
    × ((link : Link) → link.entry.entry ≡ entry → link.call ≡ call →
    IsAt split c (with_chain view (link ∷ view.chain)) holder (with_token (Some link.entry.token) waiting.thread))
IsRequest split c view holder owner waiting other = ⊥

abbrev pub IsAnswerTo : Split → Configuration → View → HostId → WaitingShape → Message → Type 0
IsAnswerTo split c view holder waiting (message.Value request value) =
    (waiting.awaited ≡ value_of_field) × (waiting.request ≡ request)
    × IsAt split c view holder (with_temporary value waiting.thread)
IsAnswerTo split c view holder waiting (message.Ack request) =
    (waiting.awaited ≡ acknowledgement) × (waiting.request ≡ request) × IsAt split c view holder waiting.thread
IsAnswerTo split c view holder waiting (message.Token request token) =
    (waiting.awaited ≡ token_of_entry) × (waiting.request ≡ request)
    × IsAt split c view holder (with_token (Some token) waiting.thread)
IsAnswerTo split c view holder waiting other = ⊥

-- A result is given back to the call that made this one: a step sets it, where the call's entry stands.
pub record GivesResult (split : Split) (c : Configuration) (view : View) (host : HostId) (thread : ThreadShape)
    (frame : FrameId) (x : VarId) (value : ℤ) (to : HostId) : Type 0 where
  pub now : Configuration
  pub does : Does split c now
  pub none_out : view.out ≡ []
  pub store : now.store ≡ c.store
  pub caller : ℕ
  pub made : caller < length c.calls
  pub frame_is : frame ≡ view.naming.frame caller
  pub calls : now.calls ≡ source.calls_after c.calls caller x.0 value
  pub unread : (other : ℕ) → reads_on split.planned x other ≡ true → ⊥
  pub into : VarId
  pub behind : List source.Item
  pub pending : now.pending ≡ source.keep caller into x ∷ behind
  pub sees : MayReturn split.code (variable_at split.code x) to
  pub at : IsAt split now (record view { values = values_set view.values caller x.0 value; keeper = to }) host thread

-- ---- where a thread is handed over

-- All that is still to be sent rides to this host, in the frame of its call. The values are those of the call, but for
-- variables that may be affected.
pub record RidesOut (split : Split) (c : Configuration) (view : View) (to : HostId) (arrival : Arrival) : Type 0 where
  pub all : RidesAll (names_of arrival.riders) to view.out
  pub alike : AllByRecursion (λ rider. AreAlike split.exposure rider.0 rider.1 (view.values view.sender rider.0.0))
      arrival.riders
  pub settled : (view.out ≡ []) ⊎ NoneKept c
  pub frame_is : arrival.frame ≡ view.naming.frame view.sender
  pub known : view.sender < view.naming.count

-- The token goes from a host to an entry of another. The thread goes on there, and nothing is still to be sent, once
-- what rides is taken.
pub record GoesTo (split : Split) (c : Configuration) (view : View) (from to : HostId) (arrival : Arrival) : Type 0
  where
    pub there : Entry
    pub found : entry_at split.code arrival.entry ≡ Some there
    pub may : May split.code to (ask.Enter arrival.entry) from × MayRide split.code to from (names_of arrival.riders)
    pub rides : RidesOut split c view to arrival
    pub at : IsAt split c (with_out view []) to (thread_at there arrival.frame arrival.token)

-- ---- where a thread ends

-- what is to be seen where a thread starts for a call
abbrev pub starting : View → List Link → ℕ → View
starting view chain call = record view { chain = chain; out = []; sender = call }

-- nothing is left of a thread but what is due behind the chain
pub record GivesUp (split : Split) (c : Configuration) (view : View) : Type 0 where
  pub none_out : view.out ≡ []
  pub count : view.naming.count ≡ length c.calls
  pub left : IsLeft split c view.keeper (chain_due split view.chain)
