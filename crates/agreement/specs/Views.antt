-- What may be seen of a world: what of it depends on nothing that misbehaving hosts may not see.
use Rattle.std.specs.Prelude.{◌≡◌, ◌≢◌, ◌⊎◌, ℕ, zero, suc, ◌+◌, ℤ, pos, Bool, true, false, not, ◌==◌, if◌then◌else◌}
use Rattle.std.specs.Prelude.{nat_lt, List, [], ◌∷◌, length, map, filter, Option, Some, None, slice_get, slice_index}
use Rattle.std.specs.Option.{option_map}
use Rattle.js_base.specs.declared.ids.HostId.{HostId}
use Rattle.js_base.specs.declared.ids.FieldId.{FieldId}
use Rattle.js_base.specs.declared.ids.FrameId.{FrameId}
use Rattle.js_base.specs.declared.ids.VarId.{VarId}
use Rattle.js_base.specs.declared.ids.RequestId.{RequestId}
use Rattle.label_lattice.specs.declared.label.Label.{Label}
use Rattle.jif_tree.specs.Store.{row_of}
use Rattle.capability.specs.declared.token.Token.{Token}
use Rattle.ics_stack.specs.declared.stack.StackEntry.{StackEntry}
use Rattle.host_code.specs.declared.code.Entry.{Entry}
use Rattle.host_code.specs.declared.message.Message.{Message}
use Rattle.host_code.specs.declared.message.Message.TheVariants as message
use Rattle.host_code.specs.Riders.{Rider}
use Rattle.host_code.specs.Code.{CodeFieldShape, CodeVariableShape, halt, part_of, field_at, variable_at, entry_at}
use Rattle.host_code.specs.Thread.{ThreadShape, WaitingShape}
use Rattle.host_core.specs.Host.{HostState}
use Rattle.net_world.specs.Flying.{Flight}
use Rattle.net_world.specs.Told.{SentMessage}
use Rattle.net_world.specs.World.{WorldShape, state_at}
use Rattle.seen_world.specs.Eyes.{Eyes, sees_at, is_open, is_deep, is_hidden}

-- What may be seen of a host. Where something may not be seen, its place has anything.
pub record HostView : Type 0 where
  pub key : List ℕ
  pub rows : ℕ → List ℤ
  pub variables : FrameId → VarId → ℤ
  -- one, and one more where one is owed that has not come yet
  pub running : List ThreadShape
  pub waiting : List WaitingShape
  pub entries : List StackEntry
  pub serials : ℕ → ℕ
  pub frames : ℕ → ℕ
  pub requests : ℕ → ℕ

pub record LowView : Type 0 where
  pub hosts : HostId → HostView
  pub flying : HostId → HostId → List Flight
  pub sent : List SentMessage

-- ---- values

-- 0 for what may not be seen
abbrev pub masked : Bool → ℤ → ℤ
masked seen value = if seen then value else pos 0

-- each value under its label
abbrev pub masked_all : Eyes → List Label → List ℤ → List ℤ
masked_all eyes [] values = []
masked_all eyes (label ∷ labels) [] = []
masked_all eyes (label ∷ labels) (value ∷ values) = masked (eyes.sees label) value ∷ masked_all eyes labels values

abbrev pub sees_field : Eyes → FieldId → Bool
sees_field eyes field = of (field_at eyes.code field)
  where
    of : Option CodeFieldShape → Bool
    of None = false
    of (Some there) = sees_at eyes there.label

abbrev pub sees_variable : Eyes → VarId → Bool
sees_variable eyes x = of (variable_at eyes.code x)
  where
    of : Option CodeVariableShape → Bool
    of None = false
    of (Some there) = sees_at eyes there.label

-- ---- threads

abbrev pub thread_view : Eyes → HostId → ℕ → ThreadShape → ThreadShape
thread_view eyes host place thread =
    record thread { temporaries = masked_all eyes (eyes.shades.at host place).temps thread.temporaries }

abbrev pub shown_thread : Eyes → HostId → ThreadShape → List ThreadShape
shown_thread eyes host thread =
    if is_open eyes host thread.at then thread_view eyes host thread.at thread ∷ [] else []

abbrev pub running_view : Eyes → HostId → Option ThreadShape → List ThreadShape
running_view eyes host None = []
running_view eyes host (Some thread) = shown_thread eyes host thread

-- A thread that waits is kept as it goes on. Where it waits is told by its request.
abbrev pub waits_open : Eyes → HostId → WaitingShape → Bool
waits_open eyes host waiting = is_open eyes host waiting.request.at

abbrev pub waiter_view : Eyes → HostId → WaitingShape → WaitingShape
waiter_view eyes host waiting =
    record waiting { thread = thread_view eyes host waiting.request.at waiting.thread }

abbrev pub waiting_view : Eyes → HostId → List WaitingShape → List WaitingShape
waiting_view eyes host waiting = map (waiter_view eyes host) (filter (waits_open eyes host) waiting)

-- ---- messages

abbrev pub last_seen : Eyes → List Label → Bool
last_seen eyes [] = false
last_seen eyes (label ∷ []) = eyes.sees label
last_seen eyes (first ∷ label ∷ labels) = last_seen eyes (label ∷ labels)

-- What is read is the last temporary behind the read that a request names.
abbrev pub sees_read : Eyes → HostId → RequestId → Bool
sees_read eyes host request = last_seen eyes (eyes.shades.at host (request.at + 1)).temps

-- each value that rides under the label of its variable; which variables ride is seen
abbrev pub riders_view : Eyes → List Rider → List Rider
riders_view eyes riders = map (λ rider. (rider.0, masked (sees_variable eyes rider.0) rider.1)) riders

abbrev pub message_view : Eyes → HostId → HostId → Message → Message
message_view eyes from to (message.Get request field index) =
    message.Get request field (masked (sees_read eyes from request) index)
message_view eyes from to (message.Value request value) =
    message.Value request (masked (sees_read eyes to request) value)
message_view eyes from to (message.Set request field index value) =
    message.Set request field (masked (sees_field eyes field) index) (masked (sees_field eyes field) value)
message_view eyes from to (message.Forward request frame x value) =
    message.Forward request frame x (masked (sees_variable eyes x) value)
message_view eyes from to (message.RgotoWith frame entry token riders) =
    message.RgotoWith frame entry token (riders_view eyes riders)
message_view eyes from to other = other

abbrev pub flies_open : Eyes → Flight → Bool
flies_open eyes flight = sees_at eyes flight.label

abbrev pub flight_view : Eyes → HostId → HostId → Flight → Flight
flight_view eyes from to flight = record flight { message = message_view eyes from to flight.message }

abbrev pub flights_view : Eyes → HostId → HostId → List Flight → List Flight
flights_view eyes from to flights = map (flight_view eyes from to) (filter (flies_open eyes) flights)

-- ---- stacks

abbrev pub is_shown : Eyes → StackEntry → Bool
is_shown eyes entry = not (is_hidden eyes entry.entry.0)

-- ---- worlds

-- This is what may be seen of a host: fields, variables and counts where they may be seen, and the threads and entries
-- that may be seen, in order.
pub record ShowsHost (eyes : Eyes) (host : HostId) (state : HostState) (view : HostView) : Type 0 where
  pub key : state.key ≡ view.key
  pub rows : (field : FieldId) → sees_field eyes field ≡ true → row_of state.rows field.0 ≡ view.rows field.0
  pub variables : (frame : FrameId) (x : VarId) → sees_variable eyes x ≡ true →
      state.variables frame x ≡ view.variables frame x
  pub running : running_view eyes host state.running ≡ view.running
  pub waiting : waiting_view eyes host state.waiting ≡ view.waiting
  pub entries : filter (is_shown eyes) state.entries ≡ view.entries
  pub serials : (number : ℕ) → is_hidden eyes number ≡ false → slice_index state.serials number ≡ view.serials number
  pub frames : (site : ℕ) (label : Label) → slice_get eyes.scene.sites site ≡ Some label → eyes.sees label ≡ true →
      slice_index state.frames site ≡ view.frames site
  pub requests : (place : ℕ) → is_open eyes host place ≡ true →
      slice_index state.requests place ≡ view.requests place

-- This is what may be seen of a world, with no look at what goes on unseen.
pub record Shows (eyes : Eyes) (world : WorldShape) (view : LowView) : Type 0 where
  pub hosts : (host : HostId) (state : HostState) → state_at world host ≡ Some state →
      ShowsHost eyes host state (view.hosts host)
  pub flying : (from to : HostId) → flights_view eyes from to (world.flying from to) ≡ view.flying from to
  pub sent : world.sent ≡ view.sent

-- ---- where it goes on in the open

-- where it goes on behind a place that may not be seen of the guard of a loop, which leads there: behind the loop
abbrev pub guard_passed : Bool → Option ℕ → Option ℕ
guard_passed true exit = None
guard_passed false exit = exit

-- of a place of code
abbrev pub passed_to : Eyes → HostId → ℕ → Option ℕ
passed_to eyes host place =
    if nat_lt place (length (part_of eyes.code host))
    then guard_passed (is_open eyes host place)
    (option_map (eyes.shades.exits host) (eyes.shades.at host place).guard)
    else None

abbrev pub followed : (ℕ → ℕ) → ℕ → Option ℕ → ℕ
followed on place None = place
followed on place (Some next) = on next

-- The place at which it goes on in the open, behind all loops whose guards may not be seen. At most so many are passed.
abbrev pub exit_within : ℕ → Eyes → HostId → ℕ → ℕ
exit_within zero eyes host place = place
exit_within (suc more) eyes host place =
    followed (λ next. exit_within more eyes host next) place (passed_to eyes host place)

abbrev pub exit_of : Eyes → HostId → ℕ → ℕ
exit_of eyes host place = exit_within (length (part_of eyes.code host)) eyes host place

-- ---- what is owed

abbrev pub with_host : LowView → HostId → HostView → LowView
with_host view host now = record view { hosts = λ other. if other.0 == host.0 then now else view.hosts other }

-- a thread that goes on in the open
abbrev pub thread_out : ℕ → FrameId → Token → ThreadShape
thread_out place frame token =
    record { at = place; frame = frame; new_frame = frame; temporaries = []; held = Some token }

-- one more thread goes on in the open
abbrev pub host_with_thread : HostView → ThreadShape → HostView
host_with_thread view thread = record view { running = thread ∷ view.running }

abbrev pub with_thread : LowView → HostId → ℕ → FrameId → Token → LowView
with_thread view host place frame token =
    with_host view host (host_with_thread (view.hosts host) (thread_out place frame token))

-- A host whose top entry was taken off. Its thread goes on, behind loops whose guards may not be seen, and that of the
-- entry that ends the program does not.
abbrev pub thread_popped : Eyes → HostId → StackEntry → Option Entry → HostView → HostView
thread_popped eyes host top None view = view
thread_popped eyes host top (Some there) view =
    if top.entry.0 == halt.0
    then view
    else host_with_thread view (thread_out (exit_of eyes host there.at) top.frame top.kept)

abbrev pub host_popped : Eyes → HostId → StackEntry → List StackEntry → HostView → HostView
host_popped eyes host top below view =
    thread_popped eyes host top (entry_at eyes.code top.entry) (record view { entries = below })

-- A token is given back to the host that it names. Where it is not that of the top entry, that has no effect.
abbrev pub GivenBack : Eyes → LowView → Token → List StackEntry → LowView → Type 0
GivenBack eyes view token [] after = after ≡ view
GivenBack eyes view token (top ∷ below) after =
    ((top.token ≡ token)
    × (after ≡ with_host view token.host (host_popped eyes token.host top below (view.hosts token.host))))
    ⊎ ((top.token ≢ token) × (after ≡ view))

-- where it goes on unseen: at a place of a host, in a frame and with a token, or with a token that is given back
pub data Spot : Type 0 where
  nowhere : Spot
  at : HostId → ℕ → FrameId → Token → Spot
  given_back : Token → Spot

-- what comes into the open in the end
pub data OwedInView : Type 0 where
  nothing : OwedInView
  goes_on : HostId → ℕ → FrameId → Token → OwedInView
  gives : Token → OwedInView

-- In a block that may not be seen, the token is given back in the end. At the guard of a loop it goes on behind the
-- loop.
abbrev pub owed_at : Eyes → Spot → OwedInView
owed_at eyes nowhere = nothing
owed_at eyes (given_back token) = gives token
owed_at eyes (at host place frame token) =
    if is_deep eyes host place then gives token else goes_on host (exit_of eyes host place) frame token

-- This is seen once all is done that is owed, if that comes to an end.
abbrev pub Completed : Eyes → OwedInView → LowView → LowView → Type 0
Completed eyes nothing view after = after ≡ view
Completed eyes (goes_on host place frame token) view after = after ≡ with_thread view host place frame token
Completed eyes (gives token) view after = GivenBack eyes view token (view.hosts token.host).entries after
