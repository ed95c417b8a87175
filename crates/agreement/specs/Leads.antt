-- A world in which at most one thing goes on unseen, and what will be seen of it once that comes to an end.
use Rattle.std.specs.Prelude.{◌≡◌, ◌⊎◌, true, false, not, ◌==◌, ◌&&◌, if◌then◌else◌, List, [], ◌∷◌, ◌++◌, filter}
use Rattle.std.specs.Prelude.{Option, Some, None, IsSome, ⊤}
use Rattle.js_base.specs.declared.ids.HostId.{HostId}
use Rattle.capability.specs.declared.token.Token.{Token}
use Rattle.ics_stack.specs.declared.stack.StackEntry.{StackEntry}
use Rattle.host_code.specs.declared.code.Entry.{Entry}
use Rattle.host_code.specs.declared.message.Message.{Message}
use Rattle.host_code.specs.declared.message.Message.TheVariants as message
use Rattle.host_code.specs.Code.{entry_at}
use Rattle.host_code.specs.Thread.{ThreadShape, WaitingShape}
use Rattle.host_core.specs.Host.{HostState}
use Rattle.net_world.specs.Flying.{Flight}
use Rattle.net_world.specs.World.{WorldShape, state_at}
use Rattle.token_laws.specs.Requests.{number_asked, number_answered}
use Rattle.seen_world.specs.Eyes.{Eyes, is_open, is_deep, is_hidden}
use Rattle.seen_world.specs.Points.{IsHiddenToken}
use Rattle.agreement.specs.Views.{LowView, Shows, Spot, nowhere, at, given_back, OwedInView, nothing, goes_on, gives}
use Rattle.agreement.specs.Views.{owed_at}
use Rattle.agreement.specs.Views.{Completed, waits_open, flies_open, is_shown}

-- ---- what goes on unseen

-- A thread that runs on a host; one that waits there, with its request or the answer in flight from a host to a host;
-- or a message in flight that hands control over.
pub data UnseenHolder : Type 0 where
  nobody : UnseenHolder
  runs : HostId → ThreadShape → UnseenHolder
  waits : HostId → WaitingShape → HostId → HostId → Flight → UnseenHolder
  flies : HostId → HostId → Flight → UnseenHolder

-- what of it is on a host, or in flight from a host to a host
abbrev pub runs_on : UnseenHolder → HostId → Option ThreadShape
runs_on (runs host thread) other = if other.0 == host.0 then Some thread else None
runs_on holder other = None

abbrev pub waits_on : UnseenHolder → HostId → List WaitingShape
waits_on (waits host waiting from to flight) other = if other.0 == host.0 then waiting ∷ [] else []
waits_on holder other = []

abbrev pub flies_on : UnseenHolder → HostId → HostId → List Flight
flies_on (waits host waiting from to flight) i j = if i.0 == from.0 && j.0 == to.0 then flight ∷ [] else []
flies_on (flies from to flight) i j = if i.0 == from.0 && j.0 == to.0 then flight ∷ [] else []
flies_on holder i j = []

-- an entry that is hidden, on its host
pub record HiddenEntry : Type 0 where
  pub host : HostId
  pub entry : StackEntry

abbrev pub links_on : HostId → List HiddenEntry → List StackEntry
links_on host [] = []
links_on host (link ∷ links) =
    if host.0 == link.host.0 then link.entry ∷ links_on host links else links_on host links

-- the thread that runs, if it may not be seen
abbrev pub hidden_thread : Eyes → HostId → ThreadShape → Option ThreadShape
hidden_thread eyes host thread = if is_open eyes host thread.at then None else Some thread

abbrev pub hidden_running : Eyes → HostId → Option ThreadShape → Option ThreadShape
hidden_running eyes host None = None
hidden_running eyes host (Some thread) = hidden_thread eyes host thread

abbrev pub hidden_waiting : Eyes → HostId → List WaitingShape → List WaitingShape
hidden_waiting eyes host waiting = filter (λ one. not (waits_open eyes host one)) waiting

abbrev pub hidden_flights : Eyes → List Flight → List Flight
hidden_flights eyes flights = filter (λ flight. not (flies_open eyes flight)) flights

-- On a host nothing goes on unseen but this, and its hidden entries are those of the chain, above all others.
pub record Hides (eyes : Eyes) (holder : UnseenHolder) (links : List HiddenEntry) (host : HostId) (state : HostState) :
    Type 0 where
  pub running : hidden_running eyes host state.running ≡ runs_on holder host
  pub waiting : hidden_waiting eyes host state.waiting ≡ waits_on holder host
  pub entries : state.entries ≡ links_on host links ++ filter (is_shown eyes) state.entries

-- ---- where it goes on

-- the request of a thread that waits goes to the host that it asked, or the answer comes from there
abbrev pub IsMailOf : HostId → WaitingShape → HostId → HostId → Message → Type 0
IsMailOf host waiting from to said =
    ((number_asked said ≡ Some waiting.request) × (from ≡ host) × (to ≡ waiting.asked))
    ⊎ ((number_answered said ≡ Some waiting.request) × (from ≡ waiting.asked) × (to ≡ host))

-- the token with which a thread will go on that holds this one, or none as its request or the answer has it
abbrev pub token_with : Message → Option Token → Option Token
token_with (message.Sync request frame entry token) held = Some token
token_with (message.Token request token) held = Some token
token_with other held = held

-- at which entry a message hands control over
abbrev pub FliesTo : Eyes → HostId → Message → Spot → Type 0
FliesTo eyes to (message.Rgoto frame entry token) spot =
    (there : Entry) × (entry_at eyes.code entry ≡ Some there) × (there.host ≡ to) × (spot ≡ at to there.at frame token)
FliesTo eyes to (message.RgotoWith frame entry token riders) spot =
    (there : Entry) × (entry_at eyes.code entry ≡ Some there) × (there.host ≡ to) × (spot ≡ at to there.at frame token)
FliesTo eyes to (message.Lgoto token) spot = (to ≡ token.host) × (spot ≡ given_back token)
FliesTo eyes to other spot = ⊥

abbrev pub HeldAt : Eyes → UnseenHolder → Spot → Type 0
HeldAt eyes nobody spot = spot ≡ nowhere
HeldAt eyes (runs host thread) spot =
    (token : Token) × (thread.held ≡ Some token) × (spot ≡ at host thread.at thread.frame token)
HeldAt eyes (waits host waiting from to flight) spot =
    (token : Token) × (token_with flight.message waiting.thread.held ≡ Some token)
    × (spot ≡ at host waiting.request.at waiting.thread.frame token)
    × IsMailOf host waiting from to flight.message
HeldAt eyes (flies from to flight) spot = FliesTo eyes to flight.message spot

-- a thread that runs is on a host that obeys
abbrev pub IsPresent : WorldShape → UnseenHolder → Type 0
IsPresent world (runs host thread) = IsSome (state_at world host)
IsPresent world other = ⊤

-- ---- what is owed, from where it is read

abbrev pub token_of : Spot → Option Token
token_of nowhere = None
token_of (at host place frame token) = Some token
token_of (given_back token) = Some token

-- it is in a block that may not be seen, or its token is given back
abbrev pub IsDeepAt : Eyes → Spot → Type 0
IsDeepAt eyes nowhere = ⊥
IsDeepAt eyes (at host place frame token) = is_deep eyes host place ≡ true
IsDeepAt eyes (given_back token) = ⊤

-- A hidden entry on an obeying host, with a token of its own, stands at a place that may not be seen.
pub record IsLink (eyes : Eyes) (link : HiddenEntry) (there : Entry) : Type 0 where
  pub is : entry_at eyes.code link.entry.entry ≡ Some there
  pub host : there.host ≡ link.host
  pub token : link.entry.token.host ≡ link.host
  pub hidden : is_hidden eyes link.entry.entry.0 ≡ true
  pub obeys : eyes.bad link.host ≡ false
  pub unseen : is_open eyes link.host there.at ≡ false

-- It goes on with the token of the last entry of the chain, which stands first, and each entry keeps that of the one
-- before it. What is owed is read at the first entry, or where it goes on if there is none. All but that are in blocks
-- that may not be seen.
abbrev pub Owes : Eyes → Spot → List HiddenEntry → OwedInView → Type 0
Owes eyes spot [] owed = owed_at eyes spot ≡ owed
Owes eyes spot (link ∷ links) owed =
    IsDeepAt eyes spot × (token_of spot ≡ Some link.entry.token)
    × ((there : Entry) × IsLink eyes link there
    × Owes eyes (at link.host there.at link.entry.frame link.entry.kept) links owed)

-- The token that is owed is no hidden one, and the host that it is given back to obeys.
abbrev pub IsOwedWell : Eyes → OwedInView → Type 0
IsOwedWell eyes nothing = ⊤
IsOwedWell eyes (gives token) = (eyes.bad token.host ≡ false) × (is_hidden eyes token.entry.0 ≡ false)
IsOwedWell eyes (goes_on host place frame token) = ¬ IsHiddenToken eyes token

-- At most one thing goes on unseen in a world, and this is owed by it.
pub record KeepsUnseen (eyes : Eyes) (world : WorldShape) (owed : OwedInView) : Type 0 where
  pub holder : UnseenHolder
  pub links : List HiddenEntry
  pub present : IsPresent world holder
  pub hides : (host : HostId) (state : HostState) → state_at world host ≡ Some state →
      Hides eyes holder links host state
  pub flying : (from to : HostId) → hidden_flights eyes (world.flying from to) ≡ flies_on holder from to
  pub spot : Spot
  pub held : HeldAt eyes holder spot
  pub owes : Owes eyes spot links owed
  pub well : IsOwedWell eyes owed

-- This will be seen of a world in the end, if what goes on unseen comes to an end.
pub record Leads (eyes : Eyes) (world : WorldShape) (shown : LowView) : Type 0 where
  pub owed : OwedInView
  pub keeps : KeepsUnseen eyes world owed
  pub now : LowView
  pub shows : Shows eyes world now
  pub completed : Completed eyes owed now shown

-- Two worlds agree where the same will be seen of both.
pub record Agree (eyes : Eyes) (one other : WorldShape) : Type 0 where
  pub shown : LowView
  pub first : Leads eyes one shown
  pub second : Leads eyes other shown
