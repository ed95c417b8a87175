-- Who holds a token in a world, and which tokens were made before.
use Rattle.std.specs.Prelude.{◌≡◌, ℕ, ◌<◌, Contains, Some, IsSomeAnd, slice_get, slice_index}
use Rattle.js_base.specs.declared.ids.HostId.{HostId}
use Rattle.capability.specs.declared.token.Token.{Token}
use Rattle.net_world.specs.Told.{token_in}
use Rattle.net_world.specs.World.{WorldShape, state_at, tokens_sent}

-- Where a token may be held: by the thread that runs on a host, by one of those that wait there, with an entry of its
-- stack, or in one of the messages in flight from a host to another.
pub data TokenPlace : Type 0 where
  running_on : HostId → TokenPlace
  waiting_on : HostId → ℕ → TokenPlace
  kept_on : HostId → ℕ → TokenPlace
  in_flight : HostId → HostId → ℕ → TokenPlace

abbrev pub HoldsAt : WorldShape → Token → TokenPlace → Type 0
HoldsAt world token (running_on host) =
    IsSomeAnd (state_at world host) (λ state. IsSomeAnd state.running (λ thread. thread.held ≡ Some token))
HoldsAt world token (waiting_on host place) =
    IsSomeAnd (state_at world host) (λ state.
    IsSomeAnd (slice_get state.waiting place) (λ waiting. waiting.thread.held ≡ Some token))
HoldsAt world token (kept_on host place) =
    IsSomeAnd (state_at world host) (λ state.
    IsSomeAnd (slice_get state.entries place) (λ on_stack. on_stack.kept ≡ token))
HoldsAt world token (in_flight from to place) =
    IsSomeAnd (slice_get (world.flying from to) place) (λ flight. token_in flight.message ≡ Some token)

abbrev pub IsTokenHeld : WorldShape → Token → Type 0
IsTokenHeld world token = (place : TokenPlace) × HoldsAt world token place

-- misbehaving hosts were sent the token
abbrev pub IsTokenSent : WorldShape → Token → Type 0
IsTokenSent world token = Contains (tokens_sent world) token

-- The token names an obeying host, and that host's count for its entry has passed its serial. So it was made before.
abbrev pub IsOld : WorldShape → Token → Type 0
IsOld world token =
    IsSomeAnd (state_at world token.host) (λ state. token.serial < slice_index state.serials token.entry.0)
