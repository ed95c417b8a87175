-- The relays behind each statement, as they are sorted into lists by the numbers of statements.
use Rattle.std.specs.Prelude.{ℕ, List, [], ◌∷◌, ◌++◌, replicate, slice_get, slice_set, unwrap_or}
use Rattle.plan_ways.specs.declared.relays.Relay.{Relay}

-- those of a number
abbrev pub relays_at : List (List Relay) → ℕ → List Relay
relays_at behind number = unwrap_or (slice_get behind number) []

-- with one more, behind its statement
abbrev pub with_relay : List (List Relay) → Relay → List (List Relay)
with_relay behind relay =
    slice_set behind relay.behind (relays_at behind relay.behind ++ relay ∷ [])

abbrev pub with_relays : List (List Relay) → List Relay → List (List Relay)
with_relays behind [] = behind
with_relays behind (relay ∷ relays) = with_relays (with_relay behind relay) relays

-- the relays behind each of so many statements
abbrev pub all_behind : ℕ → List Relay → List (List Relay)
all_behind count relays = with_relays (replicate count []) relays
