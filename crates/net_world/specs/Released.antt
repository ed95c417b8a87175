-- What a run releases: the values of the operands of each `declassify` that a turn evaluates which may be seen. A
-- secret turn may evaluate one too. What that releases is as secret as the turn, since a value takes on the label of
-- the program where it is set.
use Rattle.std.specs.Prelude.{◌≡◌, ◌⊎◌, ℤ, Option, Some, None, List, [], ◌∷◌, ◌++◌, map}
use Rattle.js_base.specs.declared.ids.HostId.{HostId}
use Rattle.event_text.specs.declared.event.Event.{Event}
use Rattle.event_text.specs.declared.event.Event.TheVariants.{Turn}
use Rattle.host_code.specs.Code.{CodeShape}
use Rattle.host_code.specs.Thread.{ThreadShape}
use Rattle.host_core.specs.Host.{HostState, value_in_thread}
use Rattle.split_rules.specs.Releases.{ReleasesShape, operands_at}
use Rattle.net_world.specs.Secret.{IsSecret}
use Rattle.net_world.specs.World.{WorldShape, state_at, IsStep}

-- ---- lists

-- the second list begins with the first
abbrev pub IsListFront : {X : Type 0} → List X → List X → Type 0
IsListFront {X} front whole = (rest : List X) × (whole ≡ front ++ rest)

-- the lists are equal as far as both go
abbrev pub OneIsFront : {X : Type 0} → List X → List X → Type 0
OneIsFront one other = IsListFront one other ⊎ IsListFront other one

-- ---- turns

-- what the instruction releases that a thread runs next, from the left and inner before outer
abbrev pub released_by_thread : ReleasesShape → HostId → HostState → Option ThreadShape → List ℤ
released_by_thread table host state None = []
released_by_thread table host state (Some thread) =
    map (value_in_thread state thread) (operands_at table host thread.at)

abbrev pub released_by_host : ReleasesShape → HostId → Option HostState → List ℤ
released_by_host table host None = []
released_by_host table host (Some state) = released_by_thread table host state state.running

-- what the turn of a host releases: nothing where it misbehaves or runs nothing
abbrev pub released_at : ReleasesShape → WorldShape → HostId → List ℤ
released_at table world host = released_by_host table host (state_at world host)

-- ---- events

-- the values that an event releases: a turn those of its instruction where it may be seen, and all else none
abbrev pub Releases : CodeShape → ReleasesShape → WorldShape → Event → List ℤ → Type 0
Releases code table world (Turn host) values =
    (IsSecret code world (Turn host) × (values ≡ []))
    ⊎ ((¬ IsSecret code world (Turn host)) × (values ≡ released_at table world host))
Releases code table world other values = values ≡ []

-- the values that the events of a run from this world release, one after the other
abbrev pub AreReleased : CodeShape → ReleasesShape → WorldShape → List Event → List ℤ → Type 0
AreReleased code table world [] values = values ≡ []
AreReleased code table world (event ∷ events) values =
    (own : List ℤ) × (later : List ℤ) × Releases code table world event own × (values ≡ own ++ later)
    × ((next : WorldShape) → IsStep code world event next → AreReleased code table next events later)
