-- At which entries ways begin and end.
use Rattle.std.specs.Prelude.{⊤, ℕ, ◌<◌, ◌==◌, Bool, false, ◌||◌, List}
use Rattle.std.specs.List.{list_any}
use Rattle.plan_ways.specs.declared.ends.Way.{Way}
use Rattle.plan_ways.specs.declared.ends.WayEnd.{WayEnd}
use Rattle.plan_ways.specs.declared.ends.WayEnd.TheVariants as end
use Rattle.plan_ways.specs.declared.relays.Relay.{Relay}

-- whether an end is the entry of this number, at which control only passes
abbrev pub is_at : ℕ → WayEnd → Bool
is_at number (end.Relay entry) = entry.0 == number
is_at number other = false

abbrev pub touches : ℕ → Way → Bool
touches number way = is_at number way.begin || is_at number way.end

-- whether some way begins or ends there
abbrev pub is_touched : ℕ → List Way → Bool
is_touched number ways = list_any (touches number) ways

-- whether a relay is that of the entry of this number
abbrev pub is_of : ℕ → Relay → Bool
is_of number relay = relay.entry.0 == number

-- where an end is an entry, it is one of so many
abbrev pub HasRow : ℕ → WayEnd → Type 0
HasRow count (end.Relay entry) = entry.0 < count
HasRow count other = ⊤
