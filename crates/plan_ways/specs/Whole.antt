-- The ways and the relays of a plan.
use Rattle.std.specs.Prelude.{ℕ, List, length, Option}
use Rattle.host_code.specs.Code.{CodeShape}
use Rattle.jif_tree.specs.Trees.{ProgramTree}
use Rattle.need_labels.specs.Plan.{PlanShape}
use Rattle.plan_ways.specs.Lasts.{heads_of, lasts_of}
use Rattle.plan_ways.specs.Levels.{behind_calls, levels_of, namings_of}
use Rattle.plan_ways.specs.Readers.{readers_of}
use Rattle.plan_ways.specs.Relays.{RowShape, handed_of, marks_of, relays_below, spots_of}
use Rattle.plan_ways.specs.Stands.{code_places, doors_of}
use Rattle.plan_ways.specs.Ways.{SheetShape, ways_at}
use Rattle.plan_ways.specs.declared.ends.Way.{Way}
use Rattle.plan_ways.specs.declared.ends.WayEnd.{WayEnd}
use Rattle.plan_ways.specs.declared.levels.Level.{Level}
use Rattle.plan_ways.specs.declared.levels.Naming.{Naming}
use Rattle.plan_ways.specs.declared.relays.Relay.{Relay}
use Rattle.plan_ways.specs.declared.stands.Place.{Place}
use Rattle.plan_ways.specs.declared.ways.Known.{Known}
use Rattle.plan_ways.specs.declared.ways.PlanWays.{PlanWays}

-- what is known of the entries of a code and of its places
pub record KnownShape : Type 0 where
  pub doors : List WayEnd
  pub places : List Place
  pub namings : List (Option Naming)
  pub levels : List (Option Level)

abbrev pub places_in : CodeShape → ProgramTree → List Place
places_in code program = code_places code (doors_of code (heads_of program))

abbrev pub known_of : CodeShape → ProgramTree → KnownShape
known_of code program = record {
  doors = doors_of code (heads_of program);
  places = places_in code program;
  namings = namings_of code (places_in code program);
  levels = levels_of (heads_of program) (namings_of code (places_in code program));
}

abbrev pub sheet_of : CodeShape → PlanShape → KnownShape → SheetShape
sheet_of code plan known = record {
  code = code;
  plan = plan;
  doors = known.doors;
  levels = known.levels;
  behind = behind_calls code known.places;
  readers = readers_of code;
}

abbrev pub ways_by : CodeShape → PlanShape → KnownShape → List Way
ways_by code plan known = ways_at (sheet_of code plan known) known.places

abbrev pub rows_of : CodeShape → KnownShape → List Way → RowShape
rows_of code known ways = record {
  code = code;
  namings = known.namings;
  handed = handed_of code known.levels known.places;
  marks = marks_of (length code.entries) ways;
}

abbrev pub relays_by : CodeShape → KnownShape → List ℕ → List Way → List Relay
relays_by code known lasts ways =
    relays_below (rows_of code known ways) (length code.entries)
    (spots_of code known.doors lasts known.namings known.levels known.places)

pub record PlanWaysShape : Type 0 where
  pub ways : List Way
  pub relays : List Relay

-- the ways and the relays of the code of a program in the places of a plan
abbrev pub ways_of : CodeShape → PlanShape → ProgramTree → PlanWaysShape
ways_of code plan program = record {
  ways = ways_by code plan (known_of code program);
  relays = relays_by code (known_of code program) (lasts_of program)
      (ways_by code plan (known_of code program));
}

-- ---- in the program

abbrev pub known_shape : Known → KnownShape
known_shape known = record {
  doors = known.doors.items;
  places = known.places.items;
  namings = known.namings.items;
  levels = known.levels.items;
}

abbrev pub plan_ways_shape : PlanWays → PlanWaysShape
plan_ways_shape found = record { ways = found.ways.items; relays = found.relays.items }
