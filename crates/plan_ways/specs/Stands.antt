-- Where control stands at each place of the code, and whose token is held there.
--
-- Both are found along the list of each host. Control comes to a place from the one before it, where the instruction
-- there leads on. Otherwise it comes through a branch before it in the list, or through an entry, the one of the
-- smallest number where there are several. (Where control comes in several ways, the same token is held in each.)
use Rattle.std.specs.Prelude.{ℕ, ◌+◌, ◌==◌, suc, zero, Bool, false, true, drop, List, [], ◌∷◌, length}
use Rattle.std.specs.Prelude.{Option, Some, None, if◌then◌else◌, replicate, slice_get, slice_set, unwrap_or}
use Rattle.std.specs.List.{flat_map, range_with_len}
use Rattle.js_base.specs.declared.ids.EntryId.{EntryId}
use Rattle.js_base.specs.declared.ids.HostId.{HostId}
use Rattle.js_base.specs.declared.ids.StmtId.{StmtId}
use Rattle.host_code.specs.Code.{CodeShape, halt, part_of}
use Rattle.host_code.specs.declared.code.Entry.{Entry}
use Rattle.host_code.specs.declared.instruction.Instr.{Instr}
use Rattle.host_code.specs.declared.instruction.Op.{Op}
use Rattle.host_code.specs.declared.instruction.Op.TheVariants as op
use Rattle.plan_ways.specs.Tables.{noted}
use Rattle.plan_ways.specs.declared.ends.WayEnd.{WayEnd}
use Rattle.plan_ways.specs.declared.ends.WayEnd.TheVariants as end
use Rattle.plan_ways.specs.declared.stands.Place.{Place}
use Rattle.plan_ways.specs.declared.stands.Stand.{Stand}

-- ---- stations

-- An instruction that computes, sends a value or calls is done at its own statement. One that pushes an entry, hands
-- control on or gives the token back is done wherever control stands.
abbrev pub is_moving : Op → Bool
is_moving (op.Push entry) = false
is_moving (op.Ask entry on) = false
is_moving (op.Go entry on) = false
is_moving (op.GoWith entry on riders) = false
is_moving op.Back = false
is_moving other = true

-- where control stands at an instruction, where it stood here before it
abbrev pub station_at : WayEnd → Instr → WayEnd
station_at before instruction =
    if is_moving instruction.op then end.Statement instruction.statement else before

-- ---- entries

-- The head of the method that is entered at an entry of a number. The entry that ends the program comes first, and then
-- those of the methods, in their order.
abbrev pub head_at : List StmtId → ℕ → Option StmtId
head_at heads zero = None
head_at heads (suc place) = slice_get heads place

-- whether an instruction does more than to push an entry on its own host
abbrev pub is_done : Op → Bool
is_done (op.Push entry) = false
is_done other = true

-- the first of these instructions that is no push
abbrev pub first_of : List Instr → Option Instr
first_of [] = None
first_of (instruction ∷ others) = if is_done instruction.op then Some instruction else first_of others

-- the first from a place on
abbrev pub first_done : List Instr → ℕ → Option Instr
first_done part at = first_of (drop at part)

abbrev pub station_of_start : WayEnd → Option Instr → WayEnd
station_of_start passing None = passing
station_of_start passing (Some instruction) = station_at passing instruction

abbrev pub door_behind : CodeShape → WayEnd → Entry → Option StmtId → WayEnd
door_behind code passing there (Some head) = end.Statement head
door_behind code passing there None =
    station_of_start passing (first_done (part_of code there.host) there.at)

-- Where control stands at an entry: at the head of the method that is entered there, or at the statement of the first
-- instruction that is no push, where that is done at its own statement. Otherwise control only passes, as where the
-- program ends.
abbrev pub door_at : CodeShape → List StmtId → ℕ → Entry → WayEnd
door_at code heads number there =
    if number == 0 then end.Relay (record { 0 = number })
    else door_behind code (end.Relay (record { 0 = number })) there (head_at heads number)

-- of these entries, of which the first has this number
abbrev pub doors_from : CodeShape → List StmtId → ℕ → List Entry → List WayEnd
doors_from code heads number [] = []
doors_from code heads number (there ∷ others) =
    door_at code heads number there ∷ doors_from code heads (number + 1) others

abbrev pub doors_of : CodeShape → List StmtId → List WayEnd
doors_of code heads = doors_from code heads 0 code.entries

-- where control stands at an entry of a host, at the host's name where there is no such entry
abbrev pub door_of : List WayEnd → EntryId → HostId → WayEnd
door_of doors entry host = unwrap_or (slice_get doors entry.0) (end.Host host)

-- ---- arrivals

-- what is known of the ways to the places of a host, with one more entry; the first at a place stays
abbrev pub entered : List WayEnd → HostId → List (Option Stand) → ℕ → Entry → List (Option Stand)
entered doors host table number there =
    if number == 0 then table
    else if there.host.0 == host.0
    then noted table there.at (record {
      station = door_of doors (record { 0 = number }) host;
      entrance = record { 0 = number };
      pushed = None;
    })
    else table

-- with these, of which the first has this number
abbrev pub entered_all : List WayEnd → HostId → List (Option Stand) → ℕ → List Entry → List (Option Stand)
entered_all doors host table number [] = table
entered_all doors host table number (there ∷ others) =
    entered_all doors host (entered doors host table number there) (number + 1) others

abbrev pub arrivals_of : CodeShape → List WayEnd → HostId → List (Option Stand)
arrivals_of code doors host = entered_all doors host (replicate (length (part_of code host)) None) 0 code.entries

-- where a branch leads, control stands as at the branch
abbrev pub landed : List (Option Stand) → Stand → Op → List (Option Stand)
landed table here (op.Branch guard target) = slice_set table target (Some here)
landed table here other = table

-- ---- along the list

-- where nothing is known of the way to a place of a host, control stands at the host's name, and no token is known
abbrev pub first_stand : HostId → Stand
first_stand host = record { station = end.Host host; entrance = halt; pushed = None }

abbrev pub stand_of : HostId → Option (Option Stand) → Stand
stand_of host (Some (Some stand)) = stand
stand_of host (Some None) = first_stand host
stand_of host None = first_stand host

abbrev pub entered_at : List (Option Stand) → HostId → ℕ → Stand
entered_at table host at = stand_of host (slice_get table at)

-- how control comes to a place, where it was so behind the place before it
abbrev pub arrived : List (Option Stand) → HostId → ℕ → Option Stand → Stand
arrived table host at (Some stand) = stand
arrived table host at None = entered_at table host at

abbrev pub stood : Stand → Instr → Stand
stood before instruction = record {
  station = station_at before.station instruction;
  entrance = before.entrance;
  pushed = before.pushed;
}

-- an entry is pushed, and its token is held from here on
abbrev pub with_pushed : Stand → EntryId → Stand
with_pushed here entry = record { station = here.station; entrance = here.entrance; pushed = Some entry }

-- behind an instruction, where that leads on to the next place
abbrev pub passed : Stand → Op → Option Stand
passed here (op.Push entry) = Some (with_pushed here entry)
passed here (op.Ask entry on) = Some (with_pushed here entry)
passed here (op.Go entry on) = None
passed here (op.GoWith entry on riders) = None
passed here (op.Call entry on) = None
passed here (op.CallWith entry on riders) = None
passed here op.Back = None
passed here other = Some here

-- where control stands at an instruction of a host
abbrev pub standing : List (Option Stand) → HostId → ℕ → Option Stand → Instr → Stand
standing table host at before instruction = stood (arrived table host at before) instruction

-- the places of these instructions of a host, of which the first has this number
abbrev pub places_from : HostId → ℕ → List (Option Stand) → Option Stand → List Instr → List Place
places_from host at table before [] = []
places_from host at table before (instruction ∷ others) =
    record { host = host; at = at; stand = standing table host at before instruction }
    ∷ places_from host (at + 1) (landed table (standing table host at before instruction) instruction.op)
    (passed (standing table host at before instruction) instruction.op) others

abbrev pub host_places : CodeShape → List WayEnd → HostId → List Place
host_places code doors host =
    places_from host 0 (arrivals_of code doors host) None (part_of code host)

-- those of the host of a number
abbrev pub places_on : CodeShape → List WayEnd → ℕ → List Place
places_on code doors number = host_places code doors (record { 0 = number })

abbrev pub code_places : CodeShape → List WayEnd → List Place
code_places code doors = flat_map (places_on code doors) (range_with_len 0 (length code.hosts))
