-- Relays: the entries at which control only passes, and where their rows stand.
--
-- The row of a relay stands behind the greatest statement from which its token is given back, at the least behind the
-- statement that pushed it. What is inside a statement is given back from inside it, so its last statement counts. An
-- entry that gives the token of another back at once stands before that one. It was pushed later, so its number is
-- greater, and rows are found from the greatest number down.
use Rattle.std.specs.Prelude.{ℕ, ◌==◌, zero, suc, Bool, true, false, List, [], ◌∷◌, ◌++◌, length, map}
use Rattle.std.specs.Prelude.{Option, Some, None, if◌then◌else◌, nat_lt, replicate, slice_index_or, slice_set}
use Rattle.js_base.specs.declared.ids.EntryId.{EntryId}
use Rattle.js_base.specs.declared.ids.StmtId.{StmtId}
use Rattle.host_code.specs.Code.{CodeShape, entry_at, instruction_at}
use Rattle.host_code.specs.declared.code.Entry.{Entry}
use Rattle.host_code.specs.declared.instruction.Instr.{Instr}
use Rattle.host_code.specs.declared.instruction.Op.{Op}
use Rattle.host_code.specs.declared.instruction.Op.TheVariants as op
use Rattle.plan_ways.specs.Lasts.{last_in}
use Rattle.plan_ways.specs.Levels.{level_at}
use Rattle.plan_ways.specs.Stands.{door_of}
use Rattle.plan_ways.specs.Tables.{noted}
use Rattle.plan_ways.specs.declared.ends.Way.{Way}
use Rattle.plan_ways.specs.declared.ends.WayEnd.{WayEnd}
use Rattle.plan_ways.specs.declared.ends.WayEnd.TheVariants as end
use Rattle.plan_ways.specs.declared.levels.Level.{Level}
use Rattle.plan_ways.specs.declared.levels.Level.TheVariants.{Body, Under}
use Rattle.plan_ways.specs.declared.levels.Naming.{Naming}
use Rattle.plan_ways.specs.declared.relays.Relay.{Relay}
use Rattle.plan_ways.specs.declared.relays.RelayRole.{RelayRole}
use Rattle.plan_ways.specs.declared.relays.RelayRole.TheVariants as role
use Rattle.plan_ways.specs.declared.relays.RelaySheet.{RelaySheet}
use Rattle.plan_ways.specs.declared.stands.Place.{Place}

-- ---- at which entries ways begin and end

abbrev pub with_end : List Bool → WayEnd → List Bool
with_end marks (end.Relay entry) = slice_set marks entry.0 true
with_end marks other = marks

abbrev pub with_ends : List Bool → List Way → List Bool
with_ends marks [] = marks
with_ends marks (way ∷ ways) = with_ends (with_end (with_end marks way.begin) way.end) ways

-- for each of so many entries whether a way begins or ends there
abbrev pub marks_of : ℕ → List Way → List Bool
marks_of count ways = with_ends (replicate count false) ways

-- ---- whose tokens are given back

abbrev pub under : Option Level → Option EntryId
under None = None
under (Some (Body method)) = None
under (Some (Under entry)) = Some entry

abbrev pub given_by : Op → Option Level → Option EntryId
given_by op.Back level = under level
given_by other level = None

abbrev pub given_at : Option Instr → Option Level → Option EntryId
given_at None level = None
given_at (Some instruction) level = given_by instruction.op level

-- the entry whose token is given back at a place
abbrev pub given_back : CodeShape → List (Option Level) → Place → Option EntryId
given_back code levels place =
    given_at (instruction_at code place.host place.at) (level_at levels place.stand)

-- ---- where rows stand

abbrev pub spot_at : List ℕ → EntryId → ℕ
spot_at spots entry = slice_index_or spots entry.0 0

-- behind this statement, or behind a greater one
abbrev pub raised : List ℕ → EntryId → ℕ → List ℕ
raised spots entry statement =
    if nat_lt (spot_at spots entry) statement then slice_set spots entry.0 statement else spots

abbrev pub naming_spot : Option Naming → ℕ
naming_spot None = 0
naming_spot (Some naming) = naming.statement.0

abbrev pub naming_spots : List (Option Naming) → List ℕ
naming_spots namings = map naming_spot namings

abbrev pub spot_of_door : List ℕ → WayEnd → ℕ
spot_of_door lasts (end.Statement head) = last_in lasts head
spot_of_door lasts other = 0

-- the last statement of `main`
abbrev pub end_spot : CodeShape → List WayEnd → List ℕ → ℕ
end_spot code doors lasts = spot_of_door lasts (door_of doors code.main code.root)

abbrev pub raised_from : List ℕ → List ℕ → Option EntryId → WayEnd → List ℕ
raised_from lasts spots (Some entry) (end.Statement statement) = raised spots entry (last_in lasts statement)
raised_from lasts spots given other = spots

abbrev pub with_back : CodeShape → List ℕ → List (Option Level) → List ℕ → Place → List ℕ
with_back code lasts levels spots place =
    raised_from lasts spots (given_back code levels place) place.stand.station

abbrev pub with_backs : CodeShape → List ℕ → List (Option Level) → List ℕ → List Place → List ℕ
with_backs code lasts levels spots [] = spots
with_backs code lasts levels spots (place ∷ places) =
    with_backs code lasts levels (with_back code lasts levels spots place) places

-- where rows stand at the least, by the statements from which tokens are given back
abbrev pub spots_of : CodeShape → List WayEnd → List ℕ → List (Option Naming) → List (Option Level) → List Place →
    List ℕ
spots_of code doors lasts namings levels places =
    with_backs code lasts levels (slice_set (naming_spots namings) 0 (end_spot code doors lasts)) places

-- ---- tokens that are given back at once

abbrev pub handed_from : List (Option EntryId) → Option EntryId → WayEnd → List (Option EntryId)
handed_from handed (Some entry) (end.Relay relay) = noted handed relay.0 entry
handed_from handed given other = handed

abbrev pub with_handed : CodeShape → List (Option Level) → List (Option EntryId) → Place → List (Option EntryId)
with_handed code levels handed place = handed_from handed (given_back code levels place) place.stand.station

abbrev pub with_all_handed : CodeShape → List (Option Level) → List (Option EntryId) → List Place →
    List (Option EntryId)
with_all_handed code levels handed [] = handed
with_all_handed code levels handed (place ∷ places) =
    with_all_handed code levels (with_handed code levels handed place) places

-- for each entry the one whose token it gives back at once
abbrev pub handed_of : CodeShape → List (Option Level) → List Place → List (Option EntryId)
handed_of code levels places = with_all_handed code levels (replicate (length code.entries) None) places

abbrev pub handed_to : List ℕ → EntryId → Option EntryId → List ℕ
handed_to spots entry None = spots
handed_to spots entry (Some to) = raised spots to (spot_at spots entry)

-- the row of the other one stands no higher than that of this entry
abbrev pub handed_down : List (Option EntryId) → List ℕ → EntryId → List ℕ
handed_down handed spots entry = handed_to spots entry (slice_index_or handed entry.0 None)

-- ---- relays

-- what relays are found by: the code, which instruction names each entry, to which entry each of them gives the token
-- of another back at once, and at which of them a way begins or ends
pub record RowShape : Type 0 where
  pub code : CodeShape
  pub namings : List (Option Naming)
  pub handed : List (Option EntryId)
  pub marks : List Bool

abbrev pub is_marked : List Bool → EntryId → Bool
is_marked marks entry = slice_index_or marks entry.0 false

abbrev pub statement_of_naming : Option Naming → StmtId
statement_of_naming None = record { 0 = 0 }
statement_of_naming (Some naming) = naming.statement

-- the statement of the instruction that names an entry, the first one where none does
abbrev pub naming_statement : List (Option Naming) → EntryId → StmtId
naming_statement namings entry = statement_of_naming (slice_index_or namings entry.0 None)

abbrev pub role_by : Op → RelayRole
role_by op.Back = role.GivesBack
role_by other = role.HandsOn

abbrev pub role_at : Option Instr → RelayRole
role_at None = role.HandsOn
role_at (Some instruction) = role_by instruction.op

-- At the first entry the program ends. Another gives the token back at once, or hands control on.
abbrev pub role_of : CodeShape → EntryId → Entry → RelayRole
role_of code entry there =
    if entry.0 == 0 then role.End else role_at (instruction_at code there.host there.at)

abbrev pub relay_of : RowShape → List ℕ → EntryId → Entry → Relay
relay_of sheet spots entry there = record {
  entry = entry;
  host = there.host;
  behind = spot_at spots entry;
  pushed_by = naming_statement sheet.namings entry;
  role = role_of sheet.code entry there;
}

abbrev pub relay_there : RowShape → List ℕ → EntryId → Option Entry → List Relay
relay_there sheet spots entry None = []
relay_there sheet spots entry (Some there) = relay_of sheet spots entry there ∷ []

-- An entry has a relay where a way begins or ends at it and not at a statement.
abbrev pub relay_at : RowShape → List ℕ → EntryId → List Relay
relay_at sheet spots entry =
    if is_marked sheet.marks entry then relay_there sheet spots entry (entry_at sheet.code entry) else []

-- the relays of the entries below this number, the greater ones first
abbrev pub relays_below : RowShape → ℕ → List ℕ → List Relay
relays_below sheet zero spots = []
relays_below sheet (suc number) spots =
    relay_at sheet spots (record { 0 = number })
    ++ relays_below sheet number (handed_down sheet.handed spots (record { 0 = number }))

-- ---- in the program

abbrev pub row_shape : RelaySheet → RowShape
row_shape sheet = record {
  code = sheet.code.now;
  namings = sheet.namings.now;
  handed = sheet.handed.now;
  marks = sheet.marks.now;
}
