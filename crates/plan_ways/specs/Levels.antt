-- Whose token is held at a place, and which entries stand behind the calls of a method.
--
-- The body of a method runs with the token with which it was entered. Behind a push the token of the pushed entry is
-- held. At any other entry it is the token that was held where the entry was named: pushed on this host or on another,
-- or gone on to. Each entry is named by one instruction, which runs under an entry of a smaller number, so that the
-- levels of the entries are found one after the other.
use Rattle.std.specs.Prelude.{ℕ, ◌+◌, List, [], ◌∷◌, ◌++◌, length, Option, Some, None, replicate, slice_set}
use Rattle.std.specs.Prelude.{slice_index_or}
use Rattle.js_base.specs.declared.ids.EntryId.{EntryId}
use Rattle.js_base.specs.declared.ids.StmtId.{StmtId}
use Rattle.host_code.specs.Code.{CodeShape, instruction_at}
use Rattle.host_code.specs.declared.instruction.Instr.{Instr}
use Rattle.host_code.specs.declared.instruction.Op.{Op}
use Rattle.host_code.specs.declared.instruction.Op.TheVariants as op
use Rattle.plan_ways.specs.Stands.{head_at}
use Rattle.plan_ways.specs.Tables.{noted}
use Rattle.plan_ways.specs.declared.levels.Level.{Level}
use Rattle.plan_ways.specs.declared.levels.Level.TheVariants.{Body, Under}
use Rattle.plan_ways.specs.declared.levels.Naming.{Naming}
use Rattle.plan_ways.specs.declared.stands.Place.{Place}
use Rattle.plan_ways.specs.declared.stands.Stand.{Stand}

-- ---- the instruction that names an entry

abbrev pub named_by : Op → Option EntryId
named_by (op.Push entry) = Some entry
named_by (op.Ask entry on) = Some entry
named_by (op.Go entry on) = Some entry
named_by (op.GoWith entry on riders) = Some entry
named_by other = None

-- Where several name an entry, the first counts.
abbrev pub note_named : List (Option Naming) → Stand → StmtId → Option EntryId → List (Option Naming)
note_named table stand statement None = table
note_named table stand statement (Some entry) =
    noted table entry.0 (record { statement = statement; stand = stand })

abbrev pub naming_noted : List (Option Naming) → Stand → Option Instr → List (Option Naming)
naming_noted table stand None = table
naming_noted table stand (Some instruction) =
    note_named table stand instruction.statement (named_by instruction.op)

abbrev pub with_naming : CodeShape → List (Option Naming) → Place → List (Option Naming)
with_naming code table place = naming_noted table place.stand (instruction_at code place.host place.at)

abbrev pub with_namings : CodeShape → List (Option Naming) → List Place → List (Option Naming)
with_namings code table [] = table
with_namings code table (place ∷ places) = with_namings code (with_naming code table place) places

abbrev pub namings_of : CodeShape → List Place → List (Option Naming)
namings_of code places = with_namings code (replicate (length code.entries) None) places

-- ---- levels

abbrev pub level_by : List (Option Level) → Stand → Option EntryId → Option Level
level_by known stand (Some entry) = Some (Under entry)
level_by known stand None = slice_index_or known stand.entrance.0 None

-- whose token is held where control stands, where this is known of the entries
abbrev pub level_at : List (Option Level) → Stand → Option Level
level_at known stand = level_by known stand stand.pushed

abbrev pub level_of_naming : List (Option Level) → Option Naming → Option Level
level_of_naming known None = None
level_of_naming known (Some naming) = level_at known naming.stand

abbrev pub level_of_entry : List (Option Level) → ℕ → Option Naming → Option StmtId → Option Level
level_of_entry known number naming (Some head) = Some (Body (record { 0 = number }))
level_of_entry known number naming None = level_of_naming known naming

-- whose token is held where control comes in at an entry, by what is known of those before it
abbrev pub entry_level : List (Option Level) → List StmtId → ℕ → Option Naming → Option Level
entry_level known heads number naming = level_of_entry known number naming (head_at heads number)

-- what is known of the entries, and of these behind them, of which the first has this number
abbrev pub levels_from : List StmtId → List (Option Level) → ℕ → List (Option Naming) → List (Option Level)
levels_from heads known number [] = known
levels_from heads known number (naming ∷ namings) =
    levels_from heads (known ++ entry_level known heads number naming ∷ []) (number + 1) namings

abbrev pub levels_of : List StmtId → List (Option Naming) → List (Option Level)
levels_of heads namings = levels_from heads [] 0 namings

-- ---- calls

abbrev pub called_by : Op → Option EntryId
called_by (op.Call method on) = Some method
called_by (op.CallWith method on riders) = Some method
called_by other = None

abbrev pub pushed_behind : List (List EntryId) → EntryId → EntryId → List (List EntryId)
pushed_behind behind method entry =
    slice_set behind method.0 (slice_index_or behind method.0 [] ++ entry ∷ [])

-- The entry behind a call is the one that was pushed last before it.
abbrev pub note_called : List (List EntryId) → Option EntryId → Option EntryId → List (List EntryId)
note_called behind (Some entry) (Some method) = pushed_behind behind method entry
note_called behind pushed method = behind

abbrev pub call_noted : List (List EntryId) → Option EntryId → Option Instr → List (List EntryId)
call_noted behind pushed None = behind
call_noted behind pushed (Some instruction) = note_called behind pushed (called_by instruction.op)

abbrev pub with_call : CodeShape → List (List EntryId) → Place → List (List EntryId)
with_call code behind place = call_noted behind place.stand.pushed (instruction_at code place.host place.at)

abbrev pub with_calls : CodeShape → List (List EntryId) → List Place → List (List EntryId)
with_calls code behind [] = behind
with_calls code behind (place ∷ places) = with_calls code (with_call code behind place) places

-- the entries behind the calls of the method that begins at each entry
abbrev pub behind_calls : CodeShape → List Place → List (List EntryId)
behind_calls code places = with_calls code (replicate (length code.entries) []) places
