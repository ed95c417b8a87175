-- What was pushed on a control stack or taken off it, with the stack. The top of a stack stands first.
use Rattle.std.specs.Prelude.{ℕ, nat_lt, if◌then◌else◌, List, [], ◌∷◌, ◌++◌, codes, flat_map, length, take}
use Rattle.std.specs.Prelude.{Option, Some, None}
use Rattle.js_base.specs.declared.ids.EntryId.{EntryId}
use Rattle.js_base.specs.declared.ids.HostId.{HostId}
use Rattle.host_code.specs.Code.{CodeShape}
use Rattle.host_code.specs.MessageText.{entry_text, host_text}
use Rattle.run_chart.specs.Sheets.{ChartNoteShape}
use Rattle.run_rows.specs.declared.row.Change.{Change}
use Rattle.run_rows.specs.declared.row.Change.TheVariants as change
use Rattle.run_sheet.specs.declared.stacks.TheConstants.{MOST_SHOWN}

-- the stack after a change
abbrev pub stack_behind : Change → List EntryId → List EntryId
stack_behind change.Same stack = stack
stack_behind (change.Pushed entry) stack = entry ∷ stack
stack_behind (change.TakenOff entry) [] = []
stack_behind (change.TakenOff entry) (top ∷ below) = below

-- entries, with a blank before each
abbrev pub entries_listed : List EntryId → List ℕ
entries_listed entries = flat_map (λ entry. codes " " ++ entry_text entry) entries

-- more entries are there than are listed
abbrev pub dots_for : ℕ → List ℕ
dots_for count = if nat_lt MOST_SHOWN count then codes " .." else []

-- the top entries, as many as are shown
abbrev pub stack_listed : List EntryId → List ℕ
stack_listed [] = codes " empty"
stack_listed (top ∷ below) = entries_listed (take MOST_SHOWN (top ∷ below)) ++ dots_for (length (top ∷ below))

-- `control stack of H: e3 e0`
abbrev pub stack_tip : CodeShape → HostId → List EntryId → List ℕ
stack_tip code host stack = codes "control stack of " ++ host_text code host ++ codes ":" ++ stack_listed stack

-- `+e3` or `-e3`, where the stack is this after the change
abbrev pub stack_note : CodeShape → HostId → List EntryId → Change → Option ChartNoteShape
stack_note code host stack change.Same = None
stack_note code host stack (change.Pushed entry) =
    Some (record { text = codes "+" ++ entry_text entry; tip = stack_tip code host stack })
stack_note code host stack (change.TakenOff entry) =
    Some (record { text = codes "-" ++ entry_text entry; tip = stack_tip code host stack })
