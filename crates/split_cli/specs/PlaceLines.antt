-- The lines that say which hosts may hold what, and where the plan puts it.
use Rattle.std.specs.Prelude.{ℕ, ◌+◌, ◌==◌, List, [], ◌∷◌, ◌++◌, codes, if◌then◌else◌, slice_get, slice_index}
use Rattle.std.specs.Prelude.{unwrap_or}
use Rattle.std.specs.Fmt.{decimal}
use Rattle.std.specs.Int.{bit_at}
use Rattle.std.specs.Option.{option_map}
use Rattle.host_decl.specs.Hosts.{HostShape}
use Rattle.jif_tree.specs.Numbering.{statement_lines}
use Rattle.jif_tree.specs.Trees.{FieldTree}
use Rattle.need_labels.specs.Plan.{field_host, statement_host}
use Rattle.front_end.specs.PlacedSources.{PlacedSource}

-- the names of the hosts whose bit is set in a word, each after a blank; the first of them has this number
abbrev pub names_in : ℕ → ℕ → List HostShape → List ℕ
names_in word number [] = []
names_in word number (host ∷ hosts) =
    (if bit_at word number == 1 then 32 ∷ host.name else []) ++ names_in word (number + 1) hosts

abbrev pub name_at : List HostShape → ℕ → List ℕ
name_at hosts number = unwrap_or (option_map (λ host. host.name) (slice_get hosts number)) []

-- ` may HOSTS at HOST`
abbrev pub placing : List HostShape → ℕ → ℕ → List ℕ
placing hosts word host = codes " may" ++ names_in word 0 hosts ++ codes " at " ++ name_at hosts host

-- `field NAME may HOSTS at HOST`
abbrev pub field_place : PlacedSource → ℕ → FieldTree → List ℕ
field_place placed number field =
    codes "field " ++ field.name ++ placing placed.source.file.hosts (slice_index placed.allowed.fields number)
    (field_host placed.plan (record { 0 = number })).0

-- the lines of the fields from a number on
abbrev pub field_places : PlacedSource → ℕ → List FieldTree → List (List ℕ)
field_places placed number [] = []
field_places placed number (field ∷ fields) =
    field_place placed number field ∷ field_places placed (number + 1) fields

-- `statement K line L may HOSTS at HOST`
abbrev pub statement_place : PlacedSource → ℕ → ℕ → List ℕ
statement_place placed number line =
    codes "statement " ++ decimal number ++ codes " line " ++ decimal line
    ++ placing placed.source.file.hosts (slice_index placed.allowed.statements number)
    (statement_host placed.plan (record { 0 = number })).0

-- the lines of the statements from a number on, which stand on these lines of the program
abbrev pub statement_places : PlacedSource → ℕ → List ℕ → List (List ℕ)
statement_places placed number [] = []
statement_places placed number (line ∷ lines) =
    statement_place placed number line ∷ statement_places placed (number + 1) lines

-- the lines of all fields, and then of all statements
abbrev pub place_lines : PlacedSource → List (List ℕ)
place_lines placed =
    field_places placed 0 placed.source.tree.fields
    ++ statement_places placed 0 (statement_lines placed.source.tree)
