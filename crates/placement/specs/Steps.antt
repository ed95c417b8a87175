-- The moves that are tried, in their order: each field and then each statement by number, each to the hosts that may
-- hold it, in the order of the host file.
use Rattle.std.specs.Prelude.{◌≡◌, ℕ, zero, suc, nat_eq, if◌then◌else◌, List, [], ◌∷◌, ◌++◌, slice_index}
use Rattle.std.specs.Int.{bit_at}
use Rattle.msg_cost.specs.declared.step.Step.{Step}
use Rattle.msg_cost.specs.declared.step.Step.TheVariants as step
use Rattle.place_rules.specs.Allowed.{AllowedShape}
use Rattle.placement.specs.declared.part.Part.{Part}
use Rattle.placement.specs.declared.part.Part.TheVariants as part

-- the move of a part to the host of this number
abbrev pub step_to : Part → ℕ → Step
step_to (part.Field field) host = step.Field field (record { 0 = host })
step_to (part.Statement statement) host = step.Statement statement (record { 0 = host })

abbrev pub field_part : ℕ → Part
field_part number = part.Field (record { 0 = number })

abbrev pub statement_part : ℕ → Part
statement_part number = part.Statement (record { 0 = number })

-- the moves of a part to those of the first hosts, of this count, that its word has
abbrev pub steps_of : Part → ℕ → ℕ → List Step
steps_of part word zero = []
steps_of part word (suc host) =
    steps_of part word host ++ (if nat_eq (bit_at word host) 1 then step_to part host ∷ [] else [])

-- the moves of parts with these words, of which the first has this number
abbrev pub steps_from : (ℕ → Part) → ℕ → ℕ → List ℕ → List Step
steps_from part_of count number [] = []
steps_from part_of count number (word ∷ words) =
    steps_of (part_of number) word count ++ steps_from part_of count (suc number) words

-- the moves that one pass tries, where there are so many hosts
abbrev pub steps_in : ℕ → AllowedShape → List Step
steps_in count allowed =
    steps_from field_part count 0 allowed.fields ++ steps_from statement_part count 0 allowed.statements

-- the move puts a part on a host that may hold it
abbrev pub IsAllowedStep : AllowedShape → Step → Type 0
IsAllowedStep allowed (step.Field field host) = bit_at (slice_index allowed.fields field.0) host.0 ≡ 1
IsAllowedStep allowed (step.Statement statement host) = bit_at (slice_index allowed.statements statement.0) host.0 ≡ 1
