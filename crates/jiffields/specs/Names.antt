-- Whether the lines of a journal tell which field and which variable is meant.
use Rattle.std.specs.Prelude.{◌≡◌, ◌⊎◌, ℕ, List, map}
use Rattle.std.specs.List.{IsDistinct}
use Rattle.std.specs.Str.{bytes_eq}
use Rattle.js_base.specs.Named.{IsFirstRepeated}
use Rattle.host_code.specs.Code.{CodeShape}
use Rattle.host_code.specs.Sound.{IsSoundCode}
use Rattle.journal_laws.specs.Plays.{HaveOwnNames}
use Rattle.front_end.specs.Refusals as refusals
use Rattle.front_end.specs.Stages.{StageEnd, given, stopped}
use Rattle.front_end.specs.Verdicts.{VerdictShape, Refuse}

abbrev pub field_names : CodeShape → List (List ℕ)
field_names code = map (λ field. field.name) code.fields

abbrev pub variable_names : CodeShape → List (List ℕ)
variable_names code = map (λ variable. variable.name) code.variables

-- the name of two fields, or of two variables, of the code of this file
abbrev pub two_fields : (file name : List ℕ) → VerdictShape
two_fields file name = Refuse (refusals.TwoFields file name)

abbrev pub two_variables : (file name : List ℕ) → VerdictShape
two_variables file name = Refuse (refusals.TwoVariables file name)

-- Every code in memory is sound, and its hosts, which are those of a host file, have names of their own. It is refused
-- for the first name that repeats an earlier one, of a field, or else of a variable.
abbrev pub NamesRead : (file : List ℕ) → CodeShape → StageEnd CodeShape → Type 0
NamesRead file code (given same) = (same ≡ code) × IsSoundCode code × HaveOwnNames code
NamesRead file code (stopped verdict) =
    ((name : List ℕ) × IsFirstRepeated (field_names code) name × (verdict ≡ two_fields file name))
    ⊎ ((name : List ℕ) × IsDistinct bytes_eq (field_names code) × IsFirstRepeated (variable_names code) name
    × (verdict ≡ two_variables file name))
