-- The starting values that fields, of a program or of a code, have by a file, or what is due where the file gives none.
use Rattle.std.specs.Prelude.{◌≡◌, ℕ, ◌<◌, ◌≤◌, ℤ, List, length, Ok, Err}
use Rattle.js_base.specs.declared.limits.TheConstants.{SCRIPT_BYTES}
use Rattle.event_text.specs.Settings.{FieldForm}
use Rattle.event_text.specs.Start.{start_of}
use Rattle.front_end.specs.Stages.{StageEnd, given, stopped}
use Rattle.front_end.specs.Verdicts.{too_long, no_form}

-- what a file of this name gives that holds these bytes
pub data StartingValues (file start : List ℕ) (fields : List FieldForm) : StageEnd (List (List ℤ)) → Type 0 where
  long : SCRIPT_BYTES < length start → StartingValues file start fields (stopped (too_long file))
  bad_line : (line : ℕ) → length start ≤ SCRIPT_BYTES → start_of fields start ≡ Err line →
      StartingValues file start fields (stopped (no_form file line))
  read : (values : List (List ℤ)) → length start ≤ SCRIPT_BYTES → start_of fields start ≡ Ok values →
      StartingValues file start fields (given values)
