-- A file of starting values has some outcome, whatever bytes it holds.
use Rattle.std.proofs.Common.{◌≡◌, ◌≢◌, ℕ, ◌≤◌, ◌⊎◌, List, length, Ok, refl, ⊎_elim}
use Rattle.std.specs.Prelude.{ℤ}
use Rattle.js_base.specs.declared.limits.TheConstants.{SCRIPT_BYTES}
use Rattle.event_text.specs.Settings.{FieldForm}
use Rattle.event_text.specs.declared.script.EventsError.{EventsError}
use Rattle.event_text.specs.declared.script.EventsError.TheVariants as error
use Rattle.event_text.specs.Start.{start_of, StartFails}
use Rattle.front_end.specs.Stages.{given, stopped}
use Rattle.front_end.specs.Starting.{StartingValues, long, bad_line, read}
use Rattle.front_end.specs.Verdicts.{too_long, no_form}
use Rattle.front_end.proofs.SomeStages.{HasOutcome}

-- all bytes give starting values, or are refused
abbrev pub SomeStart : Type 0
SomeStart = (fields : List FieldForm) (bytes : List ℕ) →
    ((start : List (List ℤ)) × (length bytes ≤ SCRIPT_BYTES) × (start_of fields bytes ≡ Ok start))
    ⊎ ((why : EventsError) × (why ≢ error.OutOfMemory) × StartFails fields bytes why)

start_fails : (file start : List ℕ) (fields : List FieldForm) (why : EventsError) → why ≢ error.OutOfMemory →
    StartFails fields start why → HasOutcome (StartingValues file start fields)
start_fails file start fields error.OutOfMemory not fails = absurd (not refl)
start_fails file start fields error.TooLong not fails = (stopped (too_long file), long fails)
start_fails file start fields (error.BadLine line) not fails =
    (stopped (no_form file line), bad_line line fails.0 fails.1)

pub start_some : SomeStart → (file start : List ℕ) (fields : List FieldForm) →
    HasOutcome (StartingValues file start fields)
start_some law file start fields =
    ⊎_elim
    (λ said. (given said.0, read said.0 said.1 said.2))
    (λ fails. start_fails file start fields fails.0 fails.1 fails.2)
    (law fields start)
