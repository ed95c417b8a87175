-- What a file of starting values gives, by what was loaded and read of it.
use Rattle.std.proofs.Common.{◌≡◌, ℕ, ◌≤◌, List, length, Ok, Err, sym, ap, ◌∙◌, subst, Vec, Global}
use Rattle.std.specs.Prelude.{ℤ}
use Rattle.js_base.specs.declared.limits.TheConstants.{SCRIPT_BYTES}
use Rattle.event_text.specs.Settings.{FieldForm}
use Rattle.event_text.specs.Start.{start_of}
use Rattle.front_end.specs.declared.load.Loaded.{Loaded}
use Rattle.front_end.specs.declared.load.Loaded.TheVariants.{Bytes, TooLong}
use Rattle.front_end.specs.Loading.{IsLoaded}
use Rattle.front_end.specs.Stages.{given, stopped}
use Rattle.front_end.specs.Starting.{StartingValues, long, bad_line, read}
use Rattle.front_end.specs.Verdicts.{too_long, no_form}

-- the bytes that were loaded are those that are held
pub record AreBytes (held bytes : List ℕ) : Type 0 where
  pub same : bytes ≡ held
  pub few : length held ≤ SCRIPT_BYTES

pub are_bytes : (held bytes : List ℕ) (loaded : Loaded) (vector : Vec ℕ Global) → loaded ≡ Bytes vector →
    bytes ≡ vector.items → IsLoaded SCRIPT_BYTES held loaded → AreBytes held bytes
are_bytes held bytes loaded vector is items_are from =
    let both = subst (IsLoaded SCRIPT_BYTES held) is from in
    record { same = items_are ∙ both.0; few = both.1 }

pub start_too_long : (file start : List ℕ) (fields : List FieldForm) (loaded : Loaded) → loaded ≡ TooLong →
    IsLoaded SCRIPT_BYTES start loaded → StartingValues file start fields (stopped (too_long file))
start_too_long file start fields loaded is from = long (subst (IsLoaded SCRIPT_BYTES start) is from)

pub start_has_bad_line : (file start bytes : List ℕ) (fields : List FieldForm) (line : ℕ) → AreBytes start bytes →
    start_of fields bytes ≡ Err line → StartingValues file start fields (stopped (no_form file line))
start_has_bad_line file start bytes fields line are fails =
    bad_line line are.few (ap (start_of fields) (sym are.same) ∙ fails)

pub start_gives : (file start bytes : List ℕ) (fields : List FieldForm) (values : List (List ℤ)) → AreBytes start bytes →
    start_of fields bytes ≡ Ok values → StartingValues file start fields (given values)
start_gives file start bytes fields values are gives =
    read values are.few (ap (start_of fields) (sym are.same) ∙ gives)
