-- What a load and a save mean, where the files tell what they hold. A name and a file are lists of bytes. What is
-- held is a function from names, `None` where nothing is held under a name.
use Rattle.std.specs.Prelude.{◌≡◌, ◌≢◌, ℕ, ◌<◌, ◌≤◌, List, length, Option, Some, None}
use Rattle.std.specs.Prelude.{IsSomeAnd, ⊤}
use Rattle.js_base.specs.declared.files.LoadError.{LoadError}
use Rattle.js_base.specs.declared.files.LoadError.TheVariants as load

-- How a load of at most so many bytes may fail, by what is held under its name. That nothing is held, or too much,
-- comes before a fault.
abbrev pub LoadFails : Option (List ℕ) → ℕ → LoadError → Type 0
LoadFails held most load.OutOfMemory = ⊤
LoadFails held most load.TooLong = IsSomeAnd held (λ bytes. most < length bytes)
LoadFails held most load.Absent = held ≡ None
LoadFails held most load.Failed = IsSomeAnd held (λ bytes. length bytes ≤ most)

-- under every other name the same is held
abbrev pub ChangesOnly : List ℕ → Option (List ℕ → Option (List ℕ)) →
    Option (List ℕ → Option (List ℕ)) → Type 0
ChangesOnly name None None = ⊤
ChangesOnly name (Some old) (Some new) = (other : List ℕ) → other ≢ name → new other ≡ old other
ChangesOnly name None (Some new) = ⊥
ChangesOnly name (Some old) None = ⊥
