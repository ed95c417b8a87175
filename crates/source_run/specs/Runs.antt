-- What a run of a program promises.
use Rattle.std.specs.Prelude.{◌≡◌, ℕ, ◌≤◌, ℤ, List}
use Rattle.jif_tree.specs.declared.program.Program.{Program}
use Rattle.jif_tree.specs.SourceRun.{prefix, IsAtEnd, HasLength}
use Rattle.source_run.specs.declared.plain.RunEnd.{RunEnd}
use Rattle.source_run.specs.declared.plain.RunEnd.TheVariants.{Ended, NotYet}

-- A run from a store, of at most so many steps, that ended in this way and left this store. Where they did not end it,
-- the store is that after all of them.
abbrev pub RunsTo : Program → List (List ℤ) → ℕ → RunEnd → List (List ℤ) → Type 0
RunsTo program start steps (Ended n) stop =
    (n ≤ steps) × HasLength program start n × (stop ≡ (prefix program start n).store)
RunsTo program start steps NotYet stop =
    (¬ IsAtEnd (prefix program start steps)) × (stop ≡ (prefix program start steps).store)

-- the store after some of so many steps of a run from a store
abbrev pub IsStoreOfPrefix : Program → List (List ℤ) → ℕ → List (List ℤ) → Type 0
IsStoreOfPrefix program start steps stop = (n : ℕ) × (n ≤ steps) × (stop ≡ (prefix program start n).store)
