-- What a load says of what is held.
use Rattle.std.proofs.Common.{◌≡◌, ℕ, ◌+◌, ◌<◌, List, length, refl, Option, Some, None, IfSome, IsSomeAnd, arith}
use Rattle.std.specs.Prelude.{replicate}
use Rattle.std.proofs.lemmas.List.{length-replicate}
use Rattle.std.specs.Prelude.{take}
use Rattle.std.specs.List.{AllZip}
use Rattle.front_end.specs.declared.load.Asked.{Asked}
use Rattle.front_end.specs.declared.load.Loaded.{Loaded}
use Rattle.front_end.specs.Loads.{FilesChange, AreKept, Told, counted_by}
use Rattle.front_end.proofs.Stops.{GivesAsked}

-- a value with the fact
has_value : {X : Type 0} (o : Option X) (P : X → Type 0) → IsSomeAnd o P → (x : X) × (o ≡ Some x) × P x
has_value None P has = absurd has
has_value (Some x) P has = (x, refl, has)

-- a file that is too long has bytes, those that are held where the files tell
pub long_file : (held : Option (List ℕ → Option (List ℕ))) (name : List ℕ) (most : ℕ) →
    IfSome held (λ holds. IsSomeAnd (holds name) (λ bytes. most < length bytes)) →
    (bytes : List ℕ) × Told held name (Some bytes) × (most < length bytes)
long_file None name most long = (replicate (most + 1) 0, tt, omega (arith, length-replicate {A = ℕ} (most + 1) 0))
long_file (Some holds) name most long = let found =
    has_value (holds name) (λ bytes. most < length bytes) long in (found.0, found.1, found.2)

-- the first files, so many, were loaded
pub record HaveLoaded
    (count : ℕ) (asked : List Asked) (given : List Loaded) (change : FilesChange) : Type 0 where
  pub given_are : AllZip (GivesAsked change.held) (take count asked) given
  pub loads : change.loads_after ≡ counted_by count change.loads_before
  pub faults : change.faults_after ≡ change.faults_before
  pub kept : AreKept change
