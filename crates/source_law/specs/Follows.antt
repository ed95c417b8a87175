-- What the law of source runs says: an altered run is followed by the plain run, as far as fields may not be affected.
--
-- An altered run is seen at moments. From each moment to the next it goes on by nothing, by one thing or by several, as
-- it does while an event happens among hosts.
use Rattle.std.specs.Prelude.{◌≡◌, ⊤, ℕ, ◌+◌, ◌≤◌, ℤ, List, [], ◌∷◌, length, Some, slice_get, slice_index}
use Rattle.std.specs.List.Sorted.{IsNonDecreasing}
use Rattle.jif_tree.specs.declared.program.Program.{Program}
use Rattle.jif_tree.specs.SourceRun.{Configuration, IsAtEnd, after_steps, prefix}
use Rattle.jif_tree.specs.Altered.{Exposure, Altered}
use Rattle.source_law.specs.Related.{FieldsAgree, AreRelated}

-- From a configuration on, an altered run comes to these one after the other.
abbrev pub ComesTo : Program → Exposure → Configuration → List Configuration → Type 0
ComesTo program exposure c [] = ⊤
ComesTo program exposure c (now ∷ moments) =
    ((others : List Configuration) × Altered program exposure c others now) × ComesTo program exposure now moments

-- the plain run from a configuration is at its end after so many steps
abbrev pub EndsAfter : Program → ℕ → Configuration → Type 0
EndsAfter program left d = IsAtEnd (after_steps program left d)

-- Some of the steps that are left to a plain run bring it from a configuration to one that is related to that of an
-- altered run, and some are left further. Where the altered run is at its end, none are.
pub record KeepsUp (program : Program) (exposure : Exposure) (d : Configuration) (left : ℕ) (now : Configuration) :
    Type 0 where
  pub steps : ℕ
  pub further : ℕ
  pub total : steps + further ≡ left
  pub related : AreRelated program exposure now (after_steps program steps d)
  pub still : EndsAfter program further (after_steps program steps d)
  pub ended : IsAtEnd now → further ≡ 0

-- At each moment of an altered run the fields that may not be affected are those of the plain run from the store after
-- some number of steps, none less than the one before; after all its steps where the altered run is at its end.
pub record FollowsPlain (program : Program) (exposure : Exposure) (store : List (List ℤ)) (length_of : ℕ)
    (moments : List Configuration) : Type 0 where
  pub steps : List ℕ
  pub many : length steps ≡ length moments
  pub rising : IsNonDecreasing steps
  pub within : (place : ℕ) → slice_index steps place ≤ length_of
  pub agrees : (place : ℕ) (c : Configuration) → slice_get moments place ≡ Some c →
      FieldsAgree exposure c.store (prefix program store (slice_index steps place)).store
  pub ends : (place : ℕ) (c : Configuration) → slice_get moments place ≡ Some c → IsAtEnd c →
      slice_index steps place ≡ length_of
