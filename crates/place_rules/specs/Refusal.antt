-- Why no host may hold a field or a statement.
use Rattle.std.specs.Prelude.{◌≡◌, ℕ, List, Some, All, slice_get, take, ⊤}
use Rattle.host_decl.specs.Hosts.{HostShape, HostsShape}
use Rattle.need_labels.specs.Labelled.{Labelled}
use Rattle.need_labels.specs.Needs.{NeedsShape}
use Rattle.place_rules.specs.PlaceRules.{HasHolder, MayHoldField, MayHoldStatement, told_fields, needed_statements}
use Rattle.place_rules.specs.declared.place_error.PlaceError.{PlaceError}
use Rattle.place_rules.specs.declared.place_error.PlaceError.TheVariants as error

-- the number of the first one that no host may hold
pub record IsFirstUnheld {A : Type 0} (may : A → HostShape → Type 0) (hosts : List HostShape) (all : List A)
    (number : ℕ) : Type 0 where
  pub one : A
  pub place : slice_get all number ≡ Some one
  pub unheld : ¬ HasHolder (may one) hosts
  pub before : All (λ earlier. HasHolder (may earlier) hosts) (take number all)

-- The first field that no host may hold, or where each may be held the first such statement; or memory ran out.
abbrev pub IsPlaceRefused : Labelled → NeedsShape → HostsShape → PlaceError → Type 0
IsPlaceRefused labelled needs hosts error.OutOfMemory = ⊤
IsPlaceRefused labelled needs hosts (error.NoHostForField field) =
    IsFirstUnheld MayHoldField hosts.hosts (told_fields labelled needs) field.0
IsPlaceRefused labelled needs hosts (error.NoHostForStatement statement) =
    All (λ one. HasHolder (MayHoldField one) hosts.hosts) (told_fields labelled needs)
    × IsFirstUnheld MayHoldStatement hosts.hosts (needed_statements needs) statement.0
