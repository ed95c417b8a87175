-- Where entries stand and branches lead, as far as the emissions of a walk say it, and what is asked of them so that it
-- is where it should be: on the hosts of the entries and of the branches.
use Rattle.std.specs.Prelude.{◌≡◌, ℕ, ◌<◌, nat_eq, if◌then◌else◌, List, [], ◌∷◌, Option, Some, None}
use Rattle.std.specs.Prelude.{slice_get, All, ⊤}
use Rattle.std.specs.List.{AllByRecursion}
use Rattle.js_base.specs.declared.ids.HostId.{HostId}
use Rattle.host_code.specs.declared.instruction.Op.{Op}
use Rattle.host_code.specs.declared.instruction.Op.TheVariants as op
use Rattle.split_rules.specs.Emissions.{Emission, instruction, entry, stands, lands, NamedEntry}
use Rattle.split_rules.specs.SplitCode.{entries_in, emitted_on}

-- the host on which the entry of a number stands first
abbrev pub host_standing : ℕ → List Emission → Option HostId
host_standing number [] = None
host_standing number (stands on other ∷ others) = if nat_eq other number then Some on else host_standing number others
host_standing number (emission ∷ others) = host_standing number others

-- the host on which the branch of a number leads somewhere first
abbrev pub host_landing : ℕ → List Emission → Option HostId
host_landing number [] = None
host_landing number (lands on other ∷ others) = if nat_eq other number then Some on else host_landing number others
host_landing number (emission ∷ others) = host_landing number others

-- on one of so many hosts
abbrev pub IsOnSomeHost : ℕ → Emission → Type 0
IsOnSomeHost count (instruction one) = one.host.0 < count
IsOnSomeHost count (entry named) = named.host.0 < count
IsOnSomeHost count (stands on number) = on.0 < count
IsOnSomeHost count (lands on number) = on.0 < count

-- nowhere, or on this host
abbrev pub IsOn : HostId → Option HostId → Type 0
IsOn host None = ⊤
IsOn host (Some other) = other ≡ host

abbrev pub BranchIsOn : ℕ → List Emission → HostId → Op → Type 0
BranchIsOn count emissions host (op.Branch guard number) =
    (number < count) × IsOn host (host_landing number emissions)
BranchIsOn count emissions host other = ⊤

-- All is on one of so many hosts. Each branch has one of so many numbers and leads first to its own host, and each
-- entry stands first on its own, if anywhere.
pub record AreSettled (hosts count : ℕ) (emissions : List Emission) : Type 0 where
  pub within : AllByRecursion (IsOnSomeHost hosts) emissions
  pub entries : (number : ℕ) (named : NamedEntry) → slice_get (entries_in emissions) number ≡ Some named →
      IsOn named.host (host_standing number emissions)
  pub branches : (host : HostId) →
      All (λ one. (one.host ≡ host) × BranchIsOn count emissions host one.op) (emitted_on host emissions)
