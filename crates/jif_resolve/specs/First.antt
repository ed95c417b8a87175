-- Which fault comes first, by a test, and the first of some faults.
use Rattle.std.specs.Prelude.{ℕ, ◌||◌, ◌&&◌, ◌==◌, Bool, if◌then◌else◌, List, Option, Some, None}
use Rattle.std.specs.List.{fold}
use Rattle.std.specs.Bool.{nat_lt}
use Rattle.jif_resolve.specs.declared.fault.Fault.{Fault}
use Rattle.jif_resolve.specs.declared.fault.FaultKind.{FaultKind}
use Rattle.jif_resolve.specs.declared.fault.FaultKind.TheVariants.{UnknownName, Twice, WrongType, WrongCount}

-- the order of the kinds at one token
abbrev pub rank : FaultKind → ℕ
rank UnknownName = 0
rank Twice = 1
rank WrongType = 2
rank WrongCount = 3

-- whether the first comes before the second, as `ComesBefore` of Verdicts says it
abbrev pub comes_before : Fault → Fault → Bool
comes_before first second =
    nat_lt first.at second.at || (first.at == second.at && nat_lt (rank first.kind) (rank second.kind))

-- the first of the faults so far and one more
abbrev pub with_fault : Option Fault → Fault → Option Fault
with_fault None fault = Some fault
with_fault (Some other) fault = if comes_before fault other then Some fault else Some other

-- the first of the faults so far and these
abbrev pub with_faults : Option Fault → List Fault → Option Fault
with_faults first faults = fold with_fault first faults
