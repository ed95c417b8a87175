-- The refusals that `resolve` tells.
use Rattle.std.specs.Prelude.{ℕ, ⊤}
use Rattle.principals.specs.ActsFor.{Declared}
use Rattle.jif_grammar.specs.DraftShapes.{DraftShape}
use Rattle.jif_resolve.specs.declared.fault.Fault.{Fault}
use Rattle.jif_resolve.specs.declared.fault.FaultKind.{FaultKind}
use Rattle.jif_resolve.specs.declared.fault.FaultKind.TheVariants as kind
use Rattle.jif_resolve.specs.declared.resolve_error.ResolveError.{ResolveError}
use Rattle.jif_resolve.specs.declared.resolve_error.ResolveError.TheVariants as error
use Rattle.jif_resolve.specs.Faults.{fault}
use Rattle.jif_resolve.specs.Verdicts.{IsRefused, for_fault, no_main}

-- the refusal that tells a fault
abbrev pub error_of : FaultKind → ℕ → ResolveError
error_of kind.UnknownName at = error.UnknownName at
error_of kind.Twice at = error.Twice at
error_of kind.WrongType at = error.WrongType at
error_of kind.WrongCount at = error.WrongCount at

abbrev pub error_for : Fault → ResolveError
error_for fault = error_of fault.kind fault.at

-- the draft is refused for this, unless memory ran out
abbrev pub IsRefusedFor : Declared → DraftShape → ResolveError → Type 0
IsRefusedFor principals draft error.OutOfMemory = ⊤
IsRefusedFor principals draft (error.UnknownName at) =
    IsRefused principals draft (for_fault (fault at kind.UnknownName))
IsRefusedFor principals draft (error.Twice at) = IsRefused principals draft (for_fault (fault at kind.Twice))
IsRefusedFor principals draft (error.WrongType at) =
    IsRefused principals draft (for_fault (fault at kind.WrongType))
IsRefusedFor principals draft (error.WrongCount at) =
    IsRefused principals draft (for_fault (fault at kind.WrongCount))
IsRefusedFor principals draft error.NoMain = IsRefused principals draft no_main
