-- Values that ride with a thread: those of which variables they are, and that they set variables of the host that takes
-- it, and nothing else.
use Rattle.std.proofs.Common.{◌≡◌, refl, ap, List, [], ◌∷◌}
use Rattle.js_base.specs.declared.ids.FrameId.{FrameId}
use Rattle.js_base.specs.declared.ids.VarId.{VarId}
use Rattle.host_code.specs.Riders.{Rider, names_of}
use Rattle.host_core.specs.Host.{HostState, with_variable_set, with_variables_set}
use Rattle.host_core.specs.Turn.{riders_of}

-- the host has other variables, and is the same in all else
pub riding_is : (host : HostState) (frame : FrameId) (riders : List Rider) →
    record host { variables = (with_variables_set host frame riders).variables }
    ≡ with_variables_set host frame riders
riding_is host frame [] = refl
riding_is host frame (rider ∷ riders) = riding_is (with_variable_set host frame rider.0 rider.1) frame riders

-- what an instruction lets ride has the names that the instruction has
pub names_ride : (host : HostState) (frame : FrameId) (variables : List VarId) →
    names_of (riders_of host frame variables) ≡ variables
names_ride host frame [] = refl
names_ride host frame (variable ∷ variables) = ap (λ names. variable ∷ names) (names_ride host frame variables)
