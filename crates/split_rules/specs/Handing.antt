-- A thread that is handed over to another host, with values that ride or without: by which message it comes, and by
-- which instruction it leaves.
use Rattle.std.specs.Prelude.{Bool, true, false, List, [], Option, Some, None}
use Rattle.js_base.specs.declared.ids.HostId.{HostId}
use Rattle.js_base.specs.declared.ids.FrameId.{FrameId}
use Rattle.js_base.specs.declared.ids.EntryId.{EntryId}
use Rattle.js_base.specs.declared.ids.VarId.{VarId}
use Rattle.capability.specs.declared.token.Token.{Token}
use Rattle.host_code.specs.declared.message.Message.{Message}
use Rattle.host_code.specs.declared.message.Message.TheVariants as message
use Rattle.host_code.specs.declared.instruction.Op.{Op}
use Rattle.host_code.specs.declared.instruction.Op.TheVariants as op
use Rattle.host_code.specs.Riders.{Rider}

-- In which frame and at which entry a thread starts that was handed over, the token that it holds, and what rides.
pub record Arrival : Type 0 where
  pub frame : FrameId
  pub entry : EntryId
  pub token : Token
  pub riders : List Rider

-- what a message hands over, if it does
abbrev pub arrival_in : Message → Option Arrival
arrival_in (message.Rgoto frame entry token) =
    Some (record { frame = frame; entry = entry; token = token; riders = [] })
arrival_in (message.RgotoWith frame entry token riders) =
    Some (record { frame = frame; entry = entry; token = token; riders = riders })
arrival_in other = None

-- At which entry of which host a thread is to go on, whether in the new frame, and the variables whose values ride.
pub record Departure : Type 0 where
  pub entry : EntryId
  pub on : HostId
  pub fresh : Bool
  pub riders : List VarId

-- What an instruction hands over, if it does. A call of a method on the same host hands nothing over, though this names
-- that host.
abbrev pub departure_in : Op → Option Departure
departure_in (op.Go entry on) = Some (record { entry = entry; on = on; fresh = false; riders = [] })
departure_in (op.GoWith entry on riders) = Some (record { entry = entry; on = on; fresh = false; riders = riders })
departure_in (op.Call entry on) = Some (record { entry = entry; on = on; fresh = true; riders = [] })
departure_in (op.CallWith entry on riders) = Some (record { entry = entry; on = on; fresh = true; riders = riders })
departure_in other = None
