-- What a message and a turn leave of a host, beside what the table says.
use Rattle.std.specs.Prelude.{◌≡◌, ◌↔◌, ◌+◌, IsTrue, Result, OnOk, OnErr, IsErrOf}
use Rattle.host_code.specs.Code.{CodeShape}
use Rattle.host_core.specs.declared.host.HostError.{HostError}
use Rattle.host_core.specs.declared.host.HostError.TheVariants.{OutOfMemory, Stopped}
use Rattle.host_core.specs.Host.{HostModel, state_of, IsStopped}
use Rattle.host_core.specs.Fits.{HostFits}

-- one more call is counted, and the host answers on as before
pub record CountsCall (old new : HostModel) : Type 0 where
  pub calls : new.calls ≡ old.calls + 1
  pub stopped : new.stopped ≡ old.stopped

-- The host is the same, and runs the code. A step that was made is counted. An error leaves the state; a host that was
-- stopped is left whole, and says so, and one without memory is stopped from then on.
pub record KeepsHost {X : Type 0} (code : CodeShape) (old new : HostModel) (answer : Result X HostError) : Type 0 where
  pub me : new.me ≡ old.me
  pub fits : HostFits code new
  pub counted : OnOk answer (CountsCall old new)
  pub err : OnErr answer (state_of new ≡ state_of old)
  pub stopped : IsErrOf answer Stopped ↔ IsStopped old
  pub kept : IsErrOf answer Stopped → new ≡ old
  pub out_of_memory : IsErrOf answer OutOfMemory → IsTrue new.stopped
