-- Worlds that events lead to, from the start of a code.
use Rattle.std.specs.Prelude.{ℕ, ℤ, List, All}
use Rattle.host_decl.specs.Hosts as declared_hosts
use Rattle.host_code.specs.Code.{CodeShape}
use Rattle.host_code.specs.Sound.{IsSoundCode}
use Rattle.event_text.specs.declared.event.Event.{Event}
use Rattle.net_world.specs.Fits.{HasOwnToken}
use Rattle.net_world.specs.World.{WorldShape, AreHostsOf, IsRun, world_at_start}

-- Events lead from the start of a sound code, on the hosts that it names, to a world. Bit h of the word says that host
-- h misbehaves, and a token that such a host makes up names one that misbehaves.
pub record IsReached (code : CodeShape) (rows : List declared_hosts.HostShape) (bad : ℕ) (store : List (List ℤ))
    (events : List Event) (world : WorldShape) : Type 0 where
  pub sound : IsSoundCode code
  pub hosts : AreHostsOf code rows
  pub own : All (HasOwnToken (world_at_start code rows bad store)) events
  pub ran : IsRun code (world_at_start code rows bad store) events world
