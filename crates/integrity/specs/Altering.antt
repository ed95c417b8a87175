-- What hosts that run the code of a split program promise together, though some misbehave: what those may not affect
-- follows a run of the program that is altered as they may alter it.
use Rattle.std.specs.Prelude.{ℕ, ℤ, List}
use Rattle.host_decl.specs.Hosts as declared_hosts
use Rattle.jif_tree.specs.declared.program.Program.{Program}
use Rattle.jif_tree.specs.Altered.{Exposure, Altered}
use Rattle.jif_tree.specs.SourceRun.{Configuration, IsAtEnd, configuration_at_start}
use Rattle.host_code.specs.Code.{CodeShape}
use Rattle.event_text.specs.declared.event.Event.{Event}
use Rattle.net_world.specs.Together.{Together}
use Rattle.net_world.specs.World.{WorldShape, world_at_start, has_halted}
use Rattle.integrity.specs.Exposed.{FieldsStand}

-- The fields of a world that may not be affected are those of a configuration, which is at its end where an obeying
-- root has halted.
pub record StandsFor (code : CodeShape) (exposure : Exposure) (world : WorldShape) (c : Configuration) : Type 0 where
  pub fields : FieldsStand code exposure world c.store
  pub halted : has_halted code.root world → IsAtEnd c

-- while an event happens, nothing comes next in an altered run, or one thing, or several
abbrev pub GoesOnAltered : Program → Exposure → Configuration → Configuration → Type 0
GoesOnAltered program exposure c now = (others : List Configuration) × Altered program exposure c others now

-- Events leave a world, and all along the hosts that obey stand for what one altered run has come to. Bit h of the word
-- says that host h misbehaves.
abbrev pub WorldFollowsAltered : Program → Exposure → CodeShape → List declared_hosts.HostShape → (bad : ℕ) →
    (store : List (List ℤ)) → List Event → WorldShape → Type 0
WorldFollowsAltered program exposure code rows bad store events last =
    Together (StandsFor code exposure) (GoesOnAltered program exposure) code (world_at_start code rows bad store)
    (configuration_at_start program store) events last
