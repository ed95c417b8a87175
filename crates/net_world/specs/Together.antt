-- Hosts and a program that go on together.
use Rattle.std.specs.Prelude.{◌≡◌, List, [], ◌∷◌}
use Rattle.jif_tree.specs.SourceRun.{Configuration}
use Rattle.event_text.specs.declared.event.Event.{Event}
use Rattle.host_code.specs.Code.{CodeShape}
use Rattle.net_world.specs.World.{WorldShape, IsStep}

-- From a world on events happen one after the other, and leave the last world. At every moment, from before the first
-- event to after the last, the world stands for what the program has come to. While an event happens the program goes
-- on from one such configuration to the next.
abbrev pub Together : (StandsFor : WorldShape → Configuration → Type 0)
    (GoesOn : Configuration → Configuration → Type 0) → CodeShape → WorldShape → Configuration → List Event →
    WorldShape → Type 0
Together StandsFor GoesOn code world c [] last = StandsFor world c × (world ≡ last)
Together StandsFor GoesOn code world c (event ∷ events) last =
    StandsFor world c
    × ((after : WorldShape) × IsStep code world event after
    × ((now : Configuration) × GoesOn c now × Together StandsFor GoesOn code after now events last))
