-- Worlds in which nobody chooses: the event that comes next happens, again and again.
--
-- A drive is a list of events. What is due for `drive` says that there are events, each the one that comes next in the
-- world before it, and no more than were asked for. It does not say how they are found. Since one event comes next at
-- most and each event leaves one world, one such list is the whole drive, and laws on lists of events speak of it.
use Rattle.std.specs.Prelude.{◌≡◌, List, [], ◌∷◌, Some}
use Rattle.event_text.specs.declared.event.Event.{Event}
use Rattle.host_code.specs.Code.{CodeShape}
use Rattle.net_world.specs.Choice.{IsNextEvent}
use Rattle.net_world.specs.World.{WorldShape, IsStep}

-- events happen one after the other, each the one that comes next, and leave this world
abbrev pub IsDriven : CodeShape → WorldShape → List Event → WorldShape → Type 0
IsDriven code world [] after = world ≡ after
IsDriven code world (event ∷ events) after =
    IsNextEvent world (Some event)
    × ((next : WorldShape) × IsStep code world event next × IsDriven code next events after)
