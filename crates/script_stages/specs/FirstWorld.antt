-- The world in which the events of a program in its places begin.
use Rattle.std.specs.Prelude.{ℕ, ℤ, List}
use Rattle.net_world.specs.World.{WorldShape, world_at_start}
use Rattle.front_end.specs.PlacedCode.{code_of}
use Rattle.front_end.specs.PlacedSources.{PlacedSource}

-- the world before the first event; bit h of the word says that host h misbehaves
abbrev pub first_world : PlacedSource → ℕ → List (List ℤ) → WorldShape
first_world placed bad values = world_at_start (code_of placed) placed.source.file.hosts bad values
