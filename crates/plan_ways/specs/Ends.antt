-- When the ends of a way are two.
use Rattle.std.specs.Prelude.{◌==◌, Bool, false, List, [], ◌∷◌, Option, Some, None, if◌then◌else◌}
use Rattle.plan_ways.specs.declared.ends.Way.{Way}
use Rattle.plan_ways.specs.declared.ends.WayEnd.{WayEnd}
use Rattle.plan_ways.specs.declared.ends.WayEnd.TheVariants as end

-- whether two ends are one row of the picture
abbrev pub is_same_end : WayEnd → WayEnd → Bool
is_same_end (end.Host a) (end.Host b) = a.0 == b.0
is_same_end (end.Field a) (end.Field b) = a.0 == b.0
is_same_end (end.Statement a) (end.Statement b) = a.0 == b.0
is_same_end (end.Relay a) (end.Relay b) = a.0 == b.0
is_same_end one other = false

-- A way whose two ends are one row is left out.
abbrev pub kept : Option Way → List Way
kept None = []
kept (Some way) = if is_same_end way.begin way.end then [] else way ∷ []
