-- What a row shows.
use Rattle.std.specs.Prelude.{◌==◌, Bool, false}
use Rattle.plan_ways.specs.declared.ends.WayEnd.{WayEnd}
use Rattle.plan_ways.specs.declared.ends.WayEnd.TheVariants as way_end
use Rattle.plan_picture.specs.declared.rows.Standing.{Standing}
use Rattle.plan_picture.specs.declared.rows.Standing.TheVariants as standing

-- whether what stands in a row is where a way begins or ends
abbrev pub is_shown : WayEnd → Standing → Bool
is_shown (way_end.Field field) (standing.OfField other) = field.0 == other.0
is_shown (way_end.Statement statement) (standing.OfStatement other) = statement.0 == other.0
is_shown (way_end.Relay entry) (standing.OfRelay relay) = entry.0 == relay.entry.0
is_shown end other = false
