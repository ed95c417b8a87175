-- Which ways may stay on their host.
use Rattle.std.specs.Prelude.{Bool, true, false}
use Rattle.plan_ways.specs.declared.ends.Way.{Way}
use Rattle.plan_ways.specs.declared.ends.WayKind.{WayKind}
use Rattle.plan_ways.specs.declared.ends.WayKind.TheVariants as kind
use Rattle.plan_ways.specs.declared.ends.WayText.{WayText}
use Rattle.plan_ways.specs.declared.ends.WayText.TheVariants as what

abbrev pub stays : WayKind → WayText → Bool
stays kind.Back text = true
stays kind.Go (what.Method entry) = true
stays one text = false

-- A call and what comes back from it are drawn on one host too, since control leaves its statement.
abbrev pub may_stay : Way → Bool
may_stay way = stays way.kind way.what
