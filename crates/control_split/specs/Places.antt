-- Where a statement gets its instructions, as the walk says it.
use Rattle.jif_tree.specs.Trees.{Heading}
use Rattle.split_rules.specs.Walk.{Around}
use Rattle.control_split.specs.declared.trace.Place.{Place}

-- the block of a statement; its owner does not matter there
abbrev pub around_at : Place → Around
around_at place = record { owner = place.statement; pc = place.label.now }

-- the line does not matter
abbrev pub heading_at : Place → Heading
heading_at place = record { id = place.statement; line = 0 }
