use Rattle.std.proofs.Common.{◌≡◌}
use Rattle.std.specs.Vec.Iter.{into_iter_items}
use Rattle.control_split.specs.Assembly.{first_assembly, assembled}
use Rattle.control_split.proofs.parts.assembly_of.Given as goal

-- what is left makes what all items make from the start
abbrev pub invariant-loop-one : goal.invariant-loop-one
invariant-loop-one l =
    assembled l.assembly (into_iter_items l.one-iterator)
    ≡ assembled (first_assembly (record { entries = l.fn.entries; branches = l.fn.branches })) l.fn.items.items
