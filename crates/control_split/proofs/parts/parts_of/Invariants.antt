use Rattle.std.proofs.Common.{◌≡◌, ◌-◌, ◌≤◌, ◌++◌, All, map, take, length, vec_items}
use Rattle.std.specs.Vec.Iter.{into_iter_items}
use Rattle.host_code.specs.declared.code.TheConstants.{MOST_ITEMS}
use Rattle.control_split.specs.Assembly.{settled_part}
use Rattle.control_split.proofs.parts.parts_of.Given as goal

-- the parts so far with those that are left
abbrev pub invariant-loop-list : goal.invariant-loop-list
invariant-loop-list l =
    (l.parts.items ++ map (settled_part l.landing)
    (take (l.hosts - length l.parts.items) (map vec_items (into_iter_items l.list-iterator)))
    ≡ map (settled_part l.landing) (take l.hosts (map vec_items l.fn.lists.items)))
    × All (λ list. length list.items ≤ MOST_ITEMS) (into_iter_items l.list-iterator)
