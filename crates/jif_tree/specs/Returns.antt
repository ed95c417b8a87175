-- Where a method returns.
use Rattle.std.specs.Prelude.{◌≡◌, Bool, true, false, ⊤}
use Rattle.jif_tree.specs.Trees.{BlockTree, done, set_local, set_field, set_element, branch, loop, call, give_back}

-- A `return` is the last statement of a body, and stands in no block inside it.
abbrev pub ReturnsLast : Bool → BlockTree → Type 0
ReturnsLast may done = ⊤
ReturnsLast may (set_local heading x value rest) = ReturnsLast may rest
ReturnsLast may (set_field heading field value rest) = ReturnsLast may rest
ReturnsLast may (set_element heading field index value rest) = ReturnsLast may rest
ReturnsLast may (branch heading guard first second rest) =
    ReturnsLast false first × ReturnsLast false second × ReturnsLast may rest
ReturnsLast may (loop heading guard inner rest) = ReturnsLast false inner × ReturnsLast may rest
ReturnsLast may (call heading site method arguments into rest) = ReturnsLast may rest
ReturnsLast may (give_back heading value rest) = (may ≡ true) × (rest ≡ done)
