use Rattle.std.proofs.Common.{◌≡◌, map, drop}
use Rattle.jif_grammar.specs.DraftShapes.{method_shape}
use Rattle.jif_resolve.specs.Meanings.{main_from}
use Rattle.jif_resolve.proofs.draft_faults.main_in.Given as goal

-- it is found among those that are left
abbrev pub invariant-loop-number : goal.invariant-loop-number
invariant-loop-number l =
    main_from l.number (map method_shape (drop l.number l.methods)) ≡ main_from 0 (map method_shape l.methods)
