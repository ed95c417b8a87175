use Rattle.std.proofs.Common.{◌≡◌, map, take}
use Rattle.std.specs.List.{flat_map}
use Rattle.jif_grammar.specs.DraftShapes.{expr_shape}
use Rattle.jif_resolve.specs.Contexts.{setting_in}
use Rattle.jif_resolve.specs.First.{with_faults}
use Rattle.jif_resolve.specs.Faults.{expr_faults}
use Rattle.jif_resolve.proofs.expression_faults.with_args.Given as goal

-- the arguments so far
abbrev pub invariant-loop-arg : goal.invariant-loop-arg
invariant-loop-arg l =
    l.sooner_one
    ≡ with_faults l.fn.first
    (flat_map (expr_faults (setting_in l.context) l.scope) (map expr_shape (take l.arg-index l.args)))
