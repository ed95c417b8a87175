use Rattle.std.proofs.Common.{◌≡◌, ◌++◌, drop}
use Rattle.std.specs.List.{flat_map}
use Rattle.plan_ways.specs.Ends.{kept}
use Rattle.plan_ways.specs.Ways.{back_to, sheet_shape}
use Rattle.plan_ways.proofs.asking.push_returns.Given as goal

-- the ways so far, and those to the entries that are left, are the whole
abbrev pub invariant-loop-entry : goal.invariant-loop-entry
invariant-loop-entry l =
    l.ways.items ++ flat_map (λ entry. kept (back_to (sheet_shape l.sheet) l.place l.statement entry))
    (drop l.entry-index l.entries)
    ≡ l.initial.ways.items
    ++ flat_map (λ entry. kept (back_to (sheet_shape l.sheet) l.place l.statement entry)) l.entries
