use Rattle.std.proofs.Common.{◌≡◌, ◌+◌, drop}
use Rattle.std.specs.Option.{option_map}
use Rattle.source_run.specs.Cells.{place_in}
use Rattle.source_run.proofs.cells.place_in.Given as goal

-- the place is among the cells that are left
abbrev pub invariant-loop-place : goal.invariant-loop-place
invariant-loop-place l =
    option_map (λ n. l.place + n) (place_in (drop l.place l.cells) l.var.0) ≡ place_in l.cells l.var.0
