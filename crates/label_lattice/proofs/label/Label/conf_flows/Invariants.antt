use Rattle.std.proofs.Common.{ℕ, ◌<◌}
use Rattle.label_lattice.specs.Label.{Forbids}
use Rattle.label_lattice.proofs.label.Label.conf_flows.Given as goal

abbrev pub invariant-loop-owner : goal.invariant-loop-owner
invariant-loop-owner l = (owner reader : ℕ) → owner < l.owner → reader < 64 → Forbids l.self owner reader →
    Forbids l.to owner reader
