use Rattle.std.proofs.Common.{◌≡◌, ◌<◌, ℕ, length}
use Rattle.net_world.specs.Fits.{states_of}
use Rattle.net_world.proofs.Seeing.{Tells}
use Rattle.net_world.proofs.readers.readable_labels.Given as goal

-- the labels so far are told
abbrev pub invariant-loop-label : goal.invariant-loop-label
invariant-loop-label l = record {
  count : length l.readable.items ≡ l.label;
  each : (k : ℕ) → k < l.label → Tells l.code (states_of l.hosts) l.readable.items k;
}
