use Rattle.std.proofs.Common.{ℕ, ◌≢◌, ◌<◌, map, get_or}
use Rattle.js_base.proofs.named.place_of.Given as goal

abbrev pub invariant-loop-index : goal.invariant-loop-index
invariant-loop-index g l = (k : ℕ) → k < l.index → get_or (map g.T.Named.called l.items) k l.name ≢ l.name
