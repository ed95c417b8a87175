use Rattle.std.proofs.Common.{ℕ, ◌≢◌, ◌<◌, Some, slice_get}
use Rattle.jif_resolve.proofs.names.principal_of.Given as goal

-- no principal so far has the name
abbrev pub invariant-loop-place : goal.invariant-loop-place
invariant-loop-place l = (k : ℕ) → k < l.place → slice_get l.principals.names k ≢ Some l.name
