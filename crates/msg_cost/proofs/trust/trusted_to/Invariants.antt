use Rattle.std.proofs.Common.{◌≡◌, ◌≤◌}
use Rattle.msg_cost.specs.Kept.{IsTrustedBetween}
use Rattle.msg_cost.specs.Views.{seated_shape}
use Rattle.msg_cost.proofs.trust.trusted_to.Given as goal

-- the host is trusted for the statements so far
abbrev pub invariant-loop-place : goal.invariant-loop-place
invariant-loop-place l =
    (l.end ≡ l.place) × ((l.fn.first ≤ l.place) × IsTrustedBetween (seated_shape l.planned) l.host l.block l.fn.first
    l.place)
