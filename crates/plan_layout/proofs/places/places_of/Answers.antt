use Rattle.std.proofs.Common.{arith}
use Rattle.plan_layout.proofs.Within.{starts_within}
use Rattle.plan_layout.proofs.places.places_of.Goals as goal

pub invariant_of-result : goal.invariant_of-result
invariant_of-result c = (
  λ k d inside.
      rw c.in_ok-found.ensures.starts
      (let small = starts_within c.args.from k d c.args.spans.now (rw c.in_ok-found.ensures.starts at inside) in
      omega (arith, small, c.in_ok-found.ensures.past, c.in_ok-found.ensures.within)),
  c.in_ok-found.ensures.within,
)
