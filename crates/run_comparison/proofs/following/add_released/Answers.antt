use Rattle.run_comparison.proofs.following.add_released.Goals as goal

pub returns : goal.returns
returns c = (
  c.in_ok-own.own.items,
  c.in_ok-own.ensures.exact,
  rw c.deref.ensures.value at c.in_ok-extend_from_slice.ensures.items,
)
